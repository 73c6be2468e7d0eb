-- The ranges that the loop over a map has read, and the result of this loop.
use Rattle.std.specs.Prelude.{◌≡◌, List, ◌++◌, Result, Ok, Err}
use Rattle.arrayvec.specs.ArrayVec.{ArrayVec}
use Rattle.dfu_formats.specs.declared.memory.pages.Pages.{Pages}
use Rattle.dfu_formats.specs.declared.memory.fault.MapFault.{MapFault}

-- Puts ranges in front of the ranges of a result, or returns the fault of the result.
abbrev pub ranges_joined : List Pages → Result (List Pages) MapFault → Result (List Pages) MapFault
ranges_joined before (Err fault) = Err fault
ranges_joined before (Ok more) = Ok (before ++ more)

-- The call returned the same ranges or fault as `read`.
abbrev pub IsRangeResult : Result (ArrayVec Pages) MapFault → Result (List Pages) MapFault → Type 0
IsRangeResult (Err fault) read = read ≡ Err fault
IsRangeResult (Ok ranges) read = read ≡ Ok ranges.items
