use Rattle.std.proofs.Common.{◌≡◌, ◌+◌, ◌^◌, ◌≤◌, take}
use Rattle.dfu_formats.specs.memory.Reading.{digits_number}
use Rattle.dfu_formats.proofs.memory.digits.said.Given as goal

abbrev pub invariant-loop-byte : goal.invariant-loop-byte
invariant-loop-byte l = (l.value ≡ digits_number l.base 0 (take l.byte-index l.digits)) × (l.value + 1 ≤ 17 ^ l.byte-index)
