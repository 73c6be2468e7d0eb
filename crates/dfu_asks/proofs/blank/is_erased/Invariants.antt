use Rattle.std.proofs.Common.{◌≡◌, ◌+◌, length, slice_range}
use Rattle.std.specs.List.{list_all}
use Rattle.dfu_asks.specs.Blank.{is_erased_byte}
use Rattle.dfu_asks.proofs.blank.is_erased.Given as goal

abbrev pub invariant-loop-rest : goal.invariant-loop-rest
invariant-loop-rest l = list_all is_erased_byte l.rest ≡ list_all is_erased_byte (slice_range l.flash l.at (l.at + l.len))

abbrev pub decreases-loop-rest : goal.decreases-loop-rest
decreases-loop-rest l = length l.rest
