use Rattle.std.proofs.Common.{◌-◌, length}
use Rattle.dfu_slots.proofs.ReadBack.{AreSameUpTo}
use Rattle.dfu_slots.proofs.read.are_same.Given as goal

abbrev pub invariant-loop-at : goal.invariant-loop-at
invariant-loop-at l = AreSameUpTo l.read l.piece l.at

abbrev pub decreases-loop-at : goal.decreases-loop-at
decreases-loop-at l = length l.piece - l.at
