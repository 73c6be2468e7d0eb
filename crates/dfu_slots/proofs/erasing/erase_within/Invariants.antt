use Rattle.std.proofs.Common.{◌-◌, ◌+◌}
use Rattle.dfu_slots.proofs.ErasedTo.{ErasedTo}
use Rattle.dfu_slots.proofs.erasing.erase_within.Given as goal

abbrev pub invariant-loop-place : goal.invariant-loop-place
invariant-loop-place g l =
    ErasedTo (g.M.Medium.state l.fn.medium) (g.M.Medium.state l.medium) (g.M.Medium.state l.fn.medium).grain.sector l.at l.len l.place

abbrev pub decreases-loop-place : goal.decreases-loop-place
decreases-loop-place g l = l.at + l.len - l.place
