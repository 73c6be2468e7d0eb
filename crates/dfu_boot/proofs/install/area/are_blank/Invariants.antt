use Rattle.std.proofs.Common.{◌-◌}
use Rattle.dfu_boot.proofs.ComparedBytes.{IsBlankUpTo}
use Rattle.dfu_boot.proofs.install.area.are_blank.Given as goal

abbrev pub invariant-loop-at : goal.invariant-loop-at
invariant-loop-at l = IsBlankUpTo l.run l.from l.at

abbrev pub decreases-loop-at : goal.decreases-loop-at
decreases-loop-at l = l.to - l.at
