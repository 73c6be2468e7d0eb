use Rattle.std.proofs.Common.{◌-◌}
use Rattle.dfu_boot.proofs.ComparedBytes.{MatchesImageUpTo}
use Rattle.dfu_boot.proofs.install.compare.first_difference.Given as goal

abbrev pub invariant-loop-at : goal.invariant-loop-at
invariant-loop-at l = MatchesImageUpTo l.image l.run l.from l.at

abbrev pub decreases-loop-at : goal.decreases-loop-at
decreases-loop-at l = l.to - l.at

abbrev pub invariant-loop-at-2 : goal.invariant-loop-at-2
invariant-loop-at-2 l = MatchesImageUpTo l.image l.run l.from l.at

abbrev pub decreases-loop-at-2 : goal.decreases-loop-at-2
decreases-loop-at-2 l = l.to - l.at
