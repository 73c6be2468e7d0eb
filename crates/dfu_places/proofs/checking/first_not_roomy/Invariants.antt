use Rattle.dfu_places.specs.Placement.{HoldsForThings, HasNeededBytes}
use Rattle.dfu_places.proofs.checking.first_not_roomy.Given as goal

abbrev pub invariant-loop-i : goal.invariant-loop-i
invariant-loop-i l = HoldsForThings (HasNeededBytes l.needs l.placement) l.i
