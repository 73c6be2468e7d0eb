use Rattle.dfu_places.specs.Placement.{HoldsForThings, IsThingWhole}
use Rattle.dfu_places.proofs.checking.first_not_whole.Given as goal

abbrev pub invariant-loop-i : goal.invariant-loop-i
invariant-loop-i l = HoldsForThings (IsThingWhole l.regions l.placement) l.i
