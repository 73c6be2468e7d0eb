use Rattle.dfu_places.specs.Placement.{HoldsForThings, IsThingApartFrom}
use Rattle.dfu_places.proofs.checking.first_in_boot.Given as goal

abbrev pub invariant-loop-i : goal.invariant-loop-i
invariant-loop-i l = HoldsForThings (IsThingApartFrom l.boot l.placement) l.i
