use Rattle.dfu_places.specs.Things.{span_at}
use Rattle.dfu_places.specs.Placement.{HoldsForThings, IsThingApartFrom}
use Rattle.dfu_places.proofs.checking.first_met.Given as goal

abbrev pub invariant-loop-i : goal.invariant-loop-i
invariant-loop-i l = HoldsForThings (IsThingApartFrom (span_at l.placement l.j) l.placement) l.i
