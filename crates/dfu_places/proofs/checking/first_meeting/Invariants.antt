use Rattle.dfu_places.specs.Placement.{HoldsForThings, IsApartFromEarlierThings}
use Rattle.dfu_places.proofs.checking.first_meeting.Given as goal

abbrev pub invariant-loop-j : goal.invariant-loop-j
invariant-loop-j l = HoldsForThings (IsApartFromEarlierThings l.placement) l.j
