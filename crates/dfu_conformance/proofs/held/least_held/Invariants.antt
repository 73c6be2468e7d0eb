use Rattle.std.specs.Prelude.{◌≡◌}
use Rattle.dfu_conformance.specs.inside.Stepped.{is_held_anywhere, least_set_below}
use Rattle.dfu_conformance.proofs.held.least_held.Given as goal

-- `least` is the smallest set of habits with a candidate, among those with a number below `readings`.
abbrev pub invariant-loop-readings : goal.invariant-loop-readings
invariant-loop-readings l = l.least ≡ least_set_below (is_held_anywhere l.places) l.readings
