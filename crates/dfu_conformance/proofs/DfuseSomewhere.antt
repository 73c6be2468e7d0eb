-- The judge of a DfuSe device lists at least one state exactly if such a device may have given all answers.
use Rattle.std.specs.Prelude.{◌≡◌, ◌↔◌, ℕ, Bool, true, false, List, slice_index_or}
use Rattle.std.proofs.Common.{ap, ◌∙◌}
use Rattle.dfu_conformance.specs.declared.row.StandardState.{StandardState}
use Rattle.dfu_conformance.specs.declared.event.LogEvent.{LogEvent}
use Rattle.dfu_conformance.specs.RowMatches.{place_number}
use Rattle.dfu_conformance.specs.dfuse.Runs.{DfuseCanAnswer}
use Rattle.dfu_conformance.specs.dfuse.Verdicts.{has_place, PlacesExact}
use Rattle.dfu_conformance.specs.inside.DfuseStep.{has_any_place}
use Rattle.dfu_conformance.proofs.Places.{place_of_number, number_has_its_place, place_number_below_12}
use Rattle.dfu_conformance.proofs.HeldPlaces.{passing_number_suffices, some_number_passes}

-- `has_any_place` is true exactly if the list contains at least one state.
any_place_iff_some_place : (at : List Bool) → (has_any_place at ≡ true) ↔ ((p : StandardState) × (has_place at p ≡ true))
unfolding has_any_place
any_place_iff_some_place at = (
  λ is_so.
      let test : ℕ → Bool = λ (n : ℕ). slice_index_or at n false in
      let (n, below, passes) = some_number_passes test 12 is_so in
      (place_of_number n, ap test (number_has_its_place n below) ∙ passes),
  λ x. passing_number_suffices (λ (n : ℕ). slice_index_or at n false) 12 (place_number x.0) (place_number_below_12 x.0) x.1,
)

-- A list of states that is exact contains at least one state exactly if a DfuSe device may have answered the events.
pub some_place_iff_can_answer : (at : List Bool) (events : List LogEvent) → PlacesExact at events
    → (has_any_place at ≡ true) ↔ DfuseCanAnswer events
some_place_iff_can_answer at events so = (
  λ is_so. let (p, is) = (any_place_iff_some_place at).0 is_so in (p, (so p).0 is),
  λ x. (any_place_iff_some_place at).1 (x.0, (so x.0).1 x.1),
)
