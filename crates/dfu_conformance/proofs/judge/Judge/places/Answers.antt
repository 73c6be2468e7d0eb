use Rattle.std.specs.Prelude.{◌≡◌, false, slice_index_or, []}
use Rattle.std.proofs.Common.{sym, subst, ◌∙◌}
use Rattle.dfu_conformance.specs.RowMatches.{place_number}
use Rattle.dfu_conformance.specs.Candidates.{JudgedDevices}
use Rattle.dfu_conformance.specs.MayAnswer.{CandidatesExact}
use Rattle.dfu_conformance.specs.inside.Stepped.{has_candidate}
use Rattle.dfu_conformance.proofs.Places.{place_number_below_12}
use Rattle.dfu_conformance.proofs.HeldPlaces.{held_place_is_possible}
use Rattle.dfu_conformance.proofs.Verdicts.{candidates_are_exact_for_each}
use Rattle.dfu_conformance.proofs.judge.Judge.places.Goals as goal

pub returns : goal.returns
returns c events so p =
    let held = c.self.inside.whole in
    let is = held_place_is_possible held events c.args.readings p
    (candidates_are_exact_for_each held events c.args.readings c.requires
    (subst (λ (w : JudgedDevices). CandidatesExact w.whole events) (sym c.self.view_is) so)) in
    let same : slice_index_or c.places_of.result (place_number p) false ≡ has_candidate (slice_index_or held
    (place_number p) []) c.args.readings =
    c.places_of.ensures (place_number p) (place_number_below_12 p) in
    (λ at. is.0 (sym same ∙ at), λ x. same ∙ is.1 x)
