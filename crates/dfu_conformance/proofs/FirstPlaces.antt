-- Before the first event, every device may be in every state.
use Rattle.std.specs.Prelude.{◌≡◌, ℕ, ◌<◌, ◌==◌, Bool, true, [], slice_index, slice_index_or}
use Rattle.std.specs.Int.{bit_at}
use Rattle.std.proofs.Common.{refl, ap, ◌∙◌, inl, arith}
use Rattle.std.proofs.lemmas.Bool.{agree_below, agree_below_at, eqb-true}
use Rattle.dfu_conformance.specs.declared.row.StandardState.{StandardState}
use Rattle.dfu_conformance.specs.declared.judge.TheConstants.{EVERY}
use Rattle.dfu_conformance.specs.RowMatches.{place_number}
use Rattle.dfu_conformance.specs.Candidates.{is_held_at}
use Rattle.dfu_conformance.specs.MayAnswer.{CandidatesExact, PlainCandidatesExact}
use Rattle.dfu_conformance.proofs.Places.{place_number_below_12}
use Rattle.dfu_conformance.proofs.Words.{each_set_has_bit}

-- In `EVERY`, every device is a candidate in every state.
every_device_is_held : (p : StandardState) (a r : ℕ) → a < 16 → r < 64 → is_held_at EVERY p a r ≡ true
every_device_is_held p a r below within =
    let is_all : (n k : ℕ) → Bool = λ n k. slice_index (slice_index_or EVERY n []) k == 0xffff_ffff_ffff_ffff in
    let at : agree_below (is_all (place_number p)) (λ k. true) 16 ≡ true =
    agree_below_at (λ n. agree_below (is_all n) (λ k. true) 16) (λ n. true) 12 (place_number p) refl (place_number_below_12 p) in
    ap (λ (w : ℕ). bit_at w r == 1) (eqb-true _ _ (agree_below_at (is_all (place_number p)) (λ k. true) 16 a at below))
    ∙ each_set_has_bit r within

-- Before any event, the candidates `EVERY` are exact, because any device may have answered an empty list of events.
pub all_devices_are_exact_at_first : CandidatesExact EVERY []
all_devices_are_exact_at_first a r p below within = (λ x. (p, inl refl), λ x. every_device_is_held p a r below within)

-- Before any event, the candidates of `EVERY` without habits are exact.
pub plain_devices_are_exact_at_first : PlainCandidatesExact EVERY []
plain_devices_are_exact_at_first a p below = (λ x. (p, inl refl), λ x. every_device_is_held p a 0 below (omega arith))
