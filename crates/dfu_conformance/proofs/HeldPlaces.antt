-- The judge has a candidate in some state exactly if a device may have answered all events.
use Rattle.std.specs.Prelude.{◌≡◌, ◌↔◌, ℕ, ◌<◌, zero, suc, Bool, true, List, [], slice_index_or}
use Rattle.std.proofs.Common.{sym, ap, ◌∙◌, inl, inr, arith}
use Rattle.std.proofs.lemmas.Bool.{or_cases, or_left, or_right, cases_eq}
use Rattle.dfu_conformance.specs.declared.row.StandardState.{StandardState}
use Rattle.dfu_conformance.specs.declared.event.LogEvent.{LogEvent}
use Rattle.dfu_conformance.specs.RowMatches.{place_number}
use Rattle.dfu_conformance.specs.Candidates.{holds_device, is_held_at}
use Rattle.dfu_conformance.specs.MayAnswer.{MayBeAt, CanAnswer}
use Rattle.dfu_conformance.specs.inside.Stepped.{passes_below, has_candidate, is_held_anywhere}
use Rattle.dfu_conformance.proofs.Places.{place_of_number, number_has_its_place, place_number_below_12}

-- If a test passes for a number below `n`, `passes_below` is true.
pub passing_number_suffices : (p : ℕ → Bool) (n k : ℕ) → k < n → p k ≡ true → passes_below p n ≡ true
passing_number_suffices p zero k below is_so = absurd (omega arith)
passing_number_suffices p (suc n) k below is_so = elim (cases_eq k n) [
  | inl same ↦ or_right _ _ (ap p (sym same) ∙ is_so)
  | inr other ↦ or_left _ _ (passing_number_suffices p n k (omega arith) is_so)
]

-- If `passes_below` is true, the test passes for a number below `n`.
pub some_number_passes : (p : ℕ → Bool) (n : ℕ) → passes_below p n ≡ true → (k : ℕ) × (k < n) × (p k ≡ true)
some_number_passes p zero is_so = absurd cc
some_number_passes p (suc n) is_so = elim (or_cases (passes_below p n) (p n) is_so) [
  | inl before ↦ let (k, below, passes) = some_number_passes p n before in (k, omega arith, passes)
  | inr here ↦ (n, omega arith, here)
]

-- `has_candidate` is true exactly if the words contain a device with these habits, for some bmAttributes.
pub candidate_is_device : (words : List ℕ) (r : ℕ) → (has_candidate words r ≡ true) ↔ ((a : ℕ) × (a < 16) × (holds_device words a r ≡ true))
unfolding has_candidate
candidate_is_device words r = (
  some_number_passes (λ (a : ℕ). holds_device words a r) 16,
  λ x. passing_number_suffices
      (λ (a : ℕ). holds_device words a r) 16 x.0 x.1 x.2,
)

-- `has_candidate` is true for a state exactly if a device with these habits, for some bmAttributes, is a candidate in it.
pub place_candidate_is_held : (held : List (List ℕ)) (r : ℕ) (p : StandardState)
    → (has_candidate (slice_index_or held (place_number p) []) r ≡ true) ↔ ((a : ℕ) × (a < 16) × (is_held_at held p a r ≡ true))
place_candidate_is_held held r p = candidate_is_device (slice_index_or held (place_number p) []) r

-- `is_held_anywhere` is true exactly if a device with these habits, for some bmAttributes, is a candidate in some state.
pub held_anywhere_iff_held_at_place : (held : List (List ℕ)) (r : ℕ)
    → (is_held_anywhere held r ≡ true) ↔ ((p : StandardState) × (a : ℕ) × (a < 16) × (is_held_at held p a r ≡ true))
unfolding is_held_anywhere
held_anywhere_iff_held_at_place held r = (
  λ is_so.
      let test : ℕ → Bool = λ (n : ℕ). has_candidate (slice_index_or held n []) r in
      let (n, below, at) = some_number_passes test 12 is_so in
      let (a, within, is) = (place_candidate_is_held held r (place_of_number n)).0 (ap test (number_has_its_place n below) ∙ at) in
      (place_of_number n, a, within, is),
  λ x. passing_number_suffices (λ (n : ℕ). has_candidate (slice_index_or held n []) r) 12 (place_number x.0) (place_number_below_12 x.0)
      ((place_candidate_is_held held r x.0).1 (x.1, x.2, x.3)),
)

-- For one set of habits, devices are candidates in exactly those states in which they may be after the events.
abbrev pub ExactForReadings : List (List ℕ) → List LogEvent → ℕ → Type 0
ExactForReadings held events r = (a : ℕ) (p : StandardState) → a < 16 → (is_held_at held p a r ≡ true) ↔ MayBeAt a r events p

-- If the candidates with some habits are exact, a device with these habits is a candidate in some state exactly if such a device may have
-- answered the events.
pub held_device_can_answer : (held : List (List ℕ)) (events : List LogEvent) (r : ℕ) → ExactForReadings held events r
    → (is_held_anywhere held r ≡ true) ↔ CanAnswer r events
held_device_can_answer held events r so = (
  λ is_so. let (p, a, within, is) = (held_anywhere_iff_held_at_place held r).0 is_so in (a, within, p, (so a p within).0 is),
  λ x. (held_anywhere_iff_held_at_place held r).1 (x.2, x.0, x.1, (so x.0 x.2 x.1).1 x.3),
)

-- If the candidates with some habits are exact, a device with these habits, for some bmAttributes, is a candidate in a state exactly if
-- such a device may be in this state after the events.
pub held_place_is_possible : (held : List (List ℕ)) (events : List LogEvent) (r : ℕ) (p : StandardState) → ExactForReadings held events r
    → (has_candidate (slice_index_or held (place_number p) []) r ≡ true) ↔ ((a : ℕ) × (a < 16) × MayBeAt a r events p)
held_place_is_possible held events r p so = (
  λ is_so. let (a, within, is) = (place_candidate_is_held held r p).0 is_so in (a, within, (so a p within).0 is),
  λ x. (place_candidate_is_held held r p).1 (x.0, x.1, (so x.0 p x.1).1 x.2),
)
