-- The verdict of the judge is right.
use Rattle.std.specs.Prelude.{◌≡◌, ◌↔◌, ℕ, ◌<◌, Bool, true, false, List, [], ◌∷◌, ◌++◌, slice_index_or, Some, None}
use Rattle.std.proofs.Common.{sym, ◌∙◌, subst, arith}
use Rattle.std.proofs.lemmas.Bool.{both_ways}
use Rattle.dfu_conformance.specs.declared.row.StandardState.{StandardState}
use Rattle.dfu_conformance.specs.declared.event.LogEvent.{LogEvent}
use Rattle.dfu_conformance.specs.declared.verdict.Verdict.TheVariants.{Kept, KeptBy, NotKept}
use Rattle.dfu_conformance.specs.declared.verdict.Departure.{Departure}
use Rattle.dfu_conformance.specs.RowMatches.{place_number}
use Rattle.dfu_conformance.specs.Candidates.{is_held_at}
use Rattle.dfu_conformance.specs.MayAnswer.{CanAnswer, CandidatesExact, PlainCandidatesExact}
use Rattle.dfu_conformance.specs.Verdict.{IsVerdict, HasSixBits, ArePlacesAfter, EventDeparts}
use Rattle.dfu_conformance.specs.inside.Stepped.{is_held_after_event, has_candidate, is_held_anywhere, least_set_below}
use Rattle.dfu_conformance.proofs.Exact.{step_keeps_exactness}
use Rattle.dfu_conformance.proofs.Least.{IsLeastSetBelow, least_set_below_is_least}
use Rattle.dfu_conformance.proofs.Places.{place_number_below_12}
use Rattle.dfu_conformance.proofs.HeldPlaces.{ExactForReadings, held_device_can_answer, held_place_is_possible}

-- If the candidates are exact, they are exact for each set of habits.
pub candidates_are_exact_for_each : (held : List (List ℕ)) (events : List LogEvent) (r : ℕ) → r < 64 → CandidatesExact held events
    → ExactForReadings held events r
candidates_are_exact_for_each held events r within so = λ a p below. so a r p below within

-- If the candidates are exact, and a device without habits is a candidate, the verdict `Kept` is right.
pub plain_device_gives_kept : (held : List (List ℕ)) (events : List LogEvent) → CandidatesExact held events → is_held_anywhere held 0 ≡ true
    → IsVerdict Kept events
plain_device_gives_kept held events so is_so =
    (held_device_can_answer held events 0 (candidates_are_exact_for_each held events 0 (omega arith) so)).0 is_so

-- If the candidates are exact, no device without habits is a candidate, and `s` is the smallest set of habits with a candidate, the verdict
-- `KeptBy s` is right.
pub least_readings_give_kept_by : (held : List (List ℕ)) (events : List LogEvent) (s : ℕ) → CandidatesExact held events
    → is_held_anywhere held 0 ≡ false
    → Some s ≡ least_set_below (is_held_anywhere held) 64 → IsVerdict (KeptBy s) events
least_readings_give_kept_by held events s so not_plain is =
    let least : IsLeastSetBelow (is_held_anywhere held) 64 (Some s) = subst (IsLeastSetBelow (is_held_anywhere held) 64) (sym is)
    (least_set_below_is_least (is_held_anywhere held) 64) in
    let can : (r : ℕ) → r < 64 → (is_held_anywhere held r ≡ true) ↔ CanAnswer r events =
    λ r within. held_device_can_answer held events r (candidates_are_exact_for_each held events r within so) in (
      λ plain. both_ways (is_held_anywhere held 0) not_plain ((can 0 (omega arith)).1 plain),
      record {
        below = least.0;
        can = (can s least.0).0 least.1;
        fewest = λ r within may. least.2 r within ((can r within).1 may);
        first = λ r below may. let within : r < 64 = omega (arith, least.0) in least.3 r below ((can r within).1 may);
      },
    )

-- The number of the smallest of the 64 sets of habits with a candidate has at most six bits.
pub least_set_has_six_bits : (held : List (List ℕ)) (s : ℕ) → Some s ≡ least_set_below (is_held_anywhere held) 64 → HasSixBits (KeptBy s)
least_set_has_six_bits held s is =
    let least : IsLeastSetBelow (is_held_anywhere held) 64 (Some s) = subst (IsLeastSetBelow (is_held_anywhere held) 64) (sym is)
    (least_set_below_is_least (is_held_anywhere held) 64) in
    least.0

-- If the candidates are exact, and no device with any set of habits is a candidate, the verdict `NotKept` is right.
pub no_device_gives_not_kept : (held : List (List ℕ)) (events : List LogEvent) → CandidatesExact held events
    → None ≡ least_set_below (is_held_anywhere held) 64
    → IsVerdict NotKept events
no_device_gives_not_kept held events so is = λ r within may.
    let none_held : IsLeastSetBelow (is_held_anywhere held) 64 None = subst (IsLeastSetBelow (is_held_anywhere held) 64) (sym is)
    (least_set_below_is_least (is_held_anywhere held) 64) in
    both_ways (is_held_anywhere held r) (none_held r within)
    ((held_device_can_answer held events r (candidates_are_exact_for_each held events r within so)).1 may)

-- `after` contains the candidates that the judge's step computes from `before` for event `e`.
abbrev pub IsCandidateStep : List (List ℕ) → LogEvent → List (List ℕ) → Type 0
IsCandidateStep before e after = (n : StandardState) (a r : ℕ) → a < 16 → r < 64
    → is_held_at after n a r ≡ is_held_after_event before e n a r

-- If the candidates are exact before an event, those that the step computes are exact after it.
pub candidates_stay_exact : (before after : List (List ℕ)) (events : List LogEvent) (e : LogEvent) → IsCandidateStep before e after
    → CandidatesExact before events
    → CandidatesExact after (events ++ e ∷ [])
candidates_stay_exact before after events e says so a r p below within =
    step_keeps_exactness before after events e a r (λ q. so a r q below within) (λ n. says n a r below within) p

-- If the candidates without habits are exact before an event, those that the step computes are exact after it.
pub plain_candidates_stay_exact : (before after : List (List ℕ)) (events : List LogEvent) (e : LogEvent) → IsCandidateStep before e after
    → PlainCandidatesExact before events
    → PlainCandidatesExact after (events ++ e ∷ [])
plain_candidates_stay_exact before after events e says so a p below =
    step_keeps_exactness before after events e a 0 (λ q. so a q below) (λ n. says n a 0 below (omega arith)) p

-- If the candidates without habits are exact before an event, and the step computes at least one, a device without habits may have answered
-- all events so far, and the new candidates are exact.
pub plain_device_can_answer : (before after : List (List ℕ)) (events : List LogEvent) (e : LogEvent) → IsCandidateStep before e after
    → PlainCandidatesExact before events
    → is_held_anywhere after 0 ≡ true → CanAnswer 0 (events ++ e ∷ []) × PlainCandidatesExact after (events ++ e ∷ [])
plain_device_can_answer before after events e says so left =
    let next = plain_candidates_stay_exact before after events e says so in (
      (held_device_can_answer after (events
          ++ e ∷ []) 0 next).0 left,
      next,
    )

-- If the candidates without habits are exact, the states with such a candidate are exactly those in which a device without habits may be
-- after the events.
pub held_places_are_possible : (before : List (List ℕ)) (at : List Bool) (events : List LogEvent) → PlainCandidatesExact before events
    → ((n : ℕ) → n < 12 → slice_index_or at n false ≡ has_candidate (slice_index_or before n []) 0) → ArePlacesAfter 0 events at
held_places_are_possible before at events so places = λ p.
    let is = held_place_is_possible before events 0 p so in
    let same : slice_index_or at (place_number p) false ≡ has_candidate (slice_index_or before (place_number p) []) 0 =
    places (place_number p) (place_number_below_12 p) in
    (λ here. is.0 (sym same ∙ here), λ x. same ∙ is.1 x)

-- The departure contains the event and the states of the candidates without habits before it. After the event, there is no such candidate.
abbrev pub IsDepartureOfStep : (before after : List (List ℕ)) → LogEvent → Departure → Type 0
IsDepartureOfStep before after e d = (d.event ≡ e) × (is_held_anywhere after 0 ≡ false)
    × ((n : ℕ) → n < 12 → slice_index_or d.before n false ≡ has_candidate (slice_index_or before n []) 0)

-- If the candidates without habits are exact before an event, and the step computes none, the event is a departure.
pub event_without_devices_departs : (before after anew : List (List ℕ)) (events : List LogEvent) (e : LogEvent) (d : Departure) →
    IsCandidateStep before e after
    → PlainCandidatesExact before events → PlainCandidatesExact anew [] → IsDepartureOfStep before after e d → EventDeparts events d anew
event_without_devices_departs before after anew events e d says so first (is, none_left, places) = record {
  before = held_places_are_possible before d.before events so places;
  none = λ may. both_ways (is_held_anywhere after 0) none_left ((held_device_can_answer after (events ++ e ∷ []) 0
      (plain_candidates_stay_exact before after events e says so)).1 (subst (λ (x : LogEvent). CanAnswer 0 (events ++ x ∷ [])) is may));
  anew = first;
}
