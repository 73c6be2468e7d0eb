-- After each event, the judge's candidates are exactly the devices and states in which a run may end.
use Rattle.std.specs.Prelude.{◌≡◌, ◌⊎◌, ◌↔◌, ℕ, ◌&&◌, ◌||◌, Bool, true, List, [], ◌∷◌, ◌++◌}
use Rattle.std.specs.List.{list_any}
use Rattle.std.proofs.Common.{refl, sym, ap, ◌∙◌, inl, inr}
use Rattle.std.proofs.lemmas.Bool.{or_cases, or_left, or_right, and_parts, and_from}
use Rattle.dfu_conformance.specs.declared.row.StandardState.{StandardState}
use Rattle.dfu_conformance.specs.declared.row.Row.{Row}
use Rattle.dfu_conformance.specs.declared.event.LogEvent.{LogEvent}
use Rattle.dfu_conformance.specs.declared.standard.TheConstants.{STANDARD}
use Rattle.dfu_conformance.specs.declared.marks.TheConstants.{MARKS}
use Rattle.dfu_conformance.specs.declared.habits.TheConstants.{HABITS}
use Rattle.dfu_conformance.specs.declared.drifts.TheConstants.{DRIFTS}
use Rattle.dfu_conformance.specs.RowMatches.{may_stay_at_event}
use Rattle.dfu_conformance.specs.Candidates.{is_held_at}
use Rattle.dfu_conformance.specs.MayAnswer.{RowStep, MayAnswer, MayMove, Run, MayBeAt}
use Rattle.dfu_conformance.proofs.RowTests.{leading_row_is_row_step, row_step_is_leading_row, leading_drift_is_move, move_is_leading_drift}
use Rattle.dfu_conformance.specs.inside.Stepped.{row_leads, is_held_before_moves, is_held_after_event}

-- A row of one of the three lists leads to state `n`, or the device stays in it.
abbrev three_lists_lead_to : (s m h : List Row) (held : List (List ℕ)) (e : LogEvent) (n : StandardState) (a r : ℕ) → Bool
three_lists_lead_to s m h held e n a r =
    (((may_stay_at_event e && is_held_at held n a r) || list_any (row_leads held e n a r) s) || list_any (row_leads held e n a r) m)
    || list_any
    (row_leads held e n a r) h

-- The event may lead a device from state `p` to state `n` by a row of the three lists, or the device stays.
abbrev MayAnswerBy : (s m h : List Row) (a r : ℕ) → StandardState → LogEvent → StandardState → Type 0
MayAnswerBy s m h a r p e n = RowStep s a r p e n ⊎ RowStep m a r p e n ⊎ RowStep h a r p e n ⊎ ((n ≡ p) × (may_stay_at_event e ≡ true))

-- If a row leads to state `n`, or the device stays in it, the device is a candidate in a state from which the event may lead it to `n`.
led_place_has_source : (s m h : List Row) (held : List (List ℕ)) (e : LogEvent) (n : StandardState) (a r : ℕ)
    → three_lists_lead_to s m h held e n a r
    ≡ true
    → (p : StandardState) × (is_held_at held p a r ≡ true) × MayAnswerBy s m h a r p e n
led_place_has_source s m h held e n a r some = elim (or_cases _ _ some) [
  | inr by_h ↦ let (p, is, g) = leading_row_is_row_step h (λ (q : StandardState). is_held_at held q a r) e n a r by_h in
      (p, is, inr (inr (inl g)))
  | inl some ↦ elim (or_cases _ _ some) [
    | inr by_m ↦ let (p, is, g) =
        leading_row_is_row_step m (λ (q : StandardState). is_held_at held q a r) e n a r by_m in (p, is, inr (inl g))
    | inl some ↦ elim (or_cases _ _ some) [
      | inr by_s ↦ let (p, is, g) = leading_row_is_row_step s (λ (q : StandardState). is_held_at held q a r) e n a r by_s in (p, is, inl g)
      | inl stayed ↦ let both = and_parts _ _ stayed in (n, both.1, inr (inr (inr (refl, both.0))))
    ]
  ]
]

-- If a device is a candidate in state `p`, and the event may lead it to `n`, a row leads to `n` or the device stays there.
source_leads_to_place : (s m h : List Row) (held : List (List ℕ)) (e : LogEvent) (p n : StandardState) (a r : ℕ)
    → is_held_at held p a r ≡ true
    → MayAnswerBy s m h a r p e n
    → three_lists_lead_to s m h held e n a r ≡ true
source_leads_to_place s m h held e p n a r is (inl g) =
    or_left _ _ (or_left _ _ (or_right _ _ (row_step_is_leading_row s (λ (q : StandardState). is_held_at held q a r) e p n a r is g)))
source_leads_to_place s m h held e p n a r is (inr (inl g)) =
    or_left _ _ (or_right _ _ (row_step_is_leading_row m (λ (q : StandardState). is_held_at held q a r) e p n a r is g))
source_leads_to_place s m h held e p n a r is (inr (inr (inl g))) =
    or_right _ _ (row_step_is_leading_row h (λ (q : StandardState). is_held_at held q a r) e p n a r is g)
source_leads_to_place s m h held e p n a r is (inr (inr (inr (same, stay)))) =
    or_left _ _ (or_left _ _ (or_left _ _ (and_from _ _ stay (ap (λ (q : StandardState). is_held_at held q a r) same ∙ is))))

-- Right after an event, a device is a candidate in a state exactly if the event may lead it there from a state in which it was a candidate.
pub answers_are_exact : (held : List (List ℕ)) (e : LogEvent) (n : StandardState) (a r : ℕ)
    → (is_held_before_moves held e n a r ≡ true) ↔ ((p : StandardState) × (is_held_at held p a r ≡ true) × MayAnswer a r p e n)
answers_are_exact held e n a r = (
  led_place_has_source STANDARD MARKS HABITS held e n a r,
  λ x. source_leads_to_place STANDARD MARKS HABITS held e x.0 n a r x.1 x.2,
)

-- After an event and a move, a device is a candidate in state `n` exactly if the event may lead it, from a state in which it was a
-- candidate, to `n` or to a state from which it may move to `n` by itself.
pub steps_are_exact : (held : List (List ℕ)) (e : LogEvent) (n : StandardState) (a r : ℕ)
    → (is_held_after_event held e n a r ≡ true) ↔ ((p q : StandardState) × (is_held_at held p a r ≡ true) × MayAnswer a r p e q
    × MayMove a r q n)
steps_are_exact held e n a r = (
  λ some.
      let (q, is, moved) = leading_drift_is_move DRIFTS (λ (p : StandardState). is_held_before_moves held e p a r) n a r some in
      let (p, was, may) = (answers_are_exact held e q a r).0 is in
      (p, q, was, may, moved),
  λ x. move_is_leading_drift DRIFTS (λ (p : StandardState). is_held_before_moves held e p a r) x.1 n a r
      ((answers_are_exact held e x.1 a r).1 (x.0, x.2, x.3)) x.4,
)

-- A run through `events` and then `e` consists of a run through `events`, an answer to `e`, and at most one move of the device by itself.
pub run_splits_at_last_event : (a r : ℕ) (p : StandardState) (events : List LogEvent) (e : LogEvent) (n : StandardState)
    → Run a r p (events ++ e ∷ []) n
    ↔ ((here next : StandardState) × Run a r p events here × MayAnswer a r here e next × MayMove a r next n)
run_splits_at_last_event a r p [] e n = (λ x. x, λ x. x)
run_splits_at_last_event a r p (f ∷ events) e n = (
  λ x. let (here, next, run, may, moved) =
      (run_splits_at_last_event a r x.1 events e n).0 x.4 in (here, next, (x.0, x.1, x.2, x.3, run), may, moved),
  λ x. (x.2.0, x.2.1, x.2.2, x.2.3, (run_splits_at_last_event a r x.2.1 events e n).1 (x.0, x.1, x.2.4, x.3, x.4)),
)

-- If the candidates are exact before an event, those that the step computes are exact after it.
pub step_keeps_exactness : (held after : List (List ℕ)) (events : List LogEvent) (e : LogEvent) (a r : ℕ)
    → ((p : StandardState) → (is_held_at held p a r ≡ true) ↔ MayBeAt a r events p)
    → ((n : StandardState) → is_held_at after n a r ≡ is_held_after_event held e n a r)
    → (n : StandardState) → (is_held_at after n a r ≡ true) ↔ MayBeAt a r (events ++ e ∷ []) n
step_keeps_exactness held after events e a r so says n = (
  λ is.
      let (p, q, was, may, moved) = (steps_are_exact held e n a r).0 (sym (says n) ∙ is) in
      let (from, run) = (so p).0 was in
      (from, (run_splits_at_last_event a r from events e n).1 (p, q, run, may, moved)),
  λ x.
      let (p, q, run, may, moved) = (run_splits_at_last_event a r x.0 events e n).0 x.1 in
      says n ∙ (steps_are_exact held e n a r).1 (p, q, (so p).1 (x.0, run), may, moved),
)
