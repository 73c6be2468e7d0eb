-- After each event, the judge of a DfuSe device lists exactly the states in which a run may end.
use Rattle.std.specs.Prelude.{◌≡◌, ◌⊎◌, ◌↔◌, ◌&&◌, ◌||◌, Bool, true, List, [], ◌∷◌, ◌++◌}
use Rattle.std.specs.List.{list_any}
use Rattle.std.proofs.Common.{refl, sym, ap, ◌∙◌, inl, inr}
use Rattle.std.proofs.lemmas.Bool.{or_cases, or_left, or_right, and_parts, and_from}
use Rattle.dfu_conformance.specs.declared.row.StandardState.{StandardState}
use Rattle.dfu_conformance.specs.declared.row.Row.{Row}
use Rattle.dfu_conformance.specs.declared.event.LogEvent.{LogEvent}
use Rattle.dfu_conformance.specs.declared.standard.TheConstants.{STANDARD}
use Rattle.dfu_conformance.specs.declared.marks.TheConstants.{MARKS}
use Rattle.dfu_conformance.specs.declared.habits.TheConstants.{HABITS}
use Rattle.dfu_conformance.specs.declared.drifts.TheConstants.{DRIFTS}
use Rattle.dfu_conformance.specs.declared.dfuse.rows.TheConstants.{DFUSE}
use Rattle.dfu_conformance.specs.dfuse.Runs.{dfuse_attributes, dfuse_habits, dfuse_may_stay_at_event, DfuseMayAnswer, DfuseRun, DfuseMayBeAt, DfuseRowStep, DfuseMayMove}
use Rattle.dfu_conformance.specs.dfuse.Verdicts.{has_place}
use Rattle.dfu_conformance.specs.inside.DfuseStep.{row_leads_to, may_be_at_before_move, may_be_at_after_event}
use Rattle.dfu_conformance.proofs.RowTests.{leading_row_is_row_step, row_step_is_leading_row, leading_drift_is_move, move_is_leading_drift}

-- A row of one of the four lists leads to state `n`, or the device stays in it.
abbrev four_lists_lead_to : (s m h d : List Row) (at : List Bool) (e : LogEvent) (n : StandardState) → Bool
four_lists_lead_to s m h d at e n =
    ((((dfuse_may_stay_at_event e && has_place at n) || list_any (row_leads_to at e n) s) || list_any (row_leads_to at e n) m)
    || list_any
    (row_leads_to at e n) h)
    || list_any (row_leads_to at e n) d

-- The event may lead a DfuSe device from state `p` to state `n` by a row of the four lists, or the device stays.
abbrev DfuseMayAnswerBy : (s m h d : List Row) → StandardState → LogEvent → StandardState → Type 0
DfuseMayAnswerBy s m h d p e n =
    DfuseRowStep s p e n ⊎ DfuseRowStep m p e n ⊎ DfuseRowStep h p e n
    ⊎ DfuseRowStep d p e n ⊎ ((n ≡ p) × (dfuse_may_stay_at_event e ≡ true))

-- If a row leads to state `n`, or the device stays in it, the event may lead the device to `n` from a listed state.
dfuse_led_place_has_source : (s m h d : List Row) (at : List Bool) (e : LogEvent) (n : StandardState)
    → four_lists_lead_to s m h d at e n ≡ true
    → (p : StandardState) × (has_place at p ≡ true) × DfuseMayAnswerBy s m h d p e n
dfuse_led_place_has_source s m h d at e n some = elim (or_cases _ _ some) [
  | inr by_d ↦ let (p, is, g) = leading_row_is_row_step d (has_place at) e n dfuse_attributes dfuse_habits by_d in
      (p, is, inr (inr (inr (inl g))))
  | inl some ↦ elim (or_cases _ _ some) [
    | inr by_h ↦ let (p, is, g) = leading_row_is_row_step h (has_place at) e n dfuse_attributes dfuse_habits by_h in
        (p, is, inr (inr (inl g)))
    | inl some ↦ elim (or_cases _ _ some) [
      | inr by_m ↦ let (p, is, g) =
          leading_row_is_row_step m (has_place at) e n dfuse_attributes dfuse_habits by_m in (p, is, inr (inl g))
      | inl some ↦ elim (or_cases _ _ some) [
        | inr by_s ↦ let (p, is, g) = leading_row_is_row_step s (has_place at) e n dfuse_attributes dfuse_habits by_s in (p, is, inl g)
        | inl stayed ↦ let both = and_parts _ _ stayed in (n, both.1, inr (inr (inr (inr (refl, both.0)))))
      ]
    ]
  ]
]

-- If state `p` is listed, and the event may lead a device from it to `n`, a row leads to `n` or the device stays there.
dfuse_source_leads_to_place : (s m h d : List Row) (at : List Bool) (e : LogEvent) (p n : StandardState) → has_place at p ≡ true →
    DfuseMayAnswerBy s m h d p e n
    → four_lists_lead_to s m h d at e n ≡ true
dfuse_source_leads_to_place s m h d at e p n is (inl g) =
    or_left _ _ (or_left _ _
    (or_left _ _ (or_right _ _ (row_step_is_leading_row s (has_place at) e p n dfuse_attributes dfuse_habits is g))))
dfuse_source_leads_to_place s m h d at e p n is (inr (inl g)) =
    or_left _ _ (or_left _ _ (or_right _ _ (row_step_is_leading_row m (has_place at) e p n dfuse_attributes dfuse_habits is g)))
dfuse_source_leads_to_place s m h d at e p n is (inr (inr (inl g))) =
    or_left _ _ (or_right _ _ (row_step_is_leading_row h (has_place at) e p n dfuse_attributes dfuse_habits is g))
dfuse_source_leads_to_place s m h d at e p n is (inr (inr (inr (inl g)))) =
    or_right _ _ (row_step_is_leading_row d (has_place at) e p n dfuse_attributes dfuse_habits is g)
dfuse_source_leads_to_place s m h d at e p n is (inr (inr (inr (inr (same, stay))))) =
    or_left _ _ (or_left _ _ (or_left _ _ (or_left _ _ (and_from _ _ stay (ap (λ (q : StandardState). has_place at q) same ∙ is)))))

-- Right after an event, a device may be in a state exactly if the event may lead it there from a listed state.
dfuse_answers_are_exact : (at : List Bool) (e : LogEvent) (n : StandardState)
    → (may_be_at_before_move at e n ≡ true) ↔ ((p : StandardState) × (has_place at p ≡ true) × DfuseMayAnswer p e n)
dfuse_answers_are_exact at e n = (
  dfuse_led_place_has_source STANDARD MARKS HABITS DFUSE at e n,
  λ x. dfuse_source_leads_to_place STANDARD MARKS HABITS DFUSE at e x.0 n x.1 x.2,
)

-- After an event and a move, a device may be in state `n` exactly if the event may lead it from a listed state to `n`, or to a state from
-- which it may move to `n` by itself.
dfuse_steps_are_exact : (at : List Bool) (e : LogEvent) (n : StandardState)
    → (may_be_at_after_event at e n ≡ true) ↔ ((p q : StandardState) × (has_place at p ≡ true) × DfuseMayAnswer p e q × DfuseMayMove q n)
dfuse_steps_are_exact at e n = (
  λ some.
      let (q, is, moved) = leading_drift_is_move DRIFTS (may_be_at_before_move at e) n dfuse_attributes dfuse_habits some in
      let (p, was, may) = (dfuse_answers_are_exact at e q).0 is in
      (p, q, was, may, moved),
  λ x. move_is_leading_drift DRIFTS (may_be_at_before_move at e) x.1 n dfuse_attributes dfuse_habits ((dfuse_answers_are_exact at e x.1).1
      (x.0, x.2, x.3)) x.4,
)

-- A run through `events` and then `e` consists of a run through `events`, an answer to `e`, and at most one move of the device by itself.
dfuse_run_splits_at_last_event : (p : StandardState) (events : List LogEvent) (e : LogEvent) (n : StandardState)
    → DfuseRun p (events ++ e ∷ []) n
    ↔ ((here next : StandardState) × DfuseRun p events here × DfuseMayAnswer here e next × DfuseMayMove next n)
dfuse_run_splits_at_last_event p [] e n = (λ x. x, λ x. x)
dfuse_run_splits_at_last_event p (f ∷ events) e n = (
  λ x. let (here, next, run, may, moved) = (dfuse_run_splits_at_last_event x.1 events e n).0 x.4 in (
    here,
    next,
    (x.0, x.1, x.2, x.3, run),
    may,
    moved,
  ),
  λ x. (x.2.0, x.2.1, x.2.2, x.2.3, (dfuse_run_splits_at_last_event x.2.1 events e n).1 (x.0, x.1, x.2.4, x.3, x.4)),
)

-- If the list of states is exact before an event, the list that the step computes is exact after it.
pub dfuse_step_keeps_exactness : (before after : List Bool) (events : List LogEvent) (e : LogEvent)
    → ((p : StandardState) → (has_place before p ≡ true) ↔ DfuseMayBeAt events p)
    → ((n : StandardState) → has_place after n ≡ may_be_at_after_event before e n)
    → (n : StandardState) → (has_place after n ≡ true) ↔ DfuseMayBeAt (events ++ e ∷ []) n
dfuse_step_keeps_exactness before after events e so says n = (
  λ is.
      let (p, q, was, may, moved) = (dfuse_steps_are_exact before e n).0 (sym (says n) ∙ is) in
      let (from, run) = (so p).0 was in
      (from, (dfuse_run_splits_at_last_event from events e n).1 (p, q, run, may, moved)),
  λ x.
      let (p, q, run, may, moved) = (dfuse_run_splits_at_last_event x.0 events e n).0 x.1 in
      says n ∙ (dfuse_steps_are_exact before e n).1 (p, q, (so p).1 (x.0, run), may, moved),
)

-- A run through a list of events begins with a run through any prefix of it.
pub dfuse_run_has_prefix_run : (p : StandardState) (front back : List LogEvent) (n : StandardState) → DfuseRun p (front ++ back) n
    → (last : StandardState) × DfuseRun p front last
dfuse_run_has_prefix_run p [] back n run = (p, inl refl)
dfuse_run_has_prefix_run p (e ∷ front) back n (here, next, moved, may, rest) =
    let (last, run) = dfuse_run_has_prefix_run next front back n rest in
    (last, (here, next, moved, may, run))
