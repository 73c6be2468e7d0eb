-- The departures that the judge of a DfuSe device returns are right.
use Rattle.std.specs.Prelude.{◌≡◌, ℕ, ◌+◌, ◌<◌, true, false, Bool, List, [], ◌∷◌, ◌++◌, length, take, drop, slice_index_or}
use Rattle.std.proofs.Common.{refl, sym, ap, ◌∙◌, subst, inl}
use Rattle.std.proofs.lemmas.Bool.{both_ways}
use Rattle.std.proofs.lemmas.List.{take-append-drop}
use Rattle.dfu_conformance.specs.declared.row.StandardState.{StandardState}
use Rattle.dfu_conformance.specs.declared.row.StandardState.TheVariants.{AppIdle, AppDetach, DfuIdle, DownloadSync, DownloadBusy, DownloadIdle, ManifestSync, Manifest, ManifestWaitReset, UploadIdle, Error, Fresh}
use Rattle.dfu_conformance.specs.declared.event.LogEvent.{LogEvent}
use Rattle.dfu_conformance.specs.declared.verdict.Departure.{Departure}
use Rattle.dfu_conformance.specs.declared.dfuse.judge.TheConstants.{EVERYWHERE}
use Rattle.dfu_conformance.specs.dfuse.Runs.{DfuseCanAnswer, DfuseRun}
use Rattle.dfu_conformance.specs.dfuse.Verdicts.{has_place, PlacesExact, DfuseDeparts, IsFirstDeparture}
use Rattle.dfu_conformance.specs.inside.DfuseStep.{may_be_at_after_event, has_any_place}
use Rattle.dfu_conformance.proofs.DfuseExact.{dfuse_step_keeps_exactness, dfuse_run_has_prefix_run}
use Rattle.dfu_conformance.proofs.DfuseSomewhere.{some_place_iff_can_answer}

-- `EVERYWHERE` contains every state.
every_place_is_held : (p : StandardState) → has_place EVERYWHERE p ≡ true
every_place_is_held AppIdle = refl
every_place_is_held AppDetach = refl
every_place_is_held DfuIdle = refl
every_place_is_held DownloadSync = refl
every_place_is_held DownloadBusy = refl
every_place_is_held DownloadIdle = refl
every_place_is_held ManifestSync = refl
every_place_is_held Manifest = refl
every_place_is_held ManifestWaitReset = refl
every_place_is_held UploadIdle = refl
every_place_is_held Error = refl
every_place_is_held Fresh = refl

-- Before any event, the list `EVERYWHERE` is exact, because the device may be in any state.
pub all_places_are_exact_at_first : PlacesExact EVERYWHERE []
all_places_are_exact_at_first p = (λ x. (p, inl refl), λ x. every_place_is_held p)

-- A DfuSe device may have answered an empty list of events.
pub empty_list_can_be_answered : DfuseCanAnswer []
empty_list_can_be_answered = (AppIdle, (AppIdle, inl refl))

-- `after` lists the states that the judge's step computes from `before` for event `e`.
abbrev pub IsDfuseStep : List Bool → LogEvent → List Bool → Type 0
IsDfuseStep before e after = (n : StandardState) → has_place after n ≡ may_be_at_after_event before e n

-- If the list of states is exact before an event, and the step lists at least one state, a DfuSe device may have answered all events so
-- far, and the new list is exact.
pub dfuse_device_left_can_answer : (before after : List Bool) (events : List LogEvent) (e : LogEvent) → IsDfuseStep before e after
    → PlacesExact before events
    → has_any_place after ≡ true → DfuseCanAnswer (events ++ e ∷ []) × PlacesExact after (events ++ e ∷ [])
dfuse_device_left_can_answer before after events e says so left =
    let next = dfuse_step_keeps_exactness before after events e so says in
    ((some_place_iff_can_answer after (events ++ e ∷ []) next).0 left, next)

-- If the list of states is exact before an event, and the step lists no state, the event is a departure.
pub dfuse_event_departs : (before after : List Bool) (events : List LogEvent) (e : LogEvent) → IsDfuseStep before e after →
    PlacesExact before events
    → has_any_place after ≡ false → DfuseDeparts events (record { before = before; event = e }) EVERYWHERE
dfuse_event_departs before after events e says so none = record {
  before = so;
  none =
      λ may. both_ways (has_any_place after) none ((some_place_iff_can_answer after (events ++ e ∷ [])
      (dfuse_step_keeps_exactness before after events e so says)).1 may);
  anew = all_places_are_exact_at_first;
}

-- A DfuSe device that may have answered a list of events may have answered its first `n` events.
event_prefix_can_be_answered : (n : ℕ) (events : List LogEvent) → DfuseCanAnswer events → DfuseCanAnswer (take n events)
event_prefix_can_be_answered n events may = go (take-append-drop n events) may
  where
    go : take n events ++ drop n events ≡ events → DfuseCanAnswer events → DfuseCanAnswer (take n events)
    go e (last, (from, run)) =
        let (here, front) = dfuse_run_has_prefix_run from (take n events) (drop n events) last
        (subst (λ (es : List LogEvent). DfuseRun from es last) (sym e) run) in
        (here, (from, front))

-- If a DfuSe device may have answered the first `n` events, and the next event is a departure, this event is the first departure, and no
-- DfuSe device may have answered all events.
pub departure_is_first : (events : List LogEvent) (n : ℕ) (e : LogEvent) (d : Departure) (anew : List Bool) → n < length events
    → DfuseCanAnswer (take n events) → take (n + 1) events ≡ take n events ++ e ∷ [] → d.event ≡ e → DfuseDeparts (take n events) d anew
    → IsFirstDeparture events n d × (DfuseCanAnswer events → ⊥)
departure_is_first events n e d anew below may more is so =
    let event : take (n + 1) events ≡ take n events ++ d.event ∷ [] =
    more ∙ ap (λ (y : LogEvent). take n events ++ y ∷ []) (sym is) in
    let none : DfuseCanAnswer (take (n + 1) events) → ⊥ = λ can. so.none (subst DfuseCanAnswer event can) in (
      record {
        below = below;
        kept = may;
        before = so.before;
        event = event;
        none = none;
      },
      λ can. none (event_prefix_can_be_answered (n + 1) events can),
    )
