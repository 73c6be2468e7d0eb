-- The events of a device's history are a run of the standard's table.
use Rattle.std.specs.Prelude.{◌≡◌, ℕ, ◌<◌, Bool, true, false, List, [], ◌∷◌, length}
use Rattle.std.proofs.Common.{refl, sym, ap, subst, ◌∙◌, inl, inr, lit<, ◌==◌}
use Rattle.std.proofs.lemmas.Bool.{and_left, eq-eqb, eqb-true, cond-true, false≢true}
use Rattle.dfu_wire.specs.declared.setups.Setup.{Setup}
use Rattle.dfu_wire.specs.declared.codes.Code.TheVariants.{Ok as NoFault}
use Rattle.dfu_wire.specs.declared.requests.Request.{Request as Asked}
use Rattle.dfu_wire.specs.declared.requests.Request.TheVariants as asked
use Rattle.dfu_wire.specs.Setup.{IsSetup}
use Rattle.dfu_wire.specs.Request.{SetupAsksFor}
use Rattle.dfu_device.specs.declared.objection.Objection.{Objection}
use Rattle.dfu_device.specs.declared.answer.Answer.{Answer}
use Rattle.dfu_device.specs.declared.answer.Answer.TheVariants as answer
use Rattle.dfu_device.specs.Setting.{Setting}
use Rattle.dfu_device.specs.Stage.{Profile, Stage, InDownloadIdle, InManifestSyncComplete, InUploadIdle, InError}
use Rattle.dfu_device.specs.Table.{objection_code, may_close, Plan, Sure, Writes, Commits, plan, time_plan}
use Rattle.dfu_device.specs.DeviceView.{DeviceView, profile, profile_of}
use Rattle.dfu_device.specs.Rows.{Done, request_for_table, Cause, Transfer, Passing, BusReset, RefusingClose, Refusing, PowerOn, Handles, Row, is_close, body_length, is_served, asked_length}
use Rattle.dfu_device.specs.PlanOutcomes.{close_setup_asks_for_close, row_follows_reading, not_served_is_stalled}
use Rattle.dfu_slots.specs.StoreView.{image_of, room_of}
use Rattle.dfu_conformance.specs.declared.row.StandardState.{StandardState}
use Rattle.dfu_conformance.specs.declared.row.StandardState.TheVariants as place
use Rattle.dfu_conformance.specs.declared.event.LogEvent.{LogEvent}
use Rattle.dfu_conformance.specs.RowMatches.{may_stay_by_answer, asks}
use Rattle.dfu_conformance.specs.Setups.{event_of, is_plain}
use Rattle.dfu_conformance.specs.MayAnswer.{Run}
use Rattle.dfu_conformance.proofs.ForCallers.{move_begins_run}
use Rattle.dfu_laws.specs.judge.Conformity.{attributes, attributes_of, place_of, seen, TransferAddsEvent, EventsOfStep, StageInvariant, NeedsManifestTime, HistoriesConform, DevicesFromStartConform}
use Rattle.dfu_laws.proofs.judge.LeadingAnswers.{PlanOutcomesLead, stall_row_leads, write_code_allowed_in_error, commit_code_allowed_in_error}
use Rattle.dfu_laws.proofs.judge.Rows.{all_plans_lead}
use Rattle.dfu_laws.proofs.judge.SeenAnswers.{EventLeadsOn}
use Rattle.dfu_laws.proofs.judge.Passing.{time_plan_moves, passed_time_moves_device, reset_leads_run_on, reset_stage_keeps_invariant, late_refusal_moves_device, objection_code_allowed_in_error, power_leads_run_on}

-- If each outcome of a plan is a row of the standard's table, a device that carries out the plan follows the table and preserves the stage
-- invariant.
done_plan_leads_on : (pl : Plan) (c : Profile) (p : Setup) (q : Asked) (body : List ℕ) (st : Stage) (w : DeviceView) (a : Answer) (out :
    List ℕ)
    (w' : DeviceView) → PlanOutcomesLead c p q body st pl → Done pl (asked_length q) w a out w'
    → EventLeadsOn (attributes_of c) (place_of st) (event_of p q (length body) (seen a out)) (place_of w'.stage) × StageInvariant c w'.stage
done_plan_leads_on (Sure reply next) c p q body st w a out w' (leads, stands) (says, is) =
    subst (λ (z : DeviceView). EventLeadsOn (attributes_of c) (place_of st) (event_of p q (length body) (seen a out)) (place_of z.stage)
    × StageInvariant c z.stage)
    (sym is) (leads a out says, stands)
done_plan_leads_on (Writes before block reply next bad) c p q body st w a out w' ((leads, stands), fails) (inl (says, h)) =
    subst (λ (z : Stage). EventLeadsOn (attributes_of c) (place_of st) (event_of p q (length body) (seen a out)) (place_of z)
    × StageInvariant c z)
    (sym h.stage_is) (leads a out says, stands)
done_plan_leads_on (Writes before block reply next bad) c p q body st w a out w' ((leads, stands), fails) (inr (fault, says, h)) =
    subst (λ (z : Stage). EventLeadsOn (attributes_of c) (place_of st) (event_of p q (length body) (seen a out)) (place_of z)
    × StageInvariant c z)
    (sym h.stage_is) (fails fault a out says, write_code_allowed_in_error c fault)
done_plan_leads_on (Commits taken reply next bad) c p q body st w a out w' ((leads, stands), fails) (inl (says, h)) =
    subst (λ (z : Stage). EventLeadsOn (attributes_of c) (place_of st) (event_of p q (length body) (seen a out)) (place_of z)
    × StageInvariant c z)
    (sym h.stage_is) (leads a out says, stands)
done_plan_leads_on (Commits taken reply next bad) c p q body st w a out w' ((leads, stands), fails) (inr (fault, says, h)) =
    subst (λ (z : Stage). EventLeadsOn (attributes_of c) (place_of st) (event_of p q (length body) (seen a out)) (place_of z)
    × StageInvariant c z)
    (sym h.stage_is) (fails fault a out says, commit_code_allowed_in_error c fault)

-- A plan that is carried out does not change the configuration of the device.
done_plan_keeps_config : (pl : Plan) (len : ℕ) (w : DeviceView) (a : Answer) (out : List ℕ) (w' : DeviceView) → Done pl len w a out w' →
    w'.config ≡ w.config
done_plan_keeps_config (Sure reply next) len w a out w' (says, is) = ap (λ (z : DeviceView). z.config) is
done_plan_keeps_config (Writes before block reply next bad) len w a out w' (inl (says, h)) = h.config_is
done_plan_keeps_config (Writes before block reply next bad) len w a out w' (inr (fault, says, h)) = h.config_is
done_plan_keeps_config (Commits taken reply next bad) len w a out w' (inl (says, h)) = h.config_is
done_plan_keeps_config (Commits taken reply next bad) len w a out w' (inr (fault, says, h)) = h.config_is

-- The request is a class request for interface 0.
abbrev pub IsClassForInterface0 : Asked → Type 0
IsClassForInterface0 asked.NotDfu = ⊥
IsClassForInterface0 q = Unit {0}

-- If the body of a transfer is not as long as its setup requires, the transfer is not a request as section 3 describes it.
unserved_request_is_not_plain : (p : Setup) (q : Asked) (body : List ℕ) → IsClassForInterface0 q → is_served p q body ≡ false →
    is_plain p q (length body) ≡ false
unserved_request_is_not_plain p asked.NotDfu body ours off = absurd ours
unserved_request_is_not_plain p q body ours off = and_left _ _ off

-- A transfer is a row of the standard's table, or a stall without a change if its body or setup is not as section 3 requires.
transfer_leads_on : (w : DeviceView) (setup body : List ℕ) (a : Answer) (out : List ℕ) (w' : DeviceView) (p : Setup) (q : Asked) (b : Bool)
    → NeedsManifestTime (profile w) → StageInvariant (profile w) w.stage → IsSetup p setup → SetupAsksFor p q → IsClassForInterface0 q
    → is_served p q body ≡ b → Handles setup body w a out w'
    → EventLeadsOn (attributes_of (profile w)) (place_of w.stage) (event_of p q (length body) (seen a out)) (place_of w'.stage)
    × StageInvariant (profile w) w'.stage × (w'.config ≡ w.config)
transfer_leads_on w setup body a out w' p q true takes stands reads asks ours on h =
    let done = row_follows_reading p q setup body w a out w' reads asks h in
    let led = done_plan_leads_on (plan (profile w) (image_of w.slots) w.stage (request_for_table q body)) (profile w) p q body w.stage w a
    out w'
    (all_plans_lead (profile w) (image_of w.slots) w.stage p q body takes stands asks on) (rw on at done) in
    (led.0, led.1, done_plan_keeps_config _ (asked_length q) w a out w' done)
transfer_leads_on w setup body a out w' p q false takes stands reads asks ours off h =
    let (stall, same) = not_served_is_stalled p q setup body w a out w' reads asks off h in
    subst (λ (z : DeviceView). EventLeadsOn (attributes_of (profile w)) (place_of w.stage) (event_of p q (length body) (seen a out))
    (place_of z.stage)
    × StageInvariant (profile w) z.stage × (z.config ≡ w.config)) (sym same) (
      (
        place_of w.stage,
        inl refl,
        inr (inr (inr (
          refl,
          (λ k. may_stay_by_answer (unserved_request_is_not_plain p q body ours off k) (seen
              (stall k) out)),
        ))),
      ),
      stands,
      refl,
    )

-- If the events after a step are a run of the standard's table, they are still a run with the event of the step before them.
abbrev pub StepExtendsRun : DeviceView → DeviceView → (rest events : List LogEvent) → Type 0
StepExtendsRun w w' rest events =
    ((last : StandardState) → Run (attributes_of (profile w)) 0 (place_of w'.stage) rest last
    → Run (attributes_of (profile w)) 0 (place_of w.stage) events last)
    × StageInvariant (profile w) w'.stage × (w'.config ≡ w.config)

-- If the standard's table allows an event that a judge observes, the event extends a run at its front.
led_event_extends_run : (w w' : DeviceView) (e : LogEvent) (rest events : List LogEvent) → events ≡ e ∷ rest
    → EventLeadsOn (attributes_of (profile w)) (place_of w.stage) e (place_of w'.stage) × StageInvariant (profile w) w'.stage
    × (w'.config ≡ w.config) → StepExtendsRun w w' rest events
led_event_extends_run w w' e rest events adds ((here, moved, may), stands, config) = (
  λ last run. subst (λ (es : List LogEvent). Run (attributes_of (profile w)) 0 (place_of w.stage) es last) (sym adds)
      (here, place_of w'.stage, moved, may, run),
  stands,
  config,
)

request_extends_run : (w : DeviceView) (setup body : List ℕ) (a : Answer) (out : List ℕ) (w' : DeviceView) (rest events : List LogEvent) (p
    : Setup)
    (q : Asked)
    → NeedsManifestTime (profile w) → StageInvariant (profile w) w.stage → IsSetup p setup → SetupAsksFor p q
    → Handles setup body w a out w' → TransferAddsEvent p q body (seen a out) rest events → StepExtendsRun w w' rest events
request_extends_run w setup body a out w' rest events p asked.NotDfu takes stands reads asks h adds =
    let (stall, same) = not_served_is_stalled p asked.NotDfu setup body w a out w' reads asks refl h in
    subst (λ (z : DeviceView). StepExtendsRun w z rest events) (sym same)
    (λ last run. subst (λ (es : List LogEvent). Run (attributes_of (profile w)) 0 (place_of w.stage) es last) (sym adds) run, stands, refl)
request_extends_run w setup body a out w' rest events p q takes stands reads asks h adds =
    led_event_extends_run w w' _ rest events adds (transfer_leads_on w setup body a out w' p q _ takes stands reads asks tt refl h)

-- If the program refuses an image at its close, the standard's table allows the stall, and the event extends a run of the table.
refused_close_extends_run : (w : DeviceView) (a : Answer) (out : List ℕ) (w' : DeviceView) (rest events : List LogEvent) (p : Setup) (q :
    Asked)
    (why : Objection) (st : Stage) → is_close q ≡ true → SetupAsksFor p q → may_close w.config.least st ≡ true → w.stage ≡ st
    → (a ≡ answer.Stall) × (out ≡ [])
    → w' ≡ record w { stage = InError (objection_code why) } → TransferAddsEvent p q [] (seen a out) rest events →
    StepExtendsRun w w' rest events
refused_close_extends_run w a out w' rest events p (asked.Dnload number len) why (InDownloadIdle taken next) close asks may at says same
    adds =
    let empty : len ≡ 0 = eqb-true len 0 close in
    let served : is_served p (asked.Dnload number len) [] ≡ true =
    eq-eqb 0 (body_length p) (sym (cond-true (p.kind == 0x21) p.length 0 (eq-eqb _ _ asks.0.kind) ∙ sym asks.2 ∙ empty)) in
    let led = stall_row_leads (profile w) p (asked.Dnload number len) [] (InDownloadIdle taken next) (InError (objection_code why)) asks
    served refl
    a out says in
    led_event_extends_run w w' _ rest events adds (
      subst (λ (z : DeviceView). EventLeadsOn (attributes_of (profile w)) (place_of w.stage) (event_of p (asked.Dnload number len) 0 (seen
          a out))
          (place_of z.stage)) (sym same)
          (subst (λ (x : Stage). EventLeadsOn (attributes_of (profile w)) (place_of x) (event_of p (asked.Dnload number len) 0 (seen a out))
          place.Error) (sym at) led),
      subst (λ (z : DeviceView). StageInvariant (profile w) z.stage) (sym same) (objection_code_allowed_in_error (profile w) why),
      ap (λ (z : DeviceView). z.config) same,
    )
refused_close_extends_run w a out w' rest events p (asked.Dnload number len) why st close asks may at says same adds = absurd (false≢true
    may)
refused_close_extends_run w a out w' rest events p q why st close asks may at says same adds = absurd (false≢true close)

-- Each step of a history extends a run of the standard's table.
history_step_extends_run : (w : DeviceView) (cause : Cause) (a : Answer) (out : List ℕ) (w' : DeviceView) (rest events : List LogEvent)
    → NeedsManifestTime (profile w) → StageInvariant (profile w) w.stage → Row w cause a out w' → EventsOfStep cause a out rest events
    → StepExtendsRun w w' rest events
history_step_extends_run w (Transfer setup body) a out w' rest events takes stands row (p, q, reads, asks, adds) =
    request_extends_run w setup body a out w' rest events p q takes stands reads asks row adds
history_step_extends_run w (Passing ms) a out w' rest events takes stands row same =
    let kept = time_plan_moves (profile w) w.stage ms stands in
    let moved = passed_time_moves_device (time_plan (profile w) w.stage ms) (profile w) w.stage w answer.Ack [] w' kept row.2 in (
      λ last run. subst (λ (es : List LogEvent). Run (attributes_of (profile w)) 0 (place_of w.stage) es last) (sym same)
          (move_begins_run (attributes_of (profile w)) 0 (place_of w.stage) (place_of w'.stage) rest last moved.0 run),
      moved.1,
      done_plan_keeps_config _ 0 w answer.Ack [] w' row.2,
    )
history_step_extends_run w BusReset a out w' rest events takes stands row adds =
    subst (λ (z : DeviceView). StepExtendsRun w z rest events) (sym row.2) (
      λ last run. subst (λ (es : List LogEvent). Run (attributes_of (profile w)) 0 (place_of w.stage) es last) (sym adds)
          (reset_leads_run_on (attributes_of (profile w)) w.stage rest last run),
      reset_stage_keeps_invariant (profile w) w.stage,
      refl,
    )
history_step_extends_run w (RefusingClose setup why) a out w' rest events takes stands (stall, none, closes, same) (
  p,
  q,
  reads,
  asks,
  adds,
) =
    refused_close_extends_run w a out w' rest events p q why w.stage (close_setup_asks_for_close setup p q reads asks closes.0) asks
    closes.1 refl (stall, none) same adds
history_step_extends_run w (Refusing why) a out w' rest events takes stands row same =
    let moved = late_refusal_moves_device (profile w) why w.stage stands in
    subst (λ (z : DeviceView). StepExtendsRun w z rest events) (sym row.2) (
      λ last run. subst (λ (es : List LogEvent). Run (attributes_of (profile w)) 0 (place_of w.stage) es last) (sym same)
          (move_begins_run (attributes_of (profile w)) 0 (place_of w.stage) _ rest last moved.0 run),
      moved.1,
      refl,
    )
history_step_extends_run w PowerOn a out w' rest events takes stands row adds =
    subst (λ (z : DeviceView). StepExtendsRun w z rest events) (sym row.2) (
      λ last run. subst (λ (es : List LogEvent). Run (attributes_of (profile w)) 0 (place_of w.stage) es last) (sym adds)
          (power_leads_run_on (attributes_of (profile w)) w.stage rest last run),
      tt,
      refl,
    )

-- The events of each history are a run of the standard's table.
pub histories_conform : HistoriesConform
histories_conform [] events w w' takes stands is none_seen =
    subst (λ (z : DeviceView). Run (attributes_of (profile w)) 0 (place_of w.stage) events (place_of z.stage)
    × StageInvariant (profile z) z.stage) (sym is) (
      subst (λ (es : List LogEvent). Run (attributes_of (profile w)) 0 (place_of w.stage) es (place_of w.stage)) (sym none_seen)
          (inl refl),
      stands,
    )
histories_conform (s ∷ h) events w w' takes stands (begins, row, after) (rest, tells, are_seen) =
    let takes_before : NeedsManifestTime (profile s.before) = subst (λ (z : DeviceView). NeedsManifestTime (profile z)) (sym begins) takes in
    let stands_before : StageInvariant (profile s.before) s.before.stage = subst (λ (z : DeviceView). StageInvariant (profile z) z.stage) (sym begins) stands in
    let (runs, stands_after, config) =
    history_step_extends_run s.before s.cause s.answer s.out s.after rest events takes_before stands_before row tells in
    let takes_after : NeedsManifestTime (profile s.after) =
    subst (λ (x : Setting). NeedsManifestTime (profile_of x (room_of s.after.slots))) (sym config) takes_before in
    let stands_there : StageInvariant (profile s.after) s.after.stage =
    stage_invariant_of_same_config s.before s.after s.after.stage config stands_after in
    let (run, at_last) = histories_conform h rest s.after w' takes_after stands_there after are_seen in
    let run_before : Run (attributes_of (profile s.before)) 0 (place_of s.after.stage) rest (place_of w'.stage) =
    subst (λ (x : Setting). Run (attributes_of (profile_of x (room_of s.before.slots))) 0 (place_of s.after.stage) rest
    (place_of w'.stage)) config run in (
      subst (λ (z : DeviceView). Run (attributes_of (profile z)) 0 (place_of z.stage) events (place_of w'.stage)) begins (runs
          (place_of w'.stage) run_before),
      at_last,
    )
  where
    stage_invariant_of_same_config : (w z : DeviceView) (st : Stage) → z.config ≡ w.config → StageInvariant (profile w) st →
        StageInvariant (profile z) st
    stage_invariant_of_same_config w z InManifestSyncComplete config on = ap (λ (x : Setting). x.functional.tolerant) config ∙ on
    stage_invariant_of_same_config w z (InUploadIdle at number) config on = ap (λ (x : Setting). x.functional.can_upload) config ∙ on
    stage_invariant_of_same_config w z (InError NoFault) config h = absurd h
    stage_invariant_of_same_config w z st config h = tt

-- bmAttributes is below 16.
attributes_below_16 : (d u t w : Bool) → attributes d u t w < 16
attributes_below_16 false false false false = lit< tt
attributes_below_16 true false false false = lit< tt
attributes_below_16 false true false false = lit< tt
attributes_below_16 true true false false = lit< tt
attributes_below_16 false false true false = lit< tt
attributes_below_16 true false true false = lit< tt
attributes_below_16 false true true false = lit< tt
attributes_below_16 true true true false = lit< tt
attributes_below_16 false false false true = lit< tt
attributes_below_16 true false false true = lit< tt
attributes_below_16 false true false true = lit< tt
attributes_below_16 true true false true = lit< tt
attributes_below_16 false false true true = lit< tt
attributes_below_16 true false true true = lit< tt
attributes_below_16 false true true true = lit< tt
attributes_below_16 true true true true = lit< tt

-- A device that begins in appIDLE gives only answers that the standard allows.
pub devices_from_start_conform : DevicesFromStartConform
devices_from_start_conform h events w w' allowed starts is are_seen =
    let c = profile w in
    let idle : StageInvariant c w.stage = subst (λ (st : Stage). StageInvariant c st) (sym starts) tt in
    let run = subst (λ (st : Stage). Run (attributes_of c) 0 (place_of st) events (place_of w'.stage)) starts
    ((histories_conform h events w w' allowed.poll.manifest_takes_time idle is are_seen).0) in (
      run,
      (
        attributes_of c,
        attributes_below_16 c.can_download c.can_upload c.tolerant c.will_detach,
        place_of w'.stage,
        (
          place.AppIdle,
          run,
        ),
      ),
    )
