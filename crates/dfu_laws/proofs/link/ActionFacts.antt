-- Session facts after a host's action, or after a restart that the host receives.
use Rattle.std.specs.Prelude.{◌≡◌, ◌⊎◌, ℕ, ◌<◌, Bool, IsTrue, List, [], ◌∷◌, ◌++◌, Option, Some}
use Rattle.std.proofs.Common.{inl, inr, refl, sym, ap, ◌∙◌, subst}
use Rattle.dfu_device.specs.declared.answer.Answer.TheVariants as answer
use Rattle.dfu_device.specs.Stage.{Profile, Stage, InAppIdle, InAppDetach, InDownloadBusy, InManifest}
use Rattle.dfu_device.specs.Table.{time_plan}
use Rattle.dfu_device.specs.Outcome.{Situation}
use Rattle.dfu_device.specs.DeviceView.{DeviceView, profile, situation}
use Rattle.dfu_device.specs.Rows.{Done, Elapses}
use Rattle.dfu_host.specs.declared.report.Report.{Report}
use Rattle.dfu_host.specs.declared.report.Report.TheVariants.{Uploaded}
use Rattle.dfu_host.specs.Phases.{Phase, Over, OverUploaded, Heard, NoRoom, Restarted}
use Rattle.dfu_host.specs.Table.{deed}
use Rattle.dfu_host.specs.Host.{HostState, after, wants_memory}
use Rattle.dfu_sim.specs.Session.{Machine, NothingLive, LoadingPayload, IsOneOf, IsInPlaceReport, ReportsNoPromise, ReportStep, reports_nothing, report_list, ActionKind, MachineStep, goes, stops, and_then}
use Rattle.dfu_sim.specs.Happening.{Fate, Pass, Goes, no_write_harmed}
use Rattle.dfu_sim.specs.Delivery.{delivery_of}
use Rattle.dfu_sim.specs.Play.{uploaded_after, HostOutcome, settled_session, host_outcome, notify_restart, situation_after_harm, action_result, Play}
use Rattle.dfu_sim.specs.LinkView.{Session, NoLiveSession, HostSession}
use Rattle.dfu_sim.specs.Bytes.{ActionDelivered}
use Rattle.dfu_sim.specs.Agreement.{live_session_of, IsLiveOffer}
use Rattle.dfu_sim.specs.LinkAgreement.{pending_of, ClosedWasOffered, Agrees}
use Rattle.dfu_sim.specs.Fact.{HostFact, SessionFact}
use Rattle.dfu_sim.specs.Simulation.{Simulation, ActiveImageWasOffered}
use Rattle.dfu_sim.proofs.Replies.{phase_has_host_deed}
use Rattle.dfu_sim.proofs.Actions.{Went, action_moves_device}
use Rattle.dfu_sim.proofs.MachineReports.{taking_keeps_live_session, dropping_keeps_live_session, plain_report_is_not_in_place, uploaded_step_gives_active_image}
use Rattle.dfu_sim.proofs.HeardResults.{restart_outcome_holds, restart_report_promises_nothing}
use Rattle.dfu_sim.proofs.Projected.{heard_in}
use Rattle.dfu_laws.proofs.link.Timed.{ImageKeptOrOffered}

-- The live session is the one before the action, or no session is live.
abbrev pub SessionStaysOrEnds : Session → Session → Type 0
SessionStaysOrEnds before now = (live_session_of now ≡ live_session_of before) ⊎ (live_session_of now ≡ NothingLive)

pub report_keeps_or_ends_session : {tolerant : Bool} {m m' : Machine} {report : Option Report} → ReportStep tolerant m report m'
    → (m'.live ≡ m.live) ⊎ (m'.live ≡ NothingLive)
report_keeps_or_ends_session reports_nothing = inl refl
report_keeps_or_ends_session s = inr refl

go_keeps_or_ends_session : {tolerant : Bool} {t : ℕ} {m m' : Machine} {report : Option Report} →
    MachineStep tolerant t ActionKind m report m'
    → (m'.live ≡ m.live) ⊎ (m'.live ≡ NothingLive)
go_keeps_or_ends_session (goes b d s) = elim (report_keeps_or_ends_session s) [
  | inl same ↦ inl (same ∙ dropping_keeps_live_session d ∙ taking_keeps_live_session b)
  | inr none ↦ inr none
]

-- A session took a result, and the device changed from the situation s to s'. The session facts hold again, and the session is still live,
-- or over. After Installed or Verified, the session's payload is the active image, and the state is appIDLE.
pub record FactsAfterAction (c : Profile) (past : List (List ℕ)) (before : Session) (s s' : Situation) (t : HostOutcome) : Type 0 where
  -- The image of the device is unchanged, or is a payload that was offered.
  pub device : ImageKeptOrOffered past s s'
  pub fact : SessionFact c s' t.session
  pub live : SessionStaysOrEnds before t.session
  -- The payload of a live session was offered.
  pub offered : IsLiveOffer past (live_session_of t.session)
  -- After Installed or Verified, the payload is the active image of a device in appIDLE.
  pub done : IsInPlaceReport t.answer.report → (s'.stage ≡ InAppIdle) × (live_session_of before ≡ LoadingPayload s'.image)
  -- The bytes of a report are the active image.
  pub gives : (bytes : List ℕ) → t.answer.gave ≡ Some bytes → bytes ≡ s'.image

-- A report has bytes only if it is Uploaded.
given_bytes_come_with_uploaded : (h : HostState) (phase : Phase) (bytes : List ℕ) → (settled_session h phase).answer.gave ≡ Some bytes
    → (settled_session h phase).answer.report ≡ Some Uploaded
given_bytes_come_with_uploaded h (OverUploaded kept) bytes e = refl
given_bytes_come_with_uploaded h (Over report) bytes e = absurd (cc)
given_bytes_come_with_uploaded h phase bytes e = absurd (cc)

-- An outcome of a host has bytes only with the report Uploaded.
abbrev pub GivesBytesWithUploaded : HostOutcome → Type 0
GivesBytesWithUploaded t = (bytes : List ℕ) → t.answer.gave ≡ Some bytes → t.answer.report ≡ Some Uploaded

pub outcome_gives_with_uploaded : (h : HostState) (heard : Heard) → GivesBytesWithUploaded (host_outcome h heard)
outcome_gives_with_uploaded h heard bytes e = given_bytes_come_with_uploaded (after h heard) (after h heard).phase bytes e

module _ (simulation : Simulation) (only : ActiveImageWasOffered) (c : Profile) (sized : 0 < c.transfer) (past : List (List ℕ)) where
  -- Session machine of a link, with the payloads offered so far.
  abbrev pub machine_of_link : Situation → Session → Machine
  machine_of_link s session =
      record { cur = s.image; offers = past; pending = pending_of s.stage; live = live_session_of session; up = [] }

  -- If the live payload and any pending image were offered, the session machine agrees with the link.
  pub agrees : (s : Situation) (session : Session) → ClosedWasOffered past s.stage → IsLiveOffer past (live_session_of session)
      → Agrees (record { device = s; session = session }) [] (machine_of_link s session)
  agrees s session sound offered =
      record { cur = refl; pending = refl; live = refl; up_is = refl; sound = sound; offered = offered }

  -- After an action of the host in which no write fails, the session facts hold again.
  play_keeps_session_facts : (s s' : Situation) (h : HostState) (t : HostOutcome) (fate : Fate) → GivesBytesWithUploaded t →
      ClosedWasOffered past s.stage
      → IsLiveOffer past (live_session_of (HostSession h)) → SessionFact c s (HostSession h)
      → Play c (record { device = s; session = HostSession h }) (Goes fate no_write_harmed) (record { device = s'; session = t.session })
      t.answer
      → FactsAfterAction c past (HostSession h) s s' t
  play_keeps_session_facts s s' h t fate uploaded sound offered f p =
      let m = machine_of_link s (HostSession h) in
      let x = simulation c (record { device = s; session = HostSession h }) (record { device = s'; session = t.session }) [] m
      (Goes fate no_write_harmed) t.answer sized f (agrees s (HostSession h) sound offered) p in
      let y = only c.tolerant c.transfer m x.after (ActionKind ∷ []) (report_list t.answer.report ++ []) (and_then x.step stops) in
      record {
        device = record {
          image = subst (λ (i : List ℕ). (i ≡ s.image) ⊎ IsOneOf i past) x.agrees.cur y.1;
          sound = subst (λ (o : List (List ℕ)). ClosedWasOffered o s'.stage) y.0 x.agrees.sound;
        };
        fact = x.fact;
        live = elim (go_keeps_or_ends_session x.step) [
          | inl same ↦ inl (sym x.agrees.live ∙ same)
          | inr none ↦ inr (sym x.agrees.live ∙ none)
        ];
        offered = subst (λ (o : List (List ℕ)). IsLiveOffer o (live_session_of t.session)) y.0 x.agrees.offered;
        done = x.in_place;
        gives = λ bytes e. sym (ap (λ (gave : Option (List ℕ)). uploaded_after gave []) e) ∙ sym x.agrees.up_is
            ∙ uploaded_step_gives_active_image x.step (uploaded bytes e) ∙ x.agrees.cur;
      }

  -- After an action in which a write may fail, but only by a fault of the medium, the session facts hold again.
  pub action_keeps_session_facts : (w w' : DeviceView) (h : HostState) (heard : Heard) (fate : Fate) → profile w ≡ c →
      ClosedWasOffered past w.stage
      → IsLiveOffer past (live_session_of (HostSession h)) → SessionFact c (situation w) (HostSession h)
      → (delivery_of fate).harming ≡ (delivery_of Pass).harming → ActionDelivered (deed h.task h.phase) (delivery_of fate) w w' heard
      → (heard ≡ NoRoom → IsTrue (wants_memory h.phase)) → FactsAfterAction c past (HostSession h) (situation w) (situation w')
      (host_outcome h heard)
  action_keeps_session_facts w w' h heard fate e sound offered f whole acts room =
      let d = deed h.task h.phase in
      let x = subst (λ (p : Profile). Went w.slots.medium.fuse p (situation w) d (delivery_of fate) w' heard) e
      (action_moves_device d (delivery_of fate) w w' heard (phase_has_host_deed h.task h.phase) acts) in
      let hears = heard_in h.phase heard _ x.room x.hears room in
      let there : (action_result c (situation w) d (delivery_of fate) x.first x.second).device ≡ situation w' =
      x.device ∙ ap (λ harming. situation_after_harm harming (situation w')) whole in
      play_keeps_session_facts (situation w) (situation w') h (host_outcome h heard) fate (outcome_gives_with_uploaded h heard) sound
      offered f (record {
        allowed = tt;
        first = x.first;
        second = x.second;
        room = x.room;
        same = λ i. record {
          link = record { device = there i; session = (host_outcome h (sym hears i)).session };
          answer = (host_outcome h (sym hears i)).answer;
        };
      })

  restart_keeps_session_facts : (s s' : Situation) (h : HostState) → IsLiveOffer past (live_session_of (HostSession h)) →
      HostFact c s h → ImageKeptOrOffered past s s'
      → FactsAfterAction c past (HostSession h) s s' (host_outcome h Restarted)
  restart_keeps_session_facts s s' h offered f device =
      let t = restart_outcome_holds c past s' h [] f.on f.task_is offered f.some in
      record {
        device = device;
        fact = t.fact;
        live = report_keeps_or_ends_session t.says;
        offered = t.offer;
        done = λ e. absurd (plain_report_is_not_in_place (host_outcome h Restarted).answer.report (restart_report_promises_nothing c past h
            f.on) e);
        gives = λ bytes e. absurd (subst ReportsNoPromise (outcome_gives_with_uploaded h Restarted bytes e)
            (restart_report_promises_nothing c past h f.on));
      }

  -- If a live host receives a restart, the session facts hold again, in any state of the device.
  pub told_host_keeps_facts : (s s' : Situation) (session : Session) → IsLiveOffer past (live_session_of session) → SessionFact c s session
      → ImageKeptOrOffered past s s' → FactsAfterAction c past session s s' (notify_restart session)
  told_host_keeps_facts s s' NoLiveSession offered f device =
      record { device = device; fact = tt; live = inl refl; offered = tt; done = λ e. elim e [ ]; gives = λ bytes e. absurd (cc) }
  told_host_keeps_facts s s' (HostSession h) offered f device = restart_keeps_session_facts s s' h offered f device

no_time_plan_done : (c : Profile) (w : DeviceView) (stage : Stage) → w.stage ≡ stage → Done (time_plan c stage 0) 0 w answer.Ack [] w
no_time_plan_done c w (InAppDetach timer passed) e = ((refl, refl), λ i. record w { stage = e i })
no_time_plan_done c w (InDownloadBusy before block number passed) e = ((refl, refl), λ i. record w { stage = e i })
no_time_plan_done c w (InManifest taken passed) e = ((refl, refl), λ i. record w { stage = e i })
no_time_plan_done c w stage e = ((refl, refl), λ i. record w { stage = e i })

-- If 0 ms pass, a device does not change.
pub zero_time_keeps_device : (w : DeviceView) → Elapses 0 w w
zero_time_keeps_device w = no_time_plan_done (profile w) w w.stage refl
