-- Session facts after a restart of the board while the host resets the bus. The host only learns that its reset is complete.
use Rattle.std.specs.Prelude.{◌≡◌, ℕ, Bool, true, false, if◌then◌else◌, List, [], ◌∷◌, Option, Some, None}
use Rattle.std.proofs.Common.{inl, refl, sym, ap, ◌∙◌, subst}
use Rattle.dfu_slots.specs.StoreView.{fuse_changes_nothing_visible}
use Rattle.dfu_device.specs.declared.answer.Answer.TheVariants as answer
use Rattle.dfu_device.specs.Stage.{Profile, InAppIdle}
use Rattle.dfu_device.specs.Outcome.{Situation, situation_after_power}
use Rattle.dfu_device.specs.DeviceView.{DeviceView, profile, situation}
use Rattle.dfu_device.specs.Rows.{Cause, PowerOn, Row}
use Rattle.dfu_host.specs.declared.report.Report.{Report}
use Rattle.dfu_host.specs.declared.report.Report.TheVariants.{Installed, Uploaded, Verified}
use Rattle.dfu_host.specs.Phases.{Goal, LoadGoal, FetchGoal, VerifyGoal, CompareGoal, Task, Phase, Find, Enter, ResetFind, LastUploaded, Last, Reset, Heard, WasReset}
use Rattle.dfu_host.specs.Table.{deed, on_waited, on_reset}
use Rattle.dfu_host.specs.Host.{HostState}
use Rattle.dfu_sim.specs.Session.{Machine, LoadingPayload, takes_nothing, drops_nothing, ReportStep, IsInPlaceReport, ActionKind, MachineStep, goes}
use Rattle.dfu_sim.specs.Opening.{task_for}
use Rattle.dfu_sim.specs.Play.{uploaded_after, host_outcome}
use Rattle.dfu_sim.specs.LinkView.{HostSession}
use Rattle.dfu_sim.specs.Agreement.{live_session_of, live_session_of_goal, IsLiveOffer}
use Rattle.dfu_sim.specs.Fact.{IsDfuIdle, IsAppIdle, ReportMeaning, GoalFact, HostFact}
use Rattle.dfu_sim.proofs.CommonFacts.{common_phase_has_goal_fact}
use Rattle.dfu_sim.proofs.GoalLaws.{Next}
use Rattle.dfu_sim.proofs.MachineReports.{in_place_step_had_live_payload, uploaded_step_gives_active_image}
use Rattle.dfu_sim.proofs.HeardResults.{TakenOutcomeHolds, goal_outcome_holds, task_of_descriptor_unique}
use Rattle.dfu_laws.specs.board.Board.{Board, Event, Restart, Answers, BoardStep}
use Rattle.dfu_laws.specs.board.Happens.{IsRun}
use Rattle.dfu_laws.specs.board.Refines.{EventRows, IsIdleBoard, RepresentsDevice, IdleRunsRefineTable}
use Rattle.dfu_laws.proofs.link.Timed.{ImageKeptOrOffered}
use Rattle.dfu_laws.proofs.link.BoardCalls.{answered_call_rows, history_of_one_row}
use Rattle.dfu_laws.proofs.link.Fixed.{row_keeps_profile}
use Rattle.dfu_laws.proofs.link.ActionFacts.{FactsAfterAction, report_keeps_or_ends_session, outcome_gives_with_uploaded}

-- A board restarted in appIDLE. Its device has the same image and profile as before.
pub record RestartedInAppIdle (d : DeviceView) (b' : Board) : Type 0 where
  pub device : DeviceView
  -- The board represents this device, without pending writes.
  pub idle : IsIdleBoard b' device
  -- The image and the state are those after a loss of power.
  pub same : situation device ≡ situation_after_power (situation d)
  pub fixed : profile device ≡ profile d

-- A power on changes only the state of the device.
power_row_keeps_image : (d d' : DeviceView) → Row d PowerOn answer.Ack [] d' → situation d' ≡ situation_after_power (situation d)
power_row_keeps_image d d' row = ap situation row.2
    ∙ (λ k. record { image = (fuse_changes_nothing_visible d.slots d.slots.medium.fuse [] 0).image k; stage = InAppIdle })

-- A board without pending writes restarts in appIDLE.
pub idle_board_restarts_in_app_idle : IdleRunsRefineTable → (b b' : Board) (d : DeviceView) (power : BoardStep) → IsIdleBoard b d →
    IsRun b (power ∷ []) b'
    → power.event ≡ Restart false → RestartedInAppIdle d b'
idle_board_restarts_in_app_idle refines b b' d power k run event =
    let r = refines b b' d (power ∷ []) k run in
    let (first, later, mid, are, t, more) = r.tells in
    let told = subst (λ (x : Event). EventRows None x power.says first mid) event t in
    let one = answered_call_rows PowerOn None mid r.due
    (Answers answer.Ack []) answer.Ack [] r.rows first later refl told are more.0 more.1 in
    let row = history_of_one_row d r.device PowerOn answer.Ack [] r.rows one.0 r.history in
    record {
      device = r.device;
      idle = subst (λ (x : Option Cause). RepresentsDevice b' x r.device) one.1 r.stands;
      same = power_row_keeps_image d r.device row;
      fixed = row_keeps_profile d r.device PowerOn answer.Ack [] row;
    }

-- If a report is true for a device in dfuIDLE, it is true for the device in appIDLE after the power on.
report_meaning_after_power : (c : Profile) (p : List ℕ) (s : Situation) (report : Report) → ReportMeaning c p s IsDfuIdle report
    → ReportMeaning c p (situation_after_power s) IsAppIdle report
report_meaning_after_power c p s Installed f = (f.0, f.1, tt)
report_meaning_after_power c p s Verified f = (f.0, tt)
report_meaning_after_power c p s report f = f

in_place_report_has_live_payload : {tolerant : Bool} {m m' : Machine} {report : Option Report} → ReportStep tolerant m report m' →
    IsInPlaceReport report
    → m.live ≡ LoadingPayload m'.cur
in_place_report_has_live_payload {tolerant = tolerant} {m = m} {m' = m'} {report = report} s e =
    let step : MachineStep tolerant 0 ActionKind m report m' = goes takes_nothing drops_nothing s in in_place_step_had_live_payload step e

uploaded_report_has_image : {tolerant : Bool} {m m' : Machine} {report : Option Report} → ReportStep tolerant m report m' → report
    ≡ Some Uploaded
    → m'.up ≡ m'.cur
uploaded_report_has_image {tolerant = tolerant} {m = m} {m' = m'} {report = report} s e =
    let step : MachineStep tolerant 0 ActionKind m report m' = goes takes_nothing drops_nothing s in uploaded_step_gives_active_image step e

module _ (c : Profile) (past : List (List ℕ)) where
  -- In phase Enter, the facts of a host hold for any device.
  pub enter_fact_of_any_device : (s s' : Situation) (h : HostState) → HostFact c s h → h.phase ≡ Enter → HostFact c s' h
  enter_fact_of_any_device s s' h f enters = record {
    task_is = f.task_is;
    on = f.on;
    some = f.some;
    fact = subst (λ (p : Phase). GoalFact c h.task.goal p s') (sym enters) (common_phase_has_goal_fact c h.task.goal s' Enter tt);
  }

  enter_leads_to_goal_fact : (g : Goal) (s : Situation) (b : Bool)
      → GoalFact c g (if b then on_waited WasReset Find Enter else on_reset WasReset Find Enter) s
  enter_leads_to_goal_fact g s true = common_phase_has_goal_fact c g s Enter tt
  enter_leads_to_goal_fact g s false = common_phase_has_goal_fact c g s Find tt

  last_reset_leads_to_next : (g : Goal) (s : Situation) (report : Report) → GoalFact c g (Last report) s →
      Next c g (situation_after_power s) (Last report) WasReset
  last_reset_leads_to_next (LoadGoal p) s report f = report_meaning_after_power c p s report f
  last_reset_leads_to_next FetchGoal s report f = elim f [ ]
  last_reset_leads_to_next (VerifyGoal p) s report f = tt
  last_reset_leads_to_next (CompareGoal p) s report f = report_meaning_after_power c p s report f

  last_uploaded_leads_to_next : (g : Goal) (s : Situation) (kept : List ℕ) → GoalFact c g (LastUploaded kept) s
      → Next c g (situation_after_power s) (LastUploaded kept) WasReset
  last_uploaded_leads_to_next FetchGoal s kept f = f.0
  last_uploaded_leads_to_next g s kept f = elim f [ ]

  -- If the host resets the bus, the facts of its next phase hold for the device in appIDLE with the same image.
  own_reset_leads_to_next : (g : Goal) (phase : Phase) (s : Situation) → deed (task_for c g) phase ≡ Reset → GoalFact c g phase s
      → Next c g (situation_after_power s) phase WasReset
  own_reset_leads_to_next g Enter s is f = enter_leads_to_goal_fact g (situation_after_power s) c.will_detach
  own_reset_leads_to_next g ResetFind s is f = common_phase_has_goal_fact c g (situation_after_power s) Find tt
  own_reset_leads_to_next g (LastUploaded kept) s is f = last_uploaded_leads_to_next g s kept f
  own_reset_leads_to_next g (Last report) s is f = last_reset_leads_to_next g s report f
  own_reset_leads_to_next g phase s is f = absurd (cc)

  -- If the image is unchanged or was offered, and `TakenOutcomeHolds` holds for the host's outcome, the session facts hold again.
  heard_keeps_session_facts : (s s' : Situation) (h : HostState) (heard : Heard) → ImageKeptOrOffered past s s'
      → TakenOutcomeHolds c past s' (live_session_of_goal h.task.goal) [] (host_outcome h heard) →
      FactsAfterAction c past (HostSession h) s s' (host_outcome h heard)
  heard_keeps_session_facts s s' h heard device t = record {
    device = device;
    fact = t.fact;
    live = report_keeps_or_ends_session t.says;
    offered = t.offer;
    done = λ e. (t.done e, in_place_report_has_live_payload t.says e);
    gives = λ bytes e. sym (ap (λ (gave : Option (List ℕ)). uploaded_after gave []) e)
        ∙ uploaded_report_has_image t.says (outcome_gives_with_uploaded h heard bytes e);
  }

  -- Host in phase Enter.
  abbrev entering_host : Goal → (left again : ℕ) → HostState
  entering_host g left again = record { task = task_for c g; phase = Enter; actions = left; restarts = again }

  -- If a live host in phase Enter completes its reset, the session facts hold again, for any state of the device.
  pub enter_reset_keeps_facts : (s s' : Situation) (h : HostState) → IsLiveOffer past (live_session_of (HostSession h)) →
      HostFact c s h → h.phase ≡ Enter
      → ImageKeptOrOffered past s s' → FactsAfterAction c past (HostSession h) s s' (host_outcome h WasReset)
  enter_reset_keeps_facts s s' h offered f enters device =
      let q = entering_host h.task.goal h.actions h.restarts in
      let same : q ≡ h = λ i. record {
        task = sym (task_of_descriptor_unique c h.task f.task_is) i;
        phase = sym enters i;
        actions = h.actions;
        restarts = h.restarts;
      } in
      subst (λ (x : HostState). FactsAfterAction c past (HostSession x) s s' (host_outcome x WasReset)) same
      (heard_keeps_session_facts s s' q WasReset device
      (goal_outcome_holds c past h.task.goal s s' [] Enter h.actions h.restarts true WasReset tt offered f.some
      (common_phase_has_goal_fact c h.task.goal s Enter tt)
      (enter_leads_to_goal_fact h.task.goal s' c.will_detach)))

  -- A power on does not change the image, and leaves no image pending.
  power_keeps_image : (s : Situation) → ImageKeptOrOffered past s (situation_after_power s)
  power_keeps_image s = record { image = inl refl; sound = tt }

  -- If a live host completes its reset, and the device is in appIDLE with the same image, the session facts hold again.
  pub own_reset_keeps_facts : (s s' : Situation) (h : HostState) → IsLiveOffer past (live_session_of (HostSession h)) → HostFact c s h
      → deed h.task h.phase ≡ Reset → s' ≡ situation_after_power s → FactsAfterAction c past (HostSession h) s s' (host_outcome h WasReset)
  own_reset_keeps_facts s s' h offered f is back =
      let task : h.task ≡ task_for c h.task.goal = task_of_descriptor_unique c h.task f.task_is in
      let at : HostState = record { task = task_for c h.task.goal; phase = h.phase; actions = h.actions; restarts = h.restarts } in
      let same : at ≡ h = λ i. record { task = sym task i; phase = h.phase; actions = h.actions; restarts = h.restarts } in
      let resets : deed (task_for c h.task.goal) h.phase ≡ Reset = subst (λ (t : Task). deed t h.phase ≡ Reset) task is in
      let t = goal_outcome_holds c past h.task.goal s (situation_after_power s) [] h.phase h.actions h.restarts true WasReset f.on offered
      f.some f.fact
      (own_reset_leads_to_next h.task.goal h.phase s resets f.fact) in
      subst (λ (z : Situation). FactsAfterAction c past (HostSession h) s z (host_outcome h WasReset)) (sym back)
      (subst (λ (q : HostState). FactsAfterAction c past (HostSession q) s (situation_after_power s) (host_outcome q WasReset)) same
      (heard_keeps_session_facts s (situation_after_power s) at WasReset (power_keeps_image s) t))
