-- A session after its host receives a result: it is still live, or ends with a report that its facts allow.
use Rattle.std.proofs.Common.{◌≡◌, ◌≢◌, ℕ, zero, suc, pred, Bool, true, false, List, Option, Some, None, refl, sym, ap, subst}
use Rattle.dfu_device.specs.Stage.{Profile, Stage, InAppIdle}
use Rattle.dfu_device.specs.Outcome.{Situation}
use Rattle.dfu_host.specs.declared.report.Report.{Report}
use Rattle.dfu_host.specs.declared.report.Report.TheVariants.{Installed, Unconfirmed, Aborted, RestartsSpent, Uploaded, Verified}
use Rattle.dfu_host.specs.Phases.{Goal, LoadGoal, FetchGoal, VerifyGoal, CompareGoal, Task, Phase, Find, Fetch, GiveUp, Over, OverUploaded, Heard, Part, Restarted, Left}
use Rattle.dfu_host.specs.BehindClose.{is_behind_close}
use Rattle.dfu_host.specs.Table.{host_row, goal_after_reset, goal_after}
use Rattle.dfu_host.specs.Host.{HostState, IsLivePhase, phase_in_budget, host_after_restart, host_after_leaving, host_after_phase, host_after_result as host_told}
use Rattle.dfu_sim.specs.Session.{Machine, LiveSession, NothingLive, LoadingPayload, Fetching, PromisesNothing, ReportStep, reports_nothing, reports_installed, reports_verified, reports_uploaded, reports_no_promise, IsInPlaceReport, ReportsNoPromise}
use Rattle.dfu_sim.specs.LinkView.{NoLiveSession}
use Rattle.dfu_sim.specs.Opening.{task_for}
use Rattle.dfu_sim.specs.Play.{uploaded_after, HostOutcome, settled_session, host_outcome, heard_with_room, has_room}
use Rattle.dfu_sim.specs.LinkAgreement.{pending_of}
use Rattle.dfu_sim.specs.Agreement.{live_session_of_goal, live_session_of, IsLiveOffer}
use Rattle.dfu_sim.specs.Fact.{IsAppIdle, ReportMeaning, GoalFact, HasBlocks, TaskMatchesProfile, SessionFact}
use Rattle.dfu_sim.proofs.MachineReports.{plain_report_is_not_in_place}
use Rattle.dfu_sim.proofs.FateEffects.{UnlessRestarted, memory_keeps_heard_meaning}
use Rattle.dfu_sim.proofs.CommonFacts.{common_phase_has_goal_fact}
use Rattle.dfu_sim.proofs.GoalLaws.{goal_after_phase_has_fact, phase_keeps_live_goal, Next}

-- Session machine with these offers, active image, pending bytes, live session and last upload.
abbrev pub shown : List (List ℕ) → List ℕ → Option (List ℕ) → LiveSession → List ℕ → Machine
shown offers cur pending live up = record { cur = cur; offers = offers; pending = pending; live = live; up = up }

-- The next state of a live host is that of `host_after_result`, because the host is not done.
live_host_takes_heard : (h : HostState) (phase : Phase) (heard : Heard) → IsLivePhase phase → host_after_phase h phase heard
    ≡ host_told h phase heard
live_host_takes_heard h (Over report) heard on = elim on [ ]
live_host_takes_heard h (OverUploaded kept) heard on = elim on [ ]
live_host_takes_heard h phase heard on = refl

-- The task that `task_for` makes has the descriptor's values.
pub task_goes_by_descriptor : (c : Profile) (goal : Goal) → TaskMatchesProfile c (task_for c goal)
task_goes_by_descriptor c goal = record { transfer = refl; tolerant = refl; will_detach = refl; detach_ms = refl }

-- A task with the descriptor's values equals the task that `task_for` makes for its goal.
pub task_of_descriptor_unique : (c : Profile) (task : Task) → TaskMatchesProfile c task → task ≡ task_for c task.goal
task_of_descriptor_unique c task g = λ i. record {
  goal = task.goal;
  transfer = g.transfer i;
  tolerant = g.tolerant i;
  will_detach = g.will_detach i;
  detach_ms = g.detach_ms i;
}

module _ (c : Profile) (offers : List (List ℕ)) where
  -- The outcome of a host that took a result is allowed: the session is still live with its facts, or ended with a report that the session
  -- machine may make.
  pub record TakenOutcomeHolds (s : Situation) (live : LiveSession) (up : List ℕ) (t : HostOutcome) : Type 0 where
    pub says : ReportStep c.tolerant (shown offers s.image (pending_of s.stage) live up) t.answer.report
        (shown offers s.image (pending_of s.stage) (live_session_of t.session) (uploaded_after t.answer.gave up))
    pub fact : SessionFact c s t.session
    pub offer : IsLiveOffer offers (live_session_of t.session)
    pub done : IsInPlaceReport t.answer.report → s.stage ≡ InAppIdle

  live_goal_is_not_none : (g : Goal) → live_session_of_goal g ≢ NothingLive
  live_goal_is_not_none FetchGoal e = cc
  live_goal_is_not_none g e = cc

  -- Outcome of a session that ended with a report and returned no bytes.
  abbrev Ended : Report → HostOutcome
  Ended report = record { session = NoLiveSession; answer = record { report = Some report; gave = None } }

  in_place_end_holds : (i : List ℕ) (stage : Stage) (p up : List ℕ) (report : Report)
      → ReportMeaning c p (record { image = i; stage = stage }) IsAppIdle report
      → TakenOutcomeHolds (record { image = i; stage = stage }) (LoadingPayload p) up (Ended report)
  in_place_end_holds i InAppIdle p up Installed h = record {
    says = reports_installed (ap LoadingPayload (sym h.1)) refl h.0;
    fact = tt;
    offer = tt;
    done = λ e. refl;
  }
  in_place_end_holds i stage p up Installed h = elim h.2 [ ]
  in_place_end_holds i InAppIdle p up Verified h = record {
    says = reports_verified (ap LoadingPayload (sym h.0)) refl;
    fact = tt;
    offer = tt;
    done = λ e. refl;
  }
  in_place_end_holds i stage p up Verified h = elim h.1 [ ]
  in_place_end_holds i stage p up report h = record {
    says = reports_no_promise h (live_goal_is_not_none (LoadGoal p));
    fact = tt;
    offer = tt;
    done = λ e. elim e [ ];
  }

  plain_end_holds : (s : Situation) (g : Goal) (up : List ℕ) (report : Report) → PromisesNothing report
      → TakenOutcomeHolds s (live_session_of_goal g) up (Ended report)
  plain_end_holds s g up report h = record {
    says = reports_no_promise h (live_goal_is_not_none g);
    fact = tt;
    offer = tt;
    done = λ e. absurd (plain_report_is_not_in_place (Some report) h e);
  }

  uploaded_end_holds : (s : Situation) (up kept : List ℕ) → kept ≡ s.image
      → TakenOutcomeHolds s Fetching up (record { session = NoLiveSession; answer = record { report = Some Uploaded; gave = Some kept } })
  uploaded_end_holds s up kept e =
      record {
        says = subst (λ x. ReportStep c.tolerant (shown offers s.image (pending_of s.stage) Fetching up) (Some Uploaded)
            (shown offers s.image (pending_of s.stage) NothingLive x)) (sym e) (reports_uploaded refl);
        fact = tt;
        offer = tt;
        done = λ x. elim x [ ];
      }

  -- Outcome of a host that enters a phase. Without actions left it gives up, unless the phase is an end.
  abbrev budget : Task → Phase → (left again : ℕ) → HostOutcome
  budget task phase left again = let next = phase_in_budget left phase in
      settled_session (record { task = task; phase = next; actions = left; restarts = again }) next

  record TaskLives (task : Task) : Type 0 where
    task_is : TaskMatchesProfile c task
    offer : IsLiveOffer offers (live_session_of_goal task.goal)
    some : HasBlocks c task.goal

  budget_outcome_holds : (s : Situation) (task : Task) (up : List ℕ) (phase : Phase) (left again : ℕ) → TaskLives task → IsLivePhase phase
      → GoalFact c task.goal phase s → TakenOutcomeHolds s (live_session_of_goal task.goal) up (budget task phase left again)
  budget_outcome_holds s task up (Over report) left again v on f = elim on [ ]
  budget_outcome_holds s task up (OverUploaded kept) left again v on f = elim on [ ]
  budget_outcome_holds s task up phase zero again v on f = record {
    says = reports_no_promise tt (live_goal_is_not_none task.goal);
    fact = tt;
    offer = tt;
    done = λ e. elim e [ ];
  }
  budget_outcome_holds s task up phase (suc left) again v on f = record {
    says = reports_nothing;
    fact = record { task_is = v.task_is; on = on; some = v.some; fact = f };
    offer = v.offer;
    done = λ e. elim e [ ];
  }

  ended_session_outcome_holds : (s : Situation) (g : Goal) (up : List ℕ) (report : Report) → GoalFact c g (Over report) s
      → TakenOutcomeHolds s (live_session_of_goal g) up (Ended report)
  ended_session_outcome_holds s FetchGoal up report f = plain_end_holds s FetchGoal up report f
  ended_session_outcome_holds s g up report f = in_place_end_holds s.image s.stage _ up report f

  kept_well : (s : Situation) (g : Goal) (up kept : List ℕ) → GoalFact c g (OverUploaded kept) s
      → TakenOutcomeHolds s (live_session_of_goal g) up (record {
        session = NoLiveSession;
        answer = record {
          report = Some Uploaded;
          gave =
              Some kept;
        };
      })
  kept_well s FetchGoal up kept f = uploaded_end_holds s up kept f
  kept_well s g up kept f = elim f [ ]

  spent_budget_outcome_holds : (s : Situation) (task : Task) (up : List ℕ) (phase : Phase) (left again : ℕ) → TaskLives task
      → GoalFact c task.goal phase s → TakenOutcomeHolds s (live_session_of_goal task.goal) up (budget task phase left again)
  spent_budget_outcome_holds s task up (Over report) left again v f = ended_session_outcome_holds s task.goal up report f
  spent_budget_outcome_holds s task up (OverUploaded kept) left again v f = kept_well s task.goal up kept f
  spent_budget_outcome_holds s task up phase left again v f = budget_outcome_holds s task up phase left again v tt f

  restarted_host_outcome_holds : (s : Situation) (h : HostState) (up : List ℕ) (phase : Phase) (again : ℕ) → TaskLives h.task
      → let q = host_after_restart h phase again in TakenOutcomeHolds s (live_session_of_goal h.task.goal) up (settled_session q q.phase)
  restarted_host_outcome_holds s h up GiveUp again v = plain_end_holds s h.task.goal up Aborted tt
  restarted_host_outcome_holds s h up phase zero v = plain_end_holds s h.task.goal up RestartsSpent tt
  restarted_host_outcome_holds s h up phase (suc again) v = budget_outcome_holds s h.task up Find (pred h.actions) again v tt
      (common_phase_has_goal_fact c h.task.goal s Find tt)

  -- If a live host learns of a restart, the facts hold for its outcome.
  pub restart_outcome_holds : (s : Situation) (h : HostState) (up : List ℕ) → IsLivePhase h.phase → TaskMatchesProfile c h.task
      → IsLiveOffer offers (live_session_of_goal h.task.goal)
      → HasBlocks c h.task.goal → TakenOutcomeHolds s (live_session_of_goal h.task.goal) up (host_outcome h Restarted)
  restart_outcome_holds s h up on e o some =
      subst (λ (q : HostState). TakenOutcomeHolds s (live_session_of_goal h.task.goal) up (settled_session q q.phase)) (sym
      (live_host_takes_heard h h.phase Restarted on))
      (restarted_host_outcome_holds s h up h.phase h.restarts (record { task_is = e; offer = o; some = some }))

  checked_task_lives : (g : Goal) → TaskLives (task_for c g) → TaskLives (task_for c (goal_after_reset g))
  checked_task_lives (VerifyGoal p) v = record { task_is = task_goes_by_descriptor c (CompareGoal p); offer = v.offer; some = v.some }
  checked_task_lives g v = v

  last_reset_outcome_holds : (s : Situation) (g : Goal) (up : List ℕ) (phase : Phase) (left again : ℕ) → TaskLives (task_for c g)
      → let q = host_after_leaving (record { task = task_for c g; phase = phase; actions = left; restarts = again }) phase true in
      TakenOutcomeHolds s (live_session_of_goal g) up (settled_session q q.phase)
  last_reset_outcome_holds s (VerifyGoal p) up phase left again v = budget_outcome_holds s (task_for c (CompareGoal p)) up Find (pred left)
      again
      (checked_task_lives (VerifyGoal p) v) tt (common_phase_has_goal_fact c (CompareGoal p) s Find tt)
  last_reset_outcome_holds s g up phase left again v = plain_end_holds s g up Unconfirmed tt

  -- If the host receives Left, because its device left the bus by itself, the facts hold for its outcome. No event of a link leads to this
  -- result.
  left_device_outcome_holds : (s : Situation) (g : Goal) (up : List ℕ) (phase : Phase) (left again : ℕ) (behind : Bool) →
      TaskLives (task_for c g)
      → let q = host_after_leaving (record { task = task_for c g; phase = phase; actions = left; restarts = again }) phase behind in
      TakenOutcomeHolds s (live_session_of_goal g) up (settled_session q q.phase)
  left_device_outcome_holds s g up phase left again true v = last_reset_outcome_holds s g up phase left again v
  left_device_outcome_holds s g up phase left again false v =
      restarted_host_outcome_holds s (record { task = task_for c g; phase = phase; actions = left; restarts = again }) up phase again v

  -- If the facts hold after a part was fetched, they hold whether or not there is memory for the part.
  part_without_memory_holds : (g : Goal) (k : ℕ) (kept : List ℕ) (s d : Situation) (room : Bool) (heard : Heard) →
      GoalFact c g (Fetch k kept) s
      → UnlessRestarted heard (Next c g d (Fetch k kept)) → UnlessRestarted (heard_with_room heard room) (Next c g d (Fetch k kept))
  part_without_memory_holds FetchGoal k kept s d false (Part bytes) f n = tt
  part_without_memory_holds FetchGoal k kept s d true heard f n = subst (λ (x : Heard). UnlessRestarted x (Next c FetchGoal d (Fetch k
      kept))) (memory_keeps_heard_meaning heard) n
  part_without_memory_holds FetchGoal k kept s d false heard f n = n
  part_without_memory_holds g k kept s d room heard f n = elim f [ ]

  -- A host that learns of a restart makes no report, or one that promises nothing.
  restarted_host_promises_nothing : (h : HostState) (phase : Phase) (again : ℕ) → let q = host_after_restart h phase again in
      ReportsNoPromise (settled_session q q.phase).answer.report
  restarted_host_promises_nothing h GiveUp again = tt
  restarted_host_promises_nothing h phase zero = tt
  restarted_host_promises_nothing h phase (suc again) = elim (pred h.actions) as (λ left. ReportsNoPromise (budget h.task Find left
      again).answer.report)
      [ zero ↦ tt | suc left ↦ tt ]

  -- A live host that learns of a restart makes no report that promises anything.
  pub restart_report_promises_nothing : (h : HostState) → IsLivePhase h.phase → ReportsNoPromise (host_outcome h Restarted).answer.report
  restart_report_promises_nothing h on =
      subst (λ (q : HostState). ReportsNoPromise (settled_session q q.phase).answer.report) (sym (live_host_takes_heard h h.phase Restarted
      on))
      (restarted_host_promises_nothing h h.phase h.restarts)

  module _ (g : Goal) where
    -- Host with the task for goal `g`, in this phase, that may still perform `left` actions and survive `again` restarts.
    abbrev At : Phase → (left again : ℕ) → HostState
    At phase left again = record { task = task_for c g; phase = phase; actions = left; restarts = again }

    row_outcome_holds : (s : Situation) (up : List ℕ) (phase : Phase) (left again : ℕ) (heard : Heard) → TaskLives (task_for c g)
        → Next c g s phase heard → TakenOutcomeHolds s (live_session_of_goal g) up
        (budget (task_for c (goal_after g phase heard)) (host_row (task_for c g) phase heard) (pred left) again)
    row_outcome_holds s up phase left again heard v n =
        let next = goal_after g phase heard in
        let lives : TaskLives (task_for c next) = goal_after_phase_has_fact (λ x. TaskLives (task_for c x)) g v (checked_task_lives g v)
        phase heard in
        subst (λ (x : LiveSession). TakenOutcomeHolds s x up (budget (task_for c next) (host_row (task_for c g) phase heard) (pred left)
        again))
        (phase_keeps_live_goal g phase heard) (spent_budget_outcome_holds s (task_for c next) up (host_row (task_for c g) phase heard)
        (pred left) again lives n)

    told_host_outcome_holds : (s : Situation) (up : List ℕ) (phase : Phase) (left again : ℕ) (heard : Heard) → TaskLives (task_for c g)
        → UnlessRestarted heard (Next c g s phase) → let q = host_told (At phase left again) phase heard in
        TakenOutcomeHolds s (live_session_of_goal g) up (settled_session q q.phase)
    told_host_outcome_holds s up phase left again Restarted v n = restarted_host_outcome_holds s (At phase left again) up phase again v
    told_host_outcome_holds s up phase left again Left v n = left_device_outcome_holds s g up phase left again (is_behind_close g phase) v
    told_host_outcome_holds s up phase left again heard v n = row_outcome_holds s up phase left again heard v n

    -- If the facts hold after the host receives a result in a phase, they hold whether or not there is memory for a part.
    heard_with_room_holds : (phase : Phase) (s d : Situation) (room : Bool) (heard : Heard) → GoalFact c g phase s →
        UnlessRestarted heard (Next c g d phase)
        → UnlessRestarted (heard_with_room heard (has_room phase room)) (Next c g d phase)
    heard_with_room_holds (Fetch k kept) s d room heard f n = part_without_memory_holds g k kept s d room heard f n
    heard_with_room_holds phase s d room heard f n = subst (λ (x : Heard). UnlessRestarted x (Next c g d phase))
        (memory_keeps_heard_meaning heard) n

    -- If the facts hold after a live host receives a result, the session machine allows the host's outcome, and the facts hold for that
    -- outcome.
    pub goal_outcome_holds : (s d : Situation) (up : List ℕ) (phase : Phase) (left again : ℕ) (room : Bool) (heard : Heard) →
        IsLivePhase phase
        → IsLiveOffer offers (live_session_of_goal g) → HasBlocks c g → GoalFact c g phase s → UnlessRestarted heard (Next c g d phase)
        → TakenOutcomeHolds d (live_session_of_goal g) up (host_outcome (At phase left again) (heard_with_room heard (has_room phase room)))
    goal_outcome_holds s d up phase left again room heard on o some f n =
        let x = heard_with_room heard (has_room phase room) in
        subst (λ (q : HostState). TakenOutcomeHolds d (live_session_of_goal g) up (settled_session q q.phase)) (sym (live_host_takes_heard
        (At phase left again) phase x on))
        (told_host_outcome_holds d up phase left again x (record { task_is = task_goes_by_descriptor c g; offer = o; some = some })
        (heard_with_room_holds phase s d room heard f n))
