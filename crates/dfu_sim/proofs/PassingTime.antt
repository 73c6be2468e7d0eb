-- Time that passes between the actions of a host.
use Rattle.std.proofs.Common.{◌≡◌, ℕ, ◌+◌, ◌==◌, nat_le, max, List, None, refl, length}
use Rattle.dfu_device.specs.Pace.{block_ms, image_ms}
use Rattle.dfu_device.specs.Stage.{Ack, Profile, Stage, InAppDetach, InDfuIdle, InDownloadBusy, InManifestSyncComplete, InManifest, InManifestWaitReset, InUploadIdle}
use Rattle.dfu_device.specs.Table.{Plan, Commits, time_plan}
use Rattle.dfu_device.specs.Outcome.{Situation, Works, plan_outcome, situation_after_ms}
use Rattle.dfu_device.specs.Cases.{holds_in_both_branches}
use Rattle.dfu_host.specs.Blocks.{first_blocks}
use Rattle.dfu_host.specs.Phases.{Goal, LoadGoal, FetchGoal, VerifyGoal, CompareGoal, Phase, Fetch, LastUploaded, Compare, Last, Over, OverUploaded}
use Rattle.dfu_host.specs.Host.{IsLivePhase}
use Rattle.dfu_sim.specs.Session.{LiveSession, TimeKind, MachineStep, passes, time_installs_pending}
use Rattle.dfu_sim.specs.LinkView.{Session, NoLiveSession, HostSession}
use Rattle.dfu_sim.specs.LinkAgreement.{pending_of, ClosedWasOffered}
use Rattle.dfu_sim.specs.Fact.{IsDfuIdle, FetchedSoFar, FetchFact, CompareFact, GoalFact, SessionFact}
use Rattle.dfu_sim.proofs.Kept.{time_keeps_phase_fact}
use Rattle.dfu_sim.proofs.HeardResults.{shown}

module _ (c : Profile) (offers : List (List ℕ)) where
  -- A plan for passing time is a step of the session machine, and closed bytes are an offer after it.
  abbrev pub PlanMakesStep : List ℕ → Stage → LiveSession → List ℕ → Plan → Type 0
  PlanMakesStep i stage live up p = let s = (plan_outcome i p Works).after in
      MachineStep c.tolerant c.transfer TimeKind (shown offers i (pending_of stage) live up) None
      (shown offers s.image (pending_of s.stage) live up)
      × ClosedWasOffered offers s.stage

  -- If closed bytes are an offer, time that passes is a step of the session machine: it installs them, or changes nothing.
  pub time_installs_or_stays : (i : List ℕ) (ms : ℕ) (stage : Stage) (live : LiveSession) (up : List ℕ) → ClosedWasOffered offers stage
      → PlanMakesStep i stage live up (time_plan c stage ms)
  time_installs_or_stays i ms (InAppDetach timer passed) live up h =
      let P : Plan → Type 0 = PlanMakesStep i (InAppDetach timer passed) live up in
      holds_in_both_branches P (ms == 0) _ _ (passes, tt)
      (holds_in_both_branches P c.will_detach _ _ (passes, tt)
      (holds_in_both_branches P (nat_le (max 1 timer) (passed + ms)) _ _ (passes, tt) (passes, tt)))
  time_installs_or_stays i ms (InDownloadBusy before block number passed) live up h =
      let P : Plan → Type 0 = PlanMakesStep i (InDownloadBusy before block number passed) live up in
      holds_in_both_branches P (ms == 0) _ _ (passes, tt)
      (holds_in_both_branches P (nat_le (block_ms c.pace c.busy (length before) (length block)) (passed + ms)) _ _ (passes, tt)
      (passes, tt))
  time_installs_or_stays i ms (InManifest taken passed) live up h =
      let P : Plan → Type 0 = PlanMakesStep i (InManifest taken passed) live up in
      holds_in_both_branches P (ms == 0) _ _ (passes, h)
      (holds_in_both_branches P (nat_le (image_ms c.pace c.manifest (length taken)) (passed + ms)) _ _
      (holds_in_both_branches (λ st. P (Commits taken Ack st (λ fault. Ack))) c.tolerant InManifestSyncComplete InManifestWaitReset
      (time_installs_pending refl h, tt)
      (time_installs_pending refl h, tt))
      (passes, h))
  time_installs_or_stays i ms stage live up h = (passes, h)

  -- As time passes, the parts that the host kept stay the first bytes of the image.
  time_keeps_fetched_bytes : (n : ℕ) (kept image : List ℕ) (ms : ℕ) (stage : Stage) → FetchedSoFar n kept image stage
      → FetchedSoFar n kept (plan_outcome image (time_plan c stage ms) Works).after.image
      (plan_outcome image (time_plan c stage ms) Works).after.stage
  time_keeps_fetched_bytes n kept image ms InDfuIdle f = f
  time_keeps_fetched_bytes n kept image ms (InUploadIdle place number) f = f
  time_keeps_fetched_bytes n kept image ms stage f = elim f [ ]

  -- As time passes in dfuIDLE, the whole upload stays equal to the image.
  time_keeps_whole_image : (kept image : List ℕ) (ms : ℕ) (stage : Stage) → (kept ≡ image) × IsDfuIdle stage
      → let d = (plan_outcome image (time_plan c stage ms) Works).after in (kept ≡ d.image) × IsDfuIdle d.stage
  time_keeps_whole_image kept image ms InDfuIdle f = f
  time_keeps_whole_image kept image ms stage f = elim f.1 [ ]

  -- The fact of a live phase of an upload holds as time passes.
  time_keeps_fetch_fact : (s : Situation) (ms : ℕ) (phase : Phase) → IsLivePhase phase → FetchFact phase s →
      FetchFact phase (situation_after_ms c s ms Works)
  time_keeps_fetch_fact s ms (Fetch n kept) on f = (f.0, time_keeps_fetched_bytes n kept s.image ms s.stage f.1)
  time_keeps_fetch_fact s ms (LastUploaded kept) on f = time_keeps_whole_image kept s.image ms s.stage f
  time_keeps_fetch_fact s ms (OverUploaded kept) on f = elim on [ ]
  time_keeps_fetch_fact s ms (Over report) on f = elim on [ ]
  time_keeps_fetch_fact s ms phase on f = f

  -- The fact of a live phase of a comparison holds as time passes.
  time_keeps_compare_fact : (s : Situation) (ms : ℕ) (p : List ℕ) (phase : Phase) → IsLivePhase phase → CompareFact c p phase s
      → CompareFact c p phase (situation_after_ms c s ms Works)
  time_keeps_compare_fact s ms p (Compare n) on f = (
    f.0,
    time_keeps_fetched_bytes n (first_blocks p c.transfer n) s.image ms s.stage
        f.1,
  )
  time_keeps_compare_fact s ms p (Last report) on f = time_keeps_phase_fact c s.image p (Last report) ms s.stage f Works
  time_keeps_compare_fact s ms p (Over report) on f = elim on [ ]
  time_keeps_compare_fact s ms p phase on f = f

  -- The fact of a live phase holds as time passes, for each goal.
  time_keeps_goal_fact : (s : Situation) (ms : ℕ) (g : Goal) (phase : Phase) → IsLivePhase phase → GoalFact c g phase s
      → GoalFact c g phase (situation_after_ms c s ms Works)
  time_keeps_goal_fact s ms (LoadGoal p) phase on f = time_keeps_phase_fact c s.image p phase ms s.stage f Works
  time_keeps_goal_fact s ms FetchGoal phase on f = time_keeps_fetch_fact s ms phase on f
  time_keeps_goal_fact s ms (VerifyGoal p) phase on f = time_keeps_phase_fact c s.image p phase ms s.stage f Works
  time_keeps_goal_fact s ms (CompareGoal p) phase on f = time_keeps_compare_fact s ms p phase on f

  -- The facts of a link's session hold as time passes.
  pub time_keeps_session_fact : (s : Situation) (ms : ℕ) (session : Session) → SessionFact c s session →
      SessionFact c (situation_after_ms c s ms Works) session
  time_keeps_session_fact s ms NoLiveSession f = tt
  time_keeps_session_fact s ms (HostSession h) f = record {
    task_is = f.task_is;
    on = f.on;
    some = f.some;
    fact = time_keeps_goal_fact s ms h.task.goal h.phase f.on f.fact;
  }
