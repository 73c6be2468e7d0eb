-- The program of a device refuses an image between two actions. The pending bytes may be dropped, and the facts of the session still hold.
use Rattle.std.proofs.Common.{ℕ, List}
use Rattle.dfu_device.specs.declared.objection.Objection.{Objection}
use Rattle.dfu_device.specs.Stage.{Profile, Stage, InManifestSync, InManifest, InError}
use Rattle.dfu_device.specs.Table.{objection_code, refuse_stage}
use Rattle.dfu_device.specs.Outcome.{Situation}
use Rattle.dfu_host.specs.declared.report.Report.{Report}
use Rattle.dfu_host.specs.declared.report.Report.TheVariants.{Installed, Verified}
use Rattle.dfu_host.specs.Host.{IsLivePhase}
use Rattle.dfu_host.specs.Phases.{Goal, LoadGoal, FetchGoal, VerifyGoal, CompareGoal, Phase, Block, Ask, Poll, WaitPoll, Close, AskLast, Manifest, WaitManifest, Fetch, LastUploaded, Compare, Last, Over, OverUploaded}
use Rattle.dfu_sim.specs.Session.{LiveSession, MayDrop, drops_nothing, drops}
use Rattle.dfu_sim.specs.Play.{situation_after_refusal}
use Rattle.dfu_sim.specs.LinkView.{Session, NoLiveSession, HostSession}
use Rattle.dfu_sim.specs.LinkAgreement.{pending_of, ClosedWasOffered}
use Rattle.dfu_sim.specs.Fact.{IsDfuIdle, ReportMeaning, PhaseFact, FetchFact, CompareFact, GoalFact, SessionFact}
use Rattle.dfu_sim.proofs.HeardResults.{shown}

module _ (why : Objection) (offers : List (List ℕ)) where
  -- A refusal drops the pending bytes of the session machine or keeps them.
  pub refusal_may_drop_pending : (i : List ℕ) (stage : Stage) (live : LiveSession) (up : List ℕ)
      → MayDrop (shown offers i (pending_of stage) live up) (shown offers i (pending_of (refuse_stage why stage)) live up)
  refusal_may_drop_pending i (InManifestSync taken) live up = drops
  refusal_may_drop_pending i (InManifest taken passed) live up = drops
  refusal_may_drop_pending i stage live up = drops_nothing

  -- After a refusal closed bytes are still an offer.
  pub refusal_keeps_closed_offer : (stage : Stage) → ClosedWasOffered offers stage → ClosedWasOffered offers (refuse_stage why stage)
  refusal_keeps_closed_offer (InManifestSync taken) h = tt
  refusal_keeps_closed_offer (InManifest taken passed) h = tt
  refusal_keeps_closed_offer stage h = h

module _ (c : Profile) (why : Objection) (i : List ℕ) where
  -- The device with this image, in this stage.
  abbrev At : Stage → Situation
  At stage = record { image = i; stage = stage }

  -- A property of a stage holds after a refusal, if dfuERROR has it whenever dfuMANIFEST-SYNC or dfuMANIFEST has it.
  refused_stage_has_fact : (F : Stage → Type 0) → ((taken : List ℕ) → F (InManifestSync taken) → F (InError (objection_code why)))
      → ((taken : List ℕ) (passed : ℕ) → F (InManifest taken passed) → F (InError (objection_code why))) → (stage : Stage) → F stage
      → F (refuse_stage why stage)
  refused_stage_has_fact F sync busy (InManifestSync taken) h = sync taken h
  refused_stage_has_fact F sync busy (InManifest taken passed) h = busy taken passed h
  refused_stage_has_fact F sync busy stage h = h

  -- The meaning of a report is preserved if an image is refused in dfuMANIFEST-SYNC.
  sync_refusal_keeps_report : (p : List ℕ) (report : Report) (taken : List ℕ) →
      ReportMeaning c p (At (InManifestSync taken)) IsDfuIdle report
      → ReportMeaning c p (At (InError (objection_code why))) IsDfuIdle report
  sync_refusal_keeps_report p Installed taken h = elim h.2 [ ]
  sync_refusal_keeps_report p Verified taken h = elim h.1 [ ]
  sync_refusal_keeps_report p report taken h = h

  -- The meaning of a report is preserved if an image is refused in dfuMANIFEST.
  manifest_refusal_keeps_report : (p : List ℕ) (report : Report) (taken : List ℕ) (passed : ℕ)
      → ReportMeaning c p (At (InManifest taken passed)) IsDfuIdle report
      → ReportMeaning c p (At (InError (objection_code why))) IsDfuIdle report
  manifest_refusal_keeps_report p Installed taken passed h = elim h.2 [ ]
  manifest_refusal_keeps_report p Verified taken passed h = elim h.1 [ ]
  manifest_refusal_keeps_report p report taken passed h = h

  -- The fact of a download's phase is preserved if an image is refused in dfuMANIFEST-SYNC.
  sync_refusal_keeps_load : (p : List ℕ) (phase : Phase) (taken : List ℕ) → IsLivePhase phase →
      PhaseFact c p phase (At (InManifestSync taken))
      → PhaseFact c p phase (At (InError (objection_code why)))
  sync_refusal_keeps_load p (Block n) taken on h = elim h.1 [ ]
  sync_refusal_keeps_load p (Ask n) taken on h = elim h.1 [ ]
  sync_refusal_keeps_load p (Poll n) taken on h = elim h.1 [ ]
  sync_refusal_keeps_load p (WaitPoll n poll) taken on h = elim h.1 [ ]
  sync_refusal_keeps_load p Close taken on h = elim h [ ]
  sync_refusal_keeps_load p AskLast taken on h = tt
  sync_refusal_keeps_load p Manifest taken on h = tt
  sync_refusal_keeps_load p (WaitManifest poll) taken on h = tt
  sync_refusal_keeps_load p (Last report) taken on h = sync_refusal_keeps_report p report taken h
  sync_refusal_keeps_load p (Over report) taken on h = elim on [ ]
  sync_refusal_keeps_load p phase taken on h = h

  -- The fact of a download's phase is preserved if an image is refused in dfuMANIFEST.
  manifest_refusal_keeps_load : (p : List ℕ) (phase : Phase) (taken : List ℕ) (passed : ℕ) → IsLivePhase phase
      → PhaseFact c p phase (At (InManifest taken passed))
      → PhaseFact c p phase (At (InError (objection_code why)))
  manifest_refusal_keeps_load p (Block n) taken passed on h = elim h.1 [ ]
  manifest_refusal_keeps_load p (Ask n) taken passed on h = elim h.1 [ ]
  manifest_refusal_keeps_load p (Poll n) taken passed on h = elim h.1 [ ]
  manifest_refusal_keeps_load p (WaitPoll n poll) taken passed on h = elim h.1 [ ]
  manifest_refusal_keeps_load p Close taken passed on h = elim h [ ]
  manifest_refusal_keeps_load p AskLast taken passed on h = tt
  manifest_refusal_keeps_load p Manifest taken passed on h = tt
  manifest_refusal_keeps_load p (WaitManifest poll) taken passed on h = tt
  manifest_refusal_keeps_load p (Last report) taken passed on h = manifest_refusal_keeps_report p report taken passed h
  manifest_refusal_keeps_load p (Over report) taken passed on h = elim on [ ]
  manifest_refusal_keeps_load p phase taken passed on h = h

  -- The fact of an upload's phase is preserved if an image is refused in dfuMANIFEST-SYNC.
  sync_refusal_keeps_fetch : (phase : Phase) (taken : List ℕ) → IsLivePhase phase → FetchFact phase (At (InManifestSync taken))
      → FetchFact phase (At (InError (objection_code why)))
  sync_refusal_keeps_fetch (Fetch k kept) taken on h = elim h.1 [ ]
  sync_refusal_keeps_fetch (LastUploaded kept) taken on h = elim h.1 [ ]
  sync_refusal_keeps_fetch (OverUploaded kept) taken on h = elim on [ ]
  sync_refusal_keeps_fetch (Over report) taken on h = elim on [ ]
  sync_refusal_keeps_fetch phase taken on h = h

  -- The fact of an upload's phase is preserved if an image is refused in dfuMANIFEST.
  manifest_refusal_keeps_fetch : (phase : Phase) (taken : List ℕ) (passed : ℕ) → IsLivePhase phase →
      FetchFact phase (At (InManifest taken passed))
      → FetchFact phase (At (InError (objection_code why)))
  manifest_refusal_keeps_fetch (Fetch k kept) taken passed on h = elim h.1 [ ]
  manifest_refusal_keeps_fetch (LastUploaded kept) taken passed on h = elim h.1 [ ]
  manifest_refusal_keeps_fetch (OverUploaded kept) taken passed on h = elim on [ ]
  manifest_refusal_keeps_fetch (Over report) taken passed on h = elim on [ ]
  manifest_refusal_keeps_fetch phase taken passed on h = h

  -- The fact of a comparison's phase is preserved if an image is refused in dfuMANIFEST-SYNC.
  sync_refusal_keeps_compare : (p : List ℕ) (phase : Phase) (taken : List ℕ) → IsLivePhase phase →
      CompareFact c p phase (At (InManifestSync taken))
      → CompareFact c p phase (At (InError (objection_code why)))
  sync_refusal_keeps_compare p (Compare k) taken on h = elim h.1 [ ]
  sync_refusal_keeps_compare p (Last report) taken on h = sync_refusal_keeps_report p report taken h
  sync_refusal_keeps_compare p (Over report) taken on h = elim on [ ]
  sync_refusal_keeps_compare p phase taken on h = h

  -- The fact of a comparison's phase is preserved if an image is refused in dfuMANIFEST.
  manifest_refusal_keeps_compare : (p : List ℕ) (phase : Phase) (taken : List ℕ) (passed : ℕ) → IsLivePhase phase
      → CompareFact c p phase (At (InManifest taken passed))
      → CompareFact c p phase (At (InError (objection_code why)))
  manifest_refusal_keeps_compare p (Compare k) taken passed on h = elim h.1 [ ]
  manifest_refusal_keeps_compare p (Last report) taken passed on h = manifest_refusal_keeps_report p report taken passed h
  manifest_refusal_keeps_compare p (Over report) taken passed on h = elim on [ ]
  manifest_refusal_keeps_compare p phase taken passed on h = h

  -- A refusal preserves the fact of a live phase, for each goal.
  refusal_keeps_goal_fact : (g : Goal) (phase : Phase) (stage : Stage) → IsLivePhase phase → GoalFact c g phase (At stage)
      → GoalFact c g phase (At (refuse_stage why stage))
  refusal_keeps_goal_fact (LoadGoal p) phase stage on f = refused_stage_has_fact (λ st. PhaseFact c p phase (At st)) (λ taken h.
      sync_refusal_keeps_load p phase taken on h)
      (λ taken passed h. manifest_refusal_keeps_load p phase taken passed on h) stage f
  refusal_keeps_goal_fact FetchGoal phase stage on f = refused_stage_has_fact (λ st. FetchFact phase (At st)) (λ taken h.
      sync_refusal_keeps_fetch phase taken on h)
      (λ taken passed h. manifest_refusal_keeps_fetch phase taken passed on h) stage f
  refusal_keeps_goal_fact (VerifyGoal p) phase stage on f = refused_stage_has_fact (λ st. PhaseFact c p phase (At st)) (λ taken h.
      sync_refusal_keeps_load p phase taken on h)
      (λ taken passed h. manifest_refusal_keeps_load p phase taken passed on h) stage f
  refusal_keeps_goal_fact (CompareGoal p) phase stage on f = refused_stage_has_fact (λ st. CompareFact c p phase (At st))
      (λ taken h. sync_refusal_keeps_compare p phase taken on h) (λ taken passed h. manifest_refusal_keeps_compare p phase taken passed
      on h) stage f

-- A refusal preserves the facts of a link's session.
pub refusal_keeps_session_fact : (c : Profile) (why : Objection) (s : Situation) (session : Session) → SessionFact c s session
    → SessionFact c (situation_after_refusal why s) session
refusal_keeps_session_fact c why s NoLiveSession f = tt
refusal_keeps_session_fact c why s (HostSession h) f = record {
  task_is = f.task_is;
  on = f.on;
  some = f.some;
  fact = refusal_keeps_goal_fact c why s.image h.task.goal h.phase s.stage f.on f.fact;
}
