-- Request of each phase, and the state of the device that its answer reports.
use Rattle.std.proofs.Common.{ℕ, ◌==◌, List}
use Rattle.dfu_wire.specs.declared.states.State.{State}
use Rattle.dfu_wire.specs.declared.states.State.TheVariants.{DfuIdle, DownloadSync, DownloadIdle, ManifestSync}
use Rattle.dfu_device.specs.Stage.{Request, GetStatus, GetState, Profile, Stage, InAppIdle, InDfuIdle, InDownloadSync, InDownloadSyncWritten, InDownloadIdle, InManifestSync, InManifestSyncComplete}
use Rattle.dfu_device.specs.Table.{Plan, plan, time_plan}
use Rattle.dfu_device.specs.Outcome.{Luck, Works, FailsOld, FailsNew, plan_outcome}
use Rattle.dfu_device.specs.Cases.{holds_in_both_branches}
use Rattle.dfu_host.specs.Phases.{Phase, Find, FindAgain, Ask, Poll, AskLast, Manifest, Trouble, Heard, Status, StateIs}
use Rattle.dfu_sim.specs.Play.{heard_of_reply}

-- The stage has the reported state, or the device entered it from that state as time passed.
abbrev pub Tells : State → Stage → Type 0
Tells DfuIdle InDfuIdle = Unit {0}
Tells DfuIdle stage = ⊥
Tells DownloadIdle (InDownloadIdle taken number) = Unit {0}
Tells DownloadIdle stage = ⊥
Tells DownloadSync (InDownloadSync before block number) = Unit {0}
Tells DownloadSync (InDownloadSyncWritten taken number) = Unit {0}
Tells DownloadSync stage = ⊥
Tells ManifestSync (InManifestSync taken) = Unit {0}
Tells ManifestSync InManifestSyncComplete = Unit {0}
Tells ManifestSync stage = ⊥
Tells state stage = Unit {0}

-- The phase sends this request: GETSTATUS for the status, or GETSTATE for the state alone.
abbrev pub Asks : Request → Phase → Type 0
Asks GetStatus Find = Unit {0}
Asks GetStatus FindAgain = Unit {0}
Asks GetStatus Trouble = Unit {0}
Asks GetStatus (Poll n) = Unit {0}
Asks GetStatus Manifest = Unit {0}
Asks GetState (Ask n) = Unit {0}
Asks GetState AskLast = Unit {0}
Asks request phase = ⊥

-- If the received meaning names a state, the stage has that state, or the device entered it from that state as time passed.
abbrev pub ToldByHeard : Heard → Stage → Type 0
ToldByHeard (Status code poll state) stage = Tells state stage
ToldByHeard (StateIs state) stage = Tells state stage
ToldByHeard heard stage = Unit {0}

module _ (c : Profile) (i : List ℕ) where
  -- A reported state is still true for the device as time passes.
  pub time_keeps_told_state : (state : State) (stage : Stage) (ms : ℕ) (luck : Luck) → Tells state stage
      → Tells state (plan_outcome i (time_plan c stage ms) luck).after.stage
  time_keeps_told_state DfuIdle InDfuIdle ms luck h = tt
  time_keeps_told_state DfuIdle stage ms luck h = elim h [ ]
  time_keeps_told_state DownloadIdle (InDownloadIdle taken number) ms luck h = tt
  time_keeps_told_state DownloadIdle stage ms luck h = elim h [ ]
  time_keeps_told_state DownloadSync (InDownloadSync before block number) ms luck h = tt
  time_keeps_told_state DownloadSync stage ms luck h = search
  time_keeps_told_state ManifestSync (InManifestSync taken) ms luck h = tt
  time_keeps_told_state ManifestSync stage ms luck h = search
  time_keeps_told_state state stage ms luck h = tt

  -- A state that the host received is still true for the device as time passes.
  pub time_keeps_heard_state : (heard : Heard) (stage : Stage) (ms : ℕ) (luck : Luck) → ToldByHeard heard stage
      → ToldByHeard heard (plan_outcome i (time_plan c stage ms) luck).after.stage
  time_keeps_heard_state (Status code poll state) stage ms luck h = time_keeps_told_state state stage ms luck h
  time_keeps_heard_state (StateIs state) stage ms luck h = time_keeps_told_state state stage ms luck h
  time_keeps_heard_state heard stage ms luck h = tt

  -- The state that the answer of a plan reports is true for the device after the plan.
  abbrev TellsTruth : Plan → Type 0
  TellsTruth p = (luck : Luck) → ToldByHeard (heard_of_reply (plan_outcome i p luck).reply) (plan_outcome i p luck).after.stage

  -- The state that the answer to a phase's request reports is true for the device after the request.
  pub asked_answer_tells_state : (r : Request) (phase : Phase) (stage : Stage) → Asks r phase → TellsTruth (plan c i stage r)
  asked_answer_tells_state GetStatus phase (InDownloadSync before block number) a =
      holds_in_both_branches TellsTruth (c.busy == 0) _ _ (elim [ Works ↦ tt | FailsOld fault ↦ tt | FailsNew fault ↦ tt ]) (λ luck. tt)
  asked_answer_tells_state GetStatus phase (InManifestSync taken) a =
      holds_in_both_branches TellsTruth (c.manifest == 0) _ _ (elim [ Works ↦ tt | FailsOld fault ↦ tt | FailsNew fault ↦ tt ]) (λ luck. tt)
  asked_answer_tells_state GetStatus phase stage a = λ luck. tt
  asked_answer_tells_state GetState phase InAppIdle a = λ luck. tt
  asked_answer_tells_state GetState phase stage a = λ luck. tt
  asked_answer_tells_state r phase stage a = elim a [ ]
