-- Rows that write, and their results once the writes are made.
use Rattle.std.specs.Prelude.{◌≡◌, ◌⊎◌, ℕ, ◌≤◌, ◌==◌, Bool, false, List, ◌++◌, length, take, drop, Option, Some, None, if◌then◌else◌}
use Rattle.dfu_slots.specs.declared.fault.WriteFault.{WriteFault}
use Rattle.dfu_device.specs.declared.answer.Answer.{Answer}
use Rattle.dfu_device.specs.Stage.{Request, GetStatus, Ack, Stall, Profile, Stage, InDownloadSync, InDownloadSyncWritten, InDownloadBusy, InDownloadIdle, InManifestSync, InManifestSyncComplete, InManifest, InManifestWaitReset, InDfuIdle}
use Rattle.dfu_device.specs.Table.{Plan, Sure, Writes, Commits, write_and_report, commit_and_report}
use Rattle.dfu_device.specs.DeviceView.{DeviceView, profile}
use Rattle.dfu_device.specs.Decision.{plan_of}
use Rattle.dfu_slots.specs.StoreView.{image_of, spare_of}
use Rattle.dfu_device.specs.declared.decision.Decision.{Decision}
use Rattle.dfu_device.specs.declared.decision.Decision.TheVariants as decision
use Rattle.dfu_device.specs.Rows.{ReplyAnswer, WroteBlock, FailedBlock, Committed, FailedCommit, Done}

-- Plan of the due row of a stage, the row that writes. It is due at a GETSTATUS in dfuDNLOAD-SYNC and dfuMANIFEST-SYNC if the time of the
-- stage is 0, and at the end of the time in dfuDNBUSY and dfuMANIFEST. For any other stage, the plan writes nothing.
abbrev pub due_plan : Profile → Stage → Plan
due_plan c (InDownloadSync before block number) = write_and_report c before block (InDownloadIdle (before ++ block) number)
due_plan c (InDownloadBusy before block number passed) =
    Writes before block Ack (InDownloadSyncWritten (before ++ block) number) (λ fault. Ack)
due_plan c (InManifestSync taken) = commit_and_report c taken InDfuIdle
due_plan c (InManifest taken passed) =
    Commits taken Ack (if c.tolerant then InManifestSyncComplete else InManifestWaitReset) (λ fault. Ack)
due_plan c stage = Sure Stall stage

-- The device executed the plan of its due row, with this answer, whether its writes succeeded or not.
abbrev pub DueRow : ℕ → DeviceView → Answer → List ℕ → DeviceView → Type 0
DueRow len w a out w' = Done (due_plan (profile w) w.stage) len w a out w'

-- A plan that writes was executed, and all its writes succeeded.
abbrev pub PlanWorks : Plan → ℕ → DeviceView → Answer → List ℕ → DeviceView → Type 0
PlanWorks (Sure reply stage) len w a out w' = ⊥
PlanWorks (Writes before block reply stage bad) len w a out w' =
    ReplyAnswer len reply a out × WroteBlock before block w.config w.slots stage w'
PlanWorks (Commits taken reply stage bad) len w a out w' = ReplyAnswer len reply a out × Committed taken w.config w.slots stage w'

-- A plan that writes was broken off by a write with this fault.
abbrev pub PlanFails : WriteFault → Plan → ℕ → DeviceView → Answer → List ℕ → DeviceView → Type 0
PlanFails fault (Sure reply stage) len w a out w' = ⊥
PlanFails fault (Writes before block reply stage bad) len w a out w' =
    ReplyAnswer len (bad fault) a out × FailedBlock fault before block w.config w.slots w'
PlanFails fault (Commits taken reply stage bad) len w a out w' =
    ReplyAnswer len (bad fault) a out × FailedCommit fault taken w.config w.slots w'

-- The due row of the device `w` was executed, and all its writes succeeded. The row left the device `w'`.
abbrev pub DueRowWorks : ℕ → DeviceView → Answer → List ℕ → DeviceView → Type 0
DueRowWorks len w a out w' = PlanWorks (due_plan (profile w) w.stage) len w a out w'

-- The due row of the device `w` was broken off by a write with this fault. The row left the device `w'`.
abbrev pub DueRowFails : WriteFault → ℕ → DeviceView → Answer → List ℕ → DeviceView → Type 0
DueRowFails fault len w a out w' = PlanFails fault (due_plan (profile w) w.stage) len w a out w'

-- `Row` holds of each result of the due row, whether all its writes succeed or one of them has a fault.
pub record HoldsOfDueRow (len : ℕ) (w : DeviceView) (Row : Answer → List ℕ → DeviceView → Type 0) : Type 0 where
  pub works : (a : Answer) (out : List ℕ) (w' : DeviceView) → DueRowWorks len w a out w' → Row a out w'
  pub fails : (fault : WriteFault) (a : Answer) (out : List ℕ) (w' : DeviceView) → DueRowFails fault len w a out w' → Row a out w'

-- True if a request writes in this stage: a GETSTATUS in dfuDNLOAD-SYNC before the block is written, or in dfuMANIFEST-SYNC before it is
-- complete, if the time of the stage is 0.
abbrev pub writes_on_request : Profile → Stage → Request → Bool
writes_on_request c (InDownloadSync before block number) GetStatus = c.busy == 0
writes_on_request c (InManifestSync taken) GetStatus = c.manifest == 0
writes_on_request c stage request = false

-- The plan makes no call of the slot store.
abbrev pub IsStorelessPlan : Plan → Type 0
IsStorelessPlan (Sure reply stage) = Unit {0}
IsStorelessPlan (Writes before block reply stage bad) = ⊥
IsStorelessPlan (Commits taken reply stage bad) = ⊥

-- This stage can have a due row, caused by a GETSTATUS of `len` bytes or, without a request, by the end of a time.
abbrev pub IsDueStage : Stage → Option ℕ → ℕ → Type 0
IsDueStage (InDownloadSync before block number) asked len = asked ≡ Some len
IsDueStage (InDownloadBusy before block number passed) asked len = asked ≡ None
IsDueStage (InManifestSync taken) asked len = asked ≡ Some len
IsDueStage (InManifest taken passed) asked len = asked ≡ None
IsDueStage stage asked len = ⊥

-- The plan makes no call of the slot store, or is the plan of the due row.
abbrev pub IsStorelessOrDue : Plan → Profile → Stage → Option ℕ → ℕ → Type 0
IsStorelessOrDue p c stage asked len = IsStorelessPlan p ⊎ ((p ≡ due_plan c stage) × IsDueStage stage asked len)

-- Number of bytes of an answer that the host requests, or 0 without a request.
abbrev pub wanted_status_length : Option ℕ → ℕ
wanted_status_length None = 0
wanted_status_length (Some len) = len

-- Plan of a decision for a device with this unwritten block and a request with this body.
abbrev pub plan_of_decision : (block body : List ℕ) → Decision → DeviceView → Plan
plan_of_decision block body decision d = plan_of (profile d) (image_of d.slots) (spare_of d.slots) block body decision

-- The decision sends at most `room` bytes of this image.
abbrev pub SendsWithin : Decision → List ℕ → ℕ → Type 0
SendsWithin (decision.Sends place size number) image room = length (take size (drop place image)) ≤ room
SendsWithin d image room = Unit {0}
