-- Decisions of the code on a row of the table, and the plan that corresponds to each decision.
use Rattle.std.specs.Prelude.{◌≡◌, ◌⊎◌, ℕ, ◌+◌, ◌≤◌, nat_lt, Bool, IsTrue, if◌then◌else◌, List, [], ◌++◌, length, take, drop}
use Rattle.dfu_wire.specs.declared.requests.Request.{Request as Asked}
use Rattle.dfu_wire.specs.declared.requests.Request.TheVariants as asked
use Rattle.dfu_slots.specs.StoreView.{SlotsState, room_of}
use Rattle.dfu_device.specs.declared.decision.Reply.{Reply as ReplyRead}
use Rattle.dfu_device.specs.declared.decision.Reply.TheVariants as reply
use Rattle.dfu_device.specs.declared.config.Profile.{Profile as ProfileRead}
use Rattle.dfu_device.specs.declared.decision.Decision.{Decision}
use Rattle.dfu_device.specs.declared.decision.Decision.TheVariants as decision
use Rattle.dfu_device.specs.declared.device_state.DeviceState.{DeviceState}
use Rattle.dfu_device.specs.declared.device_state.DeviceState.TheVariants as device_state
use Rattle.dfu_device.specs.Stage.{Reply, Ack, StateOf, Data, Stall, Profile, Stage, InDfuIdle, InDownloadSyncWritten, InDownloadIdle, InUploadIdle, InError, state_of, status_of}
use Rattle.dfu_device.specs.Table.{Plan, Sure, Writes, Commits, write_code, commit_code, plan, time_plan}
use Rattle.dfu_device.specs.DeviceView.{profile_of_values}
use Rattle.dfu_device.specs.Parts.{stage_of, is_filled}
use Rattle.dfu_device.specs.Rows.{request_for_table}

-- Profile of the table that corresponds to a `Profile` of the code.
abbrev pub table_profile_of : ProfileRead → Profile
table_profile_of p = profile_of_values p.functional p.least p.busy_ms p.manifest_ms p.pace p.capacity

-- Reply of the table that corresponds to a reply of the code, with the status or the state of a stage.
abbrev pub table_reply_of : Profile → Stage → ReplyRead → Reply
table_reply_of c stage reply.Ack = Ack
table_reply_of c stage reply.Status = status_of c stage
table_reply_of c stage reply.State = StateOf (state_of stage)
table_reply_of c stage reply.Stall = Stall

-- Stage after a block was written. If `late` is true, the busy time ended, and the host must request the status once more.
abbrev pub written_stage : (late : Bool) → (taken : List ℕ) → (number : ℕ) → Stage
written_stage late taken number = if late then InDownloadSyncWritten taken number else InDownloadIdle taken number

-- Plan that corresponds to a decision, after a request with this body. The device has this active image, these bytes in the spare slot and
-- this unwritten block.
abbrev pub plan_of : Profile → (image spare block body : List ℕ) → Decision → Plan
plan_of c image spare block body (decision.Sure r m) =
    let stage = stage_of m spare block in Sure (table_reply_of c stage r) stage
plan_of c image spare block body (decision.Holds m) = Sure Ack (stage_of m spare body)
plan_of c image spare block body (decision.Sends place size number) =
    let part = take size (drop place image) in
    if nat_lt (length part) size then Sure (Data part) InDfuIdle else Sure (Data part) (InUploadIdle (place + size) number)
plan_of c image spare block body (decision.Writes r written number late) =
    let before = take written spare in
    let next = written_stage late (before ++ block) number in
    Writes before block (table_reply_of c next r) next (λ fault. table_reply_of c (InError (write_code fault)) r)
plan_of c image spare block body (decision.Commits r written m) =
    let next = stage_of m [] [] in
    Commits (take written spare) (table_reply_of c next r) next (λ fault. table_reply_of c (InError (commit_code fault)) r)

-- The decision replies with an acknowledgement, even if a write fails. Every decision on elapsed time has this reply, because the device
-- sends nothing then.
abbrev pub IsAcknowledgingDecision : Decision → Type 0
IsAcknowledgingDecision (decision.Sure r m) = r ≡ reply.Ack
IsAcknowledgingDecision (decision.Holds m) = Unit {0}
IsAcknowledgingDecision (decision.Sends place size number) = ⊥
IsAcknowledgingDecision (decision.Writes r written number late) = r ≡ reply.Ack
IsAcknowledgingDecision (decision.Commits r written m) = r ≡ reply.Ack

-- In dfuDNLOAD-IDLE the spare slot holds all `written` bytes. True in every other mode.
abbrev pub HasWrittenBytes : DeviceState → (spare : List ℕ) → Type 0
HasWrittenBytes (device_state.DownloadIdle written number) spare = length (take written spare) ≡ written
HasWrittenBytes m spare = Unit {0}

-- Facts that a decision on elapsed time requires: in dfuDNBUSY and dfuMANIFEST the spare slot holds all `written` bytes, and in dfuDNBUSY
-- the block has n bytes. True in every other mode.
abbrev pub HasTimeInputs : DeviceState → ℕ → (spare block : List ℕ) → Type 0
HasTimeInputs (device_state.DownloadBusy written number passed) n spare block = (length (take written spare) ≡ written) × (length block ≡ n)
HasTimeInputs (device_state.Manifest written passed) n spare block = length (take written spare) ≡ written
HasTimeInputs m n spare block = Unit {0}

-- The body of a DNLOAD has wLength bytes. True for every other request.
abbrev pub HasBodyLength : Asked → (body : List ℕ) → Type 0
HasBodyLength (asked.Dnload block len) body = length body ≡ len
HasBodyLength q body = Unit {0}

-- The decision d on a request in a mode corresponds to the plan of the request's row, for each body of wLength bytes and each spare slot
-- that holds the `written` bytes.
abbrev pub DecidesRequest : ProfileRead → DeviceState → Asked → Decision → Type 0
DecidesRequest p m q d = (image spare block body : List ℕ) → HasWrittenBytes m spare → HasBodyLength q body
    → plan_of (table_profile_of p) image spare block body d
    ≡ plan (table_profile_of p) image (stage_of m spare block) (request_for_table q body)

-- The decision on `ms` milliseconds, in a mode with a block of n bytes, corresponds to the plan of the row for that time.
abbrev pub DecidesTime : ProfileRead → DeviceState → (n ms : ℕ) → Decision → Type 0
DecidesTime p m n ms d = (image spare block : List ℕ) → HasTimeInputs m n spare block
    → plan_of (table_profile_of p) image spare block [] d ≡ time_plan (table_profile_of p) (stage_of m spare block) ms

-- The mode may follow a commit: dfuIDLE, dfuMANIFEST-SYNC complete or dfuMANIFEST-WAIT-RESET. In these modes the device keeps no bytes of a
-- download.
abbrev pub IsModeAfterCommit : DeviceState → Type 0
IsModeAfterCommit m = (m ≡ device_state.DfuIdle) ⊎ (m ≡ device_state.ManifestSyncComplete) ⊎ (m ≡ device_state.ManifestWaitReset)

-- The decision can be performed with a kept block of `block` bytes and a body of `body` bytes, if `transfer` is the transfer size.
abbrev pub IsPossibleDecision : (transfer block body : ℕ) → SlotsState → Decision → Type 0
IsPossibleDecision transfer block body s (decision.Sure r m) = IsTrue (is_filled m block s)
IsPossibleDecision transfer block body s (decision.Holds m) = (body ≤ transfer) × IsTrue (is_filled m body s)
IsPossibleDecision transfer block body s (decision.Sends place size number) = Unit {0}
IsPossibleDecision transfer block body s (decision.Writes r written number late) =
    IsTrue (is_filled (device_state.DownloadSync written number) block s)
IsPossibleDecision transfer block body s (decision.Commits r written m) =
    IsTrue (is_filled (device_state.ManifestSync written) block s) × IsModeAfterCommit m

-- The decision in a mode can be performed with a body of `body` bytes, and with each block and store that agree with the mode.
abbrev pub AllowsDecision : ProfileRead → DeviceState → (body : ℕ) → Decision → Type 0
AllowsDecision p m body d = (block : ℕ) (s : SlotsState) → room_of s ≡ p.capacity → IsTrue (is_filled m block s)
    → IsPossibleDecision p.functional.transfer block body s d

-- The decision on a request in a mode can be performed with each body of wLength bytes.
abbrev pub AllowsRequest : ProfileRead → DeviceState → Asked → Decision → Type 0
AllowsRequest p m q d = (body : List ℕ) → HasBodyLength q body → AllowsDecision p m (length body) d
