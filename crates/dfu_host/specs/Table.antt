-- The host's table: the deed of a host in each phase, and the phase after each result.
use Rattle.std.specs.Prelude.{ℕ, zero, suc, ◌%◌, ◌==◌, nat_lt, max, Bool, true, false, if◌then◌else◌, List, [], ◌++◌, length, slice_index_or}
use Rattle.std.specs.Str.{bytes_eq}
use Rattle.dfu_wire.specs.declared.codes.Code.{Code}
use Rattle.dfu_wire.specs.declared.codes.Code.TheVariants as code
use Rattle.dfu_wire.specs.declared.states.State.{State}
use Rattle.dfu_wire.specs.declared.states.State.TheVariants as state
use Rattle.dfu_wire.specs.declared.requests.Request.TheVariants as request
use Rattle.dfu_host.specs.declared.report.Report.{Report}
use Rattle.dfu_host.specs.declared.report.Report.TheVariants as report
use Rattle.dfu_host.specs.Blocks.{blocks}
pub use Rattle.dfu_host.specs.Phases.{
  Goal,
  LoadGoal,
  FetchGoal,
  VerifyGoal,
  CompareGoal,
  Task,
  Phase,
  Find,
  FindAgain,
  Detach,
  Enter,
  Clear,
  Quit,
  WaitFind,
  ResetFind,
  Block,
  Ask,
  Poll,
  WaitPoll,
  Close,
  AskLast,
  Manifest,
  WaitManifest,
  WaitLast,
  Trouble,
  Fetch,
  LastUploaded,
  Compare,
  Last,
  GiveUp,
  Over,
  OverUploaded,
  Deed,
  Send,
  Wait,
  Reset,
  Done,
  Heard,
  Acked,
  Status,
  StateIs,
  Part,
  NoRoom,
  Stalled,
  Nothing,
  Waited,
  WasReset,
  Restarted,
  Left,
}

-- The first phase of the work, once the device is in dfuIDLE.
abbrev pub work_start : Goal → Phase
work_start (LoadGoal payload) = Block 0
work_start FetchGoal = Fetch 0 []
work_start (VerifyGoal payload) = Block 0
work_start (CompareGoal payload) = Compare 0

-- The blocks of a goal's payload, each of t bytes except the last; an upload has no blocks.
abbrev pub blocks_of : Goal → ℕ → List (List ℕ)
blocks_of (LoadGoal payload) t = blocks payload t
blocks_of FetchGoal t = []
blocks_of (VerifyGoal payload) t = blocks payload t
blocks_of (CompareGoal payload) t = blocks payload t

-- The blocks of a session, cut by its transfer size.
abbrev pub session_blocks : Task → List (List ℕ)
session_blocks task = blocks_of task.goal task.transfer

-- Deed that sends GETSTATUS, for the whole status of six bytes.
abbrev pub get_status : Deed
get_status = Send (request.GetStatus 6) []

-- Deed that sends GETSTATE, for the one byte of the state.
abbrev pub get_state : Deed
get_state = Send (request.GetState 1) []

-- Deed that sends block `n` by a DNLOAD. wBlockNum is n modulo 65,536.
abbrev pub download : ℕ → List ℕ → Deed
download n body = Send (request.Dnload (n % 65536) (length body)) body

abbrev pub deed : Task → Phase → Deed
deed task Find = get_status
deed task FindAgain = get_status
deed task Detach = Send (request.Detach task.detach_ms) []
deed task Enter = if task.will_detach then Wait (max 1 task.detach_ms) else Reset
deed task Clear = Send request.ClrStatus []
deed task Quit = Send request.Abort []
deed task (WaitFind poll) = Wait poll
deed task ResetFind = Reset
deed task (Block n) = download n (slice_index_or (session_blocks task) n [])
deed task (Ask n) = get_state
deed task (Poll n) = get_status
deed task (WaitPoll n poll) = Wait poll
deed task Close = download (length (session_blocks task)) []
deed task AskLast = get_state
deed task Manifest = get_status
deed task (WaitManifest poll) = Wait poll
deed task (WaitLast poll) = Wait poll
deed task Trouble = get_status
deed task (Fetch k kept) = Send (request.Upload (k % 65536) task.transfer) []
deed task (LastUploaded kept) = Reset
deed task (Compare k) = Send (request.Upload (k % 65536) task.transfer) []
deed task (Last report) = Reset
deed task GiveUp = Send request.Abort []
deed task (Over report) = Done report
deed task (OverUploaded kept) = Done report.Uploaded

-- Phase after a status, which depends on the device's state. In dfuIDLE the work starts.
abbrev pub phase_after_status : Phase → State → ℕ → Phase
phase_after_status start state.AppIdle poll = Detach
phase_after_status start state.AppDetach poll = Enter
phase_after_status start state.DfuIdle poll = start
phase_after_status start state.DownloadSync poll = WaitFind poll
phase_after_status start state.DownloadBusy poll = WaitFind poll
phase_after_status start state.DownloadIdle poll = Quit
phase_after_status start state.ManifestSync poll = WaitFind poll
phase_after_status start state.Manifest poll = WaitFind poll
phase_after_status start state.ManifestWaitReset poll = ResetFind
phase_after_status start state.UploadIdle poll = Quit
phase_after_status start state.Error poll = Clear

-- Phase after a status in Trouble. dfuERROR with a code other than OK and errSTALLEDPKT ends the session as Refused; any other status leads
-- to the phase for its state.
abbrev pub phase_in_trouble : Phase → Code → ℕ → State → Phase
phase_in_trouble start code.Ok poll s = phase_after_status start s poll
phase_in_trouble start code.StalledPkt poll s = phase_after_status start s poll
phase_in_trouble start c poll state.Error = Over (report.Refused c)
phase_in_trouble start c poll s = phase_after_status start s poll

-- Phase after a status in Poll. The host waits while block n is being written; then it sends the next block, or the close after the last
-- one. Any other state is handled as in Trouble.
abbrev pub polled_phase : Phase → (blocks n : ℕ) → Code → ℕ → State → Phase
polled_phase start blocks n c poll state.DownloadSync = WaitPoll n poll
polled_phase start blocks n c poll state.DownloadBusy = WaitPoll n poll
polled_phase start blocks n c poll state.DownloadIdle = if suc n == blocks then Close else Block (suc n)
polled_phase start blocks n c poll s = phase_in_trouble start c poll s

-- Phase after a status in Manifest. If the device is tolerant, the host waits while the image is being installed, and dfuIDLE with OK then
-- confirms the install. If not, the install stays unconfirmed: after a wait if the image is being installed, or at once in dfuIDLE and
-- dfuMANIFEST-WAIT-RESET. Any other status is handled as in Trouble.
abbrev pub manifest_phase : Phase → (tolerant : Bool) → Code → ℕ → State → Phase
manifest_phase start true c poll state.ManifestSync = WaitManifest poll
manifest_phase start true c poll state.Manifest = WaitManifest poll
manifest_phase start true code.Ok poll state.DfuIdle = Last report.Installed
manifest_phase start true c poll s = phase_in_trouble start c poll s
manifest_phase start false c poll state.ManifestSync = WaitLast poll
manifest_phase start false c poll state.Manifest = WaitLast poll
manifest_phase start false c poll state.DfuIdle = Last report.Unconfirmed
manifest_phase start false c poll state.ManifestWaitReset = Last report.Unconfirmed
manifest_phase start false c poll s = phase_in_trouble start c poll s

-- Phase after a state in Ask. If the state shows that block n arrived, the host polls; if it shows that the block was lost, the host sends
-- it again. Any other state leads to Trouble.
abbrev pub asked_phase : ℕ → State → Phase
asked_phase n state.DownloadSync = Poll n
asked_phase zero state.DfuIdle = Block zero
asked_phase (suc n) state.DownloadIdle = Block (suc n)
asked_phase n s = Trouble

-- Phase after a state in AskLast. If the state shows that the close arrived, the host checks the manifestation; if it shows that the close
-- was lost, the host sends it again. Any other state leads to Trouble.
abbrev pub asked_last_phase : State → Phase
asked_last_phase state.ManifestSync = Manifest
asked_last_phase state.DownloadIdle = Close
asked_last_phase s = Trouble

-- Phase after a part in Fetch. A full part leads to the next part, unless it is one too many. A shorter part is the last; a longer one
-- leads to Find.
abbrev pub fetched_phase : (t k : ℕ) (kept bytes : List ℕ) → Phase
fetched_phase t k kept bytes =
    if length bytes == t then (if suc k == 65535 then Over report.TooManyBlocks else Fetch (suc k) (kept ++ bytes))
    else if nat_lt (length bytes) t then LastUploaded (kept ++ bytes)
    else Find

-- Phase after a part in Compare. A part of more than t bytes leads to Find, and one that differs from block k (empty beyond the last block)
-- to Different. An equal part leads to Verified if it is shorter than t; else to the next part, unless it is one too many.
abbrev pub compared_phase : (t k : ℕ) → (block bytes : List ℕ) → Phase
compared_phase t k block bytes =
    if nat_lt t (length bytes) then Find
    else if bytes_eq bytes block then (if nat_lt (length bytes) t then Last report.Verified
    else if suc k == 65535 then Over report.TooManyBlocks else Compare (suc k))
    else Last report.Different

-- Phase after the last reset: the end with the report, or Find if the payload is to be compared.
abbrev pub after_last : Goal → Report → Phase
after_last (VerifyGoal payload) report = Find
after_last goal report = Over report

-- Phase after GETSTATUS, for a status, a stall, or any other result.
abbrev pub on_status : Heard → (Code → ℕ → State → Phase) → (stalled nothing : Phase) → Phase
on_status (Status c poll s) told stalled nothing = told c poll s
on_status Stalled told stalled nothing = stalled
on_status heard told stalled nothing = nothing

-- Phase after GETSTATE, for a state, a stall, or any other result.
abbrev pub on_state : Heard → (State → Phase) → (stalled nothing : Phase) → Phase
on_state (StateIs s) told stalled nothing = told s
on_state Stalled told stalled nothing = stalled
on_state heard told stalled nothing = nothing

-- Phase after a request whose answer has no bytes, for an acknowledgement, a stall, or any other result.
abbrev pub on_ack : Heard → (acked stalled nothing : Phase) → Phase
on_ack Acked acked stalled nothing = acked
on_ack Stalled acked stalled nothing = stalled
on_ack heard acked stalled nothing = nothing

-- Phase after a wait: `waited` once the wait is over, `again` after any other result.
abbrev pub on_waited : Heard → (waited again : Phase) → Phase
on_waited Waited waited again = waited
on_waited heard waited again = again

-- Phase after a reset of the bus: `done` once the bus was reset, `again` after any other result.
abbrev pub on_reset : Heard → (done again : Phase) → Phase
on_reset WasReset done again = done
on_reset heard done again = again

-- Phase after UPLOAD, which the bytes of a part select. A part without memory ends the session; any other result leads to Find.
abbrev pub on_part : (t k : ℕ) (kept : List ℕ) → Heard → Phase
on_part t k kept (Part bytes) = fetched_phase t k kept bytes
on_part t k kept NoRoom = Over report.NoMemory
on_part t k kept heard = Find

-- Phase after UPLOAD for a comparison, which the bytes of a part select. Any other result leads to Find.
abbrev pub on_compared : (t k : ℕ) → (block : List ℕ) → Heard → Phase
on_compared t k block (Part bytes) = compared_phase t k block bytes
on_compared t k block heard = Find

-- The table: the phase after a result other than Restarted and Left, before the budget check.
abbrev pub host_row : Task → Phase → Heard → Phase
host_row task Find heard = on_status heard (λ c poll s. phase_after_status (work_start task.goal) s poll) FindAgain Find
host_row task FindAgain heard = on_status heard (λ c poll s. phase_after_status (work_start task.goal) s poll) ResetFind FindAgain
host_row task Detach heard = on_ack heard Enter Find Find
host_row task Enter heard = if task.will_detach then on_waited heard Find Enter else on_reset heard Find Enter
host_row task Clear heard = Find
host_row task Quit heard = Find
host_row task (WaitFind poll) heard = on_waited heard Find (WaitFind poll)
host_row task ResetFind heard = on_reset heard Find ResetFind
host_row task (Block n) heard = on_ack heard (Poll n) Trouble (Ask n)
host_row task (Ask n) heard = on_state heard (asked_phase n) Trouble (Ask n)
host_row task (Poll n) heard = on_status heard (polled_phase (work_start task.goal) (length (session_blocks task)) n) Trouble (Poll n)
host_row task (WaitPoll n poll) heard = on_waited heard (Poll n) (WaitPoll n poll)
host_row task Close heard = on_ack heard Manifest Trouble AskLast
host_row task AskLast heard = on_state heard asked_last_phase Trouble AskLast
host_row task Manifest heard = on_status heard (manifest_phase (work_start task.goal) task.tolerant) Trouble Manifest
host_row task (WaitManifest poll) heard = on_waited heard Manifest (WaitManifest poll)
host_row task (WaitLast poll) heard = on_waited heard (Last report.Unconfirmed) (WaitLast poll)
host_row task Trouble heard = on_status heard (phase_in_trouble (work_start task.goal)) FindAgain Trouble
host_row task (Fetch k kept) heard = on_part task.transfer k kept heard
host_row task (LastUploaded kept) heard = on_reset heard (OverUploaded kept) (LastUploaded kept)
host_row task (Compare k) heard = on_compared task.transfer k (slice_index_or (session_blocks task) k []) heard
host_row task (Last report) heard = on_reset heard (after_last task.goal report) (Last report)
host_row task GiveUp heard = Over report.Aborted
host_row task (Over report) heard = Over report
host_row task (OverUploaded kept) heard = OverUploaded kept

-- The goal after the last reset. A session that verifies a payload compares it from then on.
abbrev pub goal_after_reset : Goal → Goal
goal_after_reset (VerifyGoal payload) = CompareGoal payload
goal_after_reset goal = goal

-- The goal after a result in a phase. It changes only once the last reset is done.
abbrev pub goal_after : Goal → Phase → Heard → Goal
goal_after goal (Last report) WasReset = goal_after_reset goal
goal_after goal phase heard = goal

-- The task after a result in a phase. Only its goal may change.
abbrev pub task_after : Task → Phase → Heard → Task
task_after task phase heard = record task { goal = goal_after task.goal phase heard }
