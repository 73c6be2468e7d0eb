-- The parts of a session in the code, and the table's host with these parts and an upload's kept bytes.
use Rattle.std.specs.Prelude.{◌≡◌, ℕ, zero, suc, ◌*◌, ◌<◌, List, [], length, take, drop}
use Rattle.dfu_host.specs.declared.goal.Goal.{Goal}
use Rattle.dfu_host.specs.declared.phase.Phase.{Phase}
use Rattle.dfu_host.specs.declared.phase.Phase.TheVariants as phase
use Rattle.dfu_host.specs.declared.parts.Parts.{Parts}
use Rattle.dfu_host.specs.declared.action.Action.{Action}
use Rattle.dfu_host.specs.declared.action.Action.TheVariants as action
use Rattle.dfu_host.specs.Goals.{goal_of, payload_of, size_of, IsFetch}
use Rattle.dfu_host.specs.PhaseClasses.{Common, Sending, Closing, Manifesting, Fetching, Comparing, Ending, EndingUpload, Ended, EndedUpload, class_of}
use Rattle.dfu_host.specs.Table as table
use Rattle.dfu_host.specs.Host.{HostState}

-- Bytes of the memory that are kept when part k is requested: none before the first part.
abbrev pub bytes_kept_for_part : ℕ → List ℕ → List ℕ
bytes_kept_for_part zero memory = []
bytes_kept_for_part (suc k) memory = memory

-- Phase in the table that corresponds to a phase of the code, with the bytes kept in memory.
abbrev pub phase_of : List ℕ → Phase → table.Phase
phase_of memory phase.Find = table.Find
phase_of memory phase.FindAgain = table.FindAgain
phase_of memory phase.Detach = table.Detach
phase_of memory phase.Enter = table.Enter
phase_of memory phase.Clear = table.Clear
phase_of memory phase.Quit = table.Quit
phase_of memory (phase.WaitFind poll) = table.WaitFind poll
phase_of memory phase.ResetFind = table.ResetFind
phase_of memory (phase.Block n) = table.Block n
phase_of memory (phase.Ask n) = table.Ask n
phase_of memory (phase.Poll n) = table.Poll n
phase_of memory (phase.WaitPoll n poll) = table.WaitPoll n poll
phase_of memory phase.Close = table.Close
phase_of memory phase.AskLast = table.AskLast
phase_of memory phase.Manifest = table.Manifest
phase_of memory (phase.WaitManifest poll) = table.WaitManifest poll
phase_of memory (phase.WaitLast poll) = table.WaitLast poll
phase_of memory phase.Trouble = table.Trouble
phase_of memory (phase.Last report) = table.Last report
phase_of memory (phase.Fetch k) = table.Fetch k (bytes_kept_for_part k memory)
phase_of memory phase.LastUploaded = table.LastUploaded memory
phase_of memory (phase.Compare k) = table.Compare k
phase_of memory phase.GiveUp = table.GiveUp
phase_of memory (phase.Over report) = table.Over report
phase_of memory phase.OverUploaded = table.OverUploaded memory

-- `is` is the phase in the table that corresponds to this phase of the code, for some memory with an upload's bytes.
pub record IsTablePhase (is : table.Phase) (phase : Phase) : Type 0 where
  pub memory : List ℕ
  pub same : is ≡ phase_of memory phase

-- The session has what its phase needs: block n to send it, a payload of at least one byte to close, an upload and a part number below
-- 65,535 to fetch, and such a number to compare. Other phases need nothing.
abbrev pub HasPhaseNeeds : Goal → (transfer : ℕ) → Phase → Type 0
HasPhaseNeeds goal t phase = elim (class_of (phase_of [] phase)) [
  | Common ↦ Unit {0}
  | Sending n ↦ n * t < length (payload_of goal)
  | Closing ↦ 0 < length (payload_of goal)
  | Manifesting ↦ Unit {0}
  | Fetching k kept ↦ IsFetch goal × (k < 65535)
  | Comparing k ↦ k < 65535
  | Ending report ↦ Unit {0}
  | EndingUpload kept ↦ Unit {0}
  | Ended report ↦ Unit {0}
  | EndedUpload kept ↦ Unit {0}
]

-- The parts form a session: a payload has at least one byte, the transfer size is over 0, and the phase has what it needs.
pub record ArePartsOfSession (p : Parts) : Type 0 where
  pub some : 0 < size_of p.goal
  pub transfers : 0 < p.transfer
  pub within : HasPhaseNeeds p.goal p.transfer p.phase

-- Host in the table that corresponds to a session's parts, with the bytes kept in memory.
abbrev pub host_of : List ℕ → Parts → HostState
host_of memory p = record {
  task = record {
    goal = goal_of p.goal;
    transfer = p.transfer;
    tolerant = p.tolerant;
    will_detach = p.will_detach;
    detach_ms = p.detach_ms;
  };
  phase = phase_of memory p.phase;
  actions = p.actions;
  restarts = p.restarts;
}

-- Offset in the payload of the body of a phase's request: that of the phase's block, or 0 if the request has no body.
abbrev pub body_offset : (t : ℕ) → Phase → ℕ
body_offset t (phase.Block n) = n * t
body_offset t other = 0

-- The body of a request is a slice of the payload that begins at this offset; any other action has no body.
abbrev pub BodyIsSliceOfPayload : (payload : List ℕ) (from : ℕ) → Action → Type 0
BodyIsSliceOfPayload payload from (action.Send setup body) = body.now ≡ take (length body.now) (drop from payload)
BodyIsSliceOfPayload payload from (action.Wait ms) = Unit {0}
BodyIsSliceOfPayload payload from action.Reset = Unit {0}
BodyIsSliceOfPayload payload from (action.Done report) = Unit {0}
