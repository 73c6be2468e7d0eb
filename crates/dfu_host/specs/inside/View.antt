-- Values in the table that correspond to the code's values.
use Rattle.std.specs.Prelude.{ℕ, List, [], length}
use Rattle.dfu_wire.specs.declared.codes.Code.{Code}
use Rattle.dfu_wire.specs.declared.states.State.{State}
use Rattle.dfu_host.specs.declared.heard.Heard.{Heard}
use Rattle.dfu_host.specs.declared.heard.Heard.TheVariants as heard
use Rattle.dfu_host.specs.declared.seen.Seen.{Seen}
use Rattle.dfu_host.specs.declared.seen.Seen.TheVariants as seen
use Rattle.dfu_host.specs.declared.parts.Parts.{Parts}
use Rattle.dfu_host.specs.declared.phase.Phase.{Phase}
use Rattle.dfu_host.specs.declared.phase.Phase.TheVariants as phase
use Rattle.dfu_host.specs.declared.task.Task.{Task}
use Rattle.dfu_host.specs.declared.progress.Progress.{Progress}
use Rattle.dfu_host.specs.Goals.{goal_of}
use Rattle.dfu_host.specs.InParts.{host_of}
use Rattle.dfu_host.specs.Table as table
use Rattle.dfu_host.specs.Host.{HostState}

-- Result in the table that corresponds to a result in the code. `part` holds the bytes of an uploaded part.
abbrev pub meaning_of_heard : (part : List ℕ) → Heard → table.Heard
meaning_of_heard part heard.Acked = table.Acked
meaning_of_heard part (heard.Told status) = table.Status status.code status.poll_ms status.state
meaning_of_heard part (heard.StateIs state) = table.StateIs state
meaning_of_heard part (heard.Part length) = table.Part part
meaning_of_heard part (heard.Compared same length) = table.Part part
meaning_of_heard part heard.NoRoom = table.NoRoom
meaning_of_heard part heard.Stalled = table.Stalled
meaning_of_heard part heard.Nothing = table.Nothing
meaning_of_heard part heard.Waited = table.Waited
meaning_of_heard part heard.WasReset = table.WasReset
meaning_of_heard part heard.Restarted = table.Restarted
meaning_of_heard part heard.Left = table.Left

-- Bytes of a result, which may be a part of an upload; none if the result has no bytes.
abbrev pub part_of : Seen → List ℕ
part_of (seen.Bytes bytes) = bytes.now
part_of seen.Ack = []
part_of seen.Stall = []
part_of seen.Nothing = []
part_of seen.Waited = []
part_of seen.WasReset = []
part_of seen.Restarted = []
part_of seen.Left = []

-- Task in the table that corresponds to a task of the code. All fields are equal.
abbrev pub task_of_session : Task → table.Task
task_of_session t = record {
  goal = goal_of t.goal;
  transfer = t.transfer;
  tolerant = t.tolerant;
  will_detach = t.will_detach;
  detach_ms = t.detach_ms;
}

-- The parts of a session: its task and its progress.
abbrev pub session_parts : Task → Progress → Parts
session_parts t p = record {
  goal = t.goal;
  transfer = t.transfer;
  tolerant = t.tolerant;
  will_detach = t.will_detach;
  detach_ms = t.detach_ms;
  phase = p.phase;
  actions = p.actions;
  restarts = p.restarts;
}

-- Host with this task and this progress, whose kept bytes are those in the memory.
abbrev pub host_of_progress : List ℕ → Task → Progress → HostState
host_of_progress memory t p = host_of memory (session_parts t p)

-- Row of the table for a status that the host requested in this phase. The result depends on the status's code, poll time and state.
abbrev pub status_row : table.Task → Phase → Code → ℕ → State → table.Phase
status_row task (phase.Poll n) = table.polled_phase (table.work_start task.goal) (length (table.session_blocks task)) n
status_row task phase.Manifest = table.manifest_phase (table.work_start task.goal) task.tolerant
status_row task phase.Trouble = table.phase_in_trouble (table.work_start task.goal)
status_row task asking = λ code poll state. table.phase_after_status (table.work_start task.goal) state poll
