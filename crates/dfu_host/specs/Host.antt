-- A host as one value, its action, and the host after a result.
use Rattle.std.specs.Prelude.{◌≡◌, ℕ, zero, suc, pred, max, Bool, true, false, IsTrue, List, [], ◌∷◌}
use Rattle.dfu_wire.specs.declared.functionals.Functional.{Functional}
use Rattle.dfu_host.specs.declared.limits.Limits.{Limits}
use Rattle.dfu_host.specs.declared.report.Report.TheVariants as report
use Rattle.dfu_host.specs.declared.action.Action.{Action}
use Rattle.dfu_host.specs.declared.seen.Seen.{Seen}
use Rattle.dfu_host.specs.Phases.{Goal, Task, Phase, Find, Fetch, Last, GiveUp, Over, OverUploaded, Heard, NoRoom, WasReset, Restarted, Left}
use Rattle.dfu_host.specs.PhaseClasses.{Common, Sending, Closing, Manifesting, Fetching, Comparing, Ending, EndingUpload, Ended, EndedUpload, class_of}
use Rattle.dfu_host.specs.BehindClose.{is_behind_close}
use Rattle.dfu_host.specs.Table.{deed, host_row, task_after}
use Rattle.dfu_host.specs.Wire.{SeenMeaning, SpellsDeed}

-- State of a host: its task, its phase, and the numbers of actions and of restarts of the device that are left.
pub record HostState : Type 0 where
  pub task : Task
  pub phase : Phase
  pub actions : ℕ
  pub restarts : ℕ

-- A host at the beginning of its session: in phase Find, with at least one action.
abbrev pub initial_host : Task → (actions restarts : ℕ) → HostState
initial_host task actions restarts = record { task = task; phase = Find; actions = max 1 actions; restarts = restarts }

-- Task of a session with this goal and this device descriptor.
abbrev pub task_by_descriptor : Functional → Goal → Task
task_by_descriptor functional goal = record {
  goal = goal;
  transfer = functional.transfer;
  tolerant = functional.tolerant;
  will_detach = functional.will_detach;
  detach_ms = functional.detach_ms;
}

-- Host at the beginning of a session with this device descriptor, goal and limits.
abbrev pub host_for_goal : Functional → Goal → Limits → HostState
host_for_goal functional goal limits = initial_host (task_by_descriptor functional goal) limits.actions limits.restarts

-- The session is not over in this phase.
abbrev pub IsLivePhase : Phase → Type 0
IsLivePhase phase = elim (class_of phase) [
  | Common ↦ Unit {0}
  | Sending n ↦ Unit {0}
  | Closing ↦ Unit {0}
  | Manifesting ↦ Unit {0}
  | Fetching k kept ↦ Unit {0}
  | Comparing k ↦ Unit {0}
  | Ending report ↦ Unit {0}
  | EndingUpload kept ↦ Unit {0}
  | Ended report ↦ ⊥
  | EndedUpload kept ↦ ⊥
]

-- The session is over in this phase.
abbrev pub IsOverPhase : Phase → Type 0
IsOverPhase (Over report) = Unit {0}
IsOverPhase (OverUploaded kept) = Unit {0}
IsOverPhase phase = ⊥

-- The phase after the budget check. A host without actions left gives up instead of entering the phase, unless it is over.
abbrev pub phase_in_budget : (left : ℕ) → Phase → Phase
phase_in_budget left (Over r) = Over r
phase_in_budget left (OverUploaded kept) = OverUploaded kept
phase_in_budget zero phase = Over report.GaveUp
phase_in_budget (suc left) phase = phase

-- The host after an action that leads to this phase. It has one action fewer, and gives up if none is left.
abbrev pub host_after_action : HostState → Phase → (restarts : ℕ) → HostState
host_after_action h phase restarts = record {
  task = h.task;
  phase = phase_in_budget (pred h.actions) phase;
  actions = pred h.actions;
  restarts = restarts;
}

-- The host after a restart of its device. In GiveUp it ends as Aborted. In any other phase it ends as RestartsSpent if no restarts are
-- left; else it returns to Find with one restart fewer.
abbrev pub host_after_restart : HostState → Phase → (restarts : ℕ) → HostState
host_after_restart h GiveUp restarts = host_after_action h (Over report.Aborted) restarts
host_after_restart h phase zero = host_after_action h (Over report.RestartsSpent) zero
host_after_restart h phase (suc restarts) = host_after_action h Find restarts

-- The host after an action: the table's row gives the next phase, and `task_after` the task.
abbrev pub host_by_row : HostState → Phase → Heard → HostState
host_by_row h phase heard = host_after_action (record h { task = task_after h.task phase heard }) (host_row h.task phase heard) h.restarts

-- The host after its device left by itself. After the close, this counts as the last reset, which confirms nothing; in every other phase it
-- counts as a restart.
abbrev pub host_after_leaving : HostState → Phase → (behind_close : Bool) → HostState
host_after_leaving h phase true = host_by_row h (Last report.Unconfirmed) WasReset
host_after_leaving h phase false = host_after_restart h phase h.restarts

-- The live host after a result: a restart, a device that left by itself, or a result for the table's row.
abbrev pub host_after_result : HostState → Phase → Heard → HostState
host_after_result h phase Restarted = host_after_restart h phase h.restarts
host_after_result h phase Left = host_after_leaving h phase (is_behind_close h.task.goal phase)
host_after_result h phase heard = host_by_row h phase heard

-- The host after a result in a phase. A host that is done is unchanged.
abbrev pub host_after_phase : HostState → Phase → Heard → HostState
host_after_phase h (Over r) heard = h
host_after_phase h (OverUploaded kept) heard = h
host_after_phase h phase heard = host_after_result h phase heard

-- The host after a result in its own phase.
abbrev pub after : HostState → Heard → HostState
after h heard = host_after_phase h h.phase heard

-- The host after an abort in this phase. Its phase becomes GiveUp, unless it is done.
abbrev pub host_given_up_in_phase : HostState → Phase → HostState
host_given_up_in_phase h (Over r) = h
host_given_up_in_phase h (OverUploaded kept) = h
host_given_up_in_phase h phase = record h { phase = GiveUp }

-- The host after an abort. Its phase becomes GiveUp, unless it is done.
abbrev pub aborted_host : HostState → HostState
aborted_host h = host_given_up_in_phase h h.phase

-- The action of a host is the deed of its phase, with setup packet and body.
abbrev pub Act : HostState → Action → Type 0
Act h action = SpellsDeed (deed h.task h.phase) action

-- True if the host must keep the bytes that it requests in the phase, and so needs memory. This is so only in Fetch.
abbrev pub wants_memory : Phase → Bool
wants_memory (Fetch k kept) = true
wants_memory phase = false

-- A host takes a result as a row of the table allows. The action decides the meaning of the result, and the table decides the next state of
-- the host. NoRoom occurs only in a phase that needs memory.
pub record HostRow (h : HostState) (seen : Seen) (h' : HostState) : Type 0 where
  pub heard : Heard
  pub hears : SeenMeaning (deed h.task h.phase) seen heard
  pub room : heard ≡ NoRoom → IsTrue (wants_memory h.phase)
  pub same : h' ≡ after h heard

-- A host takes the results of a list, in their order.
pub data HostRows : HostState → List Seen → HostState → Type 0 where
  seen_all : {h : HostState} → HostRows h [] h
  sees : {h mid h' : HostState} {seen : Seen} {more : List Seen}
      → HostRow h seen mid → HostRows mid more h' → HostRows h (seen ∷ more) h'
