-- Only the goal of a session's task changes, because its other fields are the device's descriptor.
use Rattle.std.proofs.Common.{◌≡◌, ℕ, zero, suc, Bool, true, false, refl, sym, subst}
use Rattle.dfu_host.specs.Phases.{Task, Phase, Find, GiveUp, Last, Over, OverUploaded, Heard, Restarted, Left}
use Rattle.dfu_host.specs.BehindClose.{is_behind_close}
use Rattle.dfu_host.specs.Table.{task_after}
use Rattle.dfu_host.specs.Host.{HostState, host_after_restart, host_after_leaving, host_after_result, host_after_phase, after}

-- Two tasks have equal descriptor fields.
pub record SameDescriptor (a b : Task) : Type 0 where
  pub transfer : b.transfer ≡ a.transfer
  pub tolerant : b.tolerant ≡ a.tolerant
  pub will_detach : b.will_detach ≡ a.will_detach
  pub detach_ms : b.detach_ms ≡ a.detach_ms

task_has_own_descriptor : (task : Task) → SameDescriptor task task
task_has_own_descriptor task = record { transfer = refl; tolerant = refl; will_detach = refl; detach_ms = refl }

-- A restart doesn't change the task.
restart_keeps_task : (h : HostState) (phase : Phase) (restarts : ℕ) → (host_after_restart h phase restarts).task ≡ h.task
restart_keeps_task h GiveUp restarts = refl
restart_keeps_task h phase zero = refl
restart_keeps_task h phase (suc restarts) = refl

-- A result changes the task of a live host to `task_after`, unless the device left by itself.
heard_gives_task_after : (h : HostState) (phase : Phase) (heard : Heard) → (heard ≡ Left → ⊥)
    → (host_after_result h phase heard).task ≡ task_after h.task phase heard
heard_gives_task_after h (Last report) Restarted never = restart_keeps_task h (Last report) h.restarts
heard_gives_task_after h phase Restarted never = restart_keeps_task h phase h.restarts
heard_gives_task_after h phase Left never = absurd (never refl)
heard_gives_task_after h phase heard never = refl

-- A result in a phase changes the task to `task_after`, unless the device left by itself.
phase_gives_task_after : (h : HostState) (phase : Phase) (heard : Heard) → (heard ≡ Left → ⊥)
    → (host_after_phase h phase heard).task ≡ task_after h.task phase heard
phase_gives_task_after h (Over r) heard never = refl
phase_gives_task_after h (OverUploaded kept) heard never = refl
phase_gives_task_after h Find heard never = heard_gives_task_after h Find heard never
phase_gives_task_after h phase heard never = heard_gives_task_after h phase heard never

-- A result changes the task of a host to `task_after`, unless the device left by itself.
pub host_gives_task_after : (h : HostState) (heard : Heard) → (heard ≡ Left → ⊥) → (after h heard).task ≡ task_after h.task h.phase heard
host_gives_task_after h heard never = phase_gives_task_after h h.phase heard never

-- `task_after` doesn't change the descriptor fields.
pub task_after_keeps_descriptor : (task : Task) (phase : Phase) (heard : Heard) → SameDescriptor task (task_after task phase heard)
task_after_keeps_descriptor task phase heard = record { transfer = refl; tolerant = refl; will_detach = refl; detach_ms = refl }

-- A restart doesn't change the descriptor fields.
restart_keeps_descriptor : (h : HostState) (phase : Phase) (restarts : ℕ) → SameDescriptor h.task (host_after_restart h phase restarts).task
restart_keeps_descriptor h phase restarts = subst (SameDescriptor h.task) (sym (restart_keeps_task h phase restarts))
    (task_has_own_descriptor h.task)

-- A device that leaves doesn't change the descriptor fields.
leaving_keeps_descriptor : (h : HostState) (phase : Phase) (behind : Bool) → SameDescriptor h.task (host_after_leaving h phase behind).task
leaving_keeps_descriptor h phase true = record { transfer = refl; tolerant = refl; will_detach = refl; detach_ms = refl }
leaving_keeps_descriptor h phase false = restart_keeps_descriptor h phase h.restarts

-- No result of a live host changes the descriptor fields.
heard_result_keeps_descriptor : (h : HostState) (phase : Phase) (heard : Heard) →
    SameDescriptor h.task (host_after_result h phase heard).task
heard_result_keeps_descriptor h phase Restarted = restart_keeps_descriptor h phase h.restarts
heard_result_keeps_descriptor h phase Left = leaving_keeps_descriptor h phase (is_behind_close h.task.goal phase)
heard_result_keeps_descriptor h phase heard = task_after_keeps_descriptor h.task phase heard

-- No result in a phase changes the descriptor fields.
phase_keeps_descriptor : (h : HostState) (phase : Phase) (heard : Heard) → SameDescriptor h.task (host_after_phase h phase heard).task
phase_keeps_descriptor h (Over r) heard = task_has_own_descriptor h.task
phase_keeps_descriptor h (OverUploaded kept) heard = task_has_own_descriptor h.task
phase_keeps_descriptor h Find heard = heard_result_keeps_descriptor h Find heard
phase_keeps_descriptor h phase heard = heard_result_keeps_descriptor h phase heard

-- No result changes the descriptor fields of a host.
pub heard_host_keeps_descriptor : (h : HostState) (heard : Heard) → SameDescriptor h.task (after h heard).task
heard_host_keeps_descriptor h heard = phase_keeps_descriptor h h.phase heard
