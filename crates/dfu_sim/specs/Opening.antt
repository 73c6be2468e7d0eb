-- Task of a session on a link, which follows from the device's profile and the session's goal.
use Rattle.std.specs.Prelude.{ℕ, List}
use Rattle.dfu_wire.specs.declared.functionals.Functional.{Functional}
use Rattle.dfu_device.specs.Stage.{Profile}
use Rattle.dfu_host.specs.Phases.{Goal, LoadGoal, VerifyGoal, Task}
use Rattle.dfu_host.specs.Host.{initial_host, task_by_descriptor as host_task_for}
use Rattle.dfu_sim.specs.declared.offering.Purpose.{Purpose}
use Rattle.dfu_sim.specs.declared.offering.Purpose.TheVariants.{Install, Verify}
use Rattle.dfu_sim.specs.LinkView.{Session, HostSession}

-- A descriptor of a device with this profile. Its version is arbitrary, because no task depends on it.
abbrev pub descriptor_of : Profile → Functional
descriptor_of c = record {
  can_download = c.can_download;
  can_upload = c.can_upload;
  tolerant = c.tolerant;
  will_detach = c.will_detach;
  detach_ms = c.detach_ms;
  transfer = c.transfer;
  version = 0x0110;
}

-- The host's task for a goal, by the descriptor of a device with this profile.
abbrev pub task_for : Profile → Goal → Task
task_for c goal = host_task_for (descriptor_of c) goal

-- Goal of a session, by the purpose of its offer.
abbrev pub goal_of_purpose : Purpose → (payload : List ℕ) → Goal
goal_of_purpose Install payload = LoadGoal payload
goal_of_purpose Verify payload = VerifyGoal payload

-- A new session, with the task for its goal.
abbrev pub opened : Profile → Goal → (actions restarts : ℕ) → Session
opened c goal actions restarts = HostSession (initial_host (task_for c goal) actions restarts)
