-- The session in a record.
use Rattle.std.specs.Prelude.{◌≡◌, ℕ, ◌==◌, ◌≤◌, not, if◌then◌else◌, List, length, take, Option, Some, None, option_and_then, option_map}
use Rattle.std.specs.Borrow.{Bor}
use Rattle.dfu_host.specs.declared.goal.Goal.{Goal}
use Rattle.dfu_host.specs.declared.goal.Goal.TheVariants as goal
use Rattle.dfu_host.specs.declared.limits.Limits.{Limits}
use Rattle.dfu_host.specs.declared.phase.Phase.{Phase}
use Rattle.dfu_host.specs.declared.parts.Parts.{Parts}
use Rattle.dfu_host.specs.Host.{HostState}
use Rattle.dfu_host.specs.InParts.{ArePartsOfSession, host_of}
use Rattle.dfu_host_core.specs.PhaseNumbers.{phase_at}
use Rattle.dfu_host_core.specs.WrittenNumbers.{numbers_in}
use Rattle.dfu_host_core.specs.declared.session.DfuSession.{DfuSession}

-- The version of the library, 0.3.0: 10,000 for each major, 100 for each minor and 1 for each patch version.
abbrev pub version : ℕ
version = 300

abbrev pub limits_of : (actions restarts : ℕ) → Limits
limits_of actions restarts = record { actions = actions; restarts = restarts }

-- Goal with this number: 1 to install the payload, 2 to fetch the image, 3 to install the payload and then compare it, 4 to compare it;
-- None for any other number.
abbrev pub goal_at : ℕ → (payload : Bor (List ℕ)) → Option Goal
goal_at number payload =
    if number == 1 then Some (goal.Load payload)
    else if number == 2 then Some goal.Fetch
    else if number == 3 then Some (goal.Verify payload)
    else if number == 4 then Some (goal.Compare payload)
    else None

-- Parts of a session, from a goal, a phase and the other fields of its record.
abbrev pub parts_in : DfuSession → Goal → Phase → Parts
parts_in r goal phase = record {
  goal = goal;
  transfer = r.transfer;
  tolerant = not (r.tolerant == 0);
  will_detach = not (r.will_detach == 0);
  detach_ms = r.detach_ms;
  phase = phase;
  actions = r.actions;
  restarts = r.restarts;
}

-- Parts of a record with this payload; None if no goal or no phase has its numbers.
abbrev pub parts_of : DfuSession → (payload : Bor (List ℕ)) → Option Parts
parts_of r payload = option_and_then (λ goal. option_map (parts_in r goal) (phase_at r.phase r.number r.more)) (goal_at r.goal payload)

-- The record has the library's version and holds a session with this payload and these parts.
pub record IsRecord (r : DfuSession) (payload : Bor (List ℕ)) (parts : Parts) : Type 0 where
  pub version_is : r.version ≡ version
  pub says : parts_of r payload ≡ Some parts
  pub sound : ArePartsOfSession parts

-- The record contains the numbers that the library writes for the phase of these parts, with 0 for those that the phase doesn't use. Its
-- flags are 0 or 1.
pub record HasWrittenNumbers (r : DfuSession) (parts : Parts) : Type 0 where
  pub number : r.number ≡ (numbers_in parts.phase).number
  pub more : r.more ≡ (numbers_in parts.phase).more
  pub tolerant : r.tolerant ≤ 1
  pub will_detach : r.will_detach ≤ 1

-- The record holds a session with this payload and these parts, and the buffer is at least as long as the bytes that the session keeps.
pub record IsRecordAndBuffer (r : DfuSession) (payload : Bor (List ℕ)) (buffer : List ℕ) (parts : Parts) : Type 0 where
  pub stands : IsRecord r payload parts
  pub room : r.kept ≤ length buffer

-- The host of a record's session, with the first bytes of the buffer as its kept bytes.
abbrev pub host_in : DfuSession → (buffer : List ℕ) → Parts → HostState
host_in r buffer parts = host_of (take r.kept buffer) parts
