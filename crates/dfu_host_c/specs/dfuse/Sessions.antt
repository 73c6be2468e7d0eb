-- The DfuSe session in a record.
use Rattle.std.specs.Prelude.{◌≡◌, ℕ, Bool, true, false, ◌==◌, not, if◌then◌else◌, List, Option, Some, None, option_map}
use Rattle.std.specs.Borrow.{Bor}
use Rattle.dfu_formats.specs.memory.Reading.{MapContent}
use Rattle.dfu_formats.specs.memory.Grammar.{IsMap}
use Rattle.dfu_formats.specs.declared.dfuse.element.Element.{Element}
use Rattle.dfuse_host.specs.declared.phase.Phase.{Phase}
use Rattle.dfuse_host.specs.declared.limits.Limits.{Limits}
use Rattle.dfuse_host.specs.declared.plan.Plan.{Plan}
use Rattle.dfuse_host.specs.declared.session.Session.{Session}
use Rattle.dfu_host_core.specs.Sessions.{version}
use Rattle.dfu_host_c.specs.dfuse.PhaseNumbers.{dfuse_numbers_in, dfuse_phase_at}
use Rattle.dfu_host_c.specs.declared.dfuse.phases.EncodedDfusePhase.{EncodedDfusePhase}
use Rattle.dfu_host_c.specs.declared.dfuse.plan.DfusePlan.{DfusePlan}
use Rattle.dfu_host_c.specs.declared.dfuse.session.DfuseSession.{DfuseSession}

-- The numbers of a record that encode its phase.
abbrev pub numbers_of : DfuseSession → EncodedDfusePhase
numbers_of r = record {
  work = r.work;
  at = r.at;
  end = r.end;
  place = r.place;
  pointer = r.pointer;
  step = r.step;
  more = r.more;
  report = r.report;
}

-- Phase of a record; None if the record has another version, or if no phase has its numbers.
abbrev pub phase_in : DfuseSession → Option Phase
phase_in r = if r.version == version then dfuse_phase_at (numbers_of r) else None

-- Plan with the fields of a record, a map and an image.
abbrev pub dfuse_plan_of : DfusePlan → (map : Bor MapContent) → (image : Bor (List Element)) → Plan
dfuse_plan_of r map image = record {
  map = map;
  image = image;
  transfer = r.transfer;
  front = r.front;
  leaves = not (r.leaves == 0);
  start = r.start;
}

-- Session in a phase, with a map and an image, and with the plan, the actions and the restarts of a record.
abbrev pub dfuse_session_in_phase : DfuseSession → (map : Bor MapContent) → (image : Bor (List Element)) → Phase → Session
dfuse_session_in_phase r map image phase = record {
  plan = dfuse_plan_of r.plan map image;
  phase = phase;
  actions = r.plan.actions;
  restarts = r.plan.restarts;
}

-- Session of a record, with a map and an image; None if the record has another version, or if no phase has its numbers.
abbrev pub session_in : DfuseSession → (map : Bor MapContent) → (image : Bor (List Element)) → Option Session
session_in r map image = option_map (dfuse_session_in_phase r map image) (phase_in r)

abbrev pub number_of_bit : Bool → ℕ
number_of_bit true = 1
number_of_bit false = 0

-- The record that the library writes for a session.
abbrev pub dfuse_record_of : Session → DfuseSession
dfuse_record_of s = record {
  version = version;
  work = (dfuse_numbers_in s.phase).work;
  at = (dfuse_numbers_in s.phase).at;
  end = (dfuse_numbers_in s.phase).end;
  pointer = (dfuse_numbers_in s.phase).pointer;
  place = (dfuse_numbers_in s.phase).place;
  step = (dfuse_numbers_in s.phase).step;
  more = (dfuse_numbers_in s.phase).more;
  report = (dfuse_numbers_in s.phase).report;
  plan = record {
    start = s.plan.start;
    actions = s.actions;
    restarts = s.restarts;
    transfer = s.plan.transfer;
    front = s.plan.front;
    leaves = number_of_bit s.plan.leaves;
  };
}

-- The record holds the session s, with the map in a string and with an image.
pub record IsDfuseRecordOf (r : DfuseSession) (text : List ℕ) (image : Bor (List Element)) (s : Session) : Type 0 where
  pub map : Bor MapContent
  pub is_map : IsMap map.now text
  pub says : session_in r map image ≡ Some s

-- The limits of a record: the actions and the restarts of its plan.
abbrev pub dfuse_limits_of : DfusePlan → Limits
dfuse_limits_of r = record { actions = r.actions; restarts = r.restarts }
