-- Results of calls on a DfuSe session in C.
use Rattle.std.specs.Prelude.{◌≡◌, ◌⊎◌, ℕ, ℤ, List, Some, None}
use Rattle.std.specs.Borrow.{Bor}
use Rattle.dfu_formats.specs.memory.Reading.{MapContent}
use Rattle.dfu_formats.specs.memory.Grammar.{IsMap}
use Rattle.dfu_formats.specs.declared.dfuse.element.Element.{Element}
use Rattle.dfuse_host.specs.declared.seen.Seen.{Seen}
use Rattle.dfuse_host.specs.declared.session.Session.{Session}
use Rattle.dfuse_host.specs.Deeds.{dfuse_deed}
use Rattle.dfuse_host.specs.Refusing.{FirstPlanFault, IsSoundPlan}
use Rattle.dfuse_host.specs.Sessions.{SessionRow, initial_dfuse_session}
use Rattle.dfu_host_c.specs.Refusals.{IsRefusedFor}
use Rattle.dfu_host_c.specs.dfuse.Actions.{BodyHasNoRoom, DfuseActionRecord}
use Rattle.dfu_host_c.specs.dfuse.Sessions.{IsDfuseRecordOf, dfuse_limits_of, phase_in, dfuse_plan_of, dfuse_record_of}
use Rattle.dfu_host_c.specs.dfuse.SeenNumbers.{dfuse_seen_at}
use Rattle.dfu_host_c.specs.declared.refusals.HostRefusal.TheVariants as refusal
use Rattle.dfu_host_c.specs.declared.dfuse.action.DfuseAction.{DfuseAction}
use Rattle.dfu_host_c.specs.declared.dfuse.plan.DfusePlan.{DfusePlan}
use Rattle.dfu_host_c.specs.declared.dfuse.session.DfuseSession.{DfuseSession}

-- The call began a session on the map in a string and on an image. Its plan is sound, and the record is the one that the library writes for
-- a new session with this plan.
pub record DfuseBeginResult (text : List ℕ) (image : Bor (List Element)) (how : DfusePlan) (r' : DfuseSession) : Type 0 where
  pub map : Bor MapContent
  pub is_map : IsMap map.now text
  pub sound : IsSoundPlan (dfuse_plan_of how map image)
  pub says : r' ≡ dfuse_record_of (initial_dfuse_session (dfuse_plan_of how map image) (dfuse_limits_of how))
  pub later : IsDfuseRecordOf r' text image (initial_dfuse_session (dfuse_plan_of how map image) (dfuse_limits_of how))

-- The string is a map, but the plan with this map and the image is refused; `result` is the number of the plan's first fault.
pub record HostRefusesDfusePlan (text : List ℕ) (image : Bor (List Element)) (how : DfusePlan) (result : ℤ) : Type 0 where
  pub map : Bor MapContent
  pub is_map : IsMap map.now text
  pub refused : IsRefusedFor refusal.Plan (FirstPlanFault (dfuse_plan_of how map image)) result

-- The string is not a map, or the record has another version or no phase.
abbrev pub HoldsNoDfuseSession : DfuseSession → (text : List ℕ) → Type 0
HoldsNoDfuseSession r text = ((m : MapContent) → IsMap m text → ⊥) ⊎ (phase_in r ≡ None)

-- The record `a` holds the deed of the session in the record r, with the body at the front of the buffer.
pub record IsNextDfuseAction (r : DfuseSession) (text : List ℕ) (image : Bor (List Element)) (a : DfuseAction)
    (old new : List ℕ) : Type 0 where
  pub session : Session
  pub held : IsDfuseRecordOf r text image session
  pub tells : DfuseActionRecord (dfuse_deed session.plan session.phase) a old new

-- The deed of the session in the record r is a request whose body is longer than the buffer.
pub record BodyFindsNoRoom (r : DfuseSession) (text : List ℕ) (image : Bor (List Element)) (old : List ℕ) : Type 0 where
  pub session : Session
  pub held : IsDfuseRecordOf r text image session
  pub larger : BodyHasNoRoom (dfuse_deed session.plan session.phase) old

-- The session of the record r took a result as a row of the host's table allows, and the record r' holds the session after the row.
pub record DfuseTakeResult (r r' : DfuseSession) (text : List ℕ) (image : Bor (List Element)) (seen : ℕ) (bytes : Bor (List ℕ)) : Type 0 where
  pub session : Session
  pub next : Session
  pub word : Seen
  pub held : IsDfuseRecordOf r text image session
  pub seen_is : dfuse_seen_at seen bytes ≡ Some word
  pub row : SessionRow session word next
  pub says : r' ≡ dfuse_record_of next
  pub later : IsDfuseRecordOf r' text image next
