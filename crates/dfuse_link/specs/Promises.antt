-- Laws of a session with a device: its results follow the table, it ends in time, and its report Verified is true. In the laws about a plan
-- the session begins with the device `d`; later the device is `d'` and the session is `s`.
use Rattle.std.specs.Prelude.{◌≡◌, ◌≤◌, max, List, length}
use Rattle.std.specs.List.{All, AllByRecursion}
use Rattle.dfu_formats.specs.memory.Ranges.{IsRange}
use Rattle.dfu_formats.specs.declared.dfuse.element.Element.{Element}
use Rattle.dfuse_host.specs.declared.plan.Plan.{Plan}
use Rattle.dfuse_host.specs.declared.phase.Phase.TheVariants.{Over}
use Rattle.dfuse_host.specs.declared.seen.Seen.{Seen}
use Rattle.dfuse_host.specs.declared.report.Leaving.{Leaving}
use Rattle.dfuse_host.specs.declared.report.Report.TheVariants.{Verified}
use Rattle.dfuse_host.specs.declared.session.Session.{Session}
use Rattle.dfuse_host.specs.declared.limits.Limits.{Limits}
use Rattle.dfuse_host.specs.Refusing.{IsSoundPlan}
use Rattle.dfuse_host.specs.Sessions.{initial_dfuse_session, DfuseIsOver, SessionRows}
use Rattle.dfuse_link.specs.Chips.{Chip, Device}
use Rattle.dfuse_link.specs.Reactions.{BytesInMemoryAt}
use Rattle.dfuse_link.specs.Histories.{History}

-- A session can begin with the plan, the ranges of its map are sound, and plan and device use the same block size.
pub record IsPlanFor (chip : Chip) (plan : Plan) : Type 0 where
  -- A session can begin with the plan.
  pub sound : IsSoundPlan plan
  -- Each range of the map is sound.
  pub ranges : All IsRange plan.map.now.ranges
  -- The plan and the device use the same block size.
  pub transfer : plan.transfer ≡ chip.transfer

-- Once a session reports Verified, the device's memory holds each element of the image at its address, if the plan is for the device.
abbrev pub VerifiedIsTrue : Type 0
VerifiedIsTrue = (chip : Chip) (plan : Plan) (limits : Limits) (d d' : Device) (s : Session) (seens : List Seen) (leaving : Leaving)
    → IsPlanFor chip plan → History chip d (initial_dfuse_session plan limits) seens d' s → s.phase ≡ Over (Verified leaving)
    → AllByRecursion (λ (e : Element). BytesInMemoryAt d'.memory e.address e.bytes.now) plan.image.now

-- In each history every result changes the session by a row of the table.
abbrev pub HistoriesFollowRows : Type 0
HistoriesFollowRows = (chip : Chip) (d d' : Device) (s s' : Session) (seens : List Seen) → History chip d s seens d' s' →
    SessionRows s seens s'

-- In each history the session is over after at most `limits.actions` results, or after one result if that limit is 0.
abbrev pub EndsWithinActions : Type 0
EndsWithinActions = (chip : Chip) (plan : Plan) (limits : Limits) (d d' : Device) (s : Session) (seens : List Seen)
    → History chip d (initial_dfuse_session plan limits) seens d' s → max 1 limits.actions ≤ length seens → DfuseIsOver s.phase
