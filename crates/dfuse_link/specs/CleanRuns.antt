-- Sessions with a device that works, over a link that loses nothing.
use Rattle.std.specs.Prelude.{◌≡◌, ℕ, zero, suc, ◌+◌, ◌<◌, List, [], ◌∷◌}
use Rattle.dfu_wire.specs.declared.codes.Code.TheVariants as code
use Rattle.dfu_wire.specs.declared.states.State.{State}
use Rattle.dfu_wire.specs.declared.states.State.TheVariants as state
use Rattle.dfu_wire.specs.State.{state_byte}
use Rattle.dfu_wire.specs.Status.{StatusFields, IsStatus}
use Rattle.dfuse_host.specs.declared.plan.Plan.{Plan}
use Rattle.dfuse_host.specs.declared.phase.Phase.TheVariants.{On}
use Rattle.dfuse_host.specs.declared.phase.Standing.{Standing}
use Rattle.dfuse_host.specs.declared.work.Work.{Work}
use Rattle.dfuse_host.specs.declared.step.Step.{Step}
use Rattle.dfuse_host.specs.declared.step.Step.TheVariants as step
use Rattle.dfuse_host.specs.declared.seen.Seen.{Seen}
use Rattle.dfuse_host.specs.declared.seen.Seen.TheVariants as seen
use Rattle.dfuse_host.specs.declared.session.Session.{Session}
use Rattle.dfuse_host.specs.Deeds.{read_bytes}
use Rattle.dfuse_host.specs.Sessions.{SessionRow}

-- The device answers with exactly these bytes.
abbrev pub BytesAnswered : List ℕ → Seen → Type 0
BytesAnswered wanted (seen.Bytes bytes) = bytes.now ≡ wanted
BytesAnswered wanted s = ⊥

-- The device answers with the bytes of this status.
abbrev pub StatusAnswered : StatusFields → Seen → Type 0
StatusAnswered status (seen.Bytes bytes) = IsStatus status bytes.now
StatusAnswered status s = ⊥

-- The device reports dfuDNBUSY and a poll timeout that is not 0.
pub record BusyReported (s : Seen) : Type 0 where
  -- Status that the device reports.
  pub status : StatusFields
  -- The answer holds the bytes of this status.
  pub told : StatusAnswered status s
  -- The state in the status is dfuDNBUSY.
  pub is_busy : status.state ≡ state.DownloadBusy
  -- The poll timeout is not 0.
  pub time : 0 < status.poll_ms

-- The device reports the state `t` and the status OK.
pub record StateAnswered (t : State) (s : Seen) : Type 0 where
  -- Status that the device reports.
  pub status : StatusFields
  -- The answer holds the bytes of this status.
  pub told : StatusAnswered status s
  -- The status code is OK.
  pub no_fault : status.code ≡ code.Ok
  -- The state in the status is `t`.
  pub is_there : status.state ≡ t

-- Result of an action in a clean run: the device works, each UPLOAD returns bytes of the image, and the link loses nothing. The device is
-- in dfuIDLE at first. A GETSTATUS starts each command and reports dfuDNBUSY. After a wait, the next GETSTATUS reports that the command is
-- done. A step that no clean run takes has no clean result.
abbrev pub IsCleanResult : Plan → Work → Step → Seen → Type 0
IsCleanResult plan w step.Abort s = s ≡ seen.Ack
IsCleanResult plan w step.AskState s = BytesAnswered (state_byte state.DfuIdle ∷ []) s
IsCleanResult plan w step.Send s = s ≡ seen.Ack
IsCleanResult plan w (step.Poll zero) s = BusyReported s
IsCleanResult plan w (step.Poll (suc last)) s = StateAnswered state.DownloadIdle s
IsCleanResult plan w (step.PollWait ms) s = s ≡ seen.Waited
IsCleanResult plan w step.BeginReading s = s ≡ seen.Ack
IsCleanResult plan w step.EndReading s = s ≡ seen.Ack
IsCleanResult plan w step.Read s = BytesAnswered (read_bytes plan w) s
IsCleanResult plan w step.Close s = s ≡ seen.Ack
IsCleanResult plan w step.ClosePoll s = StateAnswered state.Manifest s
IsCleanResult plan w at s = ⊥

-- A session sees results one after the other, and each is the result of a clean run.
pub data CleanSession : Session → List Seen → Session → Type 0 where
  -- The session has seen no result and is unchanged.
  clean_nothing_seen : {s : Session} → CleanSession s [] s
  -- The session sees a clean result first, and then the other results.
  clean_result_more : {s mid s' : Session} {seen : Seen} {more : List Seen} (at : Standing) → s.phase ≡ On at
      → IsCleanResult s.plan at.work at.step seen → SessionRow s seen mid → CleanSession mid more s' → CleanSession s (seen ∷ more) s'

-- Number of results that end a wait. In a clean session all other results are answers to requests.
abbrev pub waits_in : List Seen → ℕ
waits_in [] = 0
waits_in (seen.Waited ∷ more) = 1 + waits_in more
waits_in (s ∷ more) = waits_in more
