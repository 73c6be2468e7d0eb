-- Results of calls on a session in C.
use Rattle.std.specs.Prelude.{◌≡◌, ◌⊎◌, ℕ, ℤ, pos, List, Some, None, length}
use Rattle.std.specs.Borrow.{Bor}
use Rattle.dfu_host.specs.declared.parts.Parts.{Parts}
use Rattle.dfu_host.specs.declared.seen.Seen.{Seen}
use Rattle.dfu_host.specs.Host.{HostRow, aborted_host}
use Rattle.dfu_host.specs.Goals.{payload_of}
use Rattle.dfu_host.specs.InParts.{body_offset, host_of}
use Rattle.dfu_host.specs.Rooms.{FetchResultIn}
use Rattle.dfu_host.specs.Storing.{RoomAfterSeen}
use Rattle.dfu_host.specs.Table.{deed}
use Rattle.dfu_host_core.specs.Actions.{ActionRecord}
use Rattle.dfu_host_core.specs.Numbers.{no_session, no_seen}
use Rattle.dfu_host_core.specs.Sessions.{IsRecord, IsRecordAndBuffer, HasWrittenNumbers, host_in}
use Rattle.dfu_host_core.specs.SeenNumbers.{seen_at}
use Rattle.dfu_host_core.specs.declared.action.DfuAction.{DfuAction}
use Rattle.dfu_host_core.specs.declared.session.DfuSession.{DfuSession}

-- The session of a record took a result as a row of the host's table allows. A part of an upload was stored if the buffer had room for it;
-- otherwise the host took the result as NoRoom.
pub record TakeSeenResult (r r' : DfuSession) (payload : Bor (List ℕ)) (buffer buffer' : List ℕ) (seen : ℕ) (bytes : Bor (List ℕ)) : Type 0 where
  pub parts : Parts
  pub word : Seen
  pub next : Parts
  pub before : IsRecordAndBuffer r payload buffer parts
  pub seen_is : seen_at seen bytes ≡ Some word
  pub later : IsRecordAndBuffer r' payload buffer' next
  pub written : HasWrittenNumbers r' next
  pub row : HostRow (host_in r buffer parts) word (host_in r' buffer' next)
  pub room : FetchResultIn (length buffer) (host_in r buffer parts) (host_in r buffer parts).phase word (host_in r' buffer' next)
  pub stores : RoomAfterSeen parts.transfer parts.phase word r.kept buffer r'.kept buffer'

-- The record and the buffer hold a session with this payload.
pub record RecordAndBufferHoldSession (r : DfuSession) (payload : Bor (List ℕ)) (buffer : List ℕ) : Type 0 where
  pub parts : Parts
  pub held : IsRecordAndBuffer r payload buffer parts

-- The record and the buffer hold no session with this payload.
abbrev pub RecordAndBufferHoldNoSession : DfuSession → Bor (List ℕ) → (buffer : List ℕ) → Type 0
RecordAndBufferHoldNoSession r payload buffer = (parts : Parts) → IsRecordAndBuffer r payload buffer parts → ⊥

-- The record holds no session with this payload.
abbrev pub RecordHoldsNoSession : DfuSession → Bor (List ℕ) → Type 0
RecordHoldsNoSession r payload = (parts : Parts) → IsRecord r payload parts → ⊥

-- The session of a record was aborted. The number of its kept bytes is unchanged.
pub record AbortedRecord (r r' : DfuSession) (payload : Bor (List ℕ)) : Type 0 where
  pub parts : Parts
  pub next : Parts
  pub before : IsRecord r payload parts
  pub later : IsRecord r' payload next
  pub written : HasWrittenNumbers r' next
  pub same : (memory : List ℕ) → host_of memory next ≡ aborted_host (host_of memory parts)
  pub kept : r'.kept ≡ r.kept

-- The record `a` holds the next action of the session in the record r. Its body is a slice of the payload of the session's goal.
pub record IsNextAction (r : DfuSession) (payload : Bor (List ℕ)) (a : DfuAction) : Type 0 where
  pub parts : Parts
  pub stands : IsRecord r payload parts
  pub tells : (memory : List ℕ)
      → ActionRecord (payload_of parts.goal) (body_offset parts.transfer parts.phase)
      (deed (host_of memory parts).task (host_of memory parts).phase) a

-- dfu_host_take returned 0, and the session took the result `seen`. Or the call was refused and changed nothing, because the record and the
-- buffer hold no session, or because no result has the number `seen`.
abbrev pub HostTakeResult : DfuSession → Bor (List ℕ) → (buffer : List ℕ) → (seen : ℕ) → Bor (List ℕ) → ℤ → DfuSession → (buffer' : List ℕ)
    → Type 0
HostTakeResult r payload buffer seen bytes n r' buffer' = ((n ≡ pos 0) × TakeSeenResult r r' payload buffer buffer' seen bytes)
    ⊎ ((n ≡ no_session) × RecordAndBufferHoldNoSession r payload buffer × (r' ≡ r) × (buffer' ≡ buffer))
    ⊎ ((n ≡ no_seen) × RecordAndBufferHoldSession r payload buffer × (seen_at seen bytes ≡ None) × (r' ≡ r) × (buffer' ≡ buffer))

-- dfu_host_abort returned 0 and aborted the session, or it was refused and changed nothing, because the record holds no session.
abbrev pub HostAbortResult : DfuSession → Bor (List ℕ) → ℤ → DfuSession → Type 0
HostAbortResult r payload n r' = ((n ≡ pos 0) × AbortedRecord r r' payload) ⊎ ((n ≡ no_session) × RecordHoldsNoSession r payload × (r' ≡ r))

-- dfu_host_next returned 0, and the record `a'` is the session's next action. Or the call was refused and changed nothing, because the
-- record holds no session.
abbrev pub HostNextResult : DfuSession → Bor (List ℕ) → ℤ → (a a' : DfuAction) → Type 0
HostNextResult r payload n a a' = ((n ≡ pos 0) × IsNextAction r payload a') ⊎ ((n ≡ no_session) × RecordHoldsNoSession r payload × (a' ≡ a))
