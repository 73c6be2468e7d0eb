-- Results of the calls of a device that requests its flash writes from the caller.
use Rattle.std.specs.Prelude.{◌≡◌, ℕ, ◌+◌, ◌≤◌, ◌<◌, Bool, true, false, List, ◌++◌, length, drop, slice_range, Option, Some, None}
use Rattle.dfu_slots.specs.declared.fault.WriteFault.TheVariants.{Failed, NotVerified}
use Rattle.dfu_slots.specs.Medium.{Write}
use Rattle.dfu_slots.specs.StoreView.{SlotsState}
use Rattle.dfu_device.specs.declared.answer.Answer.{Answer}
use Rattle.dfu_device.specs.Table.{Plan}
use Rattle.dfu_device.specs.DeviceView.{DeviceView, profile}
use Rattle.dfu_asks.specs.declared.pending_writes.PendingWrites.{PendingWrites}
use Rattle.dfu_asks.specs.Lent.{LentDevice}
use Rattle.dfu_asks.specs.declared.reply.Reply.{Reply}
use Rattle.dfu_asks.specs.declared.reply.Reply.TheVariants as reply
use Rattle.dfu_asks.specs.Carried.{total, bytes_after_writes, EndsAtPiece}
use Rattle.dfu_asks.specs.Mapped.{UnseenState}
use Rattle.dfu_asks.specs.Due.{HoldsOfDueRow, IsStorelessOrDue, DueRowWorks, DueRowFails}
use Rattle.dfu_asks.specs.Asks.{flash_store, device_in, device_with, device_of, IsDevice, IsWorkingForRow, writes_in, steps_in}

-- The bytes of an answer are at the front of a buffer, and the rest of the buffer is unchanged.
pub record AnswerWritten (a : Answer) (count : ℕ) (out out' : List ℕ) (Row : Answer → List ℕ → Type 0) : Type 0 where
  pub sent : List ℕ
  pub count_is : count ≡ length sent
  pub out_is : out' ≡ sent ++ drop count out
  pub row : Row a sent

-- A call is complete: the buffer holds the answer of the row, the kept fields are a valid device, and no write is pending.
pub record CallCompleted (flash : List ℕ) (a : Answer) (count : ℕ) (out out' : List ℕ) (now : LentDevice) (Row : Answer → List ℕ → Type 0)
    : Type 0 where
  pub gave : AnswerWritten a count out out' Row
  pub work : now.work ≡ None
  pub is : IsDevice now flash

-- The answer in a reply has at most n bytes; `Asks` has no answer.
abbrev pub ReplyHasAtMostBytes : ℕ → Reply → Type 0
ReplyHasAtMostBytes n reply.Asks = Unit {0}
ReplyHasAtMostBytes n (reply.Answered x count) = count ≤ n

-- A device has pending writes of its due row. `was` is the flash before the first of them, and `flash` the flash after the pieces that are
-- written so far.
pub record WritesPending (a : LentDevice) (len : ℕ) (s : SlotsState) (was flash : List ℕ) : Type 0 where
  pub work : PendingWrites
  pub work_is : a.work ≡ Some work
  pub working : IsWorkingForRow a work len s was
  pub left : work.done < total (writes_in a work)
  pub reached : EndsAtPiece (steps_in a work) work.done
  pub flash_is : flash ≡ bytes_after_writes was (writes_in a work) work.done

-- A step of the due row ended: the device requests the next piece, or the row is complete.
pub data DueOutcome (d : DeviceView) (len : ℕ) (s : SlotsState) (was flash out : List ℕ) (now : LentDevice) (out' : List ℕ) : Reply
    → Type 0 where
  outcome_asks : WritesPending now len s was flash → device_of now s ≡ d → out' ≡ out → DueOutcome d len s was flash out now out' reply.Asks
  outcome_answered : (x : Answer) (count : ℕ) → CallCompleted flash x count out out' now
      (λ y sent. DueRowWorks len d y sent (device_in now flash))
      → DueOutcome d len s was flash out now out' (reply.Answered x count)

-- The row of a call is possible on every medium with these bytes, whichever of the medium's next writes fail. So the row made no write, and
-- it can't have failed, because on some of these media no write fails.
abbrev pub IsRowOnEveryMedium : LentDevice → List ℕ → (DeviceView → Answer → List ℕ → DeviceView → Type 0) → LentDevice → Answer → List ℕ
    → Type 0
IsRowOnEveryMedium a flash Row now x sent = (u : UnseenState) → Row (device_with u a flash) x sent (device_with u now flash)

-- On every medium with these bytes, the plan of the device makes no call of the slot store, or is the plan of the due row.
abbrev pub PlansAreStorelessOrDue : (DeviceView → Plan) → LentDevice → List ℕ → Option ℕ → ℕ → Type 0
PlansAreStorelessOrDue plan a flash asked len =
    (u : UnseenState) → let d = device_with u a flash in IsStorelessOrDue (plan d) (profile d) d.stage asked len

-- A call on this flash returned the answer of the row; or flash must be written for the row, and the device requests the first write.
pub data DeviceCalled (a : LentDevice) (flash out : List ℕ) (Row : DeviceView → Answer → List ℕ → DeviceView → Type 0) (now : LentDevice)
    (out' : List ℕ) : Reply → Type 0 where
  call_answered : (x : Answer) (count : ℕ) → CallCompleted flash x count out out' now (IsRowOnEveryMedium a flash Row now)
      → DeviceCalled a flash out Row now out' (reply.Answered x count)
  call_asks : (len : ℕ) → WritesPending now len (flash_store a flash) flash flash → device_of now (flash_store a flash) ≡ device_in a flash
      → ((u : UnseenState) → HoldsOfDueRow len (device_with u a flash) (Row (device_with u a flash))) → out' ≡ out
      → DeviceCalled a flash out Row now out' reply.Asks

-- The program reported the piece `p`. The outcome depends on the report and on the bytes that are now on the flash.
pub data DevicePieceReported (d : DeviceView) (len : ℕ) (s : SlotsState) (was : List ℕ) (p : Write) (failed : Bool) (flash out : List ℕ)
    (now : LentDevice)
    (out' : List ℕ) (r : Reply) : Type 0 where
  -- The flash contains the bytes of the piece. The device requests the next piece, or the row is complete.
  piece_on_flash : failed ≡ false → slice_range flash p.at (p.at + length p.bytes) ≡ p.bytes → DueOutcome d len s was flash out now out' r
      → DevicePieceReported d len s was p failed flash out now out' r
  -- The write of the piece failed, and the row ends with Failed.
  piece_write_failed : (x : Answer) (count : ℕ) → failed ≡ true → r ≡ reply.Answered x count
      → CallCompleted flash x count out out' now (λ y sent. DueRowFails Failed len d y sent (device_in now flash))
      → DevicePieceReported d len s was p failed flash out now out' r
  -- The flash contains other bytes, and the row ends with NotVerified.
  piece_not_on_flash : (x : Answer) (count : ℕ) → failed ≡ false → ¬ (slice_range flash p.at (p.at + length p.bytes) ≡ p.bytes)
      → r ≡ reply.Answered x count
      → CallCompleted flash x count out out' now (λ y sent. DueRowFails NotVerified len d y sent (device_in now flash))
      → DevicePieceReported d len s was p failed flash out now out' r

-- The write of the piece didn't fail, the flash contains the piece's bytes, and another piece of the pending writes follows.
pub record AnotherPieceFollows (a : LentDevice) (w : PendingWrites) (p : Write) (failed : Bool) (flash : List ℕ) : Type 0 where
  pub well : failed ≡ false
  pub stands : slice_range flash p.at (p.at + length p.bytes) ≡ p.bytes
  pub more : w.done + length p.bytes < total (writes_in a w)
