-- Views of a device that requests its flash writes from the caller, and the row whose writes are pending.
use Rattle.std.specs.Prelude.{◌≡◌, ℕ, ◌+◌, ◌-◌, ◌^◌, ◌≤◌, ◌==◌, ◌&&◌, not, min, Bool, true, false, IsTrue, List, [], ◌++◌, length, take, drop, Option, Some, None, if◌then◌else◌}
use Rattle.dfu_suffix.specs.Register.{register}
use Rattle.dfu_slots.specs.declared.fault.WriteFault.{WriteFault}
use Rattle.dfu_slots.specs.Units.{Grain}
use Rattle.dfu_slots.specs.Medium.{Write}
use Rattle.dfu_slots.specs.Layout.{generation, next_generation}
use Rattle.dfu_slots.specs.Image.{gate_of, spare_at, HasImage}
use Rattle.dfu_slots.specs.Writes.{put_rest}
use Rattle.dfu_slots.specs.StoreView.{SlotsState, store_of, active_slot, spare_of, is_begun}
use Rattle.dfu_slots.specs.Store.{IsStore}
use Rattle.dfu_device.specs.declared.device_state.DeviceState.{DeviceState}
use Rattle.dfu_device.specs.declared.device_state.DeviceState.TheVariants as device_state
use Rattle.dfu_device.specs.Setting.{Setting}
use Rattle.dfu_device.specs.declared.answer.Answer.{Answer}
use Rattle.dfu_device.specs.Rows.{ReplyAnswer}
use Rattle.dfu_device.specs.Parts.{view_of_parts, stage_of, are_device_parts}
use Rattle.dfu_device.specs.DeviceView.{DeviceView, profile_of}
use Rattle.dfu_device.specs.declared.decision.Reply.{Reply as ReplyRead}
use Rattle.dfu_device.specs.declared.decision.Reply.TheVariants as reply
use Rattle.dfu_device.specs.Decision.{table_reply_of, HasTimeInputs}
use Rattle.dfu_device.specs.Table.{write_code, commit_code}
use Rattle.dfu_asks.specs.declared.pending_writes.SlotWrite.{SlotWrite}
use Rattle.dfu_asks.specs.declared.pending_writes.SlotWrite.TheVariants as slot_write
use Rattle.dfu_asks.specs.declared.pending_writes.PendingWrites.{PendingWrites}
use Rattle.dfu_asks.specs.Lent.{LentDevice}
use Rattle.dfu_asks.specs.Mapped.{grain_of, mapped_medium, UnseenState, mapped_medium_with}
use Rattle.dfu_asks.specs.Noted.{IsNoteOfMedium}
use Rattle.dfu_asks.specs.Series.{held_before_block}
use Rattle.dfu_asks.specs.Steps.{Step}
use Rattle.dfu_asks.specs.Jobs.{job_writes, job_steps}

-- Unit and sector in which the device's flash is written.
abbrev pub grain_in : LentDevice → Grain
grain_in a = grain_of a.unit a.sector

-- Slot store on the bytes of the flash, with the bytes that the device holds back, and with the number of bytes put into the spare slot.
abbrev pub flash_store : LentDevice → List ℕ → SlotsState
flash_store a flash = store_of (mapped_medium (grain_in a) flash) a.held a.put_end

-- View of the device on the bytes of the flash. The contracts describe the device by this view.
abbrev pub device_in : LentDevice → List ℕ → DeviceView
device_in a flash = view_of_parts a.config (flash_store a flash) a.mode a.block

-- Slot store on a medium with the same bytes and this unseen state: failures, fuse and tag.
abbrev pub store_with_unseen : UnseenState → SlotsState → SlotsState
store_with_unseen u s = store_of (mapped_medium_with u s.medium.grain s.medium.bytes) s.held s.put_end

-- View of the device on the bytes of the flash, if the flash's medium has this unseen state.
abbrev pub device_with : UnseenState → LentDevice → List ℕ → DeviceView
device_with u a flash = view_of_parts a.config (store_with_unseen u (flash_store a flash)) a.mode a.block

-- The device is valid on this flash: its store is valid and has the bytes that its mode needs, and its note describes the active image.
pub record IsDevice (a : LentDevice) (flash : List ℕ) : Type 0 where
  pub store : IsStore (flash_store a flash)
  pub sound : IsTrue (are_device_parts a.mode (length a.block) (flash_store a flash))
  pub noted : IsNoteOfMedium a.noted (mapped_medium (grain_in a) flash)

-- The job `j` writes a block after n bytes. It closes the gate first if n is 0 and the store is not begun. Before its writes, `end` bytes
-- are put into the spare slot, and the bytes `held` are held back.
pub record IsBlockJob (n : ℕ) (s : SlotsState) (j : SlotWrite) (end : ℕ) (held : List ℕ) : Type 0 where
  pub job_is : j ≡ slot_write.Block (spare_at (gate_of s.medium) s.medium.bytes) ((n == 0) && not (is_begun s))
  pub end_is : end ≡ n
  pub held_is : held ≡ held_before_block s n

-- The job `j` commits n bytes. Before its writes, `end` bytes are put into the spare slot, and the bytes `held` are held back.
pub record IsCommitJob (n : ℕ) (s : SlotsState) (j : SlotWrite) (end : ℕ) (held : List ℕ) : Type 0 where
  pub job_is : j ≡ slot_write.Commit (spare_at (gate_of s.medium) s.medium.bytes) (next_generation (generation (active_slot s)))
      (register (take n (spare_of s)))
  pub end_is : end ≡ n
  pub held_is : held ≡ s.held

-- The job `j` is that of the due row of a mode; a mode without a due row has no such job. `len` is wLength of the GETSTATUS that caused the
-- row, if one did.
abbrev pub IsDueJobOfMode : DeviceState → Option ℕ → ℕ → SlotsState → SlotWrite → ℕ → List ℕ → Type 0
IsDueJobOfMode (device_state.DownloadSync written number) asked len s j end held = (asked ≡ Some len) × IsBlockJob written s j end held
IsDueJobOfMode (device_state.DownloadBusy written number passed) asked len s j end held = (asked ≡ None) × IsBlockJob written s j end held
IsDueJobOfMode (device_state.ManifestSync written) asked len s j end held = (asked ≡ Some len) × IsCommitJob written s j end held
IsDueJobOfMode (device_state.Manifest written passed) asked len s j end held = (asked ≡ None) × IsCommitJob written s j end held
IsDueJobOfMode m asked len s j end held = ⊥

-- All writes of the pending row, including those already made.
abbrev pub writes_in : LentDevice → PendingWrites → List Write
writes_in a w = job_writes w.job (grain_in a) a.put_end a.held a.block

-- All steps of the pending row: its writes, each marked as an erase or a program.
abbrev pub steps_in : LentDevice → PendingWrites → List Step
steps_in a w = job_steps w.job (grain_in a) a.put_end a.held a.block

-- The pending writes of a device belong to the row that was due with the store `s`, on these bytes of flash.
pub record IsWorkingForRow (a : LentDevice) (w : PendingWrites) (len : ℕ) (s : SlotsState) (flash : List ℕ) : Type 0 where
  pub medium : s.medium ≡ mapped_medium (grain_in a) flash
  pub store : IsStore s
  pub sound : IsTrue (are_device_parts a.mode (length a.block) s)
  pub due : IsDueJobOfMode a.mode w.asked len s w.job a.put_end a.held
  pub noted : IsNoteOfMedium a.noted s.medium

-- Device with the store `s`, before the first of its pending writes.
abbrev pub device_of : LentDevice → SlotsState → DeviceView
device_of a s = view_of_parts a.config s a.mode a.block

-- Sum of two numbers of bytes, at most 2^32 - 1.
abbrev pub capped_sum : ℕ → ℕ → ℕ
capped_sum a b = min (a + b) (2 ^ 32 - 1)

-- Mode after the due row of this mode, if all its writes succeeded and its block has n bytes. A mode without a due row is unchanged.
abbrev pub done_mode : Setting → DeviceState → ℕ → DeviceState
done_mode c (device_state.DownloadSync written number) n = device_state.DownloadIdle (capped_sum written n) number
done_mode c (device_state.DownloadBusy written number passed) n = device_state.DownloadSyncWritten (capped_sum written n) number
done_mode c (device_state.ManifestSync written) n = device_state.DfuIdle
done_mode c (device_state.Manifest written passed) n =
    if c.functional.tolerant then device_state.ManifestSyncComplete else device_state.ManifestWaitReset
done_mode c m n = m

-- True if the due row of this mode writes a block; false if it commits an image, or if no row is due.
abbrev pub is_block : DeviceState → Bool
is_block (device_state.DownloadSync written number) = true
is_block (device_state.DownloadBusy written number passed) = true
is_block m = false

-- Mode after the due row of this mode, if one of its writes had this fault: dfuERROR with the code of the fault.
abbrev pub failed_mode : WriteFault → DeviceState → DeviceState
failed_mode fault m = if is_block m then device_state.Error (write_code fault) else device_state.Error (commit_code fault)

-- If a device has the fields `a` before its due row, and all writes of the row succeed, it has the fields `a'` after the row.
pub record IsKeptAfterWrites (a a' : LentDevice) : Type 0 where
  pub config : a'.config ≡ a.config
  pub unit : a'.unit ≡ a.unit
  pub sector : a'.sector ≡ a.sector
  pub mode : a'.mode ≡ done_mode a.config a.mode (length a.block)
  pub block : a'.block ≡ a.block
  pub held : a'.held ≡ (if is_block a.mode then put_rest a.unit a.held a.block else [])
  pub end : a'.put_end ≡ (if is_block a.mode then capped_sum a.put_end (length a.block) else 0)
  pub work : a'.work ≡ None

-- If a device has the fields `a` before its due row, and one of the row's writes has this fault, it has the fields `a'` after the row.
pub record IsKeptAfterFault (fault : WriteFault) (a a' : LentDevice) : Type 0 where
  pub config : a'.config ≡ a.config
  pub unit : a'.unit ≡ a.unit
  pub sector : a'.sector ≡ a.sector
  pub mode : a'.mode ≡ failed_mode fault a.mode
  pub block : a'.block ≡ a.block
  pub held : a'.held ≡ []
  pub end : a'.put_end ≡ 0
  pub work : a'.work ≡ None

-- After a row that wrote a block, the note is unchanged. After a commit, it describes the active image of the flash, if there is one.
pub record NoteAfterRow (m : DeviceState) (flash : List ℕ) (a a' : LentDevice) : Type 0 where
  pub of_block : is_block m ≡ true → a'.noted ≡ a.noted
  pub of_commit : is_block m ≡ false → HasImage (mapped_medium (grain_in a') flash)
      → IsNoteOfMedium a'.noted (mapped_medium (grain_in a') flash)

-- A device of this setting in this mode, with a block of n bytes, answers a request for `asked` bytes with `a` and `out` if its reply is
-- `r`.
abbrev pub IsReplyInMode : Setting → DeviceState → (n : ℕ) → ReplyRead → (asked : ℕ) → Answer → List ℕ → Type 0
IsReplyInMode c m n r asked a out = (room : ℕ) (spare block : List ℕ) → HasTimeInputs m n spare block
    → ReplyAnswer asked (table_reply_of (profile_of c room) (stage_of m spare block) r) a out

-- A row ends with the answer `a` and the bytes `out`: the status if a GETSTATUS caused the row, else an acknowledgement.
abbrev pub IsRowEndAnswer : Setting → DeviceState → Option ℕ → Answer → List ℕ → Type 0
IsRowEndAnswer c m None a out = (n : ℕ) × IsReplyInMode c m n reply.Ack 0 a out
IsRowEndAnswer c m (Some len) a out = (n : ℕ) × IsReplyInMode c m n reply.Status len a out

-- An answer of at most six bytes is at the front of a buffer, and the rest of the buffer is unchanged.
pub record AnswerInBuffer (Says : Answer → List ℕ → Type 0) (a : Answer) (count : ℕ) (out out' : List ℕ) : Type 0 where
  pub sent : List ℕ
  pub says : Says a sent
  pub count_is : count ≡ length sent
  pub fits : count ≤ 6
  pub out_is : out' ≡ sent ++ drop count out

-- All parts of a device are unchanged, except its mode and its block.
pub record SameButModeAndBlock (a a' : LentDevice) : Type 0 where
  pub config : a'.config ≡ a.config
  pub unit : a'.unit ≡ a.unit
  pub sector : a'.sector ≡ a.sector
  pub held : a'.held ≡ a.held
  pub end : a'.put_end ≡ a.put_end
  pub noted : a'.noted ≡ a.noted
  pub work : a'.work ≡ a.work

-- The job `j` is that of the due row of a mode, for any wLength of the GETSTATUS that causes the row.
abbrev pub IsJobOfMode : DeviceState → SlotsState → SlotWrite → ℕ → List ℕ → Type 0
IsJobOfMode (device_state.DownloadSync written number) s j end held = IsBlockJob written s j end held
IsJobOfMode (device_state.DownloadBusy written number passed) s j end held = IsBlockJob written s j end held
IsJobOfMode (device_state.ManifestSync written) s j end held = IsCommitJob written s j end held
IsJobOfMode (device_state.Manifest written passed) s j end held = IsCommitJob written s j end held
IsJobOfMode m s j end held = ⊥
