-- Causes of a refused call.
use Rattle.std.specs.Prelude.{◌≡◌, ℕ, ◌≤◌, ◌<◌, min, List, length, IsSome, Some, None}
use Rattle.dfu_asks.specs.declared.pending_writes.PendingWrites.{PendingWrites}
use Rattle.dfu_asks.specs.declared.asking.Asking.{Asking}
use Rattle.dfu_asks.specs.Lent.{LentDevice, lent}
use Rattle.dfu_asks.specs.Noted.{NotedIsOnFlash}
use Rattle.dfu_asks.specs.declared.reply.Refusal.{Refusal}
use Rattle.dfu_asks.specs.declared.reply.Refusal.TheVariants as refusal
use Rattle.dfu_asks.specs.Mapped.{grain_of, mapped_medium}
use Rattle.dfu_asks.specs.Carried.{total}
use Rattle.dfu_asks.specs.Asks.{IsDevice, writes_in}

-- A buffer of `room` bytes has room for the block that is not written yet, and for every block up to the transfer size, which is at most
-- 4096.
pub record RoomForBlocks (a : Asking) (room : ℕ) : Type 0 where
  pub block : a.block_len ≤ room
  pub transfer : a.config.functional.transfer ≤ min 4096 room

-- The kept fields and the lent memory are a valid device on this flash, and the block memory has room.
pub record IsDeviceOn (a : Asking) (block held flash : List ℕ) : Type 0 where
  pub fits : RoomForBlocks a (length block)
  pub is : IsDevice (lent a block held) flash

-- The flash consists of two slots. The noted slot is open, has the noted header, and can hold an image of the header's length.
abbrev pub NotedHeaderIsOnFlash : Asking → List ℕ → Type 0
NotedHeaderIsOnFlash a flash = NotedIsOnFlash a.noted (mapped_medium (grain_of a.unit a.sector) flash)

-- The refusal has its cause in a call that needs `need` bytes of a buffer with `room` bytes. The causes are checked in this order.
abbrev pub IsRefusedCall : Refusal → Asking → (block held flash : List ℕ) → (need room : ℕ) → Type 0
IsRefusedCall refusal.Asked a block held flash need room = IsSome a.work
IsRefusedCall refusal.NoRoom a block held flash need room = (a.work ≡ None) × (room < need)
IsRefusedCall refusal.NoMedium a block held flash need room = (a.work ≡ None) × (need ≤ room) × ¬ NotedHeaderIsOnFlash a flash
IsRefusedCall refusal.NoDevice a block held flash need room = (a.work ≡ None) × (need ≤ room) × NotedHeaderIsOnFlash a flash ×
    ¬ IsDeviceOn a block held flash

-- These facts hold for each call that is not refused, even if the kept fields were damaged.
pub record ServedCallFacts (a : Asking) (block flash : List ℕ) (need room : ℕ) : Type 0 where
  pub work : a.work ≡ None
  pub enough : need ≤ room
  pub there : NotedHeaderIsOnFlash a flash
  pub fits : RoomForBlocks a (length block)

-- The device has pending writes, and not all of their bytes are written.
pub record HasRemainingWrites (a : LentDevice) (w : PendingWrites) : Type 0 where
  pub work_is : a.work ≡ Some w
  pub left : w.done < total (writes_in a w)

-- `took` was refused for this cause: its buffer has fewer than 6 bytes, or no write is pending.
abbrev pub ReportRefusedFor : Refusal → LentDevice → (room : ℕ) → Type 0
ReportRefusedFor refusal.NoRoom a room = room < 6
ReportRefusedFor refusal.NoDevice a room = (6 ≤ room) × ((w : PendingWrites) → ¬ HasRemainingWrites a w)
ReportRefusedFor e a room = ⊥

-- A report is accepted if the buffer has at least 6 bytes and writes are pending.
pub record ReportAccepted (a : LentDevice) (room : ℕ) : Type 0 where
  pub fits : 6 ≤ room
  pub work : PendingWrites
  pub is_left : HasRemainingWrites a work
