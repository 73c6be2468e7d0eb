-- Records that represent a device that lets its program write the flash.
use Rattle.std.specs.Prelude.{◌≡◌, ◌+◌, ◌^◌, ◌<◌, ℕ, Bool, true, false, List, take, drop, Option, Some, None}
use Rattle.dfu_slots.specs.declared.layout.Unit.{Unit as WriteUnit}
use Rattle.dfu_device.specs.Setting.{Setting}
use Rattle.dfu_asks.specs.declared.sector.Sector.{Sector}
use Rattle.dfu_asks.specs.declared.pending_writes.SlotWrite.{SlotWrite}
use Rattle.dfu_asks.specs.declared.pending_writes.SlotWrite.TheVariants as slot_write
use Rattle.dfu_asks.specs.declared.pending_writes.PendingWrites.{PendingWrites}
use Rattle.dfu_asks.specs.declared.asking.Asking.{Asking}
use Rattle.dfu_asks.specs.declared.noted.Noted.{Noted}
use Rattle.dfu_asks.specs.Lent.{LentDevice, lent}
use Rattle.dfu_core.specs.declared.config.DfuConfig.{DfuConfig}
use Rattle.dfu_core.specs.declared.record.DfuRecord.{DfuRecord}
use Rattle.dfu_core.specs.Config.{config_setting, unit_of}
use Rattle.dfu_core.specs.Mode.{HasMode}

-- The number is 1 for true and 0 for false.
abbrev pub IsFlagNumber : Bool → ℕ → Type 0
IsFlagNumber true n = n ≡ 1
IsFlagNumber false n = n ≡ 0

-- The record encodes the job whose writes are pending.
abbrev pub HasJobNumbers : DfuRecord → SlotWrite → Type 0
HasJobNumbers r (slot_write.Block spare close) = (r.work ≡ 1) × (spare ≡ r.spare) × IsFlagNumber close r.close
HasJobNumbers r (slot_write.Commit spare generation register) =
    (r.work ≡ 2) × (spare ≡ r.spare) × (generation ≡ r.generation) × (register ≡ r.sum)

-- The two records differ only in the fields of a job.
abbrev pub ChangesOnlyJob : DfuRecord → DfuRecord → Type 0
ChangesOnlyJob r r' = r' ≡ record r { work = r'.work; spare = r'.spare; sum = r'.sum; generation = r'.generation; close = r'.close }

-- The number is wLength of the pending GETSTATUS plus 1, or 0 if none is pending.
abbrev pub IsPendingLengthNumber : ℕ → Option ℕ → Type 0
IsPendingLengthNumber n None = n ≡ 0
IsPendingLengthNumber n (Some len) = (n ≡ len + 1) × (len < 2 ^ 16)

-- The record encodes the pending writes; None means that none are pending.
abbrev pub HasWorkNumbers : DfuRecord → Option PendingWrites → Type 0
HasWorkNumbers r None = r.work ≡ 0
HasWorkNumbers r (Some w) = HasJobNumbers r w.job × IsPendingLengthNumber r.asked w.asked × (w.done ≡ r.done)

-- The two records differ only in the fields of the pending writes.
abbrev pub ChangesOnlyWork : DfuRecord → DfuRecord → Type 0
ChangesOnlyWork r r' = ChangesOnlyJob (record r { done = r'.done; asked = r'.asked }) r'

-- The record encodes the note on the active image: its slot and its header.
pub record HasNoteNumbers (r : DfuRecord) (n : Noted) : Type 0 where
  pub second : IsFlagNumber n.second r.slot
  pub header : n.header ≡ r.header

-- The settings, the unit and the sectors are those of the configuration.
pub record AreConfigParts (c : DfuConfig) (config : Setting) (unit : WriteUnit) (sector : Sector) : Type 0 where
  pub config_is : config ≡ config_setting c
  pub unit_is : unit ≡ unit_of c
  pub sector_is : sector.size ≡ c.sector

-- The record represents the device a.
pub record IsRecordOf (c : DfuConfig) (r : DfuRecord) (a : Asking) : Type 0 where
  pub set_up : AreConfigParts c a.config a.unit a.sector
  pub mode : HasMode r a.mode
  pub block : a.block_len ≡ r.length
  pub held : a.held_len ≡ r.held_length
  pub end : a.put_end ≡ r.put_end
  pub noted : HasNoteNumbers r a.noted
  pub work : HasWorkNumbers r a.work

-- First part of a block memory, as long as the transfer size. It holds the block.
abbrev pub block_in_memory : Asking → List ℕ → List ℕ
block_in_memory a memory = take a.config.functional.transfer memory

-- Rest of a block memory. It holds the bytes that are held back.
abbrev pub held_memory : Asking → List ℕ → List ℕ
held_memory a memory = drop a.config.functional.transfer memory

-- The device a whose block and held bytes are in the block memory.
abbrev pub with_memory : List ℕ → Asking → LentDevice
with_memory memory a = lent a (block_in_memory a memory) (held_memory a memory)
