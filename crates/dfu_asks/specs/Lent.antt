-- A device that requests its flash writes from the caller, with the bytes in the memory that the caller lends.
use Rattle.std.specs.Prelude.{◌≡◌, ℕ, ◌≤◌, List, length, take, Option}
use Rattle.dfu_slots.specs.declared.layout.Unit.{Unit as WriteUnit}
use Rattle.dfu_slots.specs.Units.{unit_size}
use Rattle.dfu_device.specs.declared.device_state.DeviceState.{DeviceState}
use Rattle.dfu_device.specs.Setting.{Setting}
use Rattle.dfu_asks.specs.declared.sector.Sector.{Sector}
use Rattle.dfu_asks.specs.declared.noted.Noted.{Noted}
use Rattle.dfu_asks.specs.declared.pending_writes.PendingWrites.{PendingWrites}
use Rattle.dfu_asks.specs.declared.asking.Asking.{Asking}

-- Parts of a device: its kept fields, the block that is not written yet, and the bytes that are held back.
pub record LentDevice : Type 0 where
  pub config : Setting
  pub unit : WriteUnit
  pub sector : Sector
  pub mode : DeviceState
  pub block : List ℕ
  pub held : List ℕ
  pub put_end : ℕ
  pub noted : Noted
  pub work : Option PendingWrites

-- Device whose block and held bytes are at the front of the lent memory.
abbrev pub lent : Asking → (block held : List ℕ) → LentDevice
lent a block held = record {
  config = a.config;
  unit = a.unit;
  sector = a.sector;
  mode = a.mode;
  block = take a.block_len block;
  held = take a.held_len held;
  put_end = a.put_end;
  noted = a.noted;
  work = a.work;
}

-- The memory for the held bytes has room for a write unit.
abbrev pub HasRoom : WriteUnit → List ℕ → Type 0
HasRoom unit held = unit_size unit ≤ length held

-- The configuration, the unit and the sector of a device are unchanged.
pub record SameConfig (a a' : Asking) : Type 0 where
  pub config : a'.config ≡ a.config
  pub unit : a'.unit ≡ a.unit
  pub sector : a'.sector ≡ a.sector
