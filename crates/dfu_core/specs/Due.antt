-- Time after which the state of a device changes, for a program in C.
use Rattle.std.specs.Prelude.{◌≡◌, ◌-◌, ◌^◌, min, ℕ, ℤ, pos, List}
use Rattle.dfu_device.specs.Rows.{Elapses}
use Rattle.dfu_device.specs.DeviceView.{DeviceView}
use Rattle.dfu_asks.specs.declared.asking.Asking.{Asking}
use Rattle.dfu_asks.specs.Asks.{device_in}
use Rattle.dfu_asks.specs.Refused.{IsDeviceOn}
use Rattle.dfu_asks.specs.Times.{ChangesOnceDue}
use Rattle.dfu_core.specs.declared.config.DfuConfig.{DfuConfig}
use Rattle.dfu_core.specs.declared.record.DfuRecord.{DfuRecord}
use Rattle.dfu_core.specs.RecordMeaning.{IsRecordOf, block_in_memory, held_memory, with_memory}

-- Largest number that dfu_core_due returns: it means this many milliseconds or more.
abbrev pub LONGEST_DUE : ℕ
LONGEST_DUE = 2 ^ 31 - 1

-- The result is the number of milliseconds after which the state of the record's device changes, at most LONGEST_DUE, or 0 if the state
-- doesn't change with time.
pub record DueResult (c : DfuConfig) (r : DfuRecord) (result : ℤ) : Type 0 where
  pub due : ℕ
  pub number_is : result ≡ pos (min LONGEST_DUE due)
  pub told : (block flash : List ℕ) (a : Asking) → IsRecordOf c r a → IsDeviceOn a (block_in_memory a block) (held_memory a block) flash
      → (ms : ℕ) (d' : DeviceView)
      → Elapses ms (device_in (with_memory block a) flash) d'
      → ChangesOnceDue due ms (device_in (with_memory block a) flash) d'
