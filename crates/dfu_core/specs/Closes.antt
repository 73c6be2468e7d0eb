-- Result of dfu_core_closes, with which a program in C detects a setup packet that closes a download, before the device handles the packet.
use Rattle.std.specs.Prelude.{◌≡◌, ℕ, ℤ, Bool, List}
use Rattle.dfu_asks.specs.declared.asking.Asking.{Asking}
use Rattle.dfu_asks.specs.Asks.{device_in, IsDevice}
use Rattle.dfu_asks.specs.Close.{IsCloseVerdict}
use Rattle.dfu_core.specs.declared.config.DfuConfig.{DfuConfig}
use Rattle.dfu_core.specs.declared.record.DfuRecord.{DfuRecord}
use Rattle.dfu_core.specs.RecordMeaning.{IsRecordOf, with_memory}
use Rattle.dfu_core.specs.Numbers.{yes_no_number}

-- The result is 1 if the setup packet closes the download of the record's device, otherwise 0, for each flash and block memory that agree
-- with the device.
abbrev pub CloseResult : DfuConfig → DfuRecord → List ℕ → ℤ → Type 0
CloseResult c r setup result = (block flash : List ℕ) (a : Asking) → IsRecordOf c r a → IsDevice (with_memory block a) flash
    → (said : Bool) × (result ≡ yes_no_number said) × IsCloseVerdict said setup (device_in (with_memory block a) flash)
