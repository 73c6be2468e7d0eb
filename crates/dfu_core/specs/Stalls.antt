-- Result of dfu_core_would_stall, with which a program in C detects that a device stalls a request, before the body of the request arrives.
use Rattle.std.specs.Prelude.{◌≡◌, ℕ, ℤ, Bool, List, length}
use Rattle.dfu_asks.specs.declared.asking.Asking.{Asking}
use Rattle.dfu_asks.specs.Asks.{device_in, IsDevice}
use Rattle.dfu_asks.specs.Verdict.{IsStallVerdict}
use Rattle.dfu_core.specs.declared.config.DfuConfig.{DfuConfig}
use Rattle.dfu_core.specs.declared.record.DfuRecord.{DfuRecord}
use Rattle.dfu_core.specs.RecordMeaning.{IsRecordOf, with_memory}
use Rattle.dfu_core.specs.Numbers.{yes_no_number}

-- The result is 1 if the record's device stalls the setup packet with every body of wLength bytes, and 0 if it stalls the packet with no
-- such body, for each flash of the given size that agrees with the device.
abbrev pub StallResult : DfuConfig → DfuRecord → ℕ → List ℕ → ℤ → Type 0
StallResult c r size setup result = (block flash : List ℕ) (a : Asking) → IsRecordOf c r a → IsDevice (with_memory block a) flash
    → length flash ≡ size
    → (said : Bool) × (result ≡ yes_no_number said) × IsStallVerdict said setup (device_in (with_memory block a) flash)
