-- Calls of a format, from its start to its end.
use Rattle.std.specs.Prelude.{◌≡◌, ◌<◌, ℕ, ℤ, pos, Bool, List, length}
use Rattle.dfu_slots.specs.declared.fault.FormatFault.TheVariants as fault
use Rattle.dfu_slots.specs.Medium.{Torn}
use Rattle.dfu_slots.specs.Image.{Active, capacity_of}
use Rattle.dfu_asks.specs.Mapped.{mapped_medium}
use Rattle.dfu_core.specs.declared.records.DfuAsk.{DfuAsk}
use Rattle.dfu_core.specs.declared.config.DfuConfig.{DfuConfig}
use Rattle.dfu_core.specs.declared.record.DfuRecord.{DfuRecord}
use Rattle.dfu_core.specs.Config.{config_grain}
use Rattle.dfu_core.specs.Formats.{FormatStarted, FormatStartRefused, FormatWriteHandedOut, FormatReportOutcome}
use Rattle.dfu_core.specs.Numbers.{WRITE_PENDING_NUMBER, format_number}
use Rattle.dfu_core.specs.Power.{RefusesPower}
use Rattle.dfu_core.specs.Writes.{ask_step}

-- A piece of a format: dfu_core_format_next returns a write, the range of the write then holds any bytes, and dfu_core_format_took returns
-- n on the new flash. The bytes are arbitrary, because the write may be done in full or in part, may fail, may report success without
-- effect, or may be repeated.
pub record FormatPieceResult (c : DfuConfig) (image flash : List ℕ) (r : DfuRecord) (flash' : List ℕ) (n : ℤ) (r' : DfuRecord) : Type 0 where
  -- Write that dfu_core_format_next returns.
  pub ask : DfuAsk
  -- dfu_core_format_next returns 0 and this write.
  pub handed : FormatWriteHandedOut c r flash image (pos 0) ask
  -- Only bytes in the range of the write change, to any values.
  pub torn : Torn flash (ask_step ask).write.at (ask_step ask).write.bytes flash'
  -- True if the program reports a failure.
  pub failed : Bool
  -- dfu_core_format_took returns `n` and leaves the record `r'`.
  pub goes : FormatReportOutcome c r flash' image failed n r'

-- A format of the image is under way, with this flash and this record.
pub data IsBeingFormatted (c : DfuConfig) (image : List ℕ) : (flash : List ℕ) → (r : DfuRecord) → Type 0 where
  -- dfu_core_format_start returned DFU_WRITE_PENDING. The flash may hold any bytes, for example those of a format that a power cut broke
  -- off.
  begins : {flash : List ℕ} {n : ℤ} {r : DfuRecord} → FormatStarted c flash image n r → IsBeingFormatted c image flash r
  -- A write was carried out, and dfu_core_format_took returned DFU_WRITE_PENDING.
  goes_on : {flash flash' : List ℕ} {n : ℤ} {r r' : DfuRecord} → IsBeingFormatted c image flash r →
      FormatPieceResult c image flash r flash' n r'
      → n ≡ WRITE_PENDING_NUMBER → IsBeingFormatted c image flash' r'

-- Once dfu_core_format_took returns 0, the image is the active image of the flash, and dfu_core_power_on and dfu_core_begin are not
-- refused.
abbrev pub EndedFormatActivatesImage : Type 0
EndedFormatActivatesImage = (c : DfuConfig) (image flash flash' : List ℕ) (r r' : DfuRecord) (n : ℤ) → IsBeingFormatted c image flash r
    → FormatPieceResult c image flash r flash' n r' → n ≡ pos 0
    → Active (mapped_medium (config_grain c) flash') image × ((k : ℤ) → ¬ RefusesPower c flash' k)

-- If a format is broken off at any time, dfu_core_format_start accepts the same image again, and refuses another image only because it is
-- too large.
abbrev pub BrokenFormatCanRestart : Type 0
BrokenFormatCanRestart = (c : DfuConfig) (image flash flash' : List ℕ) (r : DfuRecord) → IsBeingFormatted c image flash r
    → length flash' ≡ length flash → ((n : ℤ) → ¬ FormatStartRefused c flash' image n)
    × ((other : List ℕ) (n : ℤ) → FormatStartRefused c flash' other n
    → (n ≡ format_number fault.TooLarge) × (capacity_of (mapped_medium (config_grain c) flash') < length other))
