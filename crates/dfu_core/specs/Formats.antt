-- Results of the calls with which a program in C formats flash.
use Rattle.std.specs.Prelude.{◌≡◌, ◌≢◌, ◌⊎◌, ◌+◌, ◌<◌, ◌≤◌, ◌^◌, ℕ, ℤ, pos, Bool, List, length}
use Rattle.dfu_slots.specs.declared.fault.FormatFault.{FormatFault}
use Rattle.dfu_slots.specs.declared.fault.FormatFault.TheVariants as fault
use Rattle.dfu_slots.specs.Medium.{Torn}
use Rattle.dfu_slots.specs.Changes.{IsFormatFault}
use Rattle.dfu_asks.specs.declared.formatting.Formatting.{Formatting}
use Rattle.dfu_asks.specs.declared.formatting.FormatProgress.{FormatProgress}
use Rattle.dfu_asks.specs.declared.formatting.FormatProgress.TheVariants as format_progress
use Rattle.dfu_asks.specs.Mapped.{mapped_medium}
use Rattle.dfu_asks.specs.Steps.{Step}
use Rattle.dfu_asks.specs.Carried.{IsStepPiece, ErasesSectorOrPrograms}
use Rattle.dfu_asks.specs.Phases.{remaining_steps}
use Rattle.dfu_asks.specs.Formats.{FormatPending, FormatPieceReported}
use Rattle.dfu_asks.specs.FormatFurther.{FormatPieceAdvances}
use Rattle.dfu_core.specs.declared.config.DfuConfig.{DfuConfig}
use Rattle.dfu_core.specs.Config.{config_grain, IsConfig}
use Rattle.dfu_core.specs.Mode.{blank_record}
use Rattle.dfu_core.specs.declared.records.DfuAsk.{DfuAsk}
use Rattle.dfu_core.specs.declared.record.DfuRecord.{DfuRecord}
use Rattle.dfu_core.specs.Formatting.{IsFormatRecord}
use Rattle.dfu_core.specs.Writes.{ask_step}
use Rattle.dfu_core.specs.Numbers.{WRITE_PENDING_NUMBER, NO_CONFIG_NUMBER, NO_DEVICE_NUMBER, NO_MEDIUM_NUMBER, format_number}

-- A format began: the record represents a format whose first write is pending. Fields that a format doesn't use are 0.
pub record FormatStarted (c : DfuConfig) (flash image : List ℕ) (result : ℤ) (r' : DfuRecord) : Type 0 where
  pub number_is : result ≡ WRITE_PENDING_NUMBER
  pub config : IsConfig c
  pub formatting : Formatting
  pub is : IsFormatRecord c r' formatting
  pub asks : FormatPending formatting image flash flash
  pub rest : r' ≡ record blank_record { work = r'.work; spare = r'.spare; sum = r'.sum; done = r'.done; generation = r'.generation }

-- The start of a format is refused with the number of the first of these reasons: the configuration is not allowed; the flash has 2^32
-- bytes or more; the flash or the image can't be formatted.
abbrev pub FormatStartRefused : DfuConfig → List ℕ → List ℕ → ℤ → Type 0
FormatStartRefused c flash image result = ((result ≡ NO_CONFIG_NUMBER) × ¬ IsConfig c)
    ⊎ ((result ≡ NO_MEDIUM_NUMBER) × IsConfig c × (2 ^ 32 ≤ length flash))
    ⊎ ((f : FormatFault) × (f ≢ fault.Failed) × (result ≡ format_number f) × IsConfig c × (length flash < 2 ^ 32)
    × IsFormatFault f (mapped_medium (config_grain c) flash) image)

-- The program received the next write of the format that the record represents. The write has at least one byte, erases one sector or
-- programs at most 256 bytes, and lies within the flash.
pub record FormatWriteHandedOut (c : DfuConfig) (r : DfuRecord) (flash image : List ℕ) (result : ℤ) (ask : DfuAsk) : Type 0 where
  pub number_is : result ≡ pos 0
  pub config : IsConfig c
  pub formatting : Formatting
  pub is : IsFormatRecord c r formatting
  pub kind : (ask.kind ≡ 1) ⊎ (ask.kind ≡ 2)
  pub piece : IsStepPiece (remaining_steps formatting (length flash) image) formatting.done (ask_step ask)
  pub some : 0 < ask.length
  pub most : ask.kind ≡ 2 → ask.length ≤ 256
  pub sector : ErasesSectorOrPrograms c.sector (ask_step ask)
  pub within : ask.at + ask.length ≤ length flash

-- A call for a format is refused for the first of these reasons: the configuration is not allowed; the record represents no format, or a
-- format that satisfies `Why`.
abbrev pub RefusesFormat : DfuConfig → DfuRecord → (Formatting → Type 0) → ℤ → Type 0
RefusesFormat c r Why result = ((result ≡ NO_CONFIG_NUMBER) × ¬ IsConfig c)
    ⊎ ((result ≡ NO_DEVICE_NUMBER) × IsConfig c × (((f : Formatting) → ¬ IsFormatRecord c r f)
    ⊎ ((f : Formatting) × IsFormatRecord c r f × Why f)))

-- Number that reports the progress of a format after a piece: DFU_WRITE_PENDING, 0 if the format is complete, or DFU_NOT_WRITTEN.
abbrev pub progress_number : FormatProgress → ℤ
progress_number format_progress.Asks = WRITE_PENDING_NUMBER
progress_number format_progress.Formatted = pos 0
progress_number (format_progress.Broken why) = format_number fault.Failed

-- The program reported the outcome of a piece of a format, and the number encodes the progress. The record represents the format while a
-- write is pending, and no work afterwards. Fields that a format doesn't use are unchanged.
pub record FormatReportOutcome (c : DfuConfig) (r : DfuRecord) (flash image : List ℕ) (failed : Bool) (result : ℤ) (r' : DfuRecord) : Type 0
  where
    pub config : IsConfig c
    pub before : Formatting
    pub is : IsFormatRecord c r before
    pub after : Formatting
    pub came : FormatProgress
    pub number_is : result ≡ progress_number came
    pub on : came ≡ format_progress.Asks → IsFormatRecord c r' after
    pub over : came ≢ format_progress.Asks → r'.work ≡ 0
    pub rest : r' ≡ record r { work = r'.work; spare = r'.spare; sum = r'.sum; done = r'.done; generation = r'.generation }
    pub took : (was mid : List ℕ) → FormatPending before image was mid → (p : Step)
        → IsStepPiece (remaining_steps before (length was) image) before.done p
        → Torn mid p.write.at p.write.bytes flash → FormatPieceReported before after image was flash p.write failed came
    pub further : FormatPieceAdvances before (length flash) image came after
