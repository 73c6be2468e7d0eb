-- State of a format that requests its writes from the caller: the flash after the pieces so far, and the outcomes of a piece.
use Rattle.std.specs.Prelude.{◌≡◌, ℕ, ◌+◌, ◌<◌, Bool, true, false, List, ◌++◌, length, slice_range}
use Rattle.dfu_suffix.specs.Register.{register}
use Rattle.dfu_slots.specs.declared.fault.WriteFault.TheVariants.{Failed, NotVerified}
use Rattle.dfu_slots.specs.Units.{Grain}
use Rattle.dfu_slots.specs.Medium.{MediumState, Write, AllWrites, BrokenWrites}
use Rattle.dfu_slots.specs.Image.{Active}
use Rattle.dfu_slots.specs.StoreView.{format_series}
use Rattle.dfu_slots.specs.Changes.{CanFormat}
use Rattle.dfu_asks.specs.declared.formatting.Formatting.{Formatting}
use Rattle.dfu_asks.specs.declared.formatting.FormatProgress.{FormatProgress}
use Rattle.dfu_asks.specs.declared.formatting.FormatProgress.TheVariants.{Asks, Formatted, Broken}
use Rattle.dfu_asks.specs.Mapped.{mapped_medium}
use Rattle.dfu_asks.specs.Steps.{Step, step_writes}
use Rattle.dfu_asks.specs.Carried.{total, bytes_after_writes, EndsAtPiece}
use Rattle.dfu_asks.specs.Phases.{format_steps, format_grain, remaining_steps, steps_of_part}

-- Medium with these bytes, which is written in the unit and erased in the sector of this format.
abbrev pub medium_of_format : Formatting → List ℕ → MediumState
medium_of_format f bytes = mapped_medium (format_grain f) bytes

-- A format of this image is under way. `was` is the flash before its first write, and `flash` the flash after the pieces that are written
-- so far.
pub record FormatUnderWay (f : Formatting) (image was flash : List ℕ) : Type 0 where
  pub can : CanFormat (medium_of_format f was) image
  pub sum : f.register ≡ register image
  -- Steps of the parts before the current part.
  pub front : List Step
  pub series : format_steps (medium_of_format f was) image ≡ front ++ remaining_steps f (length was) image
  pub reached : EndsAtPiece (remaining_steps f (length was) image) f.done
  pub flash_is : flash ≡ bytes_after_writes was (step_writes (format_steps (medium_of_format f was) image)) (total (step_writes front) +
      f.done)

-- A format requests its next piece, which belongs to the current part.
pub record FormatPending (f : Formatting) (image was flash : List ℕ) : Type 0 where
  pub way : FormatUnderWay f image was flash
  pub left : f.done < total (step_writes (steps_of_part f (length was) image))

-- A format is complete: all its writes were made, and the image is the active one.
pub record FormatCompleted (m : MediumState) (image : List ℕ) (now : MediumState) : Type 0 where
  pub writes : AllWrites m (format_series m image) now
  pub active : Active now image

-- After a successful piece, a format requests the next piece, or is complete.
abbrev pub FormatOutcome : Grain → Formatting → (image was flash : List ℕ) → FormatProgress → Type 0
FormatOutcome grain f image was flash Asks = FormatPending f image was flash
FormatOutcome grain f image was flash Formatted = FormatCompleted (mapped_medium grain was) image (mapped_medium grain flash)
FormatOutcome grain f image was flash (Broken fault) = ⊥

-- The program reported the piece `p` of a format. The outcome depends on the report and on the bytes that are now on the flash.
pub data FormatPieceReported (f f' : Formatting) (image was flash : List ℕ) (p : Write) (failed : Bool) : FormatProgress → Type 0 where
  -- The flash contains the bytes of the piece. The format requests the next piece, or is complete.
  format_piece_on_flash : (r : FormatProgress) → failed ≡ false → slice_range flash p.at (p.at + length p.bytes) ≡ p.bytes
      → FormatOutcome (format_grain f) f' image was flash r
      → FormatPieceReported f f' image was flash p failed r
  -- The write of the piece failed, and the format ends with Failed.
  format_piece_failed : failed ≡ true → BrokenWrites Failed (medium_of_format f was) (format_series (medium_of_format f was) image)
      (medium_of_format f flash)
      → FormatPieceReported f f' image was flash p failed (Broken Failed)
  -- The flash contains other bytes, and the format ends with NotVerified.
  format_piece_not_on_flash : failed ≡ false → ¬ (slice_range flash p.at (p.at + length p.bytes) ≡ p.bytes)
      → BrokenWrites NotVerified (medium_of_format f was) (format_series (medium_of_format f was) image) (medium_of_format f flash)
      → FormatPieceReported f f' image was flash p failed (Broken NotVerified)

-- The two records belong to the same format: their units, sectors and registers are equal. Their progress may differ.
pub record IsSameFormat (f f' : Formatting) : Type 0 where
  pub unit : f'.unit ≡ f.unit
  pub sector : f'.sector ≡ f.sector
  pub register : f'.register ≡ f.register
