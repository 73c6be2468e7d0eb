-- Check of an operation after it was carried out.
use Rattle.std.specs.Prelude.{◌≡◌, ℕ, ◌+◌, ◌≤◌, Bool, false, List, length, Option, Some, None}
use Rattle.dfu_boot.specs.declared.install.due.Due.{Due}
use Rattle.dfu_boot.specs.declared.install.due.Due.TheVariants.{Refuse, Erase, Program, Start}
use Rattle.dfu_boot.specs.install.Area.{IsRunArea, RangeMatchesImage, RangeIsBlank}

-- The sector at offset `at` lies in the run area, and is blank.
abbrev pub IsBlankSector : List ℕ → ℕ → ℕ → Type 0
IsBlankSector run sector at = (at + sector ≤ length run) × RangeIsBlank run at (at + sector)

-- The piece at offset `at` lies in the run area, and equals the image up to the end of the image.
abbrev pub PieceReadsAsImage : List ℕ → List ℕ → ℕ → Type 0
PieceReadsAsImage image run at = (at + 256 ≤ length run) × RangeMatchesImage image run at (at + 256)

-- The operation at offset `at` succeeded, by the bytes of the run area: its sector is blank, or its piece equals the image.
abbrev pub OperationWorked : List ℕ → List ℕ → ℕ → Due → ℕ → Type 0
OperationWorked image run sector (Erase begins) at = (begins ≡ at) × IsBlankSector run sector at
OperationWorked image run sector (Program piece) at = (piece ≡ at) × PieceReadsAsImage image run at
OperationWorked image run sector (Refuse refusal) at = ⊥
OperationWorked image run sector Start at = ⊥

-- Result of `took`: the offset of the operation if no failure was reported, the run area holds the bytes of the operation, and the sector
-- size is allowed; else None.
abbrev pub IsNoteOfDue : List ℕ → List ℕ → ℕ → Due → Bool → Option ℕ → Type 0
IsNoteOfDue image run sector due failed (Some at) =
    (failed ≡ false) × IsRunArea (length run) sector × OperationWorked image run sector due at
IsNoteOfDue image run sector due failed None =
    failed ≡ false → IsRunArea (length run) sector → (at : ℕ) → ¬ OperationWorked image run sector due at
