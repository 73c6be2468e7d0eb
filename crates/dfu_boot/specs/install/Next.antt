-- Next operation of a run area.
use Rattle.std.specs.Prelude.{◌≡◌, ◌⊎◌, ℕ, ◌+◌, ◌≤◌, ◌<◌, min, List, length, Option, Some, None}
use Rattle.dfu_boot.specs.declared.install.due.Due.{Due}
use Rattle.dfu_boot.specs.declared.install.due.Due.TheVariants.{Refuse, Erase, Program, Start}
use Rattle.dfu_boot.specs.declared.install.due.InstallRefusal.TheVariants.{WrongSize, NoImage, TooLarge}
use Rattle.dfu_boot.specs.install.Area.{IsRunArea, AreaStores, RangeMatchesImage, RangeIsBlank, IsFirstDifference, start_of}

-- An image and a run area are not refused: the sector size is allowed, and the image is not empty and fits in the run area.
pub record IsNotRefused (image run : List ℕ) (sector : ℕ) : Type 0 where
  pub area : IsRunArea (length run) sector
  pub some : 0 < length image
  pub fits : length image ≤ length run

-- First offset of the search for a difference: the offset of the last operation, limited to the length of the image, or 0 without a last
-- operation.
abbrev pub search_start : List ℕ → Option ℕ → ℕ
search_start image None = 0
search_start image (Some at) = min at (length image)

-- Byte `at` is the first one from offset `from` on in which image and run area differ, or if there is none, the first one from offset 0 on.
abbrev pub IsNextDifference : List ℕ → List ℕ → ℕ → ℕ → Type 0
IsNextDifference image run from at =
    IsFirstDifference image run from (length image) at
    ⊎ (RangeMatchesImage image run from (length image) × IsFirstDifference image run 0 from at)

-- A piece may be programmed if it is blank, and the last operation succeeded in the sector of the piece, and not after the piece.
abbrev pub MayProgram : List ℕ → ℕ → Option ℕ → ℕ → Type 0
MayProgram run sector None piece = ⊥
MayProgram run sector (Some last) piece =
    (last ≤ piece) × (start_of sector last ≡ start_of sector piece) × RangeIsBlank run piece (piece + 256)

-- The next operation programs the piece of the next differing byte, because that piece may be programmed.
pub record IsProgramDueAt (image run : List ℕ) (sector : ℕ) (last : Option ℕ) (piece at : ℕ) : Type 0 where
  pub next : IsNextDifference image run (search_start image last) at
  pub is : piece ≡ start_of 256 at
  pub may : MayProgram run sector last piece

-- The next operation erases the sector of the next differing byte, because the piece of that byte may not be programmed.
pub record IsEraseDueAt (image run : List ℕ) (sector : ℕ) (last : Option ℕ) (begins at : ℕ) : Type 0 where
  pub next : IsNextDifference image run (search_start image last) at
  pub is : begins ≡ start_of sector at
  pub may_not_program : ¬ MayProgram run sector last (start_of 256 at)

-- Next operation: the first refusal that applies, else an operation for the next differing byte, or the start if no byte differs.
abbrev pub IsNextDue : List ℕ → List ℕ → ℕ → Option ℕ → Due → Type 0
IsNextDue image run sector last (Refuse WrongSize) = ¬ IsRunArea (length run) sector
IsNextDue image run sector last (Refuse NoImage) = IsRunArea (length run) sector × (length image ≡ 0)
IsNextDue image run sector last (Refuse TooLarge) = IsRunArea (length run) sector × (0 < length image) × (length run < length image)
IsNextDue image run sector last (Erase at) = IsNotRefused image run sector × ((d : ℕ) × IsEraseDueAt image run sector last at d)
IsNextDue image run sector last (Program at) = IsNotRefused image run sector × ((d : ℕ) × IsProgramDueAt image run sector last at d)
IsNextDue image run sector last Start = IsNotRefused image run sector × AreaStores run image
