-- Operations that are allowed on a run area, with the reason for each.
use Rattle.std.specs.Prelude.{◌≡◌, ◌≢◌, ℕ, ◌+◌, ◌%◌, ◌≤◌, ◌<◌, List, length, slice_index, Option, Some, None}
use Rattle.dfu_boot.specs.declared.install.due.Due.{Due}
use Rattle.dfu_boot.specs.declared.install.due.Due.TheVariants.{Refuse, Erase, Program, Start}
use Rattle.dfu_boot.specs.install.Area.{AreaStores, RangeIsBlank, start_of}
use Rattle.dfu_boot.specs.install.Next.{IsNextDue}

-- A byte of the run area, with an offset in from..to, differs from the image.
pub record ImageByteDiffers (image run : List ℕ) (from to : ℕ) : Type 0 where
  pub at : ℕ
  pub after : from ≤ at
  pub before : at < to
  pub inside : at < length image
  pub differs : slice_index run at ≢ slice_index image at

-- The last operation succeeded, and its sector is that of the offset `at`.
abbrev pub IsInSectorOfLast : ℕ → Option ℕ → ℕ → Type 0
IsInSectorOfLast sector None at = ⊥
IsInSectorOfLast sector (Some last) at = start_of sector last ≡ start_of sector at

-- The next operation is allowed. It erases only a sector of the run area that differs from the image. It programs only a blank piece that
-- differs, in the sector of the last operation. It starts only an image that the run area holds.
abbrev pub IsAllowedDue : List ℕ → List ℕ → ℕ → Option ℕ → Due → Type 0
IsAllowedDue image run sector last (Erase at) = (at % sector ≡ 0) × (at + sector ≤ length run) × ImageByteDiffers image run at (at + sector)
IsAllowedDue image run sector last (Program at) = (at % 256 ≡ 0) × (at + 256 ≤ length run) × ImageByteDiffers image run at (at + 256)
    × RangeIsBlank run at (at + 256) × IsInSectorOfLast sector last at
IsAllowedDue image run sector last Start = AreaStores run image × (0 < length image)
IsAllowedDue image run sector last (Refuse refusal) = Unit {0}

-- Each next operation is allowed, for any bytes of the run area and any offset of the last operation.
abbrev pub DueIsAllowed : Type 0
DueIsAllowed = (image run : List ℕ) (sector : ℕ) (last : Option ℕ) (due : Due) → IsNextDue image run sector last due →
    IsAllowedDue image run sector last due
