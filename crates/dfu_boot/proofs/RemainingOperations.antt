-- Number of operations that a run area still needs on a medium without failures.
use Rattle.std.proofs.Common.{◌≡◌, ◌⊎◌, ◌≤◌, ◌+◌, ◌*◌, ◌%◌, ℕ, suc, List, length, Option, Some, None}
use Rattle.dfu_boot.specs.install.Allowed.{ImageByteDiffers}
use Rattle.dfu_boot.specs.install.Area.{RangeMatchesImage, RangeIsBlank, start_of}
use Rattle.dfu_boot.proofs.Members.{IsInList}

-- A tidy sector: the bytes before the piece equal the image, the piece equals the image or is blank, and the bytes after it are blank.
pub record IsTidySector (image run : List ℕ) (sector piece : ℕ) : Type 0 where
  pub whole : piece % 256 ≡ 0
  pub done : RangeMatchesImage image run (start_of sector piece) piece
  pub here : RangeMatchesImage image run piece (piece + 256) ⊎ RangeIsBlank run piece (piece + 256)
  pub blank : RangeIsBlank run (piece + 256) (start_of sector piece + sector)

-- The last operation was in the sector at `begins`, and left that sector tidy.
abbrev pub WasLeftTidy : List ℕ → List ℕ → ℕ → Option ℕ → ℕ → Type 0
WasLeftTidy image run sector None begins = ⊥
WasLeftTidy image run sector (Some last) begins = (start_of sector last ≡ begins) × IsTidySector image run sector last

-- The sector at `begins` must be erased: it differs from the image, and was not left tidy.
pub record MustBeErased (image run : List ℕ) (sector : ℕ) (last : Option ℕ) (begins : ℕ) : Type 0 where
  pub whole : begins % sector ≡ 0
  pub off : ImageByteDiffers image run begins (begins + sector)
  pub is_untidy : ¬ WasLeftTidy image run sector last begins

-- At most `left` pieces may be programmed before the next erase; without a last operation none may.
abbrev pub HasPiecesLeft : List ℕ → List ℕ → ℕ → Option ℕ → ℕ → Type 0
HasPiecesLeft image run sector None left = Unit {0}
HasPiecesLeft image run sector (Some last) left =
    (start_of sector last + sector ≤ last + 256 * left)
    ⊎ ((last % 256 ≡ 0) × RangeMatchesImage image run last (last + 256) × (start_of sector last + sector ≤ last + 256 * suc left))

-- At most `most` operations remain, in sectors of k pieces.
pub record CostsAtMost (image run : List ℕ) (sector k : ℕ) (last : Option ℕ) (most : ℕ) : Type 0 where
  pub sectors : List ℕ
  pub left : ℕ
  pub has_each_to_erase : (i : ℕ) → MustBeErased image run sector last i → IsInList i sectors
  pub has : HasPiecesLeft image run sector last left
  pub enough : length sectors * (1 + k) + left ≤ most
