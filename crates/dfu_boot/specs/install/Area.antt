-- A run area, and the comparison of its bytes with an image.
use Rattle.std.specs.Prelude.{◌≡◌, ◌≢◌, ℕ, ◌-◌, ◌%◌, ◌^◌, ◌≤◌, ◌<◌, List, length, take, drop, ◌++◌, replicate, slice_index}

-- A run area of `len` bytes, below 2^32, may have sectors of this size: a multiple of 256 bytes, from 256 to 2^18, that divides `len`.
pub record IsRunArea (len sector : ℕ) : Type 0 where
  pub some : 0 < sector
  pub pieces : sector % 256 ≡ 0
  pub most : sector ≤ 2 ^ 18
  pub bound : len < 2 ^ 32
  pub whole : len % sector ≡ 0

-- The run area begins with all bytes of the image.
abbrev pub AreaStores : List ℕ → List ℕ → Type 0
AreaStores run image = take (length image) run ≡ image

-- The bytes from..to of the run area equal those of the image, up to the end of the image.
abbrev pub RangeMatchesImage : List ℕ → List ℕ → ℕ → ℕ → Type 0
RangeMatchesImage image run from to = (i : ℕ) → from ≤ i → i < to → i < length image → slice_index run i ≡ slice_index image i

-- The bytes from..to of the run area are all FFh.
abbrev pub RangeIsBlank : List ℕ → ℕ → ℕ → Type 0
RangeIsBlank run from to = (i : ℕ) → from ≤ i → i < to → slice_index run i ≡ 255

-- Byte `at` is the first one in from..to that differs from the image.
pub record IsFirstDifference (image run : List ℕ) (from to at : ℕ) : Type 0 where
  pub after : from ≤ at
  pub within : at < to
  pub differs : slice_index run at ≢ slice_index image at
  pub before : RangeMatchesImage image run from at

-- Offset of the first byte of the sector or piece, of `part` bytes, that contains the offset `at`.
abbrev pub start_of : ℕ → ℕ → ℕ
start_of part at = at - at % part

-- Bytes that are programmed at an offset: 256 bytes of the image, and FFh after its end.
abbrev pub program_piece : List ℕ → ℕ → List ℕ
program_piece image at = let bytes = take 256 (drop at image) in bytes ++ replicate (256 - length bytes) 255
