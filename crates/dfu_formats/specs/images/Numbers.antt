-- Little-endian numbers in bytes.
use Rattle.std.specs.Prelude.{ℕ, ◌+◌, ◌*◌, List, slice_index}

-- The number in the two bytes from index `at` on, the low byte first.
abbrev pub le16 : List ℕ → (at : ℕ) → ℕ
le16 bytes at = slice_index bytes at + 256 * slice_index bytes (at + 1)

-- The number in the four bytes from index `at` on, the low byte first.
abbrev pub le32 : List ℕ → (at : ℕ) → ℕ
le32 bytes at = le16 bytes at + 65536 * le16 bytes (at + 2)
