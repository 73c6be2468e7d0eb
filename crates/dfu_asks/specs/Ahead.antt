-- Bytes of flash that are programmed without a preceding erase.
use Rattle.std.specs.Prelude.{◌≡◌, ◌≢◌, ℕ, ◌+◌, ◌%◌, ◌≤◌, ◌<◌, List, length, slice_index}

-- The first sector among the n bytes from `at` on begins at `to`. If no sector begins among them, `to` is their end.
pub record ReachesSectorAt (sector at n to : ℕ) : Type 0 where
  pub low : at ≤ to
  pub high : to ≤ at + n
  pub inner : (q : ℕ) → at ≤ q → q < to → q % sector ≢ 0
  pub edge : to < at + n → to % sector ≡ 0

-- The n bytes from an offset on are FFh, up to the first sector that begins among them or the flash's end. True if sectors have size 0.
abbrev pub IsErasedAhead : ℕ → List ℕ → ℕ → ℕ → Type 0
IsErasedAhead sector bytes at n = 0 < sector → (p : ℕ) → at ≤ p → p < at + n → p < length bytes
    → ((q : ℕ) → at ≤ q → q ≤ p → q % sector ≢ 0) → slice_index bytes p ≡ 255
