-- Series of writes that are made piece by piece.
use Rattle.std.specs.Prelude.{◌≡◌, ◌⊎◌, ℕ, ◌+◌, ◌-◌, ◌%◌, ◌≤◌, ◌<◌, min, true, if◌then◌else◌, List, [], ◌∷◌, length, take, slice_range}
use Rattle.dfu_slots.specs.Medium.{Write, written}
use Rattle.dfu_asks.specs.Steps.{Step}

-- Number of bytes of a series of writes.
abbrev pub total : List Write → ℕ
total [] = 0
total (w ∷ ws) = length w.bytes + total ws

-- Bytes of a medium after the first n bytes of a series of writes, in the order of the series.
abbrev pub bytes_after_writes : List ℕ → List Write → ℕ → List ℕ
bytes_after_writes bytes [] n = bytes
bytes_after_writes bytes (w ∷ ws) n = bytes_after_writes (written bytes w.at (take n w.bytes)) ws (n - length w.bytes)

-- Piece `p` is the next one after the first n bytes of a step: the remaining bytes of an erase, or at most 256 bytes of a program.
pub record IsPieceOfStep (s : Step) (n : ℕ) (p : Step) : Type 0 where
  pub kind : p.erases ≡ s.erases
  pub some : 0 < length p.write.bytes
  pub size : length p.write.bytes ≡ (if s.erases then length s.write.bytes - n else min 256 (length s.write.bytes - n))
  pub within : n + length p.write.bytes ≤ length s.write.bytes
  pub place : p.write.at ≡ s.write.at + n
  pub bytes_are : p.write.bytes ≡ slice_range s.write.bytes n (n + length p.write.bytes)

-- Piece `p` is the next one after the first n bytes of a series of steps.
abbrev pub IsStepPiece : List Step → ℕ → Step → Type 0
IsStepPiece [] n p = ⊥
IsStepPiece (s ∷ ss) n p = IsPieceOfStep s n p ⊎ ((length s.write.bytes ≤ n) × IsStepPiece ss (n - length s.write.bytes) p)

-- The first n bytes of a series end at a piece boundary: after a multiple of 256 bytes of a program, or between two steps, and never within
-- an erase.
abbrev pub EndsAtPiece : List Step → ℕ → Type 0
EndsAtPiece [] n = n ≡ 0
EndsAtPiece (s ∷ ss) n = ((n < length s.write.bytes) × (n % 256 ≡ 0) × (s.erases ≡ true → n ≡ 0))
    ⊎ ((length s.write.bytes ≤ n) × EndsAtPiece ss (n - length s.write.bytes))

-- The step erases one whole sector or programs bytes.
abbrev pub ErasesSectorOrPrograms : ℕ → Step → Type 0
ErasesSectorOrPrograms sector p = p.erases ≡ true → (length p.write.bytes ≡ sector) × (p.write.at % sector ≡ 0)

-- All writes of a series lie within a medium of this size.
abbrev pub WritesWithin : List Write → ℕ → Type 0
WritesWithin [] size = Unit {0}
WritesWithin (w ∷ ws) size = (w.at + length w.bytes ≤ size) × WritesWithin ws size
