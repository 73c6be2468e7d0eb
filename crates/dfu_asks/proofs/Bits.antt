-- A part of a write is a range of its bytes, of any length. Each piece of a step is a part of that step's write.
use Rattle.std.proofs.Common.{◌≡◌, ◌⊎◌, inl, inr, ℕ, ◌+◌, ◌-◌, ◌≤◌, ◌<◌, List, [], ◌∷◌, length, slice_range}
use Rattle.dfu_slots.specs.Medium.{Write}
use Rattle.dfu_asks.specs.Steps.{Step, step_writes}
use Rattle.dfu_asks.specs.Carried.{IsStepPiece}

-- `p` is a part of the write `w`: one or more of its bytes, beginning with byte n.
pub record IsPartOfWrite (w : Write) (n : ℕ) (p : Write) : Type 0 where
  pub some : 0 < length p.bytes
  pub within : n + length p.bytes ≤ length w.bytes
  pub place : p.at ≡ w.at + n
  pub bytes_are : p.bytes ≡ slice_range w.bytes n (n + length p.bytes)

-- `p` is a part of one of the writes, and n bytes of the series precede it.
abbrev pub IsPartOfWrites : List Write → ℕ → Write → Type 0
IsPartOfWrites [] n p = ⊥
IsPartOfWrites (w ∷ ws) n p = IsPartOfWrite w n p ⊎ ((length w.bytes ≤ n) × IsPartOfWrites ws (n - length w.bytes) p)

-- A piece of a step is a part of the step's write.
pub piece_is_part_of_writes : (ss : List Step) (n : ℕ) (p : Step) → IsStepPiece ss n p → IsPartOfWrites (step_writes ss) n p.write
piece_is_part_of_writes [] n p none = none
piece_is_part_of_writes (s ∷ ss) n p (inl part) = inl (record {
  some = part.some;
  within = part.within;
  place = part.place;
  bytes_are =
      part.bytes_are;
})
piece_is_part_of_writes (s ∷ ss) n p (inr (past, piece)) = inr (past, piece_is_part_of_writes ss (n - length s.write.bytes) p piece)
