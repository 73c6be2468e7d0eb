-- Write steps have a next piece while bytes remain.
use Rattle.std.proofs.Common.{◌≡◌, ◌⊎◌, inl, inr, Bool, true, false, if◌then◌else◌, ℕ, zero, suc, ◌+◌, ◌-◌, ◌≤◌, ◌<◌, min, List, [], ◌∷◌, length, drop, slice_range, refl, sym, arith, length-drop}
use Rattle.std.proofs.lemmas.List.{length-take}
use Rattle.dfu_asks.specs.Steps.{Step, step_writes}
use Rattle.dfu_asks.specs.Carried.{total, IsPieceOfStep, IsStepPiece}

pub below_or_at_least : (n k : ℕ) → (n < k) ⊎ (k ≤ n)
below_or_at_least n zero = inr (omega arith)
below_or_at_least zero (suc k) = inl (omega arith)
below_or_at_least (suc n) (suc k) = elim (below_or_at_least n k) [
  | inl low ↦ inl (omega (arith, low))
  | inr high ↦ inr (omega (arith, high))
]

-- A range of k bytes within a list has k bytes.
range_has_its_length : (l : List ℕ) (n k : ℕ) → n + k ≤ length l → length (slice_range l n (n + k)) ≡ k
range_has_its_length l n k le = omega (arith, length-take (n + k - n) (drop n l), length-drop n l, le)

-- Size of the next piece of a write step: all remaining bytes of an erase, and at most 256 of a program.
abbrev next_part_size : Step → ℕ → ℕ
next_part_size s n = if s.erases then length s.write.bytes - n else min 256 (length s.write.bytes - n)

-- The next piece has at least one byte, and at most the remaining bytes.
next_part_fits : (b : Bool) (len n : ℕ) → n < len → (0 < (if b then len - n else min 256 (len - n)))
    × (n + (if b then len - n else min 256 (len - n)) ≤ len)
next_part_fits true len n left = (omega (arith, left), omega (arith, left))
next_part_fits false len n left = (omega (arith, left), omega (arith, left))

-- Next piece of a write step, after its first n bytes.
abbrev next_part : Step → ℕ → Step
next_part s n = record {
  erases = s.erases;
  write = record { at = s.write.at + n; bytes = slice_range s.write.bytes n (n + next_part_size s n) };
}

step_has_next_part : (s : Step) (n : ℕ) → n < length s.write.bytes → IsPieceOfStep s n (next_part s n)
step_has_next_part s n left =
    let fits = next_part_fits s.erases (length s.write.bytes) n left in
    let count : length (slice_range s.write.bytes n (n + next_part_size s n)) ≡ next_part_size s n =
    range_has_its_length s.write.bytes n (next_part_size s n) fits.1 in
    record {
      kind = refl;
      some = omega (arith, count, fits.0);
      size = count;
      within = omega (arith, count, fits.1);
      place = refl;
      bytes_are = λ i. slice_range s.write.bytes n (n + sym count i);
    }

-- Write steps with remaining bytes have a next piece.
pub series_has_next_piece : (ss : List Step) (n : ℕ) → n < total (step_writes ss) → (p : Step) × IsStepPiece ss n p
series_has_next_piece [] n left = absurd (omega (arith, left))
series_has_next_piece (s ∷ ss) n left = elim (below_or_at_least n (length s.write.bytes)) [
  | inl low ↦ (next_part s n, inl (step_has_next_part s n low))
  | inr past ↦
      let later = series_has_next_piece ss (n - length s.write.bytes) (omega (arith, left, past)) in
      (later.0, inr (past, later.1))
]
