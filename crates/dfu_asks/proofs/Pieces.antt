-- Pieces of a series, step by step.
use Rattle.std.proofs.Common.{◌≡◌, ◌≢◌, inl, inr, Bool, true, false, if◌then◌else◌, ℕ, ◌+◌, ◌-◌, ◌≤◌, ◌<◌, min, List, [], ◌∷◌, ◌++◌, length, take, drop, slice_range, refl, sym, ◌∙◌, ap, subst, arith}
use Rattle.std.proofs.lemmas.Bool.{cases_eq}
use Rattle.std.proofs.lemmas.List.{take-take, drop-drop}
use Rattle.std.proofs.lemmas.Slice.{between_is}
use Rattle.dfu_slots.specs.Medium.{Write}
use Rattle.dfu_asks.specs.Steps.{Step, step_writes}
use Rattle.dfu_asks.specs.Carried.{total, IsPieceOfStep, IsStepPiece, EndsAtPiece}

-- Joining two lists of writes adds up their numbers of bytes.
pub list_totals_add_up : (xs ys : List Write) → total (xs ++ ys) ≡ total xs + total ys
list_totals_add_up [] ys = omega arith
list_totals_add_up (x ∷ xs) ys = omega (arith, list_totals_add_up xs ys)

-- A piece of the first of two joined lists of steps is a piece of the joined list.
pub first_piece_is_in_joined : (xs ys : List Step) (n : ℕ) (p : Step) → IsStepPiece xs n p → IsStepPiece (xs ++ ys) n p
first_piece_is_in_joined [] ys n p none = absurd none
first_piece_is_in_joined (x ∷ xs) ys n p (inl part) = inl part
first_piece_is_in_joined (x ∷ xs) ys n p (inr (past, piece)) = inr (past, first_piece_is_in_joined xs ys (n - length x.write.bytes) p piece)

-- A piece of the second list is a piece of the joined list, after all bytes of the first list.
pub later_piece_is_in_joined : (xs ys : List Step) (n k : ℕ) (p : Step) → total (step_writes xs) + k ≡ n → IsStepPiece ys k p
    → IsStepPiece (xs ++ ys) n p
later_piece_is_in_joined [] ys n k p count piece = let e : k ≡ n = omega (arith, count) in subst (λ (i : ℕ). IsStepPiece ys i p) e piece
later_piece_is_in_joined (x ∷ xs) ys n k p count piece =
    inr (omega (arith, count), later_piece_is_in_joined xs ys (n - length x.write.bytes) k p (omega (arith, count)) piece)

-- A range that lies within a prefix has the same elements as that range of the whole list.
pub prefix_range_is_list_range : (l : List ℕ) (h i j : ℕ) → j ≤ h → slice_range (take h l) i j ≡ slice_range l i j
prefix_range_is_list_range l h i j le =
    between_is (take h l) i j ∙ ap (λ (x : List ℕ). drop i x) (take-take j h l le) ∙ sym (between_is l i j)

-- A range of a list without its first h elements is the range that begins h elements later in the whole list.
pub rest_range_is_shifted_range : (l : List ℕ) (h i k : ℕ) → slice_range (drop h l) i (i + k) ≡ slice_range l (h + i) (h + i + k)
rest_range_is_shifted_range l h i k =
    let a : i + k - i ≡ h + i + k - (h + i) = omega arith in
    let e : i + h ≡ h + i = omega arith in
    (λ n. take (a n) (drop i (drop h l)))
    ∙ ap (λ (x : List ℕ). take (h + i + k - (h + i)) x) (drop-drop i h l)

piece_of_step_is_unique : (s : Step) (n : ℕ) (p q : Step) → IsPieceOfStep s n p → IsPieceOfStep s n q → p ≡ q
piece_of_step_is_unique s n p q a b =
    let size : length p.write.bytes ≡ length q.write.bytes = a.size ∙ sym b.size in
    λ i. record {
      erases = (a.kind ∙ sym b.kind) i;
      write = record {
        at = (a.place ∙ sym b.place) i;
        bytes = (a.bytes_are ∙ (λ j. slice_range s.write.bytes n (n + size j)) ∙ sym b.bytes_are) i;
      };
    }

pub next_piece_is_unique : (ss : List Step) (n : ℕ) (p q : Step) → IsStepPiece ss n p → IsStepPiece ss n q → p ≡ q
next_piece_is_unique [] n p q a b = absurd a
next_piece_is_unique (s ∷ ss) n p q (inl a) (inl b) = piece_of_step_is_unique s n p q a b
next_piece_is_unique (s ∷ ss) n p q (inl a) (inr (past, b)) = absurd (omega (arith, a.some, a.within, past))
next_piece_is_unique (s ∷ ss) n p q (inr (past, a)) (inl b) = absurd (omega (arith, b.some, b.within, past))
next_piece_is_unique (s ∷ ss) n p q (inr (past, a)) (inr (more, b)) = next_piece_is_unique ss (n - length s.write.bytes) p q a b

-- The next piece ends within the series.
pub piece_ends_within_series : (ss : List Step) (n : ℕ) (p : Step) → IsStepPiece ss n p → n + length p.write.bytes ≤ total (step_writes ss)
piece_ends_within_series [] n p absent = absurd absent
piece_ends_within_series (s ∷ ss) n p (inl part) = omega (arith, part.within)
piece_ends_within_series (s ∷ ss) n p (inr (past, piece)) = omega (
  arith,
  past,
  piece_ends_within_series ss (n - length s.write.bytes) p
      piece,
)

-- The next piece has at least one byte.
pub next_piece_has_bytes : (ss : List Step) (n : ℕ) (p : Step) → IsStepPiece ss n p → 0 < length p.write.bytes
next_piece_has_bytes [] n p absent = absurd absent
next_piece_has_bytes (s ∷ ss) n p (inl part) = part.some
next_piece_has_bytes (s ∷ ss) n p (inr (past, piece)) = next_piece_has_bytes ss (n - length s.write.bytes) p piece

-- The first 0 bytes of a series end at a piece boundary.
pub zero_bytes_end_at_piece : (ss : List Step) → EndsAtPiece ss 0
zero_bytes_end_at_piece [] = refl
zero_bytes_end_at_piece (s ∷ ss) = elim (cases_eq (length s.write.bytes) 0) [
  | inl empty ↦
      let e : 0 ≡ 0 - length s.write.bytes = omega arith in
      inr (omega (arith, empty), subst (λ (k : ℕ). EndsAtPiece ss k) e (zero_bytes_end_at_piece ss))
  | inr some ↦ inl (omega (arith, some), refl, λ e. refl)
]

-- A piece that doesn't complete its step programs 256 bytes.
unfinished_piece_is_full : (b : Bool) (k l n : ℕ) → k ≡ (if b then l - n else min 256 (l - n)) → n + k ≤ l → n + k ≢ l → (k ≡ 256) × (b
    ≡ true → ⊥)
unfinished_piece_is_full true k l n size le more = absurd (more (omega (arith, size, le)))
unfinished_piece_is_full false k l n size le more = (omega (arith, size, le, more), λ e. cc)

-- The next piece ends at a piece boundary if it begins at one.
pub next_piece_ends_at_piece : (ss : List Step) (n : ℕ) (p : Step) → EndsAtPiece ss n → IsStepPiece ss n p
    → EndsAtPiece ss (n + length p.write.bytes)
next_piece_ends_at_piece [] n p reached absent = absurd absent
next_piece_ends_at_piece (s ∷ ss) n p (inl front) (inl part) = elim (cases_eq (n + length p.write.bytes) (length s.write.bytes)) [
  | inl whole ↦
      let e : 0 ≡ n + length p.write.bytes - length s.write.bytes = omega (arith, whole) in
      inr (omega (arith, whole), subst (λ (k : ℕ). EndsAtPiece ss k) e (zero_bytes_end_at_piece ss))
  | inr more ↦
      let is = unfinished_piece_is_full s.erases (length p.write.bytes) (length s.write.bytes) n part.size part.within more in
      inl (omega (arith, part.within, more), omega (arith, front.1, is.0), λ e. absurd (is.1 e))
]
next_piece_ends_at_piece (s ∷ ss) n p (inl front) (inr (past, piece)) = absurd (omega (arith, front.0, past))
next_piece_ends_at_piece (s ∷ ss) n p (inr (past, reached)) (inl part) = absurd (omega (arith, past, part.some, part.within))
next_piece_ends_at_piece (s ∷ ss) n p (inr (past, reached)) (inr (later, piece)) =
    let e : n - length s.write.bytes + length p.write.bytes ≡ n + length p.write.bytes - length s.write.bytes = omega (arith, past) in
    inr (
      omega (arith, past),
      subst (λ (k : ℕ). EndsAtPiece ss k) e (next_piece_ends_at_piece ss (n - length s.write.bytes) p reached
          piece),
    )
