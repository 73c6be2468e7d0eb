-- Bits of the words that `join` computes.
use Rattle.std.specs.Prelude.{◌≡◌, ℕ, zero, suc, ◌+◌, ◌<◌, ◌≤◌, ◌==◌, ◌||◌, ◌&&◌, max, min, Bool, List, length, slice_index, slice_index_or, slice_set, bit_and, bit_or}
use Rattle.std.specs.Int.{bit_at}
use Rattle.std.proofs.Common.{refl, ap, ◌∙◌, arith, inl, inr, get_or-set_same, get_or-set_other}
use Rattle.std.proofs.lemmas.Bool.{cases_eq}
use Rattle.std.proofs.lemmas.Nat.Bits.{bit_at_and, bit_at_or, bit_at-lt}
use Rattle.dfu_conformance.specs.Candidates.{holds_device}

-- For bits p, q and s, max p (min q s) is 1 exactly if p is 1 or both q and s are 1.
joined_bit_is_one : (p q s : ℕ) → p < 2 → q < 2 → s < 2 → (max p (min q s) == 1) ≡ ((p == 1) || ((q == 1) && (s == 1)))
joined_bit_is_one zero zero zero a b c = refl
joined_bit_is_one zero zero (suc zero) a b c = refl
joined_bit_is_one zero (suc zero) zero a b c = refl
joined_bit_is_one zero (suc zero) (suc zero) a b c = refl
joined_bit_is_one (suc zero) zero zero a b c = refl
joined_bit_is_one (suc zero) zero (suc zero) a b c = refl
joined_bit_is_one (suc zero) (suc zero) zero a b c = refl
joined_bit_is_one (suc zero) (suc zero) (suc zero) a b c = refl
joined_bit_is_one (suc (suc p)) q s a b c = absurd (omega arith)
joined_bit_is_one p (suc (suc q)) s a b c = absurd (omega arith)
joined_bit_is_one p q (suc (suc s)) a b c = absurd (omega arith)

-- For bits p and q, max p q is 1 exactly if p or q is 1.
greater_bit_is_one : (p q : ℕ) → p < 2 → q < 2 → (max p q == 1) ≡ ((p == 1) || (q == 1))
greater_bit_is_one zero zero a b = refl
greater_bit_is_one zero (suc zero) a b = refl
greater_bit_is_one (suc zero) zero a b = refl
greater_bit_is_one (suc zero) (suc zero) a b = refl
greater_bit_is_one (suc (suc p)) q a b = absurd (omega arith)
greater_bit_is_one p (suc (suc q)) a b = absurd (omega arith)

-- Bit r of (x or y) is 1 exactly if bit r of x or of y is 1.
pub or_has_bit_of_either_word : (x y r : ℕ) → (bit_at (bit_or x y) r == 1) ≡ ((bit_at x r == 1) || (bit_at y r == 1))
or_has_bit_of_either_word x y r = ap (λ (n : ℕ). n == 1) (bit_at_or x y r)
    ∙ greater_bit_is_one (bit_at x r) (bit_at y r) (bit_at-lt x r) (bit_at-lt y r)

-- Bit r of (x or (y and z)) is 1 exactly if bit r of x is 1, or those of both y and z are 1.
joined_word_bit : (x y z r : ℕ) → (bit_at (bit_or x (bit_and y z)) r == 1) ≡ ((bit_at x r == 1) || ((bit_at y r == 1) && (bit_at z r == 1)))
joined_word_bit x y z r =
    ap (λ (n : ℕ). n == 1) (bit_at_or x (bit_and y z) r ∙ ap (λ (n : ℕ). max (bit_at x r) n) (bit_at_and y z r))
    ∙ joined_bit_is_one (bit_at x r) (bit_at y r) (bit_at z r) (bit_at-lt x r) (bit_at-lt y r) (bit_at-lt z r)

-- If `join` has computed all words before index `at`, its step for `at` computes word `at` too.
pub next_word_is_joined : (after start before : List ℕ) (at word : ℕ) (m : ℕ → ℕ → Bool) → at < length after
    → ((a : ℕ) → at ≤ a → slice_index after a ≡ slice_index start a)
    → ((a r : ℕ) → a < at → r < 64 → holds_device after a r ≡ (holds_device start a r || (holds_device before a r && m a r)))
    → ((r : ℕ) → r < 64 → (bit_at word r == 1) ≡ m at r)
    → (a r : ℕ) → a < at + 1 → r < 64
    → holds_device (slice_set after at (bit_or (slice_index_or after at 0) (bit_and (slice_index_or before at 0) word))) a r
    ≡ (holds_device start a r || (holds_device before a r && m a r))
next_word_is_joined after start before at word m in' kept done says a r below within = elim (cases_eq a at) [
  | inl same ↦ rw same (
      ap (λ (w : ℕ). bit_at w r == 1) (get_or-set_same after at _ 0 in')
      ∙ joined_word_bit (slice_index_or after at 0) (slice_index_or before at 0) word r
      ∙ ap (λ (w : ℕ). (bit_at w r == 1) || ((bit_at (slice_index_or before at 0) r == 1) && (bit_at word r == 1))) (kept at (omega arith))
      ∙ ap (λ (b : Bool). holds_device start at r || (holds_device before at r && b)) (says r within))
  | inr other ↦ ap (λ (w : ℕ). bit_at w r == 1) (get_or-set_other after at a _ 0 other) ∙ done a r (omega arith) within
]
