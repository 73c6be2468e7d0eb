-- A row that begins in a state without candidates adds no candidate to any state.
use Rattle.std.specs.Prelude.{◌≡◌, ◌<◌, ◌==◌, ◌&&◌, ◌||◌, ℕ, Bool, true, false, List}
use Rattle.std.specs.Int.{bit_at}
use Rattle.std.proofs.Common.{refl, sym, ap, ◌∙◌}
use Rattle.std.proofs.lemmas.Bool.{false_from_ne_true, true≢false}
use Rattle.dfu_conformance.specs.Candidates.{holds_device}
use Rattle.dfu_conformance.specs.inside.Stepped.{has_candidate}
use Rattle.dfu_conformance.proofs.HeldPlaces.{candidate_is_device}
use Rattle.dfu_conformance.proofs.Words.{none}

-- `all` has a bit for each set of habits of a device in the words. If it is 0, the words contain no device.
pub words_hold_none : (words : List ℕ) (all a r : ℕ) → ((r : ℕ) → r < 64 → (bit_at all r == 1) ≡ has_candidate words r) → all ≡ 0 → a < 16
    → r < 64
    → holds_device words a r ≡ false
words_hold_none words all a r is zero below within = false_from_ne_true _ (λ yes.
    true≢false (sym ((candidate_is_device words r).1 (a, below, yes)) ∙ sym (is r within) ∙ ap (λ (k : ℕ). bit_at k r == 1) zero
    ∙ none r within))

-- If y is false, x || y is x.
pub false_adds_nothing : (x y : Bool) → y ≡ false → x ≡ (x || y)
false_adds_nothing true y none = refl
false_adds_nothing false y none = sym none

-- If y is false, x && (y && z) is false.
pub second_false_falsifies_three : (x y z : Bool) → y ≡ false → (x && (y && z)) ≡ false
second_false_falsifies_three true y z fails = ap (λ (b : Bool). b && z) fails
second_false_falsifies_three false y z fails = refl

-- If z is false, x && (y && (z && w)) is false.
pub third_false_falsifies_four : (x y z w : Bool) → z ≡ false → (x && (y && (z && w))) ≡ false
third_false_falsifies_four true true z w fails = ap (λ (b : Bool). b && w) fails
third_false_falsifies_four true false z w fails = refl
third_false_falsifies_four false y z w fails = refl
