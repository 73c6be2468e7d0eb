-- Constant words, with one bit for each set of habits.
use Rattle.std.specs.Prelude.{◌≡◌, ℕ, ◌<◌, ◌==◌, Bool, true, false, slice_index_or}
use Rattle.std.specs.Int.{bit_at}
use Rattle.std.proofs.Common.{refl}
use Rattle.std.proofs.lemmas.Bool.{agree_below, agree_below_at}
use Rattle.dfu_conformance.specs.declared.held.TheConstants.{SETS_WITH}

-- Bit `r` of word `k` of `SETS_WITH` is 1 exactly if set `r` contains habit `k`.
pub word_of_reading_has_bit : (k : ℕ) → k < 6 → (r : ℕ) → r < 64 → (bit_at (slice_index_or SETS_WITH k 0) r == 1) ≡ (bit_at r k == 1)
word_of_reading_has_bit k in' r below =
    let word_has : (k r : ℕ) → Bool = λ k r. bit_at (slice_index_or SETS_WITH k 0) r == 1 in
    let number_has : (k r : ℕ) → Bool = λ k r. bit_at r k == 1 in
    agree_below_at (word_has k) (number_has k) 64 r
    (agree_below_at (λ k. agree_below (word_has k) (number_has k) 64) (λ k. true) 6 k refl in') below

-- In the word of all sets of habits, every bit is 1.
pub each_set_has_bit : (r : ℕ) → r < 64 → (bit_at 0xffff_ffff_ffff_ffff r == 1) ≡ true
each_set_has_bit r below = agree_below_at (λ r. bit_at 0xffff_ffff_ffff_ffff r == 1) (λ r. true) 64 r refl below

-- In the word of no sets, which is 0, every bit is 0.
pub none : (r : ℕ) → r < 64 → (bit_at 0 r == 1) ≡ false
none r below = agree_below_at (λ r. bit_at 0 r == 1) (λ r. false) 64 r refl below
