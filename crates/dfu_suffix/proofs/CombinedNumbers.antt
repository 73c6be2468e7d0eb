-- Laws of the numbers that `combined_numbers` combines by xor.
use Rattle.std.proofs.Common.{◌≡◌, ℕ, List, [], ◌∷◌, bit_xor, refl, sym, ap, ◌∙◌}
use Rattle.std.specs.Int.Bits.{xor_assoc, xor_self, xor_zero_l, xor_zero_r}
use Rattle.dfu_suffix.proofs.Shifts.{shifts_of_xor, xor_last_two_swap}
use Rattle.dfu_suffix.specs.Register.{shifts}
use Rattle.dfu_suffix.specs.inside.Folding.{combined_numbers}

-- The inner two of four numbers in an xor may be swapped.
xor_inner_pair_swaps : (a b c d : ℕ) → bit_xor (bit_xor a b) (bit_xor c d) ≡ bit_xor (bit_xor a c) (bit_xor b d)
xor_inner_pair_swaps a b c d =
    sym (xor_assoc (bit_xor a b) c d) ∙ (ap (λ (z : ℕ). bit_xor z d) (xor_last_two_swap a b c) ∙ xor_assoc (bit_xor a c) b d)

-- If `f n` xor `g n` is combined over a list, the result is the xor of the results for `f` and for `g`.
pub combined_numbers_of_xor : (f g : ℕ → ℕ) (a b : ℕ) (ns : List ℕ) →
    combined_numbers (λ n. bit_xor (f n) (g n)) (bit_xor a b) ns ≡ bit_xor (combined_numbers f a ns) (combined_numbers g b ns)
unfolding combined_numbers
combined_numbers_of_xor f g a b [] = refl
combined_numbers_of_xor f g a b (n ∷ ns) =
    ap (λ (z : ℕ). combined_numbers (λ k. bit_xor (f k) (g k)) z ns) (xor_inner_pair_swaps a b (f n) (g n))
    ∙ combined_numbers_of_xor f g (bit_xor a (f n)) (bit_xor b (g n)) ns

-- Combining CRC-shifted numbers gives the CRC shift of the combined number.
pub combined_numbers_of_shifts : (k : ℕ) (f : ℕ → ℕ) (a : ℕ) (ns : List ℕ) →
    combined_numbers (λ n. shifts k (f n)) (shifts k a) ns ≡ shifts k (combined_numbers f a ns)
unfolding combined_numbers
combined_numbers_of_shifts k f a [] = refl
combined_numbers_of_shifts k f a (n ∷ ns) =
    ap (λ (z : ℕ). combined_numbers (λ m. shifts k (f m)) z ns) (sym (shifts_of_xor k a (f n)))
    ∙ combined_numbers_of_shifts k f (bit_xor a (f n)) ns

-- If `f` and `g` have equal values, combining the values of `f` gives the same number as combining those of `g`.
pub combined_numbers_of_equal : (f g : ℕ → ℕ) (a : ℕ) (ns : List ℕ) → ((n : ℕ) → f n ≡ g n) → combined_numbers f a ns
    ≡ combined_numbers g a ns
unfolding combined_numbers
combined_numbers_of_equal f g a [] h = refl
combined_numbers_of_equal f g a (n ∷ ns) h = ap (λ (z : ℕ). combined_numbers f (bit_xor a z) ns) (h n)
    ∙ combined_numbers_of_equal f g (bit_xor a (g n)) ns h

-- If a number is combined with another one twice by xor, the result is the number itself.
pub xor_twice_cancels : (a b : ℕ) → bit_xor (bit_xor a b) b ≡ a
xor_twice_cancels a b = xor_assoc a b b ∙ (ap (bit_xor a) (xor_self b) ∙ xor_zero_r a)

-- Combining numbers from the start value `a` gives `a` xor the result from the start value 0.
combined_numbers_from_zero : (f : ℕ → ℕ) (a : ℕ) (ns : List ℕ) → combined_numbers f a ns ≡ bit_xor a (combined_numbers f 0 ns)
unfolding combined_numbers
combined_numbers_from_zero f a [] = sym (xor_zero_r a)
combined_numbers_from_zero f a (n ∷ ns) =
    combined_numbers_from_zero f (bit_xor a (f n)) ns
    ∙ (xor_assoc a (f n) (combined_numbers f 0 ns)
    ∙ ap (bit_xor a) (sym (combined_numbers_from_zero f (f n) ns) ∙ ap (λ (z : ℕ). combined_numbers f z ns) (sym (xor_zero_l (f n)))))

-- Combining the same numbers twice gives back the start value.
pub combined_twice_cancels : (f : ℕ → ℕ) (a : ℕ) (ns : List ℕ) → combined_numbers f (combined_numbers f a ns) ns ≡ a
combined_twice_cancels f a ns =
    combined_numbers_from_zero f (combined_numbers f a ns) ns
    ∙ (ap (λ (z : ℕ). bit_xor z (combined_numbers f 0 ns)) (combined_numbers_from_zero f a ns)
    ∙ xor_twice_cancels a (combined_numbers f 0 ns))
