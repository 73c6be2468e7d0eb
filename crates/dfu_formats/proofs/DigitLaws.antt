-- Digits at the front of a text, and the number that they make.
use Rattle.std.proofs.Common.{◌≡◌, ℕ, zero, suc, ◌+◌, ◌*◌, ◌^◌, ◌<◌, ◌≤◌, List, [], ◌∷◌, length, take, drop, get_or, refl, ap, ◌∙◌, arith}
use Rattle.std.proofs.Math.Nat.{pow-succ', pow-le-pow_right}
use Rattle.std.proofs.lemmas.Bool.{lt-ltb, le-ltb}
use Rattle.dfu_formats.specs.memory.Reading.{digit_value, digits_in, digits_number}

-- A leading digit adds one to the count of leading digits.
pub first_digit_adds_to_count : (base b : ℕ) (bs : List ℕ) → digit_value b < base → digits_in base (b ∷ bs) ≡ suc (digits_in base bs)
unfolding digits_in
first_digit_adds_to_count base b bs h = rw (lt-ltb (digit_value b) base h) refl

-- If the first byte is not a digit of the base, the count of leading digits is 0.
pub other_byte_ends_digits : (base b : ℕ) (bs : List ℕ) → base ≤ digit_value b → digits_in base (b ∷ bs) ≡ 0
unfolding digits_in
other_byte_ends_digits base b bs h = rw (le-ltb (digit_value b) base h) refl

pub no_digits_of_no_bytes : (base : ℕ) → digits_in base [] ≡ 0
unfolding digits_in
no_digits_of_no_bytes base = refl

-- If byte `i` is a digit, the digits from index `i` on end at the same index as the digits from `i + 1` on.
pub digit_count_moves_on : (base : ℕ) (xs : List ℕ) (i j : ℕ) → j ≡ suc i → i < length xs → digit_value (get_or xs i 0) < base →
    i + digits_in base (drop i xs) ≡ j + digits_in base (drop j xs)
digit_count_moves_on base [] i j e h d = absurd (omega (arith, h))
digit_count_moves_on base (x ∷ xs) zero j e h d =
    let step = first_digit_adds_to_count base x xs d in
    let there : drop j (x ∷ xs) ≡ xs = ap (λ (k : ℕ). drop k (x ∷ xs)) e in
    let same = ap (digits_in base) there in
    omega (arith, step, same, e)
digit_count_moves_on base (x ∷ xs) (suc i) j e h d =
    let more = digit_count_moves_on base xs i (suc i) refl (omega (arith, h)) d in
    let there : drop j (x ∷ xs) ≡ drop (suc i) xs = ap (λ (k : ℕ). drop k (x ∷ xs)) e in
    let same = ap (digits_in base) there in
    omega (arith, more, same, e)

-- If byte `i` is not a digit, the count of digits from index `i` on is 0.
pub digits_end_at_other_byte : (base : ℕ) (xs : List ℕ) (i : ℕ) → i < length xs → base ≤ digit_value (get_or xs i 0) →
    digits_in base (drop i xs) ≡ 0
digits_end_at_other_byte base [] i h d = absurd (omega (arith, h))
digits_end_at_other_byte base (x ∷ xs) zero h d = other_byte_ends_digits base x xs d
digits_end_at_other_byte base (x ∷ xs) (suc i) h d = digits_end_at_other_byte base xs i (omega (arith, h)) d

-- Beyond the end of the bytes, the count of digits is 0.
pub no_digits_past_end : (base : ℕ) (xs : List ℕ) (i : ℕ) → length xs ≤ i → digits_in base (drop i xs) ≡ 0
no_digits_past_end base [] zero h = no_digits_of_no_bytes base
no_digits_past_end base [] (suc i) h = no_digits_of_no_bytes base
no_digits_past_end base (x ∷ xs) zero h = absurd (omega (arith, h))
no_digits_past_end base (x ∷ xs) (suc i) h = no_digits_past_end base xs i (omega (arith, h))

-- The next digit multiplies the number so far by the base and adds its own value.
pub next_digit_extends_number : (base n : ℕ) (xs : List ℕ) (i : ℕ) → i < length xs →
    digits_number base n (take (suc i) xs) ≡ base * digits_number base n (take i xs) + digit_value (get_or xs i 0)
unfolding digits_number
next_digit_extends_number base n [] i h = absurd (omega (arith, h))
next_digit_extends_number base n (x ∷ xs) zero h = refl
next_digit_extends_number base n (x ∷ xs) (suc i) h = next_digit_extends_number base (base * n + digit_value x) xs i (omega (arith, h))

-- If `j` is `i + 1`, digit `i` multiplies the number before it by the base and adds its own value.
pub digit_at_extends_number : (base n : ℕ) (xs : List ℕ) (i j : ℕ) → j ≡ suc i → i < length xs →
    digits_number base n (take j xs) ≡ base * digits_number base n (take i xs) + digit_value (get_or xs i 0)
digit_at_extends_number base n xs i j e h = ap (λ (k : ℕ). digits_number base n (take k xs)) e ∙ next_digit_extends_number base n xs i h

-- Appending no digits leaves the number unchanged.
pub no_digits_leave_number : (base n : ℕ) (xs : List ℕ) → digits_number base n (take 0 xs) ≡ n
unfolding digits_number
no_digits_leave_number base n xs = refl

-- Each power of 17 is 17 times the power before it.
pub next_power_of_17_is_17_times : (i j : ℕ) → j ≡ suc i → 17 ^ j ≡ 17 * 17 ^ i
next_power_of_17_is_17_times i j e = ap (λ (k : ℕ). 17 ^ k) e ∙ pow-succ' 17 i

-- A power of 17 with a larger exponent is at least as large.
pub powers_of_17_rise : (i j : ℕ) → i ≤ j → 17 ^ i ≤ 17 ^ j
powers_of_17_rise i j h = pow-le-pow_right {n = 17} (omega arith) h

-- If the base is at most 16, a value times the base is at most 16 times the value.
pub base_product_at_most_16_times : (base v : ℕ) → base ≤ 16 → base * v ≤ 16 * v
base_product_at_most_16_times base v h = grind arith
