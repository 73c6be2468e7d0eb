-- The CRC shifts of a number below 2^32 by 720, 848, 1184, 1280, 1920 and 1968 bytes combine to the number itself.
use Rattle.std.proofs.Common.{◌≡◌, ℕ, zero, suc, ◌+◌, ◌-◌, ◌*◌, ◌/◌, ◌%◌, ◌^◌, ◌<◌, ◌≤◌, bit_xor, refl, sym, ap, ◌∙◌, arith}
use Rattle.std.specs.Int.Bits.{xor_self}
use Rattle.std.proofs.lemmas.Nat.{mod_below, pow-add, pow_pos}
use Rattle.std.proofs.Math.Nat.{div-lt_iff_lt-mul, pow-suc}
use Rattle.dfu_suffix.proofs.Shifts.{bit_count_of_bytes, shifts_in_two_parts, shifts_of_xor, shifts_of_power_multiple, number_is_low_xor_high}
use Rattle.dfu_suffix.specs.Register.{shifts}
use Rattle.dfu_suffix.specs.inside.Folding.{combined_numbers, tap_places}
use Rattle.dfu_suffix.proofs.CombinedNumbers.{combined_numbers_of_equal, combined_numbers_of_shifts, combined_numbers_of_xor}

-- CRC shifts by m bits and by n bits may be swapped.
shifts_commute : (m n s : ℕ) → shifts m (shifts n s) ≡ shifts n (shifts m s)
shifts_commute m n s =
    let turned : n + m ≡ m + n = omega arith in
    sym (shifts_in_two_parts n m s) ∙ (ap (λ (k : ℕ). shifts k s) turned ∙ shifts_in_two_parts m n s)

-- The spread of a number: the xor of its CRC shifts by 1,968 bytes, the length of a residue, and by the offset of each tap in bytes.
abbrev pub spread_over_taps : ℕ → ℕ
spread_over_taps s = combined_numbers (λ n. shifts (bit_count_of_bytes n) s) (shifts (bit_count_of_bytes 1968) s) tap_places

-- The spread of an xor is the xor of the spreads.
spread_is_linear : (a b : ℕ) → spread_over_taps (bit_xor a b) ≡ bit_xor (spread_over_taps a) (spread_over_taps b)
spread_is_linear a b =
    combined_numbers_of_equal (λ n. shifts (bit_count_of_bytes n) (bit_xor a b)) (λ n. bit_xor (shifts (bit_count_of_bytes n) a) (shifts
    (bit_count_of_bytes n) b))
    (shifts (bit_count_of_bytes 1968) (bit_xor a b)) tap_places (λ n. shifts_of_xor (bit_count_of_bytes n) a b)
    ∙ (ap (λ (z : ℕ). combined_numbers (λ n. bit_xor (shifts (bit_count_of_bytes n) a) (shifts (bit_count_of_bytes n) b)) z tap_places)
    (shifts_of_xor (bit_count_of_bytes 1968) a b)
    ∙ combined_numbers_of_xor (λ n. shifts (bit_count_of_bytes n) a) (λ n. shifts (bit_count_of_bytes n) b) (shifts (bit_count_of_bytes
    1968) a) (shifts (bit_count_of_bytes 1968) b) tap_places)

-- The spread of a CRC shift is the CRC shift of the spread.
spread_of_shifts : (k s : ℕ) → spread_over_taps (shifts k s) ≡ shifts k (spread_over_taps s)
spread_of_shifts k s =
    combined_numbers_of_equal (λ n. shifts (bit_count_of_bytes n) (shifts k s)) (λ n. shifts k (shifts (bit_count_of_bytes n) s)) (shifts
    (bit_count_of_bytes 1968) (shifts k s)) tap_places
    (λ n. shifts_commute (bit_count_of_bytes n) k s)
    ∙ (ap (λ (z : ℕ). combined_numbers (λ n. shifts k (shifts (bit_count_of_bytes n) s)) z tap_places) (shifts_commute
    (bit_count_of_bytes 1968) k s)
    ∙ combined_numbers_of_shifts k (λ n. shifts (bit_count_of_bytes n) s) (shifts (bit_count_of_bytes 1968) s) tap_places)

-- The spread of the highest bit is this bit. The proof computes it bit by bit from the definition.
highest_bit_spreads_to_itself : spread_over_taps 0x8000_0000 ≡ 0x8000_0000
unfolding combined_numbers shifts
highest_bit_spreads_to_itself = refl

zero_spreads_to_itself : spread_over_taps 0 ≡ 0
zero_spreads_to_itself = spread_is_linear 0 0 ∙ xor_self (spread_over_taps 0)

-- The spread of each of the 32 bits is this bit, because it is a CRC shift of the highest bit.
single_bit_spreads_to_itself : (n : ℕ) → n < 32 → spread_over_taps (2 ^ n) ≡ 2 ^ n
single_bit_spreads_to_itself n h =
    let k = 31 - n in
    let all : n + k ≡ 31 = omega arith in
    let high : 2 ^ n * 2 ^ k ≡ 0x8000_0000 = sym (pow-add 2 n k) ∙ ap (λ (m : ℕ). 2 ^ m) all in
    let bit : shifts k 0x8000_0000 ≡ 2 ^ n = sym (ap (shifts k) high) ∙ shifts_of_power_multiple k (2 ^ n) in
    ap spread_over_taps (sym bit) ∙ (spread_of_shifts k 0x8000_0000 ∙ (ap (shifts k) highest_bit_spreads_to_itself ∙ bit))

-- The spread of bit `n` is this bit, and the spread of 0 is 0.
bit_multiple_spreads_to_itself : (n q : ℕ) → n < 32 → q < 2 → spread_over_taps (q * 2 ^ n) ≡ q * 2 ^ n
bit_multiple_spreads_to_itself n zero h l =
    let none : 0 * 2 ^ n ≡ 0 = omega arith in
    ap spread_over_taps none ∙ (zero_spreads_to_itself ∙ sym none)
bit_multiple_spreads_to_itself n (suc zero) h l =
    let one : 1 * 2 ^ n ≡ 2 ^ n = omega arith in
    ap spread_over_taps one ∙ (single_bit_spreads_to_itself n h ∙ sym one)
bit_multiple_spreads_to_itself n (suc (suc q)) h l = absurd (omega arith)

-- The spread of a number below 2^n, for `n` up to 32, is the number itself.
pub number_spreads_to_itself : (n s : ℕ) → n ≤ 32 → s < 2 ^ n → spread_over_taps s ≡ s
number_spreads_to_itself zero s h l =
    let none : s ≡ 0 = omega arith in
    ap spread_over_taps none ∙ (zero_spreads_to_itself ∙ sym none)
number_spreads_to_itself (suc n) s h l =
    let low : s % 2 ^ n < 2 ^ n = mod_below s (2 ^ n) (pow_pos n) in
    let fits : s < 2 * 2 ^ n = omega (arith, l, pow-suc 2 n) in
    let high : s / 2 ^ n < 2 = (div-lt_iff_lt-mul (pow_pos n)).1 fits in
    ap spread_over_taps (number_is_low_xor_high n s)
    ∙ (spread_is_linear (s % 2 ^ n) (s / 2 ^ n * 2 ^ n)
    ∙ (ap (λ (z : ℕ). bit_xor z (spread_over_taps (s / 2 ^ n * 2 ^ n))) (number_spreads_to_itself n (s % 2 ^ n) (omega arith) low)
    ∙ (ap (bit_xor (s % 2 ^ n)) (bit_multiple_spreads_to_itself n (s / 2 ^ n) (omega arith) high) ∙ sym (number_is_low_xor_high n s))))
