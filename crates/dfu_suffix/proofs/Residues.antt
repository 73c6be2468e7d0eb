-- The register that a residue represents, and a residue for a register.
use Rattle.std.proofs.Common.{◌≡◌, ℕ, zero, suc, ◌+◌, ◌^◌, ◌<◌, ◌≤◌, List, [], ◌∷◌, ◌++◌, take, drop, replicate, bit_xor, refl, sym, ap, subst, ◌∙◌, arith}
use Rattle.std.specs.Int.Bits.{xor_zero_l, xor_zero_r}
use Rattle.std.proofs.lemmas.List.{drop-take, drop_at, take-append-drop, take-replicate, take-take, take_at}
use Rattle.std.specs.Int.{w32, to_le_bytes}
use Rattle.dfu_suffix.proofs.Shifts.{bit_count_of_bytes, shifts_in_two_parts}
use Rattle.dfu_suffix.proofs.LongShifts.{spread_over_taps, number_spreads_to_itself}
use Rattle.dfu_suffix.proofs.Tables.{IsFourByteNumber, after-append, four_bytes_shift_register}
use Rattle.dfu_suffix.specs.Laws.{AreBytes}
use Rattle.dfu_suffix.specs.Register.{after_bits, bits_of, shifts}
use Rattle.dfu_suffix.specs.inside.Folding.{combined_numbers, register_of_residue}
use Rattle.dfu_suffix.proofs.FoldSteps.{register_takes_first_byte, register_from_zero}

-- The first n + k items are the first n followed by the k items after them.
take_in_two_parts : (n k : ℕ) (xs : List ℕ) → take (n + k) xs ≡ take n xs ++ take k (drop n xs)
take_in_two_parts n k xs =
    let front : take n (take (n + k) xs) ≡ take n xs = take-take n (n + k) xs (omega arith) in
    sym (take-append-drop n (take (n + k) xs)) ∙ (λ i. front i ++ drop-take n k xs i)

-- The register over the first n + k bytes continues from the register over the first n.
register_from_zero_goes_on : (n k r s : ℕ) (xs : List ℕ) → r ≡ register_from_zero (take n xs) → s
    ≡ after_bits r (bits_of (take k (drop n xs))) →
    s ≡ register_from_zero (take (n + k) xs)
register_from_zero_goes_on n k r s xs first second =
    second
    ∙ (ap (λ (z : ℕ). after_bits z (bits_of (take k (drop n xs)))) first
    ∙ (sym (after-append 0 (take n xs) (take k (drop n xs))) ∙ ap register_from_zero (sym (take_in_two_parts n k xs))))

-- The xor of the registers over the bytes before each tap and over the whole residue is the register that the residue represents.
pub tap_registers_make_residue : (r1 r2 r3 r4 r5 r6 : ℕ) (room : List ℕ) → r1 ≡ after_bits 0 (bits_of (take 720 room)) →
    r2 ≡ after_bits r1 (bits_of (take 128 (drop 720 room))) → r3 ≡ after_bits r2 (bits_of (take 336 (drop 848 room))) →
    r4 ≡ after_bits r3 (bits_of (take 96 (drop 1184 room))) → r5 ≡ after_bits r4 (bits_of (take 640 (drop 1280 room))) →
    r6 ≡ after_bits r5 (bits_of (take 48 (drop 1920 room))) →
    bit_xor (bit_xor (bit_xor (bit_xor (bit_xor r6 r1) r2) r3) r4) r5 ≡ register_of_residue (take 1968 room)
unfolding register_of_residue combined_numbers
tap_registers_make_residue r1 r2 r3 r4 r5 r6 room h1 h2 h3 h4 h5 h6 =
    let f2 = register_from_zero_goes_on 720 128 r1 r2 room h1 h2 in
    let f3 = register_from_zero_goes_on 848 336 r2 r3 room f2 h3 in
    let f4 = register_from_zero_goes_on 1184 96 r3 r4 room f3 h4 in
    let f5 = register_from_zero_goes_on 1280 640 r4 r5 room f4 h5 in
    let f6 = register_from_zero_goes_on 1920 48 r5 r6 room f5 h6 in
    let w1 = h1 ∙ ap register_from_zero (sym (take-take 720 1968 room (omega arith))) in
    let w2 = f2 ∙ ap register_from_zero (sym (take-take 848 1968 room (omega arith))) in
    let w3 = f3 ∙ ap register_from_zero (sym (take-take 1184 1968 room (omega arith))) in
    let w4 = f4 ∙ ap register_from_zero (sym (take-take 1280 1968 room (omega arith))) in
    let w5 = f5 ∙ ap register_from_zero (sym (take-take 1920 1968 room (omega arith))) in
    λ i. bit_xor (bit_xor (bit_xor (bit_xor (bit_xor (f6 i) (w1 i)) (w2 i)) (w3 i)) (w4 i)) (w5 i)

-- `n` zero bytes change the register to its CRC shift by 8n bits.
zero_bytes_shift_register : (n r : ℕ) → after_bits r (bits_of (replicate n 0)) ≡ shifts (bit_count_of_bytes n) r
unfolding after_bits bits_of shifts
zero_bytes_shift_register zero r = refl
zero_bytes_shift_register (suc n) r =
    register_takes_first_byte r 0 (replicate n 0) (omega arith)
    ∙ (ap (λ (z : ℕ). after_bits (shifts 8 z) (bits_of (replicate n 0))) (xor_zero_r r)
    ∙ (zero_bytes_shift_register n (shifts 8 r) ∙ sym (shifts_in_two_parts 8 (bit_count_of_bytes n) r)))

-- The register over a number's four bytes and `n` zero bytes, from start value 0, is the CRC shift of the number by 32 + 8n bits.
four_bytes_and_zeros_shift : (n m r : ℕ) (xs : List ℕ) → IsFourByteNumber r xs → n ≤ m →
    register_from_zero (take (4 + n) (xs ++ replicate m 0)) ≡ shifts (32 + bit_count_of_bytes n) r
four_bytes_and_zeros_shift n m r xs q h =
    let front : take (4 + n) (xs ++ replicate m 0) ≡ xs ++ replicate n 0 =
    take_in_two_parts 4 n (xs ++ replicate m 0)
    ∙ (λ i. take_at xs (replicate m 0) 4 q.long i ++ (ap (take n) (drop_at xs (replicate m 0) 4 q.long) ∙ take-replicate n m 0 h) i) in
    ap register_from_zero front
    ∙ (after-append 0 xs (replicate n 0)
    ∙ (ap (λ (z : ℕ). after_bits z (bits_of (replicate n 0))) (four_bytes_shift_register 0 r xs q.long q.bytes q.number q.small)
    ∙ (zero_bytes_shift_register n (shifts 32 (bit_xor 0 r))
    ∙ (ap (λ (z : ℕ). shifts (bit_count_of_bytes n) (shifts 32 z)) (xor_zero_l r)
    ∙ sym (shifts_in_two_parts 32 (bit_count_of_bytes n) r)))))

four_bytes_are_bytes : (a b c d : ℕ) → a < 256 → b < 256 → c < 256 → d < 256 → AreBytes (a ∷ b ∷ c ∷ d ∷ [])
four_bytes_are_bytes a b c d h i j k zero = h
four_bytes_are_bytes a b c d h i j k (suc zero) = i
four_bytes_are_bytes a b c d h i j k (suc (suc zero)) = j
four_bytes_are_bytes a b c d h i j k (suc (suc (suc zero))) = k
four_bytes_are_bytes a b c d h i j k (suc (suc (suc (suc n)))) = omega arith

-- A 32-bit register is the number in its four bytes, the low byte first.
pub register_is_four_byte_number : (r : ℕ) (xs : List ℕ) → r < 2 ^ 32 → xs ≡ to_le_bytes w32 r → IsFourByteNumber r xs
register_is_four_byte_number r xs h e =
    subst (IsFourByteNumber r) (sym e) (record {
      long = refl;
      bytes = four_bytes_are_bytes _ _ _ _ (omega arith) (omega arith) (omega arith) (omega arith);
      number = omega arith;
      small = h;
    })

-- If a room contains the four bytes of a register, followed by at least 1,964 zero bytes, the residue at its front represents the register.
pub register_bytes_are_residue : (m r : ℕ) (xs room : List ℕ) → IsFourByteNumber r xs → 1964 ≤ m → room ≡ xs ++ replicate m 0 →
    register_of_residue (take 1968 room) ≡ r
unfolding register_of_residue combined_numbers
register_bytes_are_residue m r xs room q h is =
    let at = λ (n : ℕ) (l : n ≤ 1964). ap (λ (ys : List ℕ). register_from_zero (take (4 + n) ys)) is
    ∙ four_bytes_and_zeros_shift n m r xs q (omega arith) in
    let w1 = ap register_from_zero (take-take 720 1968 room (omega arith)) ∙ at 716 (omega arith) in
    let w2 = ap register_from_zero (take-take 848 1968 room (omega arith)) ∙ at 844 (omega arith) in
    let w3 = ap register_from_zero (take-take 1184 1968 room (omega arith)) ∙ at 1180 (omega arith) in
    let w4 = ap register_from_zero (take-take 1280 1968 room (omega arith)) ∙ at 1276 (omega arith) in
    let w5 = ap register_from_zero (take-take 1920 1968 room (omega arith)) ∙ at 1916 (omega arith) in
    let w6 = at 1964 (omega arith) in
    let all : register_of_residue (take 1968 room) ≡ spread_over_taps r =
    λ i. bit_xor (bit_xor (bit_xor (bit_xor (bit_xor (w6 i) (w1 i)) (w2 i)) (w3 i)) (w4 i)) (w5 i) in
    all ∙ number_spreads_to_itself 32 r (omega arith) q.small
