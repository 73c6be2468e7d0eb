-- CRC shifts of a four-byte number, computed from its bytes.
use Rattle.std.proofs.Common.{subst, get_or, List, ◌≡◌, ℕ, ◌+◌, ◌/◌, ◌%◌, ◌^◌, ◌<◌, sym, ap, ◌∙◌, arith}
use Rattle.std.specs.Int.Bits.{bit_xor, xor_assoc}
use Rattle.std.proofs.lemmas.Nat.{shr-shr}
use Rattle.byteorder.specs.Endian.{little_number}
use Rattle.dfu_suffix.specs.Laws.{AreBytes}
use Rattle.dfu_suffix.specs.Register.{shifts}
use Rattle.dfu_suffix.proofs.Shifts.{shifts_by_low_byte}

-- The CRC shift of a number by 8 + n bits is the xor of its lowest byte shifted by 8 + n bits and of the rest shifted by n.
shifts_split_low_byte : (m n s : ℕ) → m ≡ 8 + n → shifts m s ≡ bit_xor (shifts m (s % 256)) (shifts n (s / 256))
shifts_split_low_byte m n s e = subst (λ (k : ℕ). shifts k s
    ≡ bit_xor (shifts k (s % 256)) (shifts n (s / 256))) (sym e) (shifts_by_low_byte n s)

-- The CRC shift of a number below 2^32 by 32 + n bits is the xor of its bytes, from the low one on, shifted by 32 + n, 24 + n, 16 + n and 8
-- + n bits.
pub shifts_of_four_bytes : (n s : ℕ) → s < 2 ^ 32 →
    shifts (32 + n) s ≡ bit_xor (bit_xor (bit_xor (shifts (32 + n) (s % 256)) (shifts (24 + n) (s / 2 ^ 8 % 256)))
    (shifts (16 + n) (s / 2 ^ 16 % 256))) (shifts (8 + n) (s / 2 ^ 24 % 256))
shifts_of_four_bytes n s h =
    let e0 = shifts_split_low_byte (32 + n) (24 + n) s (omega arith) in
    let e1 = shifts_split_low_byte (24 + n) (16 + n) (s / 2 ^ 8) (omega arith)
    ∙ ap (λ (z : ℕ). bit_xor (shifts (24 + n) (s / 2 ^ 8 % 256)) (shifts (16 + n) z)) (shr-shr s 8 8) in
    let e2 = shifts_split_low_byte (16 + n) (8 + n) (s / 2 ^ 16) (omega arith)
    ∙ ap (λ (z : ℕ). bit_xor (shifts (16 + n) (s / 2 ^ 16 % 256)) (shifts (8 + n) z)) (shr-shr s 16 8) in
    let last : s / 2 ^ 24 ≡ s / 2 ^ 24 % 256 = omega arith in
    let e3 = ap (shifts (8 + n)) last in
    simp xor_assoc (cc)

-- The number in the first four bytes of a list is below 2^32.
pub four_byte_number_fits_32_bits : (xs : List ℕ) → AreBytes xs → little_number 4 xs < 2 ^ 32
four_byte_number_fits_32_bits xs f = omega (arith, f 0, f 1, f 2, f 3)

-- The CRC shift of a four-byte number by 32 + n bits is the xor of its bytes, shifted by 32 + n, 24 + n, 16 + n and 8 + n bits.
pub shifts_of_number_in_four_bytes : (n : ℕ) (xs : List ℕ) → AreBytes xs →
    shifts (32 + n) (little_number 4 xs) ≡ bit_xor (bit_xor (bit_xor (shifts (32 + n) (get_or xs 0 0)) (shifts (24 + n) (get_or xs 1 0)))
    (shifts (16 + n) (get_or xs 2 0))) (shifts (8 + n) (get_or xs 3 0))
shifts_of_number_in_four_bytes n xs f =
    let s = little_number 4 xs in
    let e0 : s % 256 ≡ get_or xs 0 0 = omega (arith, f 0, f 1, f 2, f 3) in
    let e1 : s / 2 ^ 8 % 256 ≡ get_or xs 1 0 = omega (arith, f 0, f 1, f 2, f 3) in
    let e2 : s / 2 ^ 16 % 256 ≡ get_or xs 2 0 = omega (arith, f 0, f 1, f 2, f 3) in
    let e3 : s / 2 ^ 24 % 256 ≡ get_or xs 3 0 = omega (arith, f 0, f 1, f 2, f 3) in
    let whole = shifts_of_four_bytes n s (four_byte_number_fits_32_bits xs f) in
    cc
