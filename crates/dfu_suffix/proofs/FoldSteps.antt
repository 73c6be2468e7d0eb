-- A byte is folded into a residue: the first byte is dropped, and the folded byte is appended.
use Rattle.std.proofs.Common.{◌≡◌, ℕ, suc, ◌+◌, ◌<◌, ◌≤◌, List, [], ◌∷◌, ◌++◌, length, take, drop, get_or, bit_xor, refl, sym, ap, ◌∙◌, arith}
use Rattle.std.specs.Int.Bits.{xor_assoc, xor_self, xor_zero_l, xor_zero_r}
use Rattle.std.proofs.lemmas.List.{length-take-le, take-append-le}
use Rattle.dfu_suffix.proofs.Bytes.{AreBytes-take}
use Rattle.dfu_suffix.proofs.Shifts.{low_bits_shift_register, bit_count_of_bytes, shifts_in_two_parts, shifts_of_xor, xor_last_two_swap}
use Rattle.dfu_suffix.proofs.CombinedNumbers.{combined_numbers_of_shifts, combined_twice_cancels, combined_numbers_of_xor, xor_twice_cancels}
use Rattle.dfu_suffix.proofs.LongShifts.{number_spreads_to_itself}
use Rattle.dfu_suffix.proofs.Tables.{after-append, register_after_one_more_byte, register_after_one_byte}
use Rattle.dfu_suffix.specs.Laws.{AreBytes}
use Rattle.dfu_suffix.specs.Register.{after_bits, bits_of, low_bits, shifts}
use Rattle.dfu_suffix.specs.inside.Folding.{combined_numbers, register_of_residue, tap_places}

-- The register over bytes if its start value is 0.
abbrev pub register_from_zero : List ℕ → ℕ
register_from_zero xs = after_bits 0 (bits_of xs)

-- A first byte `b` changes `r` to the CRC shift of `r` xor `b` by eight bits, and the other bytes continue from there.
pub register_takes_first_byte : (r b : ℕ) (xs : List ℕ) → b < 256 → after_bits r (bits_of (b ∷ xs))
    ≡ after_bits (shifts 8 (bit_xor r b)) (bits_of xs)
register_takes_first_byte r b xs h = after-append r (b ∷ []) xs ∙ ap (λ (z : ℕ). after_bits z (bits_of xs)) (register_after_one_byte r b
    ∙ low_bits_shift_register 8 r b h)

-- The register over bytes from the start value `r` xor `s` is the register from the start value `r`, xor the CRC shift of `s` by eight bits
-- for each byte.
pub register_difference_is_shifted : (xs : List ℕ) (r s : ℕ) → AreBytes xs →
    after_bits (bit_xor r s) (bits_of xs) ≡ bit_xor (after_bits r (bits_of xs)) (shifts (bit_count_of_bytes (length xs)) s)
unfolding after_bits bits_of shifts
register_difference_is_shifted [] r s f = refl
register_difference_is_shifted (b ∷ xs) r s f =
    let n = bit_count_of_bytes (length xs) in
    register_takes_first_byte (bit_xor r s) b xs (f 0)
    ∙ (ap (λ (z : ℕ). after_bits (shifts 8 z) (bits_of xs)) (xor_last_two_swap r s b)
    ∙ (ap (λ (z : ℕ). after_bits z (bits_of xs)) (shifts_of_xor 8 (bit_xor r b) s)
    ∙ (register_difference_is_shifted xs (shifts 8 (bit_xor r b)) (shifts 8 s) (λ k. f (suc k))
    ∙ (ap (λ (z : ℕ). bit_xor z (shifts n (shifts 8 s))) (sym (register_takes_first_byte r b xs (f 0)))
    ∙ ap (bit_xor (after_bits r (bits_of (b ∷ xs)))) (sym (shifts_in_two_parts 8 n s))))))

-- Removing the first of `n` bytes combines their register, from start value 0, by xor with the CRC shift of this byte by 8n bits.
first_byte_adds_its_shift : (b : ℕ) (xs : List ℕ) → AreBytes (b ∷ xs) →
    register_from_zero xs ≡ bit_xor (register_from_zero (b ∷ xs)) (shifts (bit_count_of_bytes (suc (length xs))) b)
first_byte_adds_its_shift b xs f =
    let n = bit_count_of_bytes (length xs) in
    let z = shifts (bit_count_of_bytes (suc (length xs))) b in
    let first : register_from_zero (b ∷ xs) ≡ bit_xor (register_from_zero xs) z =
    register_takes_first_byte 0 b xs (f 0)
    ∙ (ap (λ (y : ℕ). after_bits (shifts 8 y) (bits_of xs)) (xor_zero_l b)
    ∙ (ap (λ (y : ℕ). after_bits y (bits_of xs)) (sym (xor_zero_l (shifts 8 b)))
    ∙ (register_difference_is_shifted xs 0 (shifts 8 b) (λ k. f (suc k))
    ∙ ap (bit_xor (register_from_zero xs)) (sym (shifts_in_two_parts 8 n b))))) in
    sym (ap (λ (y : ℕ). bit_xor y z) first
    ∙ (xor_assoc (register_from_zero xs) z z ∙ (ap (bit_xor (register_from_zero xs)) (xor_self z) ∙ xor_zero_r (register_from_zero xs))))

-- If the first byte `b` is dropped, the register over the first `n` bytes changes to the CRC shift by eight bits of the xor of this
-- register, byte `n`, and the CRC shift of `b` by 8n bits.
front_register_slides : (n b c : ℕ) (xs : List ℕ) → n ≤ length xs → AreBytes (b ∷ xs) →
    register_from_zero (take n (xs ++ c ∷ []))
    ≡ shifts 8 (bit_xor (bit_xor (register_from_zero (take n (b ∷ xs))) (get_or (b ∷ xs) n 0)) (shifts (bit_count_of_bytes n) b))
front_register_slides n b c xs h f =
    let a = register_from_zero (take n (b ∷ xs)) in
    let x = get_or (b ∷ xs) n 0 in
    let z = shifts (bit_count_of_bytes n) b in
    let ys = take n xs in
    let long : length ys ≡ n = length-take-le n xs h in
    let more : n + 1 ≡ suc n = omega arith in
    let later : 8 + bit_count_of_bytes n ≡ bit_count_of_bytes n + 8 = omega arith in
    let grown : register_from_zero (b ∷ ys) ≡ shifts 8 (bit_xor a x) =
    ap (λ (m : ℕ). register_from_zero (take m (b ∷ xs))) (sym more)
    ∙ (register_after_one_more_byte 0 (b ∷ xs) n (omega arith) ∙ low_bits_shift_register 8 a x (f n)) in
    let gone : shifts (bit_count_of_bytes (suc (length ys))) b ≡ shifts 8 z =
    ap (λ (m : ℕ). shifts (8 + bit_count_of_bytes m) b) long
    ∙ (ap (λ (m : ℕ). shifts m b) later ∙ shifts_in_two_parts (bit_count_of_bytes n) 8 b) in
    ap register_from_zero (take-append-le n xs (c ∷ []) h)
    ∙ (first_byte_adds_its_shift b ys (AreBytes-take (suc n) (b ∷ xs) f)
    ∙ (ap (λ (y : ℕ). bit_xor y (shifts (bit_count_of_bytes (suc (length ys))) b)) grown
    ∙ (ap (bit_xor (shifts 8 (bit_xor a x))) gone ∙ sym (shifts_of_xor 8 (bit_xor a x) z))))

-- If the first of `n` bytes, `b`, is dropped and `c` is appended, the register over all bytes changes to the CRC shift by eight bits of the
-- xor of this register, `c`, and the CRC shift of `b` by 8n bits.
whole_register_slides : (b c : ℕ) (xs : List ℕ) → c < 256 → AreBytes (b ∷ xs) →
    register_from_zero (xs ++ c ∷ [])
    ≡ shifts 8 (bit_xor (bit_xor (register_from_zero (b ∷ xs)) (shifts (bit_count_of_bytes (suc (length xs))) b)) c)
whole_register_slides b c xs h f =
    after-append 0 xs (c ∷ [])
    ∙ (register_after_one_byte (register_from_zero xs) c
    ∙ (low_bits_shift_register 8 (register_from_zero xs) c h ∙ ap (λ (z : ℕ). shifts 8 (bit_xor z c)) (first_byte_adds_its_shift b xs f)))

-- The folded byte for byte `m` of the input, which is appended to the residue.
abbrev pub folded_byte : ℕ → List ℕ → ℕ
folded_byte m residue = combined_numbers (λ n. get_or residue n 0) (bit_xor m (get_or residue 0 0)) tap_places

-- The law `folding_takes_byte`, for a residue that consists of byte `b` and then the bytes `xs`.
cut_residue_takes_byte : (m b c : ℕ) (xs : List ℕ) → length xs ≡ 1967 → AreBytes (b ∷ xs) → m < 256 → c < 256 → c ≡ folded_byte m (b ∷ xs) →
    register_of_residue (xs ++ c ∷ []) ≡ after_bits (register_of_residue (b ∷ xs)) (low_bits 8 m)
unfolding register_of_residue combined_numbers
cut_residue_takes_byte m b c xs long f small fits is =
    let t = b ∷ xs in
    let a = λ (n : ℕ). register_from_zero (take n t) in
    let x = λ (n : ℕ). get_or t n 0 in
    let z = λ (n : ℕ). shifts (bit_count_of_bytes n) b in
    let w = register_from_zero t in
    let zw = shifts (bit_count_of_bytes 1968) b in
    let start = bit_xor (bit_xor w zw) c in
    let each = λ (n : ℕ). bit_xor (bit_xor (a n) (x n)) (z n) in
    let e1 = front_register_slides 720 b c xs (omega arith) f in
    let e2 = front_register_slides 848 b c xs (omega arith) f in
    let e3 = front_register_slides 1184 b c xs (omega arith) f in
    let e4 = front_register_slides 1280 b c xs (omega arith) f in
    let e5 = front_register_slides 1920 b c xs (omega arith) f in
    let e6 : register_from_zero (xs ++ c ∷ []) ≡ shifts 8 start =
    whole_register_slides b c xs fits f ∙ ap (λ (n : ℕ). shifts 8 (bit_xor (bit_xor w (shifts (bit_count_of_bytes (suc n)) b)) c)) long in
    let stepped : register_of_residue (xs ++ c ∷ []) ≡ combined_numbers (λ n. shifts 8 (each n)) (shifts 8 start) tap_places = cc in
    let apart : combined_numbers each start tap_places ≡ bit_xor (bit_xor (register_of_residue t) (combined_numbers x c tap_places))
    (combined_numbers z zw tap_places) =
    ap (λ (k : ℕ). combined_numbers each k tap_places) (xor_last_two_swap w zw c)
    ∙ (combined_numbers_of_xor (λ n. bit_xor (a n) (x n)) z (bit_xor w c) zw tap_places
    ∙ ap (λ (k : ℕ). bit_xor k (combined_numbers z zw tap_places)) (combined_numbers_of_xor a x w c tap_places)) in
    let byte : combined_numbers x c tap_places ≡ bit_xor m b = ap (λ (k : ℕ). combined_numbers x k tap_places) is
    ∙ combined_twice_cancels x
    (bit_xor m b) tap_places in
    let gone : combined_numbers z zw tap_places ≡ b = number_spreads_to_itself 32 b (omega arith) (omega (arith, f 0)) in
    let left : bit_xor (bit_xor (register_of_residue t) (bit_xor m b)) b ≡ bit_xor (register_of_residue t) m =
    ap (λ (k : ℕ). bit_xor k b) (sym (xor_assoc (register_of_residue t) m b))
    ∙ xor_twice_cancels (bit_xor (register_of_residue t) m) b in
    let all : combined_numbers each start tap_places ≡ bit_xor (register_of_residue t) m =
    apart
    ∙ (ap (λ (k : ℕ). bit_xor (bit_xor (register_of_residue t) k) (combined_numbers z zw tap_places)) byte
    ∙ (ap (bit_xor (bit_xor (register_of_residue t) (bit_xor m b))) gone ∙ left)) in
    stepped ∙ (combined_numbers_of_shifts 8 each start tap_places ∙ (ap (shifts 8) all
    ∙ sym (low_bits_shift_register 8 (register_of_residue t) m small)))

-- If the first byte of a residue is dropped and the folded byte is appended, the residue represents the register after byte `m`.
pub folding_takes_byte : (m c : ℕ) (t : List ℕ) → length t ≡ 1968 → AreBytes t → m < 256 → c < 256 → c ≡ folded_byte m t →
    register_of_residue (drop 1 t ++ c ∷ []) ≡ after_bits (register_of_residue t) (low_bits 8 m)
folding_takes_byte m c [] long f small fits is = absurd (omega arith)
folding_takes_byte m c (b ∷ xs) long f small fits is = cut_residue_takes_byte m b c xs (omega arith) f small fits is
