-- CRC shifts, by which several bits change the register at once.
use Rattle.std.proofs.Common.{◌↔◌, Bool, true, false, inl, inr}
use Rattle.std.proofs.lemmas.Nat.{xor_lt}
use Rattle.std.proofs.lemmas.Bool.Decides.{eqb_tells}
use Rattle.std.proofs.Math.Nat.{div-eq_of_lt, mul_comm}
use Rattle.byteorder.specs.Endian.{little_from}
use Rattle.std.proofs.Math.Seq.{drop-cons}
use Rattle.std.proofs.Common.{length, get_or, take, drop, ◌≡◌, ℕ, zero, suc, ◌+◌, ◌*◌, ◌/◌, ◌%◌, ◌^◌, ◌<◌, ◌≤◌, cond, eqb, List, ◌∷◌, ◌++◌, refl, sym, ap, ◌∙◌, arith}
use Rattle.std.specs.Int.Bits.{bit_xor, xor_assoc, xor_self, xor_zero_l, xor_zero_r}
use Rattle.std.proofs.lemmas.Nat.{xor_comm, xor_shr, xor_mod, xor_block, shr-shr, shr_split}
use Rattle.std.proofs.Math.Nat.{pow-suc, mul_assoc, zero-add}
use Rattle.std.proofs.lemmas.Nat.{pow_pos, mod_below}
use Rattle.dfu_suffix.specs.Register.{after_bit, after_bits, low_bits, bits_of, shift, shifts}

-- The last two of three numbers in an xor may be swapped.
pub xor_last_two_swap : (a b c : ℕ) → bit_xor (bit_xor a b) c ≡ bit_xor (bit_xor a c) b
xor_last_two_swap a b c = xor_assoc a b c ∙ (ap (bit_xor a) (xor_comm b c) ∙ sym (xor_assoc a c b))

-- A register step combines the half `h` with EDB88320h if the low bit `r` differs from the new bit `x`. A step for low bit `r` xor `x` and
-- new bit 0 makes the same choice. A number `k` may be combined with the half before the step or with the result after it.
low_bit_decides_xor : (r x h k : ℕ) → r < 2 → x < 2 → cond (eqb (bit_xor r x) 0) (bit_xor h k) (bit_xor (bit_xor h k) 0xEDB8_8320)
    ≡ bit_xor (cond (eqb r x) h (bit_xor h 0xEDB8_8320)) k
low_bit_decides_xor zero zero h k p q = refl
low_bit_decides_xor zero (suc zero) h k p q = xor_last_two_swap h k 0xEDB8_8320
low_bit_decides_xor (suc zero) zero h k p q = xor_last_two_swap h k 0xEDB8_8320
low_bit_decides_xor (suc zero) (suc zero) h k p q = refl
low_bit_decides_xor (suc (suc r)) x h k p q = absurd (omega arith)
low_bit_decides_xor r (suc (suc x)) h k p q = absurd (omega arith)

-- The CRC shift by one bit of `r` xor `x` is register `r` after the lowest bit of `x`, xor the other bits of `x`.
pub shift_takes_low_bit : (r x : ℕ) → shift (bit_xor r x) ≡ bit_xor (after_bit r (x % 2)) (x / 2)
shift_takes_low_bit r x =
    ap (λ (low : ℕ). cond (eqb low 0) (bit_xor r x / 2) (bit_xor (bit_xor r x / 2) 0xEDB8_8320)) (xor_mod r x 1)
    ∙ (ap (λ (half : ℕ). cond (eqb (bit_xor (r % 2) (x % 2)) 0) half (bit_xor half 0xEDB8_8320)) (xor_shr r x 1)
    ∙ low_bit_decides_xor (r % 2) (x % 2) (r / 2) (x / 2) (omega arith) (omega arith))

-- The CRC shift by `n` bits of `r` xor `x` is register `r` after the `n` low bits of `x`, xor the other bits of `x`.
pub shifts_take_low_bits : (n r x : ℕ) → shifts n (bit_xor r x) ≡ bit_xor (after_bits r (low_bits n x)) (x / 2 ^ n)
unfolding shifts low_bits after_bits
shifts_take_low_bits zero r x = ap (bit_xor r) (omega arith)
shifts_take_low_bits (suc n) r x =
    ap (shifts n) (shift_takes_low_bit r x)
    ∙ (shifts_take_low_bits n (after_bit r (x % 2)) (x / 2)
    ∙ ap (bit_xor (after_bits (after_bit r (x % 2)) (low_bits n (x / 2)))) (shr-shr x 1 n ∙ ap (λ (k : ℕ). x / 2 ^ k) (omega arith)))

-- If the low bit is `a` xor `b`, and the half is `h` xor `k`, a register step gives the xor of two steps: one for `a` and `h`, and one for
-- `b` and `k`.
low_bits_decide_xor : (a b h k : ℕ) → a < 2 → b < 2 → cond (eqb (bit_xor a b) 0) (bit_xor h k) (bit_xor (bit_xor h k) 0xEDB8_8320)
    ≡ bit_xor (cond (eqb a 0) h (bit_xor h 0xEDB8_8320)) (cond (eqb b 0) k (bit_xor k 0xEDB8_8320))
low_bits_decide_xor zero zero h k p q = refl
low_bits_decide_xor zero (suc zero) h k p q = xor_assoc h k 0xEDB8_8320
low_bits_decide_xor (suc zero) zero h k p q = xor_last_two_swap h k 0xEDB8_8320
low_bits_decide_xor (suc zero) (suc zero) h k p q =
    sym (sym (xor_assoc (bit_xor h 0xEDB8_8320) k 0xEDB8_8320)
    ∙ (ap (λ (z : ℕ). bit_xor z 0xEDB8_8320) (xor_last_two_swap h 0xEDB8_8320 k)
    ∙ (xor_assoc (bit_xor h k) 0xEDB8_8320 0xEDB8_8320 ∙ xor_zero_r (bit_xor h k))))
low_bits_decide_xor (suc (suc a)) b h k p q = absurd (omega arith)
low_bits_decide_xor a (suc (suc b)) h k p q = absurd (omega arith)

-- The CRC shift by one bit of the xor of two numbers is the xor of their CRC shifts.
shift_is_linear : (a b : ℕ) → shift (bit_xor a b) ≡ bit_xor (shift a) (shift b)
shift_is_linear a b =
    ap (λ (low : ℕ). cond (eqb low 0) (bit_xor a b / 2) (bit_xor (bit_xor a b / 2) 0xEDB8_8320)) (xor_mod a b 1)
    ∙ (ap (λ (half : ℕ). cond (eqb (bit_xor (a % 2) (b % 2)) 0) half (bit_xor half 0xEDB8_8320)) (xor_shr a b 1)
    ∙ low_bits_decide_xor (a % 2) (b % 2) (a / 2) (b / 2) (omega arith) (omega arith))

-- The CRC shift by `n` bits of the xor of two numbers is the xor of their CRC shifts.
pub shifts_of_xor : (n a b : ℕ) → shifts n (bit_xor a b) ≡ bit_xor (shifts n a) (shifts n b)
unfolding shifts
shifts_of_xor zero a b = refl
shifts_of_xor (suc n) a b = ap (shifts n) (shift_is_linear a b) ∙ shifts_of_xor n (shift a) (shift b)

-- The CRC shift of an even number by one bit is its half.
shift_halves_even_number : (t : ℕ) → shift (t * 2) ≡ t
shift_halves_even_number t =
    let low : t * 2 % 2 ≡ 0 = omega arith in
    let half : t * 2 / 2 ≡ t = omega arith in
    ap (λ (z : ℕ). cond (eqb z 0) (t * 2 / 2) (bit_xor (t * 2 / 2) 0xEDB8_8320)) low ∙ half

-- The CRC shift of a multiple of 2^n by `n` bits is its quotient by 2^n, because all bits shifted out are 0.
pub shifts_of_power_multiple : (n h : ℕ) → shifts n (h * 2 ^ n) ≡ h
unfolding shifts
shifts_of_power_multiple zero h = omega arith
shifts_of_power_multiple (suc n) h =
    let turned : h * 2 ^ suc n ≡ h * 2 ^ n * 2 = ap (λ (z : ℕ). h * z) (pow-suc 2 n) ∙ sym (mul_assoc h (2 ^ n) 2) in
    ap (λ (z : ℕ). shifts n (shift z)) turned ∙ (ap (shifts n) (shift_halves_even_number (h * 2 ^ n)) ∙ shifts_of_power_multiple n h)

-- A number is the xor of its `n` low bits and of its other bits.
pub number_is_low_xor_high : (n s : ℕ) → s ≡ bit_xor (s % 2 ^ n) (s / 2 ^ n * 2 ^ n)
number_is_low_xor_high n s =
    let low : s % 2 ^ n < 2 ^ n = mod_below s (2 ^ n) (pow_pos n) in
    let parts : bit_xor (0 * 2 ^ n + s % 2 ^ n) (s / 2 ^ n * 2 ^ n + 0)
    ≡ bit_xor 0 (s / 2 ^ n) * 2 ^ n + bit_xor (s % 2 ^ n) 0 = xor_block n 0 (s / 2 ^ n) (s % 2 ^ n) 0 low (pow_pos n) in
    sym (ap (λ (z : ℕ). bit_xor z (s / 2 ^ n * 2 ^ n)) (omega arith)
    ∙ (ap (bit_xor (0 * 2 ^ n + s % 2 ^ n)) (omega arith)
    ∙ (parts
    ∙ (ap (λ (z : ℕ). z * 2 ^ n + bit_xor (s % 2 ^ n) 0) (xor_zero_l (s / 2 ^ n))
    ∙ (ap (λ (z : ℕ). s / 2 ^ n * 2 ^ n + z) (xor_zero_r (s % 2 ^ n)) ∙ shr_split s n)))))

-- After the `n` bits of a number `x` below 2^n, register `r` becomes the CRC shift by `n` bits of `r` xor `x`.
pub low_bits_shift_register : (n r x : ℕ) → x < 2 ^ n → after_bits r (low_bits n x) ≡ shifts n (bit_xor r x)
low_bits_shift_register n r x h =
    let none : x / 2 ^ n ≡ 0 = div-eq_of_lt h in
    sym (shifts_take_low_bits n r x ∙ (ap (bit_xor (after_bits r (low_bits n x))) none ∙ xor_zero_r (after_bits r (low_bits n x))))

-- The CRC shift of a number by `n` bits is the CRC shift of its `n` low bits, xor the other bits.
pub shifts_by_low_bits : (n s : ℕ) → shifts n s ≡ bit_xor (s / 2 ^ n) (shifts n (s % 2 ^ n))
shifts_by_low_bits n s =
    ap (shifts n) (number_is_low_xor_high n s)
    ∙ (shifts_of_xor n (s % 2 ^ n) (s / 2 ^ n * 2 ^ n)
    ∙ (ap (bit_xor (shifts n (s % 2 ^ n))) (shifts_of_power_multiple n (s / 2 ^ n)) ∙ xor_comm (shifts n (s % 2 ^ n)) (s / 2 ^ n)))

-- After byte `b`, register `r` becomes the xor of two numbers: `r` / 256, and the CRC shift by eight bits of the low eight bits of `r` xor
-- `b`.
pub byte_shifts_register : (r b : ℕ) → b < 256 → after_bits r (low_bits 8 b) ≡ bit_xor (r / 256) (shifts 8 (bit_xor r b % 256))
byte_shifts_register r b h =
    let none : b / 256 ≡ 0 = omega arith in
    let high : bit_xor r b / 256 ≡ r / 256 = xor_shr r b 8 ∙ (ap (bit_xor (r / 256)) none ∙ xor_zero_r (r / 256)) in
    low_bits_shift_register 8 r b h ∙ (shifts_by_low_bits 8 (bit_xor r b) ∙ ap (λ (z : ℕ). bit_xor z (shifts 8 (bit_xor r b % 256))) high)

-- ---- many bits at once

-- A CRC shift by m + n bits is a CRC shift by m bits and then by n.
pub shifts_in_two_parts : (m n s : ℕ) → shifts (m + n) s ≡ shifts n (shifts m s)
unfolding shifts
shifts_in_two_parts zero n s = ap (λ (k : ℕ). shifts k s) (zero-add n)
shifts_in_two_parts (suc m) n s =
    let more : suc m + n ≡ suc (m + n) = omega arith in
    ap (λ (k : ℕ). shifts k s) more ∙ shifts_in_two_parts m n (shift s)

-- The CRC shift of a number by 8 + n bits is the xor of its lowest byte shifted by 8 + n bits and of the rest shifted by `n`.
pub shifts_by_low_byte : (n s : ℕ) → shifts (8 + n) s ≡ bit_xor (shifts (8 + n) (s % 256)) (shifts n (s / 256))
shifts_by_low_byte n s =
    ap (shifts (8 + n)) (number_is_low_xor_high 8 s)
    ∙ (shifts_of_xor (8 + n) (s % 256) (s / 256 * 256)
    ∙ ap (bit_xor (shifts (8 + n) (s % 256))) (shifts_in_two_parts 8 n (s / 256 * 256)
    ∙ ap (shifts n) (shifts_of_power_multiple 8 (s / 256))))

zero-shifts : (n : ℕ) → shifts n 0 ≡ 0
unfolding shifts
zero-shifts zero = refl
zero-shifts (suc n) = zero-shifts n

-- The m + n low bits of a number are its m low bits followed by the n bits above them.
pub low_bits-add : (m n x : ℕ) → low_bits (m + n) x ≡ low_bits m x ++ low_bits n (x / 2 ^ m)
unfolding low_bits
low_bits-add zero n x =
    let whole : x / 1 ≡ x = omega arith in
    ap (λ (k : ℕ). low_bits k x) (zero-add n) ∙ ap (low_bits n) (sym whole)
low_bits-add (suc m) n x =
    let more : suc m + n ≡ suc (m + n) = omega arith in
    let place : 1 + m ≡ suc m = omega arith in
    ap (λ (k : ℕ). low_bits k x) more
    ∙ ap (λ (bs : List ℕ). x % 2 ∷ bs) (low_bits-add m n (x / 2)
    ∙ ap (λ (z : ℕ). low_bits m (x / 2) ++ low_bits n z) (shr-shr x 1 m ∙ ap (λ (k : ℕ). x / 2 ^ k) place))

-- The `n` low bits of a number don't depend on the higher bits.
pub low_bits_ignore_higher : (n b y : ℕ) → low_bits n (b + 2 ^ n * y) ≡ low_bits n b
unfolding low_bits
low_bits_ignore_higher zero b y = refl
low_bits_ignore_higher (suc n) b y =
    let turned : 2 ^ suc n * y ≡ 2 * (2 ^ n * y) = ap (λ (z : ℕ). z * y) (pow-suc 2 n ∙ mul_comm (2 ^ n) 2) ∙ mul_assoc 2 (2 ^ n) y in
    let low : (b + 2 ^ suc n * y) % 2 ≡ b % 2 = omega (arith, turned) in
    let high : (b + 2 ^ suc n * y) / 2 ≡ b / 2 + 2 ^ n * y = omega (arith, turned) in
    ap (λ (z : ℕ). z ∷ low_bits n ((b + 2 ^ suc n * y) / 2)) low ∙ ap (λ (bs : List ℕ). b % 2 ∷ bs) (ap (low_bits n) high
    ∙ low_bits_ignore_higher n (b / 2) y)

-- Number of bits in `n` bytes.
abbrev pub bit_count_of_bytes : ℕ → ℕ
bit_count_of_bytes zero = 0
bit_count_of_bytes (suc n) = 8 + bit_count_of_bytes n

-- The bits of `n` bytes from index `i` on are the bits of the number in these bytes, the low byte first.
pub bits_of_little_number : (n i : ℕ) (xs : List ℕ) → i + n ≤ length xs → ((k : ℕ) → get_or xs k 0 < 256) →
    low_bits (bit_count_of_bytes n) (little_from i n xs) ≡ bits_of (take n (drop i xs))
unfolding low_bits bits_of
bits_of_little_number zero i xs h f = refl
bits_of_little_number (suc n) i xs h f =
    let b = get_or xs i 0 in
    let y = little_from (suc i) n xs in
    let fits : b < 256 = f i in
    let high : (b + 256 * y) / 2 ^ 8 ≡ y = omega arith in
    let front : drop i xs ≡ b ∷ drop (suc i) xs = drop-cons xs i 0 (omega arith) in
    low_bits-add 8 (bit_count_of_bytes n) (b + 256 * y)
    ∙ (ap (λ (bs : List ℕ). bs ++ low_bits (bit_count_of_bytes n) ((b + 256 * y) / 2 ^ 8)) (low_bits_ignore_higher 8 b y)
    ∙ (ap (λ (z : ℕ). low_bits 8 b ++ low_bits (bit_count_of_bytes n) z) high
    ∙ (ap (λ (bs : List ℕ). low_bits 8 b ++ bs) (bits_of_little_number n (suc i) xs (omega arith) f)
    ∙ ap (λ (zs : List ℕ). bits_of (take (suc n) zs)) (sym front))))

-- ---- the register over a whole file

shift-fits : (s : ℕ) → s < 2 ^ 32 → shift s < 2 ^ 32
shift-fits s h =
    let half : s / 2 < 2 ^ 32 = omega arith in
    let mixed : bit_xor (s / 2) 0xEDB8_8320 < 2 ^ 32 = xor_lt 32 (s / 2) 0xEDB8_8320 half (omega arith) in
    elim (eqb (s % 2) 0) as (λ t. cond t (s / 2) (bit_xor (s / 2) 0xEDB8_8320) < 2 ^ 32) [ true ↦ half | false ↦ mixed ]

-- Two numbers are equal if their xor is 0.
pub zero_xor_means_equal : (a b : ℕ) → bit_xor a b ≡ 0 → a ≡ b
zero_xor_means_equal a b h = sym (xor_zero_r a) ∙ (ap (bit_xor a) (sym (xor_self b))
    ∙ (sym (xor_assoc a b b) ∙ (ap (λ (z : ℕ). bit_xor z b) h ∙ xor_zero_l b)))

-- If the CRC shift of a number below 2^32 by one bit is 0, the number is 0.
shift-zero : (s : ℕ) → s < 2 ^ 32 → shift s ≡ 0 → s ≡ 0
shift-zero s h e =
    elim (eqb_tells (s % 2) 0) [
      | inl p ↦ let half : s / 2 ≡ 0 = sym (ap (λ (t : Bool). cond t (s / 2) (bit_xor (s / 2) 0xEDB8_8320)) p.0) ∙ e in omega (arith, p.1)
      | inr p ↦ let half : bit_xor (s / 2) 0xEDB8_8320 ≡ 0 =
          sym (ap (λ (t : Bool). cond t (s / 2) (bit_xor (s / 2) 0xEDB8_8320)) p.0) ∙ e in
          let same = zero_xor_means_equal (s / 2) 0xEDB8_8320 half in absurd (omega arith)
    ]

-- If the CRC shift of a number below 2^32 by `n` bits is 0, the number is 0.
shifts-zero : (n s : ℕ) → s < 2 ^ 32 → shifts n s ≡ 0 → s ≡ 0
unfolding shifts
shifts-zero zero s h e = e
shifts-zero (suc n) s h e = shift-zero s h (shifts-zero n (shift s) (shift-fits s h) e)

-- The 32 bits of a number change the register to 0 exactly if the number equals the register.
pub register_zero_after_itself : (r x : ℕ) → r < 2 ^ 32 → x < 2 ^ 32 → (after_bits r (low_bits 32 x) ≡ 0) ↔ (x ≡ r)
register_zero_after_itself r x p q =
    let step : shifts 32 (bit_xor r x) ≡ after_bits r (low_bits 32 x) = sym (low_bits_shift_register 32 r x q) in (
      λ e. sym (zero_xor_means_equal r x (shifts-zero 32 (bit_xor r x) (xor_lt 32 r x p q) (step ∙ e))),
      λ e. sym step ∙ (ap (λ (z : ℕ). shifts 32 (bit_xor r z)) e ∙ (ap (shifts 32) (xor_self r) ∙ zero-shifts 32)),
    )

-- Two numbers below 2^32 with the same CRC shift by `n` bits are equal.
pub equal_shifts_mean_equal : (n a b : ℕ) → a < 2 ^ 32 → b < 2 ^ 32 → shifts n a ≡ shifts n b → a ≡ b
equal_shifts_mean_equal n a b p q e =
    let none : shifts n (bit_xor a b) ≡ 0 =
    shifts_of_xor n a b ∙ (ap (λ (z : ℕ). bit_xor z (shifts n b)) e ∙ xor_self (shifts n b)) in
    zero_xor_means_equal a b (shifts-zero n (bit_xor a b) (xor_lt 32 a b p q) none)
