-- The steps of the register can be undone.
use Rattle.std.proofs.Common.{◌≡◌, ℕ, ◌+◌, ◌*◌, ◌/◌, ◌%◌, ◌^◌, ◌<◌, ◌≤◌, cond, eqb, bit_xor, suc, sym, ap, ◌∙◌, arith}
use Rattle.std.proofs.lemmas.Nat.{xor_shr}
use Rattle.dfu_suffix.proofs.CombinedNumbers.{xor_twice_cancels}
use Rattle.dfu_suffix.specs.Register.{shift, shifts}

-- In a 32-bit number whose highest bit is 1, the xor with EDB88320h clears this bit.
pub xor_polynomial_clears_high_bit : (r : ℕ) → 0x8000_0000 ≤ r → r < 2 ^ 32 → bit_xor r 0xEDB8_8320 < 0x8000_0000
xor_polynomial_clears_high_bit r h l =
    let one : r / 2 ^ 31 ≡ 1 = omega arith in
    let high : bit_xor r 0xEDB8_8320 / 2 ^ 31 ≡ 0 = xor_shr r 0xEDB8_8320 31 ∙ ap (λ (z : ℕ). bit_xor z 1) one in
    omega (arith, high)

-- The CRC shift by one bit undoes the step that combines a number with EDB88320h, doubles it and adds 1.
pub shift_undoes_odd_step : (r : ℕ) → shift (bit_xor r 0xEDB8_8320 * 2 + 1) ≡ r
shift_undoes_odd_step r =
    let t = bit_xor r 0xEDB8_8320 in
    let low : (t * 2 + 1) % 2 ≡ 1 = omega arith in
    let half : (t * 2 + 1) / 2 ≡ t = omega arith in
    ap (λ (z : ℕ). cond (eqb z 0) ((t * 2 + 1) / 2) (bit_xor ((t * 2 + 1) / 2) 0xEDB8_8320)) low
    ∙ (ap (λ (z : ℕ). bit_xor z 0xEDB8_8320) half ∙ xor_twice_cancels r 0xEDB8_8320)

-- If a CRC shift by one bit changes `t` to `s`, and one by `n` bits changes `s` to `r`, then one by `n + 1` bits changes `t` to `r`.
pub one_more_shift_undone : (n r s t : ℕ) → shift t ≡ s → shifts n s ≡ r → shifts (n + 1) t ≡ r
unfolding shifts
one_more_shift_undone n r s t e h =
    let more : n + 1 ≡ suc n = omega arith in
    ap (λ (k : ℕ). shifts k t) more ∙ (ap (shifts n) e ∙ h)

-- If the CRC shift of `s` by 32 bits is `r`, it is still `r` after two xors of `s` with `last`, because the two xors cancel.
pub all_shifts_undone : (n r s last : ℕ) → n ≡ 32 → shifts n s ≡ r → shifts 32 (bit_xor (bit_xor s last) last) ≡ r
all_shifts_undone n r s last e h = ap (shifts 32) (xor_twice_cancels s last) ∙ (ap (λ (k : ℕ). shifts k s) (sym e) ∙ h)
