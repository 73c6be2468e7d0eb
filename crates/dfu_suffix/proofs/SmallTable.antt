-- The entries of the small table, by which four bits change the register.
use Rattle.std.proofs.Common.{◌≡◌, ℕ, ◌/◌, ◌%◌, ◌^◌, ◌<◌, true, get_or, bit_and, bit_xor, refl, sym, ap, ◌∙◌, arith}
use Rattle.std.proofs.lemmas.Nat.{and_mask}
use Rattle.dfu_suffix.proofs.Shifts.{low_bits_shift_register, shifts_in_two_parts, shifts_by_low_bits}
use Rattle.dfu_suffix.proofs.Tables.{entry_is_right, table_is_right_from}
use Rattle.dfu_suffix.specs.Register.{after_bits, low_bits, shifts}
use Rattle.dfu_suffix.specs.declared.small.TheConstants.{AFTER_4}

-- All 16 entries of the small table are right. The proof computes them bit by bit from the definition.
small_table_is_right : table_is_right_from 4 (λ j. j) AFTER_4 0 16 ≡ true
unfolding shifts
small_table_is_right = refl

-- Entry `j` of the small table is the CRC shift of `j` by four bits.
small_table_entry_is_shift : (j : ℕ) → j < 16 → get_or AFTER_4 j 0 ≡ shifts 4 j
small_table_entry_is_shift j l = entry_is_right 4 (λ j. j) AFTER_4 0 16 j small_table_is_right (omega arith) (omega arith)

-- The small table gives the CRC shift of any number by four bits.
pub small_table_shifts_four_bits : (s : ℕ) → bit_xor (s / 2 ^ 4) (get_or AFTER_4 (bit_and s 15) 0) ≡ shifts 4 s
small_table_shifts_four_bits s =
    ap (λ (i : ℕ). bit_xor (s / 2 ^ 4) (get_or AFTER_4 i 0)) (and_mask s 4)
    ∙ (ap (bit_xor (s / 2 ^ 4)) (small_table_entry_is_shift (s % 16) (omega arith)) ∙ sym (shifts_by_low_bits 4 s))

-- Two steps of four bits each give the register after a byte.
pub two_half_steps_take_byte : (r b s t : ℕ) → b < 256 → s ≡ shifts 4 (bit_xor r b) → t ≡ shifts 4 s → t ≡ after_bits r (low_bits 8 b)
two_half_steps_take_byte r b s t h first second =
    second ∙ (ap (shifts 4) first ∙ (sym (shifts_in_two_parts 4 4 (bit_xor r b)) ∙ sym (low_bits_shift_register 8 r b h)))
