-- Laws of the file format.
use Rattle.std.proofs.Common.{◌≡◌, ◌⊎◌, ℕ, ◌-◌, ◌^◌, ◌<◌, ◌≤◌, List, length, take, drop, bit_xor, Result, Ok, Err, inl, inr, refl, sym, ap, ◌∙◌, arith, length-drop}
use Rattle.std.proofs.lemmas.List.{take-append-drop, take_all}
use Rattle.std.proofs.lemmas.Nat.{xor_lt}
use Rattle.byteorder.specs.Endian.{little_number}
use Rattle.dfu_suffix.specs.Register.{register, after_bits, bits_of, low_bits, shifts}
use Rattle.dfu_suffix.specs.Grammar.{Content, First}
use Rattle.dfu_suffix.specs.inside.Reading.{read_content}
use Rattle.dfu_suffix.specs.Laws.{AreBytes, HasReading, EitherFileOrFault, ZeroRegisterByLastFour}
use Rattle.dfu_suffix.proofs.OneReading.{register-fits, fault_of_reading_is_first, file_bytes_have_no_fault}
use Rattle.dfu_suffix.specs.declared.fault.SuffixFault.{SuffixFault}
use Rattle.dfu_suffix.proofs.Bytes.{AreBytes-drop}
use Rattle.dfu_suffix.proofs.Shifts.{bits_of_little_number, low_bits_shift_register, register_zero_after_itself, equal_shifts_mean_equal}
use Rattle.dfu_suffix.proofs.CombinedNumbers.{xor_twice_cancels}
use Rattle.dfu_suffix.proofs.Tables.{register-append}
use Rattle.dfu_suffix.proofs.FileLaws.{read_content_is_of_file}

-- If reading returns content, the bytes are a file of the grammar. If it returns a fault, this is their first fault.
bytes_are_file_or_have_fault : (b : List ℕ) (r : Result Content SuffixFault) → AreBytes b → read_content b ≡ r → HasReading b
    ⊎ ((fault : SuffixFault) × First fault b)
bytes_are_file_or_have_fault b (Ok c) f h =
    let found = read_content_is_of_file b c f h in
    inl (c.payload, c.ids, c.dfu, found.0, found.1)
bytes_are_file_or_have_fault b (Err x) f h = inr (x, (fault_of_reading_is_first b x).0 h)

-- Bytes are either a file of the grammar or have a first fault, and never both.
pub either_file_or_fault : EitherFileOrFault
either_file_or_fault b f = (bytes_are_file_or_have_fault b (read_content b) f refl, file_bytes_have_no_fault b)

-- The number in the last four bytes is below 2^32, and its bits change the register over the bytes before them to the register over all
-- bytes.
register_by_last_four : (s : List ℕ) → AreBytes s → 4 ≤ length s → (little_number 4 (drop (length s - 4) s) < 2 ^ 32) × (register s
    ≡ after_bits (register (take (length s - 4) s)) (low_bits 32 (little_number 4 (drop (length s - 4) s))))
register_by_last_four s f h =
    let front = take (length s - 4) s in
    let last = drop (length s - 4) s in
    let fl : AreBytes last = AreBytes-drop s (length s - 4) f in
    let four : length last ≡ 4 = length-drop (length s - 4) s ∙ omega arith in
    let bits : low_bits 32 (little_number 4 last) ≡ bits_of last = bits_of_little_number 4 0 last (omega (arith, four)) fl
    ∙ ap bits_of (take_all 4 last (omega (arith, four))) in (
      omega (arith, fl 0, fl 1, fl 2, fl 3),
      ap register (sym (take-append-drop (length s - 4) s))
          ∙ (register-append front last ∙ ap (after_bits (register front)) (sym bits)),
    )

-- The register over four bytes or more is 0 exactly if the number in the last four is the register over the bytes before them.
pub last_four : ZeroRegisterByLastFour
last_four s f h =
    let front = take (length s - 4) s in
    let x = little_number 4 (drop (length s - 4) s) in
    let whole = register_by_last_four s f h in
    let law = register_zero_after_itself (register front) x (register-fits front) whole.0 in
    (λ e. law.0 (sym whole.1 ∙ e), λ e. whole.1 ∙ law.1 e)

-- If `r` and the last four bytes give the register over all bytes, `r` is the register over the bytes before the last four.
pub register_before_four_is_unique : (s : List ℕ) (r x : ℕ) → AreBytes s → 4 ≤ length s → r < 2 ^ 32 → x
    ≡ little_number 4 (drop (length s - 4) s) →
    shifts 32 (bit_xor r x) ≡ register s → r ≡ register (take (length s - 4) s)
register_before_four_is_unique s r x f h fits is e =
    let front = register (take (length s - 4) s) in
    let y = little_number 4 (drop (length s - 4) s) in
    let whole = register_by_last_four s f h in
    let both : shifts 32 (bit_xor r y) ≡ shifts 32 (bit_xor front y) =
    ap (λ (z : ℕ). shifts 32 (bit_xor r z)) (sym is) ∙ (e ∙ (whole.1 ∙ low_bits_shift_register 32 front y whole.0)) in
    let fits_front : front < 2 ^ 32 = register-fits (take (length s - 4) s) in
    let same : bit_xor r y ≡ bit_xor front y =
    equal_shifts_mean_equal 32 (bit_xor r y) (bit_xor front y) (xor_lt 32 r y fits whole.0) (xor_lt 32 front y fits_front whole.0) both in
    sym (xor_twice_cancels r y) ∙ (ap (λ (z : ℕ). bit_xor z y) same ∙ xor_twice_cancels front y)
