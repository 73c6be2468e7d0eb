-- The entries of the large tables, by which bytes change the register.
use Rattle.std.proofs.Common.{inl, inr, append-nil, subst, fold, ◌≡◌, ℕ, zero, suc, ◌+◌, ◌-◌, ◌*◌, ◌/◌, ◌%◌, ◌^◌, ◌<◌, ◌≤◌, Bool, true, false, cond, eqb, List, [], ◌∷◌, ◌++◌, length, take, drop, get_or, slice_index_or, bit_and, bit_xor, refl, sym, ap, ◌∙◌, arith}
use Rattle.std.proofs.lemmas.Bool.{eqb-true}
use Rattle.std.proofs.lemmas.Nat.{and_mask, xor_comm}
use Rattle.std.proofs.Math.Nat.{eq-or-lt_of_le}
use Rattle.std.specs.List.{flat_map}
use Rattle.std.proofs.lemmas.List.{take_more, take_all, take-append-drop}
use Rattle.std.proofs.lemmas.List.Sums.{fold-append}
use Rattle.std.proofs.lemmas.List.Concat.{flat_map-append}
use Rattle.dfu_suffix.proofs.Shifts.{bits_of_little_number, low_bits_shift_register, byte_shifts_register, shifts_in_two_parts, shifts_of_xor}
use Rattle.dfu_suffix.proofs.FourBytes.{four_byte_number_fits_32_bits}
use Rattle.dfu_suffix.specs.Laws.{AreBytes}
use Rattle.byteorder.specs.Endian.{little_number}
use Rattle.dfu_suffix.specs.Register.{after_bit, after_bits, low_bits, bits_of, register, shifts}
use Rattle.dfu_suffix.specs.declared.table.TheConstants.{TABLES}

-- True if `n` entries of a table, from index `i` on, are the CRC shifts of `earlier` by `k` bits.
abbrev pub table_is_right_from : ℕ → (ℕ → ℕ) → List ℕ → ℕ → ℕ → Bool
table_is_right_from k earlier xs i zero = true
table_is_right_from k earlier xs i (suc n) =
    cond (eqb (get_or xs i 0) (shifts k (earlier i))) (table_is_right_from k earlier xs (suc i) n) false

true_cond_has_both_true : (a b : Bool) → cond a b false ≡ true → (a ≡ true) × (b ≡ true)
true_cond_has_both_true true b h = (refl, h)
true_cond_has_both_true false b h = (h, cc)

-- If the test of `n` entries from index `i` on passes, each of these entries is right.
pub entry_is_right : (k : ℕ) (earlier : ℕ → ℕ) (xs : List ℕ) (i n j : ℕ) → table_is_right_from k earlier xs i n ≡ true → i ≤ j → j < i + n →
    get_or xs j 0 ≡ shifts k (earlier j)
entry_is_right k earlier xs i zero j h p q = absurd (omega arith)
entry_is_right k earlier xs i (suc n) j h p q =
    let here = true_cond_has_both_true (eqb (get_or xs i 0) (shifts k (earlier i))) (table_is_right_from k earlier xs (suc i) n) h in
    elim (eq-or-lt_of_le p) [
      | inl e ↦ subst (λ (m : ℕ). get_or xs m 0 ≡ shifts k (earlier m)) e (eqb-true (get_or xs i 0) (shifts k (earlier i)) here.0)
      | inr l ↦ entry_is_right k earlier xs (suc i) n j here.1 l (omega arith)
    ]

-- Entry `j` of the table is the CRC shift of `j` by `k` bits, for each `j` below 256.
abbrev pub IsShiftTable : ℕ → List ℕ → Type 0
IsShiftTable k xs = (j : ℕ) → j < 256 → get_or xs j 0 ≡ shifts k j

-- In a list of tables, the entries of each are the CRC shifts by eight bits of those before it. The first table uses `earlier`.
abbrev tables_are_chained : (ℕ → ℕ) → List (List ℕ) → Bool
tables_are_chained earlier [] = true
tables_are_chained earlier (xs ∷ tables) = cond (table_is_right_from 8 earlier xs 0 256) (tables_are_chained (λ j. get_or xs j 0) tables)
    false

-- If `earlier` is the CRC shift by `k` bits, the next table contains the CRC shifts by `k + 8` bits.
next_table_shifts_8_more : (k : ℕ) (earlier : ℕ → ℕ) (xs : List ℕ) → ((j : ℕ) → j < 256 → earlier j ≡ shifts k j) →
    table_is_right_from 8 earlier xs 0 256 ≡ true → IsShiftTable (k + 8) xs
next_table_shifts_8_more k earlier xs start h j l =
    entry_is_right 8 earlier xs 0 256 j h (omega arith) (omega arith) ∙ (ap (shifts 8) (start j l) ∙ sym (shifts_in_two_parts k 8 j))

-- In a chain that begins with CRC shifts by `k` bits, table `i` contains the CRC shifts by k + 8 · (i + 1) bits.
chained_table_is_right : (k i : ℕ) (earlier : ℕ → ℕ) (tables : List (List ℕ)) → ((j : ℕ) → j < 256 → earlier j ≡ shifts k j) →
    tables_are_chained earlier tables ≡ true → i < length tables → IsShiftTable (k + 8 * (i + 1)) (slice_index_or tables i [])
chained_table_is_right k i earlier [] start h p = absurd (omega arith)
chained_table_is_right k zero earlier (xs ∷ tables) start h p =
    next_table_shifts_8_more k earlier xs start (true_cond_has_both_true (table_is_right_from 8 earlier xs 0 256) (tables_are_chained (λ j.
    get_or xs j 0) tables) h).0
chained_table_is_right k (suc i) earlier (xs ∷ tables) start h p =
    let here = true_cond_has_both_true (table_is_right_from 8 earlier xs 0 256) (tables_are_chained (λ j. get_or xs j 0) tables) h in
    let more : (k + 8) + 8 * (i + 1) ≡ k + 8 * (suc i + 1) = omega arith in
    subst (λ (n : ℕ). IsShiftTable n (slice_index_or tables i [])) more
    (chained_table_is_right (k + 8) i (λ j. get_or xs j 0) tables (next_table_shifts_8_more k earlier xs start here.0) here.1 (omega arith))

-- Equal tables have equal entries.
pub equal_tables_equal_entries : (n : ℕ) (xs ys : List ℕ) → xs ≡ ys → get_or xs n 0 ≡ get_or ys n 0
equal_tables_equal_entries n xs ys e = ap (λ (zs : List ℕ). get_or zs n 0) e

-- The entry for the low byte of a number is the CRC shift of this byte by the `k` bits of the table.
pub low_byte_entry_is_shift : (k : ℕ) (xs : List ℕ) (x : ℕ) → IsShiftTable k xs → get_or xs (bit_and x 255) 0 ≡ shifts k (x % 256)
low_byte_entry_is_shift k xs x h = ap (λ (i : ℕ). get_or xs i 0) (and_mask x 8) ∙ h (x % 256) (omega arith)

-- The table of CRC shifts by 8 · (i + 1) bits, which is at index 7 - i of TABLES.
abbrev pub table_after_zeros : ℕ → List ℕ
table_after_zeros i = slice_index_or TABLES (7 - i) []

-- The eight tables, from CRC shifts by 8 bits to CRC shifts by 64 bits.
abbrev tables : List (List ℕ)
tables = table_after_zeros 0 ∷ table_after_zeros 1 ∷ table_after_zeros 2 ∷ table_after_zeros 3 ∷ table_after_zeros 4 ∷ table_after_zeros 5
    ∷ table_after_zeros 6 ∷ table_after_zeros 7 ∷ []

-- All entries of the eight tables are right. The proof computes them bit by bit from the definition.
eight_tables_are_chained : tables_are_chained (λ j. j) tables ≡ true
unfolding shifts
eight_tables_are_chained = refl

-- Table `i` of the eight contains the CRC shift of each byte by 8 · (i + 1) bits.
pub eight_tables_are_right : (i : ℕ) → i < 8 → IsShiftTable (8 * (i + 1)) (slice_index_or tables i [])
unfolding shifts
eight_tables_are_right i h =
    let none : 0 + 8 * (i + 1) ≡ 8 * (i + 1) = omega arith in
    subst (λ (n : ℕ). IsShiftTable n (slice_index_or tables i [])) none (chained_table_is_right 0 i (λ j. j) tables (λ j l. refl)
    eight_tables_are_chained h)

-- The table of CRC shifts by eight bits gives the register after another byte.
pub table_takes_byte : (r b : ℕ) → b < 256 → after_bits r (low_bits 8 b)
    ≡ bit_xor (r / 2 ^ 8) (get_or (table_after_zeros 0) (bit_and (bit_xor r b) 255) 0)
table_takes_byte r b h = byte_shifts_register r b h ∙ ap (bit_xor (r / 256)) (sym (low_byte_entry_is_shift 8 (table_after_zeros 0) (bit_xor
    r b) (eight_tables_are_right 0 (omega arith))))

-- The register after two lists of bytes is the register after the first list and then after the second.
pub after-append : (r : ℕ) (xs ys : List ℕ) → after_bits r (bits_of (xs ++ ys)) ≡ after_bits (after_bits r (bits_of xs)) (bits_of ys)
unfolding after_bits bits_of
after-append r xs ys = ap (fold after_bit r) (flat_map-append (low_bits 8) xs ys)
    ∙ fold-append after_bit r (flat_map (low_bits 8) xs) (flat_map (low_bits 8) ys)

-- If `t` is the register after the first `n` bytes, and `u` continues from `t` over the other bytes, then `u` is the register after all
-- bytes.
pub register_in_two_parts : (n r t u : ℕ) (xs ys zs : List ℕ) → xs ≡ take n zs → ys ≡ drop n zs → t ≡ after_bits r (bits_of xs) →
    u ≡ after_bits t (bits_of ys) → u ≡ after_bits r (bits_of zs)
register_in_two_parts n r t u xs ys zs front back first second =
    let joined : xs ++ ys ≡ zs = ap (λ (ts : List ℕ). ts ++ ys) front
    ∙ (ap (λ (ts : List ℕ). take n zs ++ ts) back ∙ take-append-drop n zs) in
    second ∙ (ap (λ (z : ℕ). after_bits z (bits_of ys)) first
    ∙ (sym (after-append r xs ys) ∙ ap (λ (ts : List ℕ). after_bits r (bits_of ts)) joined))

-- The register after one byte is the register after its eight bits.
pub register_after_one_byte : (r b : ℕ) → after_bits r (bits_of (b ∷ [])) ≡ after_bits r (low_bits 8 b)
unfolding bits_of
register_after_one_byte r b = ap (after_bits r) (append-nil (low_bits 8 b))

-- The register after `i + 1` bytes is the register after `i` bytes and then after the bits of the next one.
pub register_after_one_more_byte : (r : ℕ) (bytes : List ℕ) (i : ℕ) → i < length bytes →
    after_bits r (bits_of (take (i + 1) bytes)) ≡ after_bits (after_bits r (bits_of (take i bytes)))
    (low_bits 8 (get_or bytes i 0))
register_after_one_more_byte r bytes i h =
    ap (λ (xs : List ℕ). after_bits r (bits_of xs)) (take_more bytes i 0 h)
    ∙ (after-append r (take i bytes) (get_or bytes i 0 ∷ []) ∙ register_after_one_byte (after_bits r (bits_of (take i bytes)))
    (get_or bytes i 0))

-- If byte `i` is added to the register after the first `i` bytes, the result is the register after the first `i + 1` bytes.
pub register_after_next_byte : (start r t : ℕ) (bytes : List ℕ) (i : ℕ) → i < length bytes → r ≡ after_bits start (bits_of (take i bytes)) →
    t ≡ after_bits r (low_bits 8 (get_or bytes i 0)) → t ≡ after_bits start (bits_of (take (i + 1) bytes))
register_after_next_byte start r t bytes i h before here =
    here ∙ (ap (λ (z : ℕ). after_bits z (low_bits 8 (get_or bytes i 0))) before ∙ sym (register_after_one_more_byte start bytes i h))

-- Without bytes, the register is unchanged.
pub register_after_no_bytes : (r : ℕ) → r ≡ after_bits r (bits_of [])
unfolding after_bits bits_of
register_after_no_bytes r = refl

-- The register over two lists is the register over the first, and then after the bits of the second.
pub register-append : (xs ys : List ℕ) → register (xs ++ ys) ≡ after_bits (register xs) (bits_of ys)
unfolding register after_bits bits_of
register-append xs ys = after-append 0xFFFF_FFFF xs ys

-- ---- eight bytes at once

-- After four bytes whose number is `x`, register `r` becomes the CRC shift of `r` xor `x` by 32 bits.
pub four_bytes_shift_register : (r x : ℕ) (xs : List ℕ) → length xs ≡ 4 → AreBytes xs → x ≡ little_number 4 xs → x < 2 ^ 32 →
    after_bits r (bits_of xs) ≡ shifts 32 (bit_xor r x)
four_bytes_shift_register r x xs h f e small =
    let all : take 4 xs ≡ xs = take_all 4 xs (omega arith) in
    let bits : low_bits 32 x ≡ bits_of xs = ap (low_bits 32) e ∙ (bits_of_little_number 4 0 xs (omega arith) f ∙ ap bits_of all) in
    sym (ap (after_bits r) bits) ∙ low_bits_shift_register 32 r x small

-- The register after two lists continues from the register after the first.
register_after_first_list : (r t : ℕ) (xs ys : List ℕ) → after_bits r (bits_of xs) ≡ t → after_bits r (bits_of (xs ++ ys))
    ≡ after_bits t (bits_of ys)
register_after_first_list r t xs ys e = after-append r xs ys ∙ ap (λ (z : ℕ). after_bits z (bits_of ys)) e

-- Two steps of 32 bits, with `a` and then with `b`, give the xor of two CRC shifts: that of `b` by 32 bits, and that of `r` xor `a` by 64
-- bits.
eight_bytes_by_halves : (r a b t : ℕ) → t ≡ shifts 32 (bit_xor r a) → shifts 32 (bit_xor t b)
    ≡ bit_xor (shifts 32 b) (shifts 64 (bit_xor r a))
eight_bytes_by_halves r a b t e =
    let first : shifts 32 t ≡ shifts 64 (bit_xor r a) = ap (shifts 32) e ∙ sym (shifts_in_two_parts 32 32 (bit_xor r a)) in
    shifts_of_xor 32 t b ∙ (ap (λ (z : ℕ). bit_xor z (shifts 32 b)) first ∙ xor_comm (shifts 64 (bit_xor r a)) (shifts 32 b))

-- `xs` are four bytes, and `x` is their number, the low byte first.
pub record IsFourByteNumber (x : ℕ) (xs : List ℕ) : Type 0 where
  pub long : length xs ≡ 4
  pub bytes : AreBytes xs
  pub number : x ≡ little_number 4 xs
  pub small : x < 2 ^ 32

-- Four bytes satisfy `IsFourByteNumber` with their number.
pub four_bytes_make_number : (xs : List ℕ) → length xs ≡ 4 → AreBytes xs → IsFourByteNumber (little_number 4 xs) xs
four_bytes_make_number xs h f = record { long = h; bytes = f; number = refl; small = four_byte_number_fits_32_bits xs f }

-- The register after eight bytes is the xor of two CRC shifts: that of the last four bytes by 32 bits, and that of `r` xor the first four
-- bytes by 64 bits.
pub eight_bytes_shift_register : (r a b : ℕ) (xs ys : List ℕ) → IsFourByteNumber a xs → IsFourByteNumber b ys →
    bit_xor (shifts 32 b) (shifts 64 (bit_xor r a)) ≡ after_bits r (bits_of (xs ++ ys))
eight_bytes_shift_register r a b xs ys p q =
    let t = shifts 32 (bit_xor r a) in
    let s1 = register_after_first_list r t xs ys (four_bytes_shift_register r a xs p.long p.bytes p.number p.small) in
    let s2 = four_bytes_shift_register t b ys q.long q.bytes q.number q.small in
    sym (s1 ∙ (s2 ∙ eight_bytes_by_halves r a b t refl))
