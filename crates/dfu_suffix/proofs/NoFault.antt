-- Bytes without a fault are a file of the grammar.
use Rattle.std.proofs.Common.{◌≡◌, ◌≢◌, ℕ, zero, suc, ◌+◌, ◌-◌, ◌*◌, ◌/◌, ◌%◌, ◌^◌, ◌<◌, ◌≤◌, ◌&&◌, ◌||◌, Bool, true, false, cond, eqb, ltb, List, [], ◌∷◌, ◌++◌, length, take, drop, get_or, Option, Some, None, refl, sym, ap, ◌∙◌, arith, length-append, length-take, length-drop}
use Rattle.std.proofs.lemmas.Bool.{ltb-false}
use Rattle.std.specs.Prelude.{find}
use Rattle.std.specs.Int.{w16, w32, to_le_bytes}
use Rattle.std.proofs.lemmas.Bool.{eqb-true, eq-eqb, not-false}
use Rattle.dfu_suffix.proofs.Bytes.{AreBytes-drop}
use Rattle.std.proofs.lemmas.List.{append_assoc, take-append-drop, take_at, drop_all, get_or-drop, drop-drop}
use Rattle.std.proofs.Math.Seq.{drop-cons}
use Rattle.std.proofs.Math.Nat.{add-zero}
use Rattle.byteorder.specs.Endian.{little_number}
use Rattle.dfu_suffix.specs.Register.{register}
use Rattle.dfu_suffix.specs.Laws.{AreBytes}
use Rattle.dfu_suffix.specs.Grammar.{IsFile, fields_before_crc, before_crc, tail_of, is_signed, has_fault, fault_order}
use Rattle.dfu_suffix.specs.inside.Reading.{content_of}
use Rattle.dfu_suffix.proofs.OneReading.{IsSpelledFile}
use Rattle.dfu_suffix.specs.declared.fault.SuffixFault.TheVariants.{TooShort, NoSignature, BadLength, DfuSe, BadCrc, TooLarge}

-- ---- numbers and their bytes

number_has_two_bytes : (x y : ℕ) → x < 256 → y < 256 → to_le_bytes w16 (x + 256 * (y + 256 * 0)) ≡ x ∷ y ∷ []
number_has_two_bytes x y p q =
    let low : (x + 256 * (y + 256 * 0)) % 256 ≡ x = omega arith in
    let high : (x + 256 * (y + 256 * 0)) / 256 % 256 ≡ y = omega arith in
    cc

two_byte_number_is_spelled : (xs : List ℕ) (i : ℕ) → AreBytes xs → to_le_bytes w16 (little_number 2 (drop i xs))
    ≡ get_or xs i 0 ∷ get_or xs (i + 1) 0 ∷ []
two_byte_number_is_spelled xs i f =
    let a : get_or (drop i xs) 0 0 ≡ get_or xs i 0 = get_or-drop i xs 0 0 ∙ ap (λ (k : ℕ). get_or xs k 0) (add-zero i) in
    let b : get_or (drop i xs) 1 0 ≡ get_or xs (i + 1) 0 = get_or-drop i xs 1 0 in
    let cells = number_has_two_bytes (get_or (drop i xs) 0 0) (get_or (drop i xs) 1 0) (omega (arith, f i)) (omega (arith, f (i + 1))) in
    cells ∙ cc

number_has_four_bytes : (x y z w : ℕ) → x < 256 → y < 256 → z < 256 → w < 256 →
    to_le_bytes w32 (x + 256 * (y + 256 * (z + 256 * (w + 256 * 0))))
    ≡ x ∷ y ∷ z ∷ w ∷ []
number_has_four_bytes x y z w p q r s =
    let n = x + 256 * (y + 256 * (z + 256 * (w + 256 * 0))) in
    let e0 : n % 256 ≡ x = omega arith in
    let e1 : n / 256 % 256 ≡ y = omega arith in
    let e2 : n / 65536 % 256 ≡ z = omega arith in
    let e3 : n / 16777216 % 256 ≡ w = omega arith in
    cc

two_bytes_fit_16_bits : (xs : List ℕ) → AreBytes xs → little_number 2 xs < 2 ^ 16
two_bytes_fit_16_bits xs f = omega (arith, f 0, f 1)

-- ---- numbers of a list

-- The `n` numbers of a list from index `i` on.
abbrev cells : ℕ → ℕ → List ℕ → List ℕ
cells zero i xs = []
cells (suc n) i xs = get_or xs i 0 ∷ cells n (suc i) xs

drop_is_numbers_of_list : (n i : ℕ) (xs : List ℕ) → i + n ≡ length xs → drop i xs ≡ cells n i xs
drop_is_numbers_of_list zero i xs h = drop_all i xs (omega arith)
drop_is_numbers_of_list (suc n) i xs h = drop-cons xs i 0 (omega arith)
    ∙ ap (λ (ys : List ℕ). get_or xs i 0 ∷ ys) (drop_is_numbers_of_list n (suc i) xs (omega arith))

-- ---- no fault

-- If a list of conditions finds no fault, the first condition is false, and the others find none.
no_fault_passes_condition : {X : Type 0} (t : Bool) (x : X) (o : Option X) → cond t (Some x) o ≡ None → (t ≡ false) × (o ≡ None)
no_fault_passes_condition true x o h = (cc, cc)
no_fault_passes_condition false x o h = (refl, h)

false_or_has_both_false : (a b : Bool) → (a || b) ≡ false → (a ≡ false) × (b ≡ false)
false_or_has_both_false true b h = (h, cc)
false_or_has_both_false false b h = (refl, h)

true_and_has_both_true : (a b : Bool) → (a && b) ≡ true → (a ≡ true) × (b ≡ true)
true_and_has_both_true true b h = (refl, h)
true_and_has_both_true false b h = (h, cc)

-- There are 16 to 16,777,216 bytes. The last 16 contain the letters UFD, and a bLength from 16 up to the number of bytes.
pub record HasSuffixForm (b : List ℕ) : Type 0 where
  pub small : length b ≤ 16777216
  pub long : 16 ≤ length b
  pub has_letter_u : get_or (tail_of b) 8 0 ≡ 0x55
  pub has_letter_f : get_or (tail_of b) 9 0 ≡ 0x46
  pub has_letter_d : get_or (tail_of b) 10 0 ≡ 0x44
  pub whole : 16 ≤ get_or (tail_of b) 11 0
  pub within : get_or (tail_of b) 11 0 ≤ length b

-- If bytes have none of the first four faults, they have the form of a file with a suffix.
pub formed : (b : List ℕ) → has_fault b TooLarge ≡ false → has_fault b TooShort ≡ false → has_fault b NoSignature ≡ false →
    has_fault b BadLength ≡ false → HasSuffixForm b
formed b large short unsigned bad =
    let t = tail_of b in
    let s0 = true_and_has_both_true (eqb (get_or t 8 0) 0x55) (eqb (get_or t 9 0) 0x46 && eqb (get_or t 10 0) 0x44) (not-false (is_signed t)
    unsigned) in
    let s1 = true_and_has_both_true (eqb (get_or t 9 0) 0x46) (eqb (get_or t 10 0) 0x44) s0.1 in
    let l = false_or_has_both_false (ltb (get_or t 11 0) 16) (ltb (length b) (get_or t 11 0)) bad in
    record {
      small = ltb-false 16777216 (length b) large;
      long = ltb-false (length b) 16 short;
      has_letter_u = eqb-true (get_or t 8 0) 0x55 s0.0;
      has_letter_f = eqb-true (get_or t 9 0) 0x46 s1.0;
      has_letter_d = eqb-true (get_or t 10 0) 0x44 s1.1;
      whole = ltb-false (get_or t 11 0) 16 l.0;
      within = ltb-false (length b) (get_or t 11 0) l.1;
    }

-- The dwCRC of the bytes is the register over all bytes before it.
abbrev pub IsIntact : List ℕ → Type 0
IsIntact b = little_number 4 (drop 12 (tail_of b)) ≡ register (take (length b - 4) b)

-- Without the fault BadCrc, the dwCRC of bytes is right.
pub no_crc_fault_means_intact : (b : List ℕ) → has_fault b BadCrc ≡ false → IsIntact b
no_crc_fault_means_intact b h =
    let crc = little_number 4 (drop 12 (tail_of b)) in
    eqb-true crc (register (take (length b - 4) b)) (not-false (eqb crc (register (take (length b - 4) b))) h)

-- The bytes have the form of a file with a suffix, bcdDFU isn't 011Ah, and dwCRC is right.
pub record HasNoFaults (b : List ℕ) : Type 0 where
  pub formed : HasSuffixForm b
  pub not_dfuse : little_number 2 (drop 6 (tail_of b)) ≢ 0x011A
  pub crc : IsIntact b

-- If the search finds no fault in bytes, they satisfy `HasNoFaults`.
pub faultless_bytes_are_sound : (b : List ℕ) → find (has_fault b) fault_order ≡ None → HasNoFaults b
faultless_bytes_are_sound b h =
    let p0 = no_fault_passes_condition (has_fault b TooLarge) TooLarge (find (has_fault b) (TooShort ∷ NoSignature ∷ BadLength ∷ DfuSe ∷
    BadCrc ∷ [])) h in
    let p1 = no_fault_passes_condition (has_fault b TooShort) TooShort (find (has_fault b) (NoSignature ∷ BadLength ∷ DfuSe ∷ BadCrc ∷ []))
    p0.1 in
    let p2 = no_fault_passes_condition (has_fault b NoSignature) NoSignature (find (has_fault b) (BadLength ∷ DfuSe ∷ BadCrc ∷ [])) p1.1 in
    let p3 = no_fault_passes_condition (has_fault b BadLength) BadLength (find (has_fault b) (DfuSe ∷ BadCrc ∷ [])) p2.1 in
    let p4 = no_fault_passes_condition (has_fault b DfuSe) DfuSe (find (has_fault b) (BadCrc ∷ [])) p3.1 in
    let p5 = no_fault_passes_condition (has_fault b BadCrc) BadCrc (find (has_fault b) []) p4.1 in
    record {
      formed = formed b p0.0 p1.0 p2.0 p3.0;
      not_dfuse = λ e. let yes = eq-eqb (little_number 2 (drop 6 (tail_of b))) 0x011A e in cc;
      crc = no_crc_fault_means_intact b p5.0;
    }

-- Extra bytes of a suffix, which are before its last 16 bytes.
abbrev pub extra_bytes_of : List ℕ → List ℕ
extra_bytes_of b = take (get_or (tail_of b) 11 0 - 16) (drop (length b - get_or (tail_of b) 11 0) b)

tail_has_16_bytes : (b : List ℕ) → 16 ≤ length b → length (tail_of b) ≡ 16
tail_has_16_bytes b h = length-drop (length b - 16) b ∙ omega arith

-- A suffix has bLength bytes: its last 16, and the extra bytes.
pub suffix_length_counts_extra : (b : List ℕ) → HasSuffixForm b → 16 + length (extra_bytes_of b) ≡ get_or (tail_of b) 11 0
suffix_length_counts_extra b s =
    let l = get_or (tail_of b) 11 0 in
    let w = s.whole in
    let i = s.within in
    let e = length-take (l - 16) (drop (length b - l) b) in
    let d = length-drop (length b - l) b in
    omega arith

-- The payload, the extra bytes and the last 16 bytes are all bytes of the file.
payload_extra_and_tail_make_file : (b : List ℕ) → HasSuffixForm b → take (length b - get_or (tail_of b) 11 0) b ++ (extra_bytes_of b
    ++ tail_of b) ≡ b
payload_extra_and_tail_make_file b s =
    let l = get_or (tail_of b) 11 0 in
    let w = s.whole in
    let i = s.within in
    let place : (length b - l) + (l - 16) ≡ length b - 16 = omega arith in
    let rest : drop (l - 16) (drop (length b - l) b) ≡ tail_of b = drop-drop (l - 16) (length b - l) b ∙ ap (λ (k : ℕ). drop k b) place in
    ap (λ (xs : List ℕ). take (length b - l) b ++ (extra_bytes_of b ++ xs)) (sym rest)
    ∙ (ap (λ (xs : List ℕ). take (length b - l) b ++ xs) (take-append-drop (l - 16) (drop (length b - l) b))
    ∙ take-append-drop (length b - l) b)

-- The first twelve of the last 16 bytes, which are the fields before dwCRC.
abbrev fields_of_tail : List ℕ → List ℕ
fields_of_tail t = get_or t 0 0 ∷ get_or t 1 0 ∷ get_or t 2 0 ∷ get_or t 3 0 ∷ get_or t 4 0 ∷ get_or t 5 0 ∷ get_or t 6 0 ∷ get_or t 7
    0 ∷ get_or t 8 0 ∷ get_or t 9 0 ∷ get_or t 10 0 ∷ get_or t 11 0 ∷ []

-- The last four bytes, which are dwCRC.
abbrev crc_bytes_of_tail : List ℕ → List ℕ
crc_bytes_of_tail t = get_or t 12 0 ∷ get_or t 13 0 ∷ get_or t 14 0 ∷ get_or t 15 0 ∷ []

tail_is_fields_and_crc : (t : List ℕ) → length t ≡ 16 → t ≡ fields_of_tail t ++ crc_bytes_of_tail t
tail_is_fields_and_crc t h = drop_is_numbers_of_list 16 0 t (sym h)

-- The fields that are read from the last 16 bytes are encoded as the first twelve of these bytes.
read_fields_spell_fields : (b : List ℕ) → HasSuffixForm b → AreBytes b →
    fields_before_crc (content_of b).ids (content_of b).dfu (extra_bytes_of b)
    ≡ fields_of_tail (tail_of b)
read_fields_spell_fields b s f =
    let t = tail_of b in
    let ft : AreBytes t = AreBytes-drop b (length b - 16) f in
    let d = two_byte_number_is_spelled t 0 ft in
    let p = two_byte_number_is_spelled t 2 ft in
    let v = two_byte_number_is_spelled t 4 ft in
    let u = two_byte_number_is_spelled t 6 ft in
    let l = suffix_length_counts_extra b s in
    let lu = s.has_letter_u in
    let lf = s.has_letter_f in
    let ld = s.has_letter_d in
    cc

read_crc_spells_crc : (t : List ℕ) → AreBytes t → to_le_bytes w32 (little_number 4 (drop 12 t)) ≡ crc_bytes_of_tail t
read_crc_spells_crc t f =
    let a = get_or-drop 12 t 0 0 in
    let b = get_or-drop 12 t 1 0 in
    let c = get_or-drop 12 t 2 0 in
    let d = get_or-drop 12 t 3 0 in
    let four = number_has_four_bytes (get_or (drop 12 t) 0 0) (get_or (drop 12 t) 1 0) (get_or (drop 12 t) 2 0) (get_or (drop 12 t) 3 0)
    (omega (arith, f 12)) (omega (arith, f 13)) (omega (arith, f 14)) (omega (arith, f 15)) in
    four ∙ cc

-- A field of two bytes is below 2^16.
pub tail_field_fits_two_bytes : (b : List ℕ) (i : ℕ) → AreBytes b → little_number 2 (drop i (tail_of b)) < 2 ^ 16
tail_field_fits_two_bytes b i f = two_bytes_fit_16_bits (drop i (tail_of b)) (AreBytes-drop (tail_of b) i (AreBytes-drop b (length b - 16)
    f))

-- A suffix has at most 239 extra bytes.
pub extra_fits : (b : List ℕ) → HasSuffixForm b → AreBytes b → length (extra_bytes_of b) ≤ 239
extra_fits b s f = omega (arith, suffix_length_counts_extra b s, AreBytes-drop b (length b - 16) f 11)

-- The bytes of a file with a right dwCRC are the encoding of the content that is read from their end.
pub spelled : (b : List ℕ) → HasSuffixForm b → IsIntact b → AreBytes b →
    IsSpelledFile (content_of b).payload (content_of b).ids (content_of b).dfu (extra_bytes_of b) b
spelled b s right f =
    let t = tail_of b in
    let ft : AreBytes t = AreBytes-drop b (length b - 16) f in
    let payload = take (length b - get_or t 11 0) b in
    let front = payload ++ (extra_bytes_of b ++ fields_of_tail t) in
    let before = before_crc (content_of b).payload (content_of b).ids (content_of b).dfu (extra_bytes_of b) in
    let same : before ≡ front = ap (λ (xs : List ℕ). payload ++ (extra_bytes_of b ++ xs)) (read_fields_spell_fields b s f) in
    let seam : payload ++ (extra_bytes_of b ++ (fields_of_tail t ++ crc_bytes_of_tail t)) ≡ front
    ++ crc_bytes_of_tail t = sym (simp append_assoc) in
    let whole : b ≡ front ++ crc_bytes_of_tail t =
    sym (payload_extra_and_tail_make_file b s) ∙ (ap (λ (xs : List ℕ). payload ++ (extra_bytes_of b
    ++ xs)) (tail_is_fields_and_crc t (tail_has_16_bytes b s.long)) ∙ seam) in
    let len : length front ≡ length b - 4 = omega (arith, ap length whole, length-append front (crc_bytes_of_tail t)) in
    let cut : take (length b - 4) b ≡ front = ap (take (length b - 4)) whole ∙ take_at front (crc_bytes_of_tail t) (length b - 4) len in
    let crc : to_le_bytes w32 (register before) ≡ crc_bytes_of_tail t =
    ap (λ (xs : List ℕ). to_le_bytes w32 (register xs)) (same ∙ sym cut) ∙ (ap (to_le_bytes w32) (sym right) ∙ read_crc_spells_crc t ft) in
    whole ∙ (ap (λ (xs : List ℕ). xs ++ crc_bytes_of_tail t) (sym same) ∙ ap (λ (xs : List ℕ). before ++ xs) (sym crc))

-- Bytes without a fault are a file of the grammar, with the content that is read from their end.
pub faultless_bytes_are_file : (b : List ℕ) → HasNoFaults b → AreBytes b
    → IsFile (content_of b).payload (content_of b).ids (content_of b).dfu (extra_bytes_of b) b
faultless_bytes_are_file b s f = record {
  spelled = spelled b s.formed s.crc f;
  extra_fits = extra_fits b s.formed f;
  device_fits = tail_field_fits_two_bytes b 0 f;
  product_fits = tail_field_fits_two_bytes b 2 f;
  vendor_fits = tail_field_fits_two_bytes b 4 f;
  dfu_fits = tail_field_fits_two_bytes b 6 f;
  not_dfuse = s.not_dfuse;
  small = s.formed.small;
}
