-- Reading from the end returns the parts of a file of the grammar, and the first fault of any other bytes.
use Rattle.std.specs.Prelude.{find}
use Rattle.std.specs.Int.{w32, to_le_bytes}
use Rattle.std.specs.Int.Bits.{bit_xor}
use Rattle.std.proofs.Common.{◌≡◌, ◌≢◌, ◌↔◌, ℕ, ◌+◌, ◌-◌, ◌*◌, ◌/◌, ◌%◌, ◌^◌, ◌<◌, ◌≤◌, ◌||◌, Bool, true, false, not, cond, eqb, ltb, List, [], ◌∷◌, ◌++◌, length, take, drop, get_or, Option, Some, None, Result, Ok, Err, inl, inr, refl, sym, ap, ◌∙◌, arith, length-append}
use Rattle.std.proofs.lemmas.Bool.{eq-eqb}
use Rattle.std.proofs.lemmas.Bool.Decides.{nat_tests, eqb_tells}
use Rattle.std.proofs.lemmas.Nat.{xor_lt}
use Rattle.std.proofs.lemmas.List.{append_assoc, take_at, drop_at}
use Rattle.byteorder.specs.Endian.{little_number}
use Rattle.dfu_suffix.specs.Register.{after_bit, after_bits, bits_of, register}
use Rattle.dfu_suffix.specs.Grammar.{Content, IsFile, First, fields_before_crc, before_crc, tail_of, is_signed, has_fault, fault_order}
use Rattle.dfu_suffix.specs.inside.Reading.{content_of, content_unless_fault, read_content}
use Rattle.dfu_suffix.specs.Laws.{FilesHaveNoFault, OneReading}
use Rattle.dfu_wire.specs.declared.ids.Ids.{Ids}
use Rattle.dfu_suffix.specs.declared.fault.SuffixFault.{SuffixFault}
use Rattle.dfu_suffix.specs.declared.fault.SuffixFault.TheVariants.{TooShort, NoSignature, BadLength, DfuSe, BadCrc, TooLarge}

-- After one more bit, a 32-bit register still fits in 32 bits.
after_bit-fits : (r bit : ℕ) → r < 2 ^ 32 → after_bit r bit < 2 ^ 32
after_bit-fits r bit h =
    let half : r / 2 < 2 ^ 32 = omega arith in
    let mixed : bit_xor (r / 2) 0xEDB8_8320 < 2 ^ 32 = xor_lt 32 (r / 2) 0xEDB8_8320 half (omega arith) in
    elim (eqb (r % 2) bit) as (λ t. cond t (r / 2) (bit_xor (r / 2) 0xEDB8_8320) < 2 ^ 32) [ true ↦ half | false ↦ mixed ]

-- After any number of bits, a 32-bit register still fits in 32 bits.
after_bits-fits : (bits : List ℕ) (r : ℕ) → r < 2 ^ 32 → after_bits r bits < 2 ^ 32
unfolding after_bits
after_bits-fits [] r h = h
after_bits-fits (bit ∷ bits) r h = after_bits-fits bits (after_bit r bit) (after_bit-fits r bit h)

-- The register over bytes fits in 32 bits.
pub register-fits : (bytes : List ℕ) → register bytes < 2 ^ 32
unfolding register after_bits bits_of
register-fits bytes = after_bits-fits (bits_of bytes) 0xFFFF_FFFF (omega arith)

-- A number below 2^16 is restored from its two bytes.
two_bytes_give_number_back : (n : ℕ) → n < 2 ^ 16 → n % 256 + 256 * (n / 256 % 256 + 256 * 0) ≡ n
two_bytes_give_number_back n h = omega arith

-- A number below 2^32 is restored from its four bytes.
pub four_bytes_give_number_back : (n : ℕ) → n < 2 ^ 32 → n % 256 + 256 * (n / 256 % 256 + 256 * (n / 65536 % 256 + 256 * (n / 16777216 %
    256 + 256 * 0))) ≡ n
four_bytes_give_number_back n h = omega arith

-- A result is a fault exactly if the search found this fault.
fault_answer_was_found : (o : Option SuffixFault) (c : Content) (f : SuffixFault) → (content_unless_fault o c ≡ Err f) ↔ (o ≡ Some f)
fault_answer_was_found None c f = (λ h. cc, λ h. cc)
fault_answer_was_found (Some x) c f = (λ h. cc, λ h. cc)

-- Reading returns a fault exactly if it is the first fault of the bytes.
pub fault_of_reading_is_first : (b : List ℕ) (f : SuffixFault) → (read_content b ≡ Err f) ↔ First f b
unfolding read_content
fault_of_reading_is_first b f = fault_answer_was_found (find (has_fault b) fault_order) (content_of b) f

-- If a condition for a fault is false, and the others find no fault, the list of conditions finds none.
false_fault_is_skipped : {X : Type 0} (t : Bool) (x : X) (o : Option X) → t ≡ false → o ≡ None → cond t (Some x) o ≡ None
false_fault_is_skipped true x o h e = cc
false_fault_is_skipped false x o h e = e

-- If `b` is at most `a`, the test `a < b` is false.
pub number_is_not_less : (a b : ℕ) → b ≤ a → ltb a b ≡ false
number_is_not_less a b h = grind (arith, nat_tests)

-- The equality test of two different numbers is false.
different_numbers_test_false : (a b : ℕ) → a ≢ b → eqb a b ≡ false
different_numbers_test_false a b h = elim (eqb_tells a b) [ inl p ↦ absurd (h p.1) | inr p ↦ p.0 ]

-- If a and b are false, a || b is false.
or_of_false_tests_is_false : (a b : Bool) → a ≡ false → b ≡ false → (a || b) ≡ false
or_of_false_tests_is_false true b h e = h
or_of_false_tests_is_false false b h e = e

-- The bytes are the encoding of these parts. bcdDFU may be that of DfuSe.
abbrev pub IsSpelledFile : List ℕ → Ids → ℕ → List ℕ → List ℕ → Type 0
IsSpelledFile payload ids dfu extra b = b ≡ before_crc payload ids dfu extra
    ++ to_le_bytes w32 (register (before_crc payload ids dfu extra))

-- The content of a file with these parts.
abbrev pub content_of_parts : List ℕ → Ids → ℕ → ℕ → Content
content_of_parts payload ids dfu suffix = record { payload = payload; ids = ids; dfu = dfu; suffix = suffix }

-- Contents with equal parts are equal.
parts_determine_contents : (p p' : List ℕ) (d d' e e' v v' u u' s s' : ℕ) → p ≡ p' → d ≡ d' → e ≡ e' → v ≡ v' → u ≡ u' → s ≡ s' →
    content_of_parts p (record { device = d; product = e; vendor = v }) u s
    ≡ content_of_parts p' (record { device = d'; product = e'; vendor = v' }) u'
    s'
parts_determine_contents p p' d d' e e' v v' u u' s s' h0 h1 h2 h3 h4 h5 = cc

-- The length of an encoded file is that of its payload, its extra bytes and 16 more, and it ends in its fields and dwCRC.
spelled_file_ends_in_its_suffix : (payload extra b : List ℕ) (ids : Ids) (dfu : ℕ) → IsSpelledFile payload ids dfu extra b →
    (length b ≡ length payload + length extra + 16)
    × (tail_of b ≡ fields_before_crc ids dfu extra ++ to_le_bytes w32 (register (before_crc payload ids dfu extra)))
spelled_file_ends_in_its_suffix payload extra b ids dfu h =
    let end = fields_before_crc ids dfu extra ++ to_le_bytes w32 (register (before_crc payload ids dfu extra)) in
    let whole : b ≡ (payload ++ extra) ++ end = h ∙ simp append_assoc in
    let len : length b ≡ length payload + length extra + 16 =
    ap length whole ∙ (length-append (payload ++ extra) end ∙ ap (λ (k : ℕ). k + 16) (length-append payload extra)) in
    (len, ap (drop (length b - 16)) whole ∙ drop_at (payload ++ extra) end (length b - 16) (omega (arith, len, length-append payload extra)))

-- The payload of an encoded file is all but the last bLength bytes.
pub spelled_payload_is_read_back : (payload extra b : List ℕ) (ids : Ids) (dfu : ℕ) → IsSpelledFile payload ids dfu extra b →
    take (length b - get_or (tail_of b) 11 0) b ≡ payload
spelled_payload_is_read_back payload extra b ids dfu h =
    let tail = spelled_file_ends_in_its_suffix payload extra b ids dfu h in
    let l = get_or (tail_of b) 11 0 in
    let length_is : l ≡ 16 + length extra = ap (λ (t : List ℕ). get_or t 11 0) tail.1 in
    let end = fields_before_crc ids dfu extra ++ to_le_bytes w32 (register (before_crc payload ids dfu extra)) in
    let whole : b ≡ payload ++ (extra ++ end) = h ∙ simp append_assoc in
    ap (take (length b - l)) whole ∙ take_at payload (extra ++ end) (length b - l) (omega (arith, length_is, tail.0))

-- The bytes have no fault, except perhaps DfuSe, and their last 16 bytes contain these parts.
pub record PartsAreRead (payload : List ℕ) (ids : Ids) (dfu : ℕ) (extra b : List ℕ) : Type 0 where
  pub small : has_fault b TooLarge ≡ false
  pub long : has_fault b TooShort ≡ false
  pub signed : has_fault b NoSignature ≡ false
  pub within : has_fault b BadLength ≡ false
  pub intact : has_fault b BadCrc ≡ false
  pub version : little_number 2 (drop 6 (tail_of b)) ≡ dfu
  pub content : content_of b ≡ content_of_parts payload ids dfu (16 + length extra)

-- From the encoding of a file, reading finds the parts that were encoded, if the numbers fit and the bytes are within the limit.
pub parts_are_read : (payload : List ℕ) (ids : Ids) (dfu : ℕ) (extra b : List ℕ) → IsSpelledFile payload ids dfu extra b →
    ids.device < 2 ^ 16 →
    ids.product < 2 ^ 16 → ids.vendor < 2 ^ 16 → dfu < 2 ^ 16 → length b ≤ 16777216 → PartsAreRead payload ids dfu extra b
parts_are_read payload ids dfu extra b whole device_fits product_fits vendor_fits dfu_fits small =
    let front = before_crc payload ids dfu extra in
    let r = register front in
    let q = to_le_bytes w32 r in
    let tailed = spelled_file_ends_in_its_suffix payload extra b ids dfu whole in
    let len = tailed.0 in
    let tail = tailed.1 in
    let len_front : length front ≡ length b - 4 = omega (arith, ap length whole, length-append front q) in
    let cut : take (length b - 4) b ≡ front = ap (take (length b - 4)) whole ∙ take_at front q (length b - 4) len_front in
    let suffix : get_or (tail_of b) 11 0 ≡ 16 + length extra = ap (λ (t : List ℕ). get_or t 11 0) tail in
    let version : little_number 2 (drop 6 (tail_of b)) ≡ dfu = ap (λ (t : List ℕ). little_number 2 (drop 6 t)) tail
    ∙ two_bytes_give_number_back dfu dfu_fits in
    let crc : little_number 4 (drop 12 (tail_of b)) ≡ r = ap (λ (t : List ℕ). little_number 4 (drop 12 t)) tail
    ∙ four_bytes_give_number_back r (register-fits front) in
    let d : little_number 2 (drop 0 (tail_of b)) ≡ ids.device = ap (λ (t : List ℕ). little_number 2 (drop 0 t)) tail
    ∙ two_bytes_give_number_back ids.device device_fits in
    let p : little_number 2 (drop 2 (tail_of b)) ≡ ids.product = ap (λ (t : List ℕ). little_number 2 (drop 2 t)) tail
    ∙ two_bytes_give_number_back ids.product product_fits in
    let v : little_number 2 (drop 4 (tail_of b)) ≡ ids.vendor = ap (λ (t : List ℕ). little_number 2 (drop 4 t)) tail
    ∙ two_bytes_give_number_back ids.vendor vendor_fits in
    record {
      small = number_is_not_less 16777216 (length b) small;
      long = number_is_not_less (length b) 16 (omega (arith, len));
      signed = ap (λ (t : List ℕ). not (is_signed t)) tail;
      within = or_of_false_tests_is_false (ltb (get_or (tail_of b) 11 0) 16) (ltb (length b) (get_or (tail_of b) 11 0))
          (number_is_not_less (get_or (tail_of b) 11 0) 16 (omega (arith, suffix)))
          (number_is_not_less (length b) (get_or (tail_of b) 11 0) (omega (arith, suffix, len)));
      intact = ap not (eq-eqb (little_number 4 (drop 12 (tail_of b))) (register (take (length b - 4) b)) (crc ∙ ap register (sym cut)));
      version = version;
      content = parts_determine_contents _ _ _ _ _ _ _ _ _ _ _ _ (spelled_payload_is_read_back payload extra b ids dfu whole) d p v version
          suffix;
    }

-- Reading a file of the grammar returns its parts.
pub grammar_file_is_read : (payload : List ℕ) (ids : Ids) (dfu : ℕ) (extra b : List ℕ) → IsFile payload ids dfu extra b →
    read_content b ≡ Ok (record { payload = payload; ids = ids; dfu = dfu; suffix = 16 + length extra })
unfolding read_content
grammar_file_is_read payload ids dfu extra b h =
    let r = parts_are_read payload ids dfu extra b h.spelled h.device_fits h.product_fits h.vendor_fits h.dfu_fits h.small in
    let other : has_fault b DfuSe ≡ false = different_numbers_test_false (little_number 2 (drop 6 (tail_of b))) 0x011A (λ e. h.not_dfuse
    (sym r.version ∙ e)) in
    let none : find (has_fault b) fault_order ≡ None =
    false_fault_is_skipped (has_fault b TooLarge) TooLarge _ r.small (false_fault_is_skipped (has_fault b TooShort) TooShort _ r.long
    (false_fault_is_skipped (has_fault b NoSignature) NoSignature _ r.signed (false_fault_is_skipped (has_fault b BadLength) BadLength _
    r.within
    (false_fault_is_skipped (has_fault b DfuSe) DfuSe _ other (false_fault_is_skipped (has_fault b BadCrc) BadCrc _ r.intact refl))))) in
    ap (λ (o : Option SuffixFault). content_unless_fault o (content_of b)) none ∙ ap Ok r.content

-- In a file of the grammar, the extra bytes follow the payload, and 16 bytes follow the extra bytes.
pub extra_bytes_follow_payload : (payload : List ℕ) (ids : Ids) (dfu : ℕ) (extra b : List ℕ) → IsFile payload ids dfu extra b →
    (length b ≡ length payload + length extra + 16) × (extra ≡ take (length extra) (drop (length payload) b))
extra_bytes_follow_payload payload ids dfu extra b h =
    let front = before_crc payload ids dfu extra in
    let a = fields_before_crc ids dfu extra in
    let q = to_le_bytes w32 (register front) in
    let seam : front ++ q ≡ payload ++ (extra ++ (a ++ q)) = simp append_assoc in
    let whole : b ≡ payload ++ (extra ++ (a ++ q)) = h.spelled ∙ seam in
    let len : length b ≡ length payload + length extra + 16 =
    omega (arith, ap length whole, length-append payload (extra ++ (a ++ q)), length-append extra (a ++ q)) in
    let after : drop (length payload) b ≡ extra ++ (a ++ q) = ap (drop (length payload)) whole
    ∙ drop_at payload (extra ++ (a ++ q)) (length payload) refl in
    (len, sym (ap (take (length extra)) after ∙ take_at extra (a ++ q) (length extra) refl))

-- A file of the grammar has no fault.
pub file_bytes_have_no_fault : FilesHaveNoFault
file_bytes_have_no_fault b fault (payload, ids, dfu, extra, h) first =
    let right = grammar_file_is_read payload ids dfu extra b h in
    let wrong = (fault_of_reading_is_first b fault).1 first in
    cc

-- Contents that are equal have equal parts.
equal_contents_have_equal_parts : (p q : List ℕ) (i j : Ids) (d e n m : ℕ) →
    ◌≡◌ {A = Result Content SuffixFault} (Ok (record { payload = p; ids = i; dfu = d; suffix = n }))
    (Ok (record { payload = q; ids = j; dfu = e; suffix = m })) → (p ≡ q) × (i ≡ j) × (d ≡ e) × (n ≡ m)
equal_contents_have_equal_parts p q i j d e n m h =
    let same : ◌≡◌ {A = Content} (record { payload = p; ids = i; dfu = d; suffix = n })
    (record { payload = q; ids = j; dfu = e; suffix = m }) = cc in (
      ap (λ (c : Content). c.payload) same,
      ap (λ (c : Content). c.ids) same,
      ap (λ (c : Content). c.dfu) same,
      ap (λ (c : Content). c.suffix) same,
    )

-- Bytes can be read as a file of the grammar in at most one way.
pub one_reading : OneReading
one_reading b p q i j d e x y h k =
    let same = equal_contents_have_equal_parts p q i j d e (16 + length x) (16 + length y) (sym (grammar_file_is_read p i d x b h)
    ∙ grammar_file_is_read q j e y b k) in
    let long : length x ≡ length y = omega (arith, same.3) in
    let mine = (extra_bytes_follow_payload p i d x b h).1 in
    let yours = (extra_bytes_follow_payload q j e y b k).1 in
    let moved : take (length x) (drop (length p) b) ≡ take (length y) (drop (length q) b) =
    ap (λ (n : ℕ). take n (drop (length p) b)) long ∙ ap (λ (zs : List ℕ). take (length y) (drop (length zs) b)) same.0 in
    (same.0, same.1, same.2, mine ∙ (moved ∙ sym yours))
