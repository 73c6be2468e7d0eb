-- `read` and `check` agree, because both depend only on the last 16 bytes, the count and the register over all bytes.
use Rattle.std.proofs.Common.{Option, ◌≡◌, ◌↔◌, ℕ, ◌-◌, ◌≤◌, ◌||◌, Bool, true, false, not, cond, eqb, ltb, List, [], ◌∷◌, length, take, drop, get_or, Some, None, Result, Ok, Err, IfOk, refl, sym, ap, ◌∙◌, arith}
use Rattle.std.specs.Prelude.{find}
use Rattle.std.proofs.lemmas.Bool.{eqb-true, eq-eqb, ltb-false}
use Rattle.std.proofs.lemmas.List.{length-take-le}
use Rattle.byteorder.specs.Endian.{little_number}
use Rattle.dfu_suffix.specs.Register.{register}
use Rattle.dfu_suffix.specs.Grammar.{Content, tail_of, is_signed, has_fault, fault_order}
use Rattle.dfu_suffix.specs.inside.Reading.{content_of, content_unless_fault, read_content}
use Rattle.dfu_suffix.specs.inside.TailChecks.{summary_of_tail, tail_summary, result_unless_bad_crc, checked_by_register}
use Rattle.dfu_suffix.specs.Laws.{AreBytes}
use Rattle.dfu_suffix.proofs.OneReading.{number_is_not_less}
use Rattle.dfu_suffix.specs.declared.summary.Summary.{Summary}
use Rattle.dfu_wire.specs.declared.ids.Ids.{Ids}
use Rattle.dfu_suffix.specs.declared.fault.SuffixFault.{SuffixFault}
use Rattle.dfu_suffix.specs.declared.fault.SuffixFault.TheVariants.{TooShort, NoSignature, BadLength, DfuSe, BadCrc, TooLarge}
use Rattle.dfu_suffix.proofs.LawProofs.{last_four}
use Rattle.dfu_suffix.proofs.Windows.{window_of, long_window_is_tail, tail_ends_in_last_four}

-- The summary of the content that was read from bytes.
abbrev pub summary_of_content : List ℕ → Content → Summary
summary_of_content bytes c = record {
  payload = length c.payload;
  suffix = c.suffix;
  ids = c.ids;
  dfu = c.dfu;
  crc =
      little_number 4 (drop (length bytes - 4) bytes);
}

-- The result of a check that corresponds to a result of reading: the summary of the content, or the fault.
abbrev pub summary_result_of_reading : List ℕ → Result Content SuffixFault → Result Summary SuffixFault
summary_result_of_reading bytes (Ok c) = Ok (summary_of_content bytes c)
summary_result_of_reading bytes (Err f) = Err f

-- The result of reading that corresponds to a summary and to the test of dwCRC: the content, BadCrc, or the fault of the last 16 bytes.
abbrev pub reading_by_summary : Bool → Result Summary SuffixFault → Content → Result Content SuffixFault
reading_by_summary intact (Ok said) c = cond intact (Ok c) (Err BadCrc)
reading_by_summary intact (Err fault) c = Err fault

-- A search of the five faults in order finds the same fault as a search of the first four and then the test of dwCRC.
fault_order_is_reading_order : (t1 t2 t3 t4 intact : Bool) (said : Summary) (c : Content) →
    content_unless_fault (cond t1 (Some TooShort) (cond t2 (Some NoSignature) (cond t3 (Some BadLength)
    (cond t4 (Some DfuSe) (cond (not intact) (Some BadCrc) None))))) c
    ≡ reading_by_summary intact (cond t1 (Err TooShort) (cond t2 (Err NoSignature) (cond t3 (Err BadLength) (cond t4 (Err DfuSe) (Ok
    said))))) c
fault_order_is_reading_order true t2 t3 t4 intact said c = refl
fault_order_is_reading_order false true t3 t4 intact said c = refl
fault_order_is_reading_order false false true t4 intact said c = refl
fault_order_is_reading_order false false false true intact said c = refl
fault_order_is_reading_order false false false false true said c = refl
fault_order_is_reading_order false false false false false said c = refl

-- True if dwCRC is the register over the bytes before it.
abbrev pub is_intact : List ℕ → Bool
is_intact s = eqb (little_number 4 (drop 12 (tail_of s))) (register (take (length s - 4) s))

-- For bytes within the limit, reading returns the result that the last 16 bytes and the test of dwCRC determine.
pub reading_is_tail_summary : (s : List ℕ) → length s ≤ 16777216 →
    read_content s ≡ reading_by_summary (is_intact s) (tail_summary (tail_of s) (length s)) (content_of s)
unfolding read_content tail_summary
reading_is_tail_summary s small =
    let t = tail_of s in
    let n = length s in
    let c = content_of s in
    let within : ltb 16777216 n ≡ false = number_is_not_less 16777216 n small in
    ap (λ (b : Bool). content_unless_fault (cond b (Some TooLarge) (find (has_fault s)
    (TooShort ∷ NoSignature ∷ BadLength ∷ DfuSe ∷ BadCrc ∷ []))) c) within
    ∙ fault_order_is_reading_order (ltb n 16) (not (is_signed t)) (ltb (get_or t 11 0) 16 || ltb n (get_or t 11 0))
    (eqb (little_number 2 (drop 6 t)) 0x011A) (is_intact s) (summary_of_tail t n) c

-- Two tests are equal if each is true exactly if the other is.
equivalent_tests_equal : (a b : Bool) → ((a ≡ true) ↔ (b ≡ true)) → a ≡ b
equivalent_tests_equal true true h = refl
equivalent_tests_equal true false h = sym (h.0 refl)
equivalent_tests_equal false true h = h.1 refl
equivalent_tests_equal false false h = refl

-- If `a` equals `b` exactly if `c` equals `d`, the tests of both equalities have the same result.
equivalent_equalities_equal : (a b c d : ℕ) → ((a ≡ b) ↔ (c ≡ d)) → eqb a b ≡ eqb c d
equivalent_equalities_equal a b c d h = equivalent_tests_equal (eqb a b) (eqb c d) (
  λ e. eq-eqb c d (h.0 (eqb-true a b e)),
  λ e. eq-eqb a b
      (h.1 (eqb-true c d e)),
)

-- Summaries with equal fields are equal.
pub parts_determine_summaries : (p q s t d x y : ℕ) (i : Ids) → p ≡ q → s ≡ t → x ≡ y →
    ◌≡◌ {A = Summary} (record { payload = p; suffix = s; ids = i; dfu = d; crc = x })
    (record { payload = q; suffix = t; ids = i; dfu = d; crc = y })
parts_determine_summaries p q s t d x y i h0 h1 h2 = cc

-- If the summary `a` equals `b`, a result that is `a` or the fault of one of four tests is `b` or a fault.
ok_tail_summary_equals : (t1 t2 t3 t4 : Bool) (a b : Summary) → a ≡ b →
    IfOk (cond t1 (Err TooShort) (cond t2 (Err NoSignature) (cond t3 (Err BadLength) (cond t4 (Err DfuSe) (Ok a))))) (λ x. x ≡ b)
ok_tail_summary_equals true t2 t3 t4 a b e = tt
ok_tail_summary_equals false true t3 t4 a b e = tt
ok_tail_summary_equals false false true t4 a b e = tt
ok_tail_summary_equals false false false true a b e = tt
ok_tail_summary_equals false false false false a b e = e

-- If a result is the summary of the content or a fault, the result after the test of dwCRC is the one that corresponds to the result of
-- reading.
crc_checked_result_is_reading : (x : Result Summary SuffixFault) (intact : Bool) (s : List ℕ) (c : Content) →
    IfOk x (λ y. y ≡ summary_of_content s c) → result_unless_bad_crc intact x ≡ summary_result_of_reading s (reading_by_summary intact x c)
crc_checked_result_is_reading (Ok y) true s c e = ap Ok e
crc_checked_result_is_reading (Ok y) false s c e = refl
crc_checked_result_is_reading (Err f) intact s c e = refl

-- If the condition is true, the result is the first branch.
true_test_takes_first_branch : {X : Type 0} (t : Bool) (x y : X) → t ≡ true → cond t x y ≡ x
true_test_takes_first_branch true x y e = refl
true_test_takes_first_branch false x y e = cc

-- With fewer than 16 bytes, the result is TooShort for any tail.
short_tail_is_too_short : (t : List ℕ) (n : ℕ) → ltb n 16 ≡ true → tail_summary t n ≡ Err TooShort
unfolding tail_summary
short_tail_is_too_short t n e = true_test_takes_first_branch (ltb n 16) (Err TooShort) _ e

-- With 16 bytes or more, the summary from the last 16 is the summary of the content of all bytes.
tail_summary_sums_content : (s : List ℕ) → 16 ≤ length s → IfOk (tail_summary (tail_of s) (length s)) (λ y. y
    ≡ summary_of_content s (content_of s))
unfolding tail_summary
tail_summary_sums_content s long =
    let t = tail_of s in
    let n = length s in
    let c = content_of s in
    let moved : drop 12 t ≡ drop (n - 4) s = tail_ends_in_last_four s long in
    let spelled_payload_is_read_back : n - get_or t 11 0 ≡ length c.payload = sym (length-take-le (n - get_or t 11 0) s (omega arith)) in
    let same : summary_of_tail t n ≡ summary_of_content s c =
    parts_determine_summaries (n - get_or t 11 0) (length c.payload) (get_or t 11 0) (get_or t 11 0) c.dfu (little_number 4 (drop 12 t))
    (little_number 4 (drop (n - 4) s)) c.ids spelled_payload_is_read_back refl (ap (little_number 4) moved) in
    ok_tail_summary_equals (ltb n 16) (not (is_signed t)) (ltb (get_or t 11 0) 16 || ltb n (get_or t 11 0))
    (eqb (little_number 2 (drop 6 t)) 0x011A) (summary_of_tail t n) (summary_of_content s c) same

-- The register over 16 bytes or more is 0 exactly if their dwCRC is right.
zero_register_exactly_if_intact : (s : List ℕ) → AreBytes s → 16 ≤ length s → eqb (register s) 0 ≡ is_intact s
zero_register_exactly_if_intact s f long =
    let n = length s in
    let last = little_number 4 (drop 12 (tail_of s)) in
    let due = register (take (n - 4) s) in
    let moved : drop 12 (tail_of s) ≡ drop (n - 4) s = tail_ends_in_last_four s long in
    let law = last_four s f (omega arith) in
    equivalent_equalities_equal (register s) 0 last due (
      λ z. ap (little_number 4) moved
          ∙ law.0 z,
      λ z. law.1 (sym (ap (little_number 4) moved) ∙ z),
    )

-- The window gives the same summary as the last 16 bytes, even if there are fewer than 16.
window_summary_is_tail_summary : (s : List ℕ) (short : Bool) → ltb (length s) 16 ≡ short →
    tail_summary (window_of s) (length s) ≡ tail_summary (tail_of s) (length s)
window_summary_is_tail_summary s true e = short_tail_is_too_short (window_of s) (length s) e
    ∙ sym (short_tail_is_too_short (tail_of s) (length s) e)
window_summary_is_tail_summary s false e =
    ap (λ (w : List ℕ). tail_summary w (length s)) (long_window_is_tail s (ltb-false (length s) 16 e))

-- Within the limit, a check of the last 16 bytes, the count and the register gives the summary of what reading all bytes returns.
tail_check_is_reading : (s : List ℕ) → AreBytes s → length s ≤ 16777216 → (short : Bool) → ltb (length s) 16 ≡ short →
    checked_by_register (tail_of s) (length s) (register s) ≡ summary_result_of_reading s (read_content s)
tail_check_is_reading s f small true e =
    ap (result_unless_bad_crc (eqb (register s) 0)) (short_tail_is_too_short (tail_of s) (length s) e)
    ∙ sym (ap (summary_result_of_reading s) (reading_is_tail_summary s small
    ∙ ap (λ (x : Result Summary SuffixFault). reading_by_summary (is_intact s) x (content_of s)) (short_tail_is_too_short (tail_of s)
    (length s) e)))
tail_check_is_reading s f small false e =
    let long : 16 ≤ length s = ltb-false (length s) 16 e in
    ap (λ (b : Bool). result_unless_bad_crc b (tail_summary (tail_of s) (length s))) (zero_register_exactly_if_intact s f long)
    ∙ (crc_checked_result_is_reading (tail_summary (tail_of s) (length s)) (is_intact s) s (content_of s) (tail_summary_sums_content s long)
    ∙ sym (ap (summary_result_of_reading s) (reading_is_tail_summary s small)))

-- Within the limit, a check of the window, the count and the register gives the summary of what reading all bytes returns.
pub window_check_is_reading : (s : List ℕ) → AreBytes s → length s ≤ 16777216
    → checked_by_register (window_of s) (length s) (register s) ≡ summary_result_of_reading s (read_content s)
window_check_is_reading s f small =
    ap (result_unless_bad_crc (eqb (register s) 0)) (window_summary_is_tail_summary s (ltb (length s) 16) refl)
    ∙ tail_check_is_reading s f small (ltb (length s) 16) refl

-- The content of a file, from its summary and, for the payload, its bytes. For a fault, the fault itself.
abbrev pub content_of_summary_result : List ℕ → Result Summary SuffixFault → Result Content SuffixFault
content_of_summary_result s (Ok y) = Ok (record { payload = take (length s - y.suffix) s; ids = y.ids; dfu = y.dfu; suffix = y.suffix })
content_of_summary_result s (Err fault) = Err fault

-- The content that was read can be restored from its summary and the bytes.
summary_gives_content_back : (s : List ℕ) (o : Option SuffixFault) → content_unless_fault o (content_of s)
    ≡ content_of_summary_result s (summary_result_of_reading s (content_unless_fault o (content_of s)))
summary_gives_content_back s None = refl
summary_gives_content_back s (Some fault) = refl

-- Within the limit, reading returns the content that the last 16 bytes, the count and the register determine.
reading_is_content_of_check : (s : List ℕ) → AreBytes s → length s ≤ 16777216
    → read_content s ≡ content_of_summary_result s (checked_by_register (tail_of s) (length s) (register s))
unfolding read_content
reading_is_content_of_check s f small =
    summary_gives_content_back s (find (has_fault s) fault_order)
    ∙ ap (content_of_summary_result s) (sym (tail_check_is_reading s f small (ltb (length s) 16) refl))

-- Within the limit, reading returns the result for the last 16 bytes, or BadCrc if there is no other fault and the register isn't 0.
pub crc_checked_summary_is_reading : (s t : List ℕ) (due : ℕ) (intact : Bool) (r x : Result Summary SuffixFault) → AreBytes s → length s
    ≤ 16777216 →
    t ≡ tail_of s → r ≡ tail_summary t (length s) → r ≡ x → due ≡ register s → eqb due 0 ≡ intact
    → content_of_summary_result s (result_unless_bad_crc intact x) ≡ read_content s
crc_checked_summary_is_reading s t due intact r x f small tail answer is register_is zero =
    let same : x ≡ tail_summary (tail_of s) (length s) = sym is ∙ (answer ∙ ap (λ (w : List ℕ). tail_summary w (length s)) tail) in
    let sound : intact ≡ eqb (register s) 0 = sym zero ∙ ap (λ (n : ℕ). eqb n 0) register_is in
    ap (λ (b : Bool). content_of_summary_result s (result_unless_bad_crc b x)) sound
    ∙ (ap (λ (y : Result Summary SuffixFault). content_of_summary_result s (result_unless_bad_crc (eqb (register s) 0) y)) same
    ∙ sym (reading_is_content_of_check s f small))
