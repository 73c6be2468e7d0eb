-- The encoding of a DfuSe file's elements: reading returns the elements that were encoded, and only those.
use Rattle.std.proofs.Common.{◌≡◌, ℕ, zero, suc, ◌+◌, ◌^◌, ◌≤◌, eqb, ltb, List, [], ◌∷◌, ◌++◌, length, take, drop, Result, Ok, refl, sym, ap, ◌∙◌, subst, arith, length-append, length-take}
use Rattle.std.proofs.lemmas.Bool.{ltb-false, le-ltb}
use Rattle.std.proofs.lemmas.List.{take-append-drop, take_at, drop_at}
use Rattle.dfu_suffix.proofs.Bytes.{AreBytes-drop}
use Rattle.dfu_suffix.specs.Laws.{AreBytes}
use Rattle.dfu_formats.specs.images.Elements.{Piece}
use Rattle.dfu_formats.specs.declared.dfuse.fault.FileFault.{FileFault}
use Rattle.dfu_formats.specs.declared.dfuse.fault.FileFault.TheVariants.{ElementPastTheTarget, EmptyElement, AddressPastTheEnd}
use Rattle.dfu_formats.specs.dfuse.Reading.{SplitElement, ◌>>=◌, number_at, front_element, element_before_others, elements_at}
use Rattle.dfu_formats.specs.dfuse.Grammar.{four_bytes_of, spelled_elements, ElementInRange, ElementsInRange}
use Rattle.dfu_formats.proofs.FileSteps.{ok_sequence_has_ok_steps, passed_condition_is_false, false_condition_is_skipped, ok_values_equal, positive_number_is_not_zero, zero_test_false_means_positive}
use Rattle.dfu_formats.proofs.FileFields.{place_spells_number, number_at_fits_32_bits, number_at_is_read_back}

-- `b` is the encoding of the element of `s`, followed by the rest of `s`. The element is in range, and all items of the rest are bytes.
pub record BeginsWithElement (b : List ℕ) (s : SplitElement) : Type 0 where
  pub spelled : b ≡ four_bytes_of s.element.address ++ (four_bytes_of (length s.element.bytes) ++ (s.element.bytes ++ s.rest))
  pub fits : ElementInRange s.element
  pub bytes : AreBytes s.rest

-- If `front_element` splits an element off the bytes, they begin with the encoding of this element.
pub read_element_is_spelled : (b : List ℕ) (s : SplitElement) → AreBytes b → front_element b ≡ Ok s → BeginsWithElement b s
unfolding front_element
read_element_is_spelled b s f h =
    let n = number_at 4 b in
    let a = number_at 0 b in
    let p0 = passed_condition_is_false (ltb (length b) 8) ElementPastTheTarget _ s h in
    let p1 = passed_condition_is_false (ltb (length (drop 8 b)) n) ElementPastTheTarget _ s p0.1 in
    let p2 = passed_condition_is_false (eqb n 0) EmptyElement _ s p1.1 in
    let p3 = passed_condition_is_false (ltb (2 ^ 32) (a + n)) AddressPastTheEnd _ s p2.1 in
    let long : 8 ≤ length b = ltb-false (length b) 8 p0.0 in
    let room : n ≤ length (drop 8 b) = ltb-false (length (drop 8 b)) n p1.0 in
    let content = take n (drop 8 b) in
    let has : length content ≡ n = length-take n (drop 8 b) ∙ omega (arith, room) in
    let d8 : drop 8 b ≡ content ++ drop n (drop 8 b) = sym (take-append-drop n (drop 8 b)) in
    let d4 : drop 4 b ≡ four_bytes_of (length content) ++ drop 8 b = place_spells_number 4 8 b f refl long
    ∙ ap (λ (k : ℕ). four_bytes_of k ++ drop 8 b)
    (sym has) in
    let d0 : b ≡ four_bytes_of a ++ drop 4 b = place_spells_number 0 4 b f refl (omega (arith, long)) in
    let whole = d0 ∙ ap (λ (z : List ℕ). four_bytes_of a ++ z) (d4 ∙ ap (λ (z : List ℕ). four_bytes_of (length content) ++ z) d8) in
    subst (λ (t : SplitElement). BeginsWithElement b t) (ok_values_equal _ s p3.1) (record {
      spelled = whole;
      fits = record {
        some = omega (arith, has, zero_test_false_means_positive n p2.0);
        size_fits = omega (arith, has, number_at_fits_32_bits 4 b f);
        within = omega (arith, has, ltb-false (2 ^ 32) (a + n) p3.0);
      };
      bytes = AreBytes-drop (drop 8 b) n (AreBytes-drop b 8 f);
    })

-- Two split elements are equal if their addresses, bytes and rests are equal.
split_elements_equal : (a c : ℕ) (d e r s : List ℕ) → a ≡ c → d ≡ e → r ≡ s →
    ◌≡◌ {A = SplitElement} (record { element = record { address = a; bytes = d }; rest = r })
    (record { element = record { address = c; bytes = e }; rest = s })
split_elements_equal a c d e r s h0 h1 h2 = cc

-- If bytes begin with the encoding of an element in range, `front_element` splits this element off.
pub spelled_element_is_read : (e : Piece) (rest : List ℕ) → ElementInRange e →
    front_element (four_bytes_of e.address ++ (four_bytes_of (length e.bytes) ++ (e.bytes ++ rest))) ≡ Ok
    (record { element = e; rest = rest })
unfolding front_element
spelled_element_is_read e rest h =
    let n = length e.bytes in
    let b = four_bytes_of e.address ++ (four_bytes_of n ++ (e.bytes ++ rest)) in
    let address : number_at 0 b ≡ e.address = number_at_is_read_back e.address 0 b (four_bytes_of n ++ (e.bytes ++ rest))
    (omega (arith, h.some, h.within)) refl in
    let size : number_at 4 b ≡ n = number_at_is_read_back n 4 b (e.bytes ++ rest) h.size_fits refl in
    let behind : drop 8 b ≡ e.bytes ++ rest = refl in
    let got : take (number_at 4 b) (drop 8 b) ≡ e.bytes = take_at e.bytes rest (number_at 4 b) (sym size) in
    let left : drop (number_at 4 b) (drop 8 b) ≡ rest = drop_at e.bytes rest (number_at 4 b) (sym size) in
    let len : length b ≡ 8 + (n + length rest) = omega (arith, length-append e.bytes rest) in
    false_condition_is_skipped (ltb (length b) 8) ElementPastTheTarget _ _ (le-ltb (length b) 8 (omega (arith, len)))
    (false_condition_is_skipped (ltb (length (drop 8 b)) (number_at 4 b)) ElementPastTheTarget _ _
    (le-ltb (length (drop 8 b)) (number_at 4 b) (omega (arith, size, length-append e.bytes rest)))
    (false_condition_is_skipped (eqb (number_at 4 b) 0) EmptyElement _ _ (positive_number_is_not_zero (number_at 4 b) (omega (
      arith,
      size,
      h.some,
    )))
    (false_condition_is_skipped (ltb (2 ^ 32) (number_at 0 b + number_at 4 b)) AddressPastTheEnd _ _
    (le-ltb (2 ^ 32) (number_at 0 b + number_at 4 b) (omega (arith, address, size, h.within)))
    (ap Ok (split_elements_equal _ _ _ _ _ _ address got left)))))

-- `b` is the encoding of the `count` items of `xs`, one after the other, and all of them fit their fields.
pub record IsSpelledList {A : Type 0} (spelled_as : List A → List ℕ) (Fit : List A →
    Type 0) (count : ℕ) (b : List ℕ) (xs : List A) : Type 0 where
  pub spelled : b ≡ spelled_as xs
  pub number : length xs ≡ count
  pub fit : Fit xs

-- The empty list of bytes is the encoding of the empty list of items that is read from it.
pub no_bytes_spell_no_items : {A : Type 0} (spelled_as : List A → List ℕ) (Fit : List A → Type 0) (xs : List A) → [] ≡ spelled_as [] →
    Fit [] →
    ◌≡◌ {A = Result (List A) FileFault} (Ok []) (Ok xs) → IsSpelledList spelled_as Fit 0 [] xs
no_bytes_spell_no_items spelled_as Fit xs spelled fit h =
    subst (λ zs. IsSpelledList spelled_as Fit 0 [] zs) (ok_values_equal [] xs h) (record { spelled = spelled; number = refl; fit = fit })

-- `b` is the encoding of these `count` elements, each in range, and nothing more.
abbrev pub AreSpelledElements : ℕ → List ℕ → List Piece → Type 0
AreSpelledElements count b es = IsSpelledList spelled_elements ElementsInRange count b es

-- If a first element is followed by the encoding of `n` elements, both together are the encoding of `n + 1` elements.
first_element_joins_spelled : (n : ℕ) (b : List ℕ) (s : SplitElement) (es : List Piece) → BeginsWithElement b s →
    AreSpelledElements n s.rest es
    → AreSpelledElements (suc n) b (s.element ∷ es)
unfolding spelled_elements ElementsInRange
first_element_joins_spelled n b s es h r = record {
  spelled =
      h.spelled ∙ ap (λ (z : List ℕ). four_bytes_of s.element.address ++
      (four_bytes_of (length s.element.bytes) ++ (s.element.bytes ++ z))) r.spelled;
  number = omega (arith, r.number);
  fit = (h.fits, r.fit);
}

-- The bytes that `elements_at` reads are the encoding of the elements that it returns.
pub read_elements_are_spelled : (count : ℕ) (b : List ℕ) (es : List Piece) → AreBytes b → elements_at count b ≡ Ok es →
    AreSpelledElements count b es
unfolding elements_at spelled_elements ElementsInRange
read_elements_are_spelled zero [] es f h = no_bytes_spell_no_items spelled_elements ElementsInRange es refl tt h
read_elements_are_spelled zero (x ∷ b) es f h = cc
read_elements_are_spelled (suc n) b es f h =
    let p = ok_sequence_has_ok_steps (front_element b) _ es h in
    let s = p.0 in
    let begins = read_element_is_spelled b s f p.1 in
    let q = ok_sequence_has_ok_steps (elements_at n s.rest) _ es p.2 in
    let more = read_elements_are_spelled n s.rest q.0 begins.bytes q.1 in
    subst (λ (z : List Piece). AreSpelledElements (suc n) b z) (ok_values_equal _ es q.2) (first_element_joins_spelled n b s q.0 begins
    more)

-- `elements_at` decodes the encoding of any list of elements in range.
pub spelled_elements_are_read : (es : List Piece) → ElementsInRange es → elements_at (length es) (spelled_elements es) ≡ Ok es
unfolding elements_at spelled_elements ElementsInRange
spelled_elements_are_read [] h = refl
spelled_elements_are_read (e ∷ es) h =
    ap (λ (r : Result SplitElement FileFault). r >>= λ s. element_before_others s.element (elements_at (length es) s.rest))
    (spelled_element_is_read e (spelled_elements es) h.0)
    ∙ ap (element_before_others e) (spelled_elements_are_read es h.1)
