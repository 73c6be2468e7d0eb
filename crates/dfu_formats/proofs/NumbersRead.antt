-- `map_number_at` reads each number of the grammar, and only those.
use Rattle.std.proofs.Common.{◌≡◌, ℕ, zero, suc, ◌≤◌, ◌||◌, Bool, true, false, cond, eqb, ltb, List, [], ◌∷◌, ◌++◌, length, take, drop, refl, sym, ap, ◌∙◌, arith, Option, Some, None, length-take}
use Rattle.std.proofs.lemmas.Bool.{ltb-true, ltb-false, or_parts, le-ltb, ne_eqb, or_from}
use Rattle.std.proofs.lemmas.List.{take-append-drop, take_at, drop_at}
use Rattle.dfu_formats.proofs.MapSteps.{nonzero_number_positive}
use Rattle.dfu_formats.specs.memory.Reading.{NumberRead, digit_value, digits_in, digits_number, map_number_at}
use Rattle.dfu_formats.specs.memory.Grammar.{AreDigits, IsNumber}
use Rattle.dfu_formats.proofs.DigitLaws.{first_digit_adds_to_count, other_byte_ends_digits, no_digits_of_no_bytes}

-- The first byte, if there is one, is not a digit of the base.
unfoldable pub HasNoDigitFirst : (base : ℕ) → List ℕ → Type 0
HasNoDigitFirst base [] = Unit {0}
HasNoDigitFirst base (b ∷ bs) = base ≤ digit_value b

pub other_byte_has_no_digit_first : (base b : ℕ) (bs : List ℕ) → base ≤ digit_value b → HasNoDigitFirst base (b ∷ bs)
unfolding HasNoDigitFirst
other_byte_has_no_digit_first base b bs h = h

-- If digits are followed by a text that doesn't begin with a digit, all these digits are counted.
spelled_digits_are_counted : (base : ℕ) (ds rest : List ℕ) → AreDigits base ds → HasNoDigitFirst base rest → digits_in base (ds ++ rest)
    ≡ length ds
unfolding AreDigits HasNoDigitFirst
spelled_digits_are_counted base [] [] a n = no_digits_of_no_bytes base
spelled_digits_are_counted base [] (b ∷ bs) a n = other_byte_ends_digits base b bs n
spelled_digits_are_counted base (d ∷ ds) rest a n = first_digit_adds_to_count base d (ds ++ rest) a.0
    ∙ ap suc (spelled_digits_are_counted base ds rest a.1 n)

equal_parts_equal_numbers : (v w : ℕ) (r s : List ℕ) → v ≡ w → r ≡ s →
    ◌≡◌ {A = Option NumberRead} (Some (record { value = v; rest = r })) (Some (record { value = w; rest = s }))
equal_parts_equal_numbers v w r s h e = cc

-- `map_number_at` reads a number that is followed by a text without a leading digit.
pub spelled_number_is_read : (base most n : ℕ) (ds rest : List ℕ) → IsNumber base most n ds → HasNoDigitFirst base rest →
    map_number_at base most (ds ++ rest) ≡ Some (record { value = n; rest = rest })
unfolding map_number_at
spelled_number_is_read base most n ds rest h stop =
    let k = spelled_digits_are_counted base ds rest h.are_digits stop in
    let none = ne_eqb (digits_in base (ds ++ rest)) 0 (λ z. omega (arith, z, k, h.some)) in
    let few = le-ltb most (digits_in base (ds ++ rest)) (omega (arith, k, h.few)) in
    rw (or_from (eqb (digits_in base (ds ++ rest)) 0) (ltb most (digits_in base (ds ++ rest))) none few)
    (equal_parts_equal_numbers _ _ _ _ (ap (digits_number base 0) (take_at ds rest (digits_in base (ds ++ rest)) (sym k))
    ∙ sym h.digits_make_number)
    (drop_at ds rest (digits_in base (ds ++ rest)) (sym k)))

-- For either result of the digit test, the bytes that `digits_in` counts are digits, if those after the first byte are.
digits_by_first_test : (base b : ℕ) (bs : List ℕ) (t : Bool) → ltb (digit_value b) base ≡ t → AreDigits base (take (digits_in base bs) bs) →
    AreDigits base (take (cond t (suc (digits_in base bs)) 0) (b ∷ bs))
unfolding AreDigits
digits_by_first_test base b bs true e h = (ltb-true (digit_value b) base e, h)
digits_by_first_test base b bs false e h = tt

nothing_is_digits : (base : ℕ) (n : ℕ) → AreDigits base (take n [])
unfolding AreDigits
nothing_is_digits base zero = tt
nothing_is_digits base (suc n) = tt

-- Each byte that `digits_in` counts is a digit of the base.
are_digits : (base : ℕ) (text : List ℕ) → AreDigits base (take (digits_in base text) text)
unfolding digits_in
are_digits base [] = nothing_is_digits base 0
are_digits base (b ∷ bs) = digits_by_first_test base b bs (ltb (digit_value b) base) refl (are_digits base bs)

-- For either result of the digit test, the count of digits is at most the length of the text.
digit_count_within_by_test : (n : ℕ) (b : ℕ) (bs : List ℕ) (t : Bool) → n ≤ length bs → cond t (suc n) 0 ≤ length (b ∷ bs)
digit_count_within_by_test n b bs true h = omega (arith, h)
digit_count_within_by_test n b bs false h = omega arith

-- A text has at most as many leading digits as bytes.
digit_count_within_text : (base : ℕ) (text : List ℕ) → digits_in base text ≤ length text
unfolding digits_in
digit_count_within_text base [] = omega arith
digit_count_within_text base (b ∷ bs) = digit_count_within_by_test (digits_in base bs) b bs (ltb (digit_value b) base)
    (digit_count_within_text base bs)

-- If a condition that selects None or a value selects a value, the condition is false, and the value is the one in its other branch.
some_if_test_false : (t : Bool) (x y : NumberRead) → cond t None (Some x) ≡ Some y → (t ≡ false) × (x ≡ y)
some_if_test_false true x y h = cc
some_if_test_false false x y h = (refl, cc)

-- The text is a number of at most `most` digits, followed by the rest.
pub record NumberSpelled (base most : ℕ) (n : NumberRead) (text : List ℕ) : Type 0 where
  pub digits : List ℕ
  pub text_is : text ≡ digits ++ n.rest
  pub number_is : IsNumber base most n.value digits

-- If `map_number_at` reads a number from a text, the text begins with its digits.
pub read_number_is_spelled : (base most : ℕ) (n : NumberRead) (text : List ℕ) → map_number_at base most text ≡ Some n →
    NumberSpelled base most n text
unfolding map_number_at
read_number_is_spelled base most n text h =
    let k = digits_in base text in
    let said_is : NumberRead = record { value = digits_number base 0 (take k text); rest = drop k text } in
    let u = some_if_test_false (eqb k 0 || ltb most k) said_is n h in
    let both = or_parts (eqb k 0) (ltb most k) u.0 in
    let long = length-take k text in
    let room = digit_count_within_text base text in record {
      digits = take k text;
      text_is = sym (take-append-drop k text) ∙ ap (λ (m : NumberRead). take k text ++ m.rest) u.1;
      number_is = record {
        are_digits = are_digits base text;
        some = omega (arith, long, room, nonzero_number_positive k both.0);
        few = omega (arith, long, ltb-false most k both.1);
        digits_make_number = ap (λ (m : NumberRead). m.value) (sym u.1);
      };
    }
