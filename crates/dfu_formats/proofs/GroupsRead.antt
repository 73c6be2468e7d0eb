-- `group_at` reads every group of pages that follows the grammar.
use Rattle.std.proofs.Common.{◌≡◌, ◌≢◌, ℕ, zero, suc, ◌+◌, ◌*◌, ◌^◌, ◌≤◌, leb, List, [], ◌∷◌, ◌++◌, refl, sym, ap, ◌∙◌, arith, Some, Ok, append_assoc}
use Rattle.std.proofs.lemmas.Bool.{eq-eqb, le-ltb, ne_eqb, and_from, le-leb}
use Rattle.std.proofs.lemmas.Bool.Decides.{nat_tests}
use Rattle.dfu_formats.specs.declared.memory.pages.Access.{Access}
use Rattle.dfu_formats.specs.declared.memory.pages.Pages.{Pages}
use Rattle.dfu_formats.specs.memory.Ranges.{IsRange}
use Rattle.dfu_formats.specs.memory.Reading.{NumberRead, RangeRead, text_after_byte, count_at, unit_bytes, unit_at, size_at, access_of, access_at, range_of_pages, group_at, digit_value}
use Rattle.dfu_formats.specs.memory.Grammar.{IsNumber, IsUnit, IsGroup}
use Rattle.dfu_formats.proofs.NumbersRead.{HasNoDigitFirst, other_byte_has_no_digit_first, spelled_number_is_read}

-- ---- reading of the parts of a group

equal_numbers_read : (v w : ℕ) (r : List ℕ) → v ≡ w → ◌≡◌ {A = NumberRead} (record { value = v; rest = r }) (record { value = w; rest = r })
equal_numbers_read v w r h = cc

-- If a text begins with the byte, `text_after_byte` returns the text after it.
pub first_byte_is_taken : (b : ℕ) (rest : List ℕ) → text_after_byte b (b ∷ rest) ≡ Some rest
unfolding text_after_byte
first_byte_is_taken b rest = rw (eq-eqb b b refl) refl

-- `count_at` reads a count of at least 1 that is followed by `*`.
spelled_count_is_read : (n : ℕ) (ds rest : List ℕ) → IsNumber 10 5 n ds → 1 ≤ n →
    count_at (ds ++ 42 ∷ rest) ≡ Ok (record { value = n; rest = rest })
unfolding count_at
spelled_count_is_read n ds rest h some =
    rw (
      spelled_number_is_read 10 5 n ds (42 ∷ rest) h (other_byte_has_no_digit_first 10 42 rest (omega arith)),
      ne_eqb n 0 (λ z. omega
          (arith, z, some)),
      first_byte_is_taken 42 rest,
    ) refl

-- A byte that is not below the letter a is no unit of size.
letter_is_no_unit : (letter : ℕ) → 97 ≤ letter → unit_bytes letter ≡ 0
letter_is_no_unit letter h = grind (arith, nat_tests)

-- `unit_at` multiplies by the unit before a letter, or by 1 without a unit.
spelled_unit_is_read : (times value : ℕ) (unit : List ℕ) (letter : ℕ) (rest : List ℕ) → IsUnit times unit → 97 ≤ letter →
    unit_at value (unit ++ letter ∷ rest) ≡ record { value = times * value; rest = letter ∷ rest }
unfolding unit_at
spelled_unit_is_read times value [] letter rest h a =
    rw (eq-eqb (unit_bytes letter) 0 (letter_is_no_unit letter a)) (equal_numbers_read _ _ _ (omega (arith, ap (λ (t : ℕ). t * value) h)))
spelled_unit_is_read times value (b ∷ []) letter rest h a =
    rw (ne_eqb (unit_bytes b) 0 h.1) (equal_numbers_read _ _ _ (ap (λ (t : ℕ). t * value) (sym h.0)))
spelled_unit_is_read times value (a ∷ b ∷ bs) letter rest h c = absurd h

letter_is_no_decimal_digit : (b : ℕ) → 97 ≤ b → 10 ≤ digit_value b
letter_is_no_decimal_digit b h = grind (arith, nat_tests)

unit_is_no_decimal_digit : (b : ℕ) → unit_bytes b ≢ 0 → 10 ≤ digit_value b
unit_is_no_decimal_digit b h = grind (arith, nat_tests)

-- The unit and the letter after a size don't begin with a decimal digit, even if there is no unit.
unit_has_no_digit_first : (times : ℕ) (unit : List ℕ) (letter : ℕ) (rest : List ℕ) → IsUnit times unit → 97 ≤ letter →
    HasNoDigitFirst 10 (unit ++ letter ∷ rest)
unit_has_no_digit_first times [] letter rest h a = other_byte_has_no_digit_first 10 letter rest (letter_is_no_decimal_digit letter a)
unit_has_no_digit_first times (b ∷ []) letter rest h a = other_byte_has_no_digit_first 10 b (letter ∷ rest) (unit_is_no_decimal_digit b h.1)
unit_has_no_digit_first times (a ∷ b ∷ bs) letter rest h c = absurd h

-- `size_at` reads a size of at least 1, with an optional unit, before a letter.
spelled_size_is_read : (n times : ℕ) (ds unit : List ℕ) (letter : ℕ) (rest : List ℕ) → IsNumber 10 5 n ds → IsUnit times unit → 1 ≤ n →
    97 ≤ letter →
    size_at (ds ++ (unit ++ letter ∷ rest)) ≡ Ok (record { value = times * n; rest = letter ∷ rest })
unfolding size_at
spelled_size_is_read n times ds unit letter rest h u some a =
    rw (
      spelled_number_is_read 10 5 n ds (unit ++ letter ∷ rest) h (unit_has_no_digit_first times unit letter rest u a),
      ne_eqb n 0 (λ z. omega
          (arith, z, some)),
    )
    (ap Ok (spelled_unit_is_read times n unit letter rest u a))

-- `access_at` reads a letter from a to g.
spelled_access_is_read : (letter : ℕ) (rest : List ℕ) → 97 ≤ letter → letter ≤ 103 → access_at (letter ∷ rest)
    ≡ Ok (record { access = access_of letter; rest = rest })
unfolding access_at
spelled_access_is_read letter rest h k = rw (and_from (leb 97 letter) (leb letter 103) (le-leb 97 letter h) (le-leb letter 103 k)) refl

-- If a size with its unit is at least 1, its number is at least 1.
size_has_positive_number : (size times number : ℕ) → size ≡ times * number → 1 ≤ size → 1 ≤ number
size_has_positive_number size times zero e h = absurd (omega (arith, e, h))
size_has_positive_number size times (suc n) e h = omega arith

page_ranges_equal : (p : Pages) (start size count : ℕ) (access : Access) → p.start ≡ start → p.size ≡ size → p.count ≡ count → p.access
    ≡ access →
    ◌≡◌ {A = Pages} (record { start = start; size = size; count = count; access = access }) p
page_ranges_equal p start size count access a b c d =
    ap (λ (v : ℕ). let q : Pages = record { start = v; size = size; count = count; access = access } in q) (sym a)
    ∙ (ap (λ (v : ℕ). let q : Pages = record { start = p.start; size = v; count = count; access = access } in q) (sym b)
    ∙ (ap (λ (v : ℕ). let q : Pages = record { start = p.start; size = p.size; count = v; access = access } in q) (sym c)
    ∙ ap (λ (v : Access). let q : Pages = record { start = p.start; size = p.size; count = p.count; access = v } in q) (sym d)))

grouped_ranges_equal : (p q : Pages) (rest : List ℕ) → p ≡ q →
    ◌≡◌ {A = RangeRead} (record { pages = p; rest = rest }) (record { pages = q; rest = rest })
grouped_ranges_equal p q rest e = cc

-- `range_of_pages` returns each sound range, from its start, count, size and letter.
sound_page_range_is_read : (start size : ℕ) (p : Pages) (letter : ℕ) (rest : List ℕ) → p.start ≡ start → p.size ≡ size → p.access
    ≡ access_of letter → IsRange p →
    range_of_pages start p.count size (record { access = access_of letter; rest = rest }) ≡ Ok (record { pages = p; rest = rest })
sound_page_range_is_read start size p letter rest s z a sound =
    let times = ap (λ (n : ℕ). p.count * n) z in
    rw (le-ltb (2 ^ 32) (start + p.count * size) (omega (arith, sound.ends, s, times)))
    (ap Ok (grouped_ranges_equal _ _ rest (page_ranges_equal p start size p.count (access_of letter) s z refl a)))

-- `group_at` reads a group that follows the grammar, and returns the text after it.
pub spelled_group_is_read : (start : ℕ) (p : Pages) (group rest : List ℕ) → IsGroup start p group → group_at start (group ++ rest)
    ≡ Ok (record { pages = p; rest = rest })
unfolding group_at
spelled_group_is_read start p group rest g =
    let some = size_has_positive_number p.size g.times g.number g.size_is g.sound.some_bytes in
    let whole : group ++ rest ≡ g.count_digits ++ 42 ∷ (g.size_digits ++ (g.unit ++ g.letter ∷ rest)) =
    ap (λ (t : List ℕ). t ++ rest) g.spelled ∙ simp append_assoc in
    rw (
      whole,
      spelled_count_is_read p.count g.count_digits (g.size_digits ++ (g.unit ++ g.letter ∷ rest)) g.count_is g.sound.some_pages,
      spelled_size_is_read g.number g.times g.size_digits g.unit g.letter rest g.number_is g.unit_is some g.from_a,
      spelled_access_is_read g.letter rest g.from_a g.to_g,
    )
    (sound_page_range_is_read start (g.times * g.number) p g.letter rest g.starts g.size_is g.access_is g.sound)
