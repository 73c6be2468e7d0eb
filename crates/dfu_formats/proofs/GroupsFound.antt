-- If a group of pages is read from the text of a map, the text begins with this group.
use Rattle.std.proofs.Common.{◌≡◌, ◌≢◌, ℕ, ◌+◌, ◌*◌, ◌^◌, ◌≤◌, ◌&&◌, Bool, true, false, cond, eqb, ltb, leb, List, [], ◌∷◌, ◌++◌, refl, sym, ap, ◌∙◌, subst, arith, Some, Result, Ok, Err, append_assoc}
use Rattle.std.proofs.lemmas.Bool.{eq-eqb, ltb-false, leb-true, and_parts}
use Rattle.dfu_formats.specs.declared.memory.fault.MapFault.{MapFault}
use Rattle.dfu_formats.specs.declared.memory.fault.MapFault.TheVariants.{BadCount, BadSize, BadType, PastTheEnd}
use Rattle.dfu_formats.specs.memory.Reading.{NumberRead, LetterRead, RangeRead, ◌>>=◌, value_or_map_fault, nonzero_count, text_after_byte, map_number_at, count_at, unit_bytes, unit_at, size_at, access_of, access_at, range_of_pages, group_at}
use Rattle.dfu_formats.specs.memory.Grammar.{IsNumber, IsUnit, IsGroup}
use Rattle.dfu_formats.proofs.NumbersRead.{NumberSpelled, read_number_is_spelled}
use Rattle.dfu_formats.proofs.MapSteps.{both_steps_ok, value_or_fault_was_some, nonzero_count_is_positive, byte_taken_was_first}

-- The text is a count of at least 1, in one to five digits, followed by `*` and the rest.
record CountSpelled (c : NumberRead) (text : List ℕ) : Type 0 where
  digits : List ℕ
  text_is : text ≡ digits ++ 42 ∷ c.rest
  number_is : IsNumber 10 5 c.value digits
  some : 1 ≤ c.value

-- The text is a number other than 0, in one to five digits, followed by the rest.
record PositiveNumberSpelled (fault : MapFault) (text : List ℕ) (n : NumberRead) : Type 0 where
  spelled : NumberSpelled 10 5 n text
  some : 1 ≤ n.value

-- If a number other than 0 is read from a text, the text begins with its digits.
number : (fault : MapFault) (text : List ℕ) (n : NumberRead)
    → (value_or_map_fault fault (map_number_at 10 5 text) >>= nonzero_count fault) ≡ Ok n →
    PositiveNumberSpelled fault text n
number fault text n h =
    let s = both_steps_ok (value_or_map_fault fault (map_number_at 10 5 text)) (nonzero_count fault) n h in
    let k = nonzero_count_is_positive fault s.0 n s.2 in
    let e = value_or_fault_was_some fault (map_number_at 10 5 text) s.0 s.1 in record {
      spelled = read_number_is_spelled 10 5 n text (e ∙ ap Some k.0);
      some = subst (λ (m : NumberRead). 1 ≤ m.value) k.0 k.1;
    }

-- If `count_at` reads a count from a text, the text begins with this count.
read_count_is_spelled : (c : NumberRead) (text : List ℕ) → count_at text ≡ Ok c → CountSpelled c text
unfolding count_at
read_count_is_spelled c text h =
    let s = both_steps_ok (value_or_map_fault BadCount (map_number_at 10 5 text) >>= nonzero_count BadCount)
    (λ (n : NumberRead). value_or_map_fault BadCount (text_after_byte 42 n.rest) >>= λ (rest : List ℕ). Ok
    (record { value = n.value; rest = rest })) c h in
    let n = number BadCount text s.0 s.1 in
    let t = both_steps_ok (value_or_map_fault BadCount (text_after_byte 42 (s.0).rest))
    (λ (rest : List ℕ). Ok (record { value = (s.0).value; rest = rest })) c s.2 in
    let star = byte_taken_was_first 42 (s.0).rest t.0 (value_or_fault_was_some BadCount (text_after_byte 42 (s.0).rest) t.0 t.1) in
    let same : ◌≡◌ {A = NumberRead} (record { value = (s.0).value; rest = t.0 }) c = cc in
    let value : (s.0).value ≡ c.value = ap (λ (m : NumberRead). m.value) same in
    let rest : t.0 ≡ c.rest = ap (λ (m : NumberRead). m.rest) same in record {
      digits = n.spelled.digits;
      text_is = n.spelled.text_is ∙ ap (λ (xs : List ℕ). n.spelled.digits ++ xs) (star ∙ ap (λ (xs : List ℕ). 42 ∷ xs) rest);
      number_is = subst (λ (v : ℕ). IsNumber 10 5 v n.spelled.digits) value n.spelled.number_is;
      some = subst (λ (v : ℕ). 1 ≤ v) value n.some;
    }

-- The text is an optional unit, followed by the rest. The value read is `value` times the number of bytes of the unit.
record UnitSpelled (value : ℕ) (s : NumberRead) (text : List ℕ) : Type 0 where
  times : ℕ
  unit : List ℕ
  text_is : text ≡ unit ++ s.rest
  unit_is : IsUnit times unit
  value_is : s.value ≡ times * value
  some : 1 ≤ times

-- For either result of the test for a unit, the text begins with the unit that was read, if there is one.
unit_spelled_by_test : (value b : ℕ) (bs : List ℕ) (t : Bool) → eqb (unit_bytes b) 0 ≡ t →
    UnitSpelled value (cond t (record { value = value; rest = b ∷ bs }) (record { value = unit_bytes b * value; rest = bs })) (b ∷ bs)
unit_spelled_by_test value b bs true e = record {
  times = 1;
  unit = [];
  text_is = refl;
  unit_is = refl;
  value_is = omega arith;
  some =
      omega arith;
}
unit_spelled_by_test value b bs false e =
    let other : unit_bytes b ≢ 0 = λ z. let yes = eq-eqb (unit_bytes b) 0 z in cc in
    record { times = unit_bytes b; unit = b ∷ []; text_is = refl; unit_is = (refl, other); value_is = refl; some = omega (arith, other) }

-- The text begins with the unit that `unit_at` reads from it, if there is one.
read_unit_is_spelled : (value : ℕ) (text : List ℕ) → UnitSpelled value (unit_at value text) text
unfolding unit_at
read_unit_is_spelled value [] = record { times = 1; unit = []; text_is = refl; unit_is = refl; value_is = omega arith; some = omega arith }
read_unit_is_spelled value (b ∷ bs) = unit_spelled_by_test value b bs (eqb (unit_bytes b) 0) refl

-- The text is a size of at least 1, written as one to five digits and an optional unit, followed by the rest.
record SizeSpelled (s : NumberRead) (text : List ℕ) : Type 0 where
  digits : List ℕ
  unit : List ℕ
  number : ℕ
  times : ℕ
  text_is : text ≡ digits ++ (unit ++ s.rest)
  number_is : IsNumber 10 5 number digits
  unit_is : IsUnit times unit
  value_is : s.value ≡ times * number
  some : 1 ≤ s.value

product_of_positives_positive : (a b : ℕ) → 1 ≤ a → 1 ≤ b → 1 ≤ a * b
product_of_positives_positive a b h k = grind arith

-- If `size_at` reads a size from a text, the text begins with this size.
read_size_is_spelled : (s : NumberRead) (text : List ℕ) → size_at text ≡ Ok s → SizeSpelled s text
unfolding size_at
read_size_is_spelled s text h =
    let t = both_steps_ok (value_or_map_fault BadSize (map_number_at 10 5 text) >>= nonzero_count BadSize)
    (λ (n : NumberRead). Ok (unit_at n.value n.rest)) s h in
    let n = number BadSize text t.0 t.1 in
    let same : unit_at (t.0).value (t.0).rest ≡ s = cc in
    let u : UnitSpelled (t.0).value s (t.0).rest = subst (λ (m : NumberRead). UnitSpelled (t.0).value m (t.0).rest) same
    (read_unit_is_spelled (t.0).value (t.0).rest) in record {
      digits = n.spelled.digits;
      unit = u.unit;
      number = (t.0).value;
      times = u.times;
      text_is = n.spelled.text_is ∙ ap (λ (xs : List ℕ). n.spelled.digits ++ xs) u.text_is;
      number_is = n.spelled.number_is;
      unit_is = u.unit_is;
      value_is = u.value_is;
      some = omega (arith, u.value_is, product_of_positives_positive u.times (t.0).value u.some n.some);
    }

-- The text begins with the letter for the access, from a to g.
record AccessLetterSpelled (a : LetterRead) (text : List ℕ) : Type 0 where
  letter : ℕ
  text_is : text ≡ letter ∷ a.rest
  from_a : 97 ≤ letter
  to_g : letter ≤ 103
  access_is : a.access ≡ access_of letter

-- If the test for a letter from a to g passes, the text begins with the letter of the access that was read.
access_letter_by_test : (b : ℕ) (bs : List ℕ) (a : LetterRead) (t : Bool) → (leb 97 b && leb b 103) ≡ t →
    ◌≡◌ {A = Result LetterRead MapFault} (cond t (Ok (record { access = access_of b; rest = bs })) (Err BadType)) (Ok a) →
    AccessLetterSpelled a (b ∷ bs)
access_letter_by_test b bs a true e h =
    let both = and_parts (leb 97 b) (leb b 103) e in
    let same : ◌≡◌ {A = LetterRead} (record { access = access_of b; rest = bs }) a = cc in record {
      letter = b;
      text_is = ap (λ (m : LetterRead). b ∷ m.rest) same;
      from_a = leb-true 97 b both.0;
      to_g = leb-true b 103 both.1;
      access_is = sym (ap (λ (m : LetterRead). m.access) same);
    }
access_letter_by_test b bs a false e h = cc

-- If `access_at` reads an access from a text, the text begins with its letter.
read_access_is_spelled : (a : LetterRead) (text : List ℕ) → access_at text ≡ Ok a → AccessLetterSpelled a text
unfolding access_at
read_access_is_spelled a [] h = cc
read_access_is_spelled a (b ∷ bs) h = access_letter_by_test b bs a (leb 97 b && leb b 103) refl h

-- A range that passes the test of its end has only 32-bit addresses.
page_range_by_end_test : (start count size : ℕ) (a : LetterRead) (g : RangeRead) (t : Bool) → ltb (2 ^ 32) (start + count * size) ≡ t →
    ◌≡◌ {A = Result RangeRead MapFault} (cond t (Err PastTheEnd)
    (Ok (record { pages = record { start = start; size = size; count = count; access = a.access }; rest = a.rest }))) (Ok g) →
    (start + count * size ≤ 2 ^ 32) × ◌≡◌ {A = RangeRead} (record { pages = record { start = start; size = size; count = count; access = a.access }; rest = a.rest }) g
page_range_by_end_test start count size a g true e h = cc
page_range_by_end_test start count size a g false e h = (ltb-false (2 ^ 32) (start + count * size) e, cc)

-- A range that `range_of_pages` returns has the given start, count, size and access, and only 32-bit addresses.
checked_page_range_fits : (start count size : ℕ) (a : LetterRead) (g : RangeRead) → range_of_pages start count size a ≡ Ok g →
    (start + count * size ≤ 2 ^ 32) × ◌≡◌ {A = RangeRead} (record { pages = record { start = start; size = size; count = count; access = a.access }; rest = a.rest }) g
checked_page_range_fits start count size a g h = page_range_by_end_test start count size a g (ltb (2 ^ 32) (start + count * size)) refl h

-- The text is a group of pages, followed by the rest.
pub record GroupSpelled (start : ℕ) (g : RangeRead) (text : List ℕ) : Type 0 where
  pub group : List ℕ
  pub text_is : text ≡ group ++ g.rest
  pub group_is : IsGroup start g.pages group

-- A count, `*`, a size, a unit, a letter and the rest, joined one by one, are the text of a group, followed by the rest.
group_parts_are_text : (cs ss us : List ℕ) (letter : ℕ) (rest : List ℕ) →
    cs ++ 42 ∷ (ss ++ (us ++ letter ∷ rest)) ≡ (cs ++ 42 ∷ (ss ++ (us ++ letter ∷ []))) ++ rest
group_parts_are_text cs ss us letter rest = sym (simp append_assoc)

-- A text that begins with a count, a size and a letter begins with a group, if all its pages have 32-bit addresses.
spelled_parts_make_group : (start : ℕ) (text : List ℕ) (c s : NumberRead) (a : LetterRead) → CountSpelled c text → SizeSpelled s c.rest →
    AccessLetterSpelled a s.rest →
    start + c.value * s.value ≤ 2 ^ 32 →
    GroupSpelled start (record { pages = record { start = start; size = s.value; count = c.value; access = a.access }; rest = a.rest }) text
spelled_parts_make_group start text c s a cs ss ls ends = record {
  group = cs.digits ++ 42 ∷ (ss.digits ++ (ss.unit ++ ls.letter ∷ []));
  text_is = cs.text_is ∙ (ap (λ (xs : List ℕ). cs.digits ++ 42 ∷ xs) (ss.text_is ∙ ap (λ (xs : List ℕ). ss.digits ++ (ss.unit ++ xs)) ls.text_is)
      ∙ group_parts_are_text cs.digits ss.digits ss.unit ls.letter a.rest);
  group_is = record {
    count_digits = cs.digits;
    size_digits = ss.digits;
    unit = ss.unit;
    number = ss.number;
    times = ss.times;
    letter = ls.letter;
    spelled = refl;
    count_is = cs.number_is;
    number_is = ss.number_is;
    unit_is = ss.unit_is;
    size_is = ss.value_is;
    from_a = ls.from_a;
    to_g = ls.to_g;
    access_is = ls.access_is;
    starts = refl;
    sound = record { some_pages = cs.some; some_bytes = ss.some; ends = ends };
  };
}

-- If `group_at` reads a group from a text, the text begins with this group.
pub read_group_is_spelled : (start : ℕ) (g : RangeRead) (text : List ℕ) → group_at start text ≡ Ok g → GroupSpelled start g text
unfolding group_at
read_group_is_spelled start g text h =
    let c = both_steps_ok (count_at text) (λ (n : NumberRead). size_at n.rest >>= λ (s : NumberRead). access_at s.rest >>=
    range_of_pages start n.value
    s.value) g h in
    let s = both_steps_ok (size_at (c.0).rest) (λ (s : NumberRead). access_at s.rest >>= range_of_pages start (c.0).value s.value) g c.2 in
    let a = both_steps_ok (access_at (s.0).rest) (range_of_pages start (c.0).value (s.0).value) g s.2 in
    let r = checked_page_range_fits start (c.0).value (s.0).value a.0 g a.2 in
    subst (λ (g : RangeRead). GroupSpelled start g text) r.1
    (spelled_parts_make_group start text c.0 s.0 a.0 (read_count_is_spelled c.0 text c.1) (read_size_is_spelled s.0 (c.0).rest s.1)
    (read_access_is_spelled a.0 (s.0).rest a.1) r.0)
