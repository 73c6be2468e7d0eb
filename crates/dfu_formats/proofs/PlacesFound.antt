-- If `address_at` or `next_range_place` reads an address from a text, the text contains this address.
use Rattle.std.proofs.Common.{◌≡◌, ℕ, ◌&&◌, ◌||◌, ◌⊎◌, inl, inr, Bool, true, false, cond, eqb, List, [], ◌∷◌, ◌++◌, refl, sym, ap, ◌∙◌, subst, Option, Some, None, Result, Ok, Err, append_assoc}
use Rattle.std.proofs.lemmas.Bool.{eqb-true, and_parts, or_cases}
use Rattle.dfu_formats.specs.declared.memory.fault.MapFault.{MapFault}
use Rattle.dfu_formats.specs.declared.memory.fault.MapFault.TheVariants.{BadAddress, Trailing}
use Rattle.dfu_formats.specs.memory.Reading.{NumberRead, ◌>>=◌, value_or_map_fault, text_after_byte, map_number_at, text_after_prefix, address_at, place_as_option, next_range_place}
use Rattle.dfu_formats.specs.memory.Grammar.{IsNumber, IsPrefix, IsAddress}
use Rattle.dfu_formats.proofs.NumbersRead.{read_number_is_spelled}
use Rattle.dfu_formats.proofs.MapSteps.{both_steps_ok, value_or_fault_was_some, byte_taken_was_first}

-- The text is an optional hexadecimal prefix, followed by the rest.
record HexPrefixSpelled (rest text : List ℕ) : Type 0 where
  prefix : List ℕ
  text_is : text ≡ prefix ++ rest
  prefix_is : IsPrefix prefix

x_test_means_either_case : (b : ℕ) → (eqb b 120 || eqb b 88) ≡ true → (b ≡ 120) ⊎ (b ≡ 88)
x_test_means_either_case b h = elim (or_cases (eqb b 120) (eqb b 88) h) [ inl e ↦ inl (eqb-true b 120 e) | inr e ↦ inr (eqb-true b 88 e) ]

-- For either result of the test for `0x` and `0X`, the text is an optional prefix, followed by the rest.
hex_prefix_by_test : (a b : ℕ) (bs : List ℕ) (t : Bool) → (eqb a 48 && (eqb b 120 || eqb b 88)) ≡ t →
    HexPrefixSpelled (cond t bs (a ∷ b ∷ bs)) (a ∷ b ∷ bs)
hex_prefix_by_test a b bs true e =
    let both = and_parts (eqb a 48) (eqb b 120 || eqb b 88) e in
    record { prefix = a ∷ b ∷ []; text_is = refl; prefix_is = (eqb-true a 48 both.0, x_test_means_either_case b both.1) }
hex_prefix_by_test a b bs false e = record { prefix = []; text_is = refl; prefix_is = tt }

-- A text is an optional prefix, followed by the text that `text_after_prefix` returns.
hex_prefix_precedes_rest : (text : List ℕ) → HexPrefixSpelled (text_after_prefix text) text
unfolding text_after_prefix
hex_prefix_precedes_rest [] = record { prefix = []; text_is = refl; prefix_is = tt }
hex_prefix_precedes_rest (a ∷ []) = record { prefix = []; text_is = refl; prefix_is = tt }
hex_prefix_precedes_rest (a ∷ b ∷ bs) = hex_prefix_by_test a b bs (eqb a 48 && (eqb b 120 || eqb b 88)) refl

-- The text is an address, `/` and the rest.
pub record AddressSpelled (n : NumberRead) (text : List ℕ) : Type 0 where
  pub address : List ℕ
  pub text_is : text ≡ address ++ 47 ∷ n.rest
  pub address_is : IsAddress n.value address

-- If `address_at` reads an address from a text, the text begins with this address and `/`.
pub read_address_is_spelled : (n : NumberRead) (text : List ℕ) → address_at text ≡ Ok n → AddressSpelled n text
unfolding address_at
read_address_is_spelled n text h =
    let s = both_steps_ok (value_or_map_fault BadAddress (map_number_at 16 8 (text_after_prefix text)))
    (λ (m : NumberRead). value_or_map_fault BadAddress (text_after_byte 47 m.rest) >>= λ (rest : List ℕ). Ok
    (record { value = m.value; rest = rest })) n h in
    let t = both_steps_ok (value_or_map_fault BadAddress (text_after_byte 47 (s.0).rest))
    (λ (rest : List ℕ). Ok (record { value = (s.0).value; rest = rest })) n s.2 in
    let stroke = byte_taken_was_first 47 (s.0).rest t.0 (value_or_fault_was_some BadAddress (text_after_byte 47 (s.0).rest) t.0 t.1) in
    let same : ◌≡◌ {A = NumberRead} (record { value = (s.0).value; rest = t.0 }) n = cc in
    let value : (s.0).value ≡ n.value = ap (λ (m : NumberRead). m.value) same in
    let rest : t.0 ≡ n.rest = ap (λ (m : NumberRead). m.rest) same in
    let p = hex_prefix_precedes_rest text in
    let d = read_number_is_spelled 16 8 s.0 (text_after_prefix text)
    (value_or_fault_was_some BadAddress (map_number_at 16 8 (text_after_prefix
    text)) s.0 s.1) in record {
      address = p.prefix ++ d.digits;
      text_is = p.text_is ∙ (ap (λ (xs : List ℕ). p.prefix ++ xs) (d.text_is ∙ ap (λ (xs : List ℕ). d.digits ++ xs) (stroke ∙ ap (λ (xs : List ℕ). 47 ∷ xs) rest))
          ∙ sym (append_assoc p.prefix d.digits (47 ∷ n.rest)));
      address_is = record {
        prefix = p.prefix;
        digits = d.digits;
        spelled = refl;
        prefix_is = p.prefix_is;
        number_is = subst (λ (v : ℕ). IsNumber 16 8 v d.digits) value d.number_is;
      };
    }

-- The text after a range that ends at `end`. Without a next range it is empty. It begins with `,` if the next range begins at `end`, or
-- with an address between two `/` if the next range begins at this address.
unfoldable pub LeadsToNextRange : (end : ℕ) → Option NumberRead → List ℕ → Type 0
LeadsToNextRange end None text = text ≡ []
LeadsToNextRange end (Some p) text = ((text ≡ 44 ∷ p.rest) × (p.value ≡ end)) ⊎ ((more : List ℕ) × (text ≡ 47 ∷ more)
    × AddressSpelled p more)

no_next_range_at_end : (end : ℕ) (o : Option NumberRead) → ◌≡◌ {A = Result (Option NumberRead) MapFault} (Ok None) (Ok o) →
    LeadsToNextRange end o []
unfolding LeadsToNextRange
no_next_range_at_end end None h = refl
no_next_range_at_end end (Some p) h = cc

next_range_after_comma : (end b : ℕ) (bs : List ℕ) (o : Option NumberRead) → b ≡ 44 →
    ◌≡◌ {A = Result (Option NumberRead) MapFault} (Ok (Some (record { value = end; rest = bs }))) (Ok o) → LeadsToNextRange end o (b ∷ bs)
unfolding LeadsToNextRange
next_range_after_comma end b bs None e h = cc
next_range_after_comma end b bs (Some p) e h =
    let same : ◌≡◌ {A = NumberRead} (record { value = end; rest = bs }) p = cc in
    let rest : bs ≡ p.rest = ap (λ (m : NumberRead). m.rest) same in
    inl (cc, sym (ap (λ (m : NumberRead). m.value) same))

next_range_after_slash : (end b : ℕ) (bs : List ℕ) (o : Option NumberRead) → b ≡ 47 → place_as_option (address_at bs) ≡ Ok o →
    LeadsToNextRange end o (b ∷ bs)
unfolding LeadsToNextRange
next_range_after_slash end b bs None e h =
    let s = both_steps_ok (address_at bs) (λ (p : NumberRead). Ok (Some p)) None h in
    let wrong = s.2 in cc
next_range_after_slash end b bs (Some p) e h =
    let s = both_steps_ok (address_at bs) (λ (p : NumberRead). Ok (Some p)) (Some p) h in
    let same : s.0 ≡ p = cc in
    inr (bs, ap (λ (k : ℕ). k ∷ bs) e, read_address_is_spelled p bs (s.1 ∙ ap Ok same))

-- If the tests for `,` and `/` find the next range, the text leads to the start of this range.
next_range_by_tests : (end b : ℕ) (bs : List ℕ) (o : Option NumberRead) (t u : Bool) → eqb b 44 ≡ t → eqb b 47 ≡ u →
    cond t (Ok (Some (record { value = end; rest = bs }))) (cond u (place_as_option (address_at bs)) (Err Trailing)) ≡ Ok o →
    LeadsToNextRange end o (b ∷ bs)
next_range_by_tests end b bs o true u e f h = next_range_after_comma end b bs o (eqb-true b 44 e) h
next_range_by_tests end b bs o false true e f h = next_range_after_slash end b bs o (eqb-true b 47 f) h
next_range_by_tests end b bs o false false e f h = cc

-- If `next_range_place` reads the start of the next range from a text, the text leads to this start.
pub read_next_place_is_spelled : (end : ℕ) (o : Option NumberRead) (text : List ℕ) → next_range_place end text ≡ Ok o →
    LeadsToNextRange end o text
unfolding next_range_place
read_next_place_is_spelled end o [] h = no_next_range_at_end end o h
read_next_place_is_spelled end o (b ∷ bs) h = next_range_by_tests end b bs o (eqb b 44) (eqb b 47) refl refl h
