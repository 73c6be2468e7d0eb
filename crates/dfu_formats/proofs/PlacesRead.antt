-- `address_at` reads each address of the grammar.
use Rattle.std.proofs.Common.{◌≡◌, ℕ, ◌<◌, ◌≤◌, ◌&&◌, ◌⊎◌, inl, inr, true, false, cond, eqb, List, [], ◌∷◌, ◌++◌, length, refl, ap, ◌∙◌, arith, Some, None, Ok, append_assoc}
use Rattle.std.proofs.lemmas.Bool.{ne_eqb}
use Rattle.dfu_formats.specs.memory.Reading.{text_after_prefix, address_at, next_range_place, digit_value}
use Rattle.dfu_formats.specs.memory.Grammar.{AreDigits, IsPrefix, IsAddress}
use Rattle.dfu_formats.proofs.NumbersRead.{other_byte_has_no_digit_first, spelled_number_is_read}
use Rattle.dfu_formats.proofs.GroupsRead.{first_byte_is_taken}

-- ---- reading of the parts of an address

-- `text_after_prefix` skips `0x` and `0X`.
hex_prefix_is_skipped : (b : ℕ) (rest : List ℕ) → (b ≡ 120) ⊎ (b ≡ 88) → text_after_prefix (48 ∷ b ∷ rest) ≡ rest
unfolding text_after_prefix
hex_prefix_is_skipped b rest h = elim h [ inl e ↦ rw e refl | inr e ↦ rw e refl ]

-- A text whose second byte is neither x nor X has no prefix, and `text_after_prefix` returns all of it.
other_byte_is_no_prefix : (a b : ℕ) (rest : List ℕ) → (b ≡ 120 → ⊥) → (b ≡ 88 → ⊥) → text_after_prefix (a ∷ b ∷ rest) ≡ a ∷ b ∷ rest
unfolding text_after_prefix
other_byte_is_no_prefix a b rest h k = rw (ne_eqb b 120 h, ne_eqb b 88 k) (elim (eqb a 48) as (λ t. cond (t && false) rest (a ∷ b ∷ rest) ≡
    a ∷ b ∷ rest) [ true ↦ refl | false ↦ refl ])

digit_is_no_x : (b : ℕ) → digit_value b < 16 → (b ≡ 120 → ⊥) × (b ≡ 88 → ⊥)
digit_is_no_x b h = (λ e. absurd (omega (arith, h, ap digit_value e)), λ e. absurd (omega (arith, h, ap digit_value e)))

-- `text_after_prefix` returns all of a text that begins with digits and `/`.
digits_without_prefix_stay : (ds rest : List ℕ) → AreDigits 16 ds → 1 ≤ length ds → text_after_prefix (ds ++ 47 ∷ rest) ≡ ds ++ 47 ∷ rest
unfolding AreDigits
digits_without_prefix_stay [] rest a h = absurd (omega (arith, h))
digits_without_prefix_stay (d ∷ []) rest a h = other_byte_is_no_prefix d 47 rest (λ e. absurd (omega (arith, e))) (λ e. absurd (omega
    (arith, e)))
digits_without_prefix_stay (d ∷ e ∷ ds) rest a h = other_byte_is_no_prefix d e (ds
    ++ 47 ∷ rest) (digit_is_no_x e a.1.0).0 (digit_is_no_x e a.1.0).1

-- The text after the prefix, if any, begins with the digits of the address.
digits_follow_prefix : (prefix ds rest : List ℕ) → IsPrefix prefix → AreDigits 16 ds → 1 ≤ length ds → text_after_prefix (prefix ++ (ds
    ++ 47 ∷ rest)) ≡ ds ++ 47 ∷ rest
digits_follow_prefix [] ds rest p a h = digits_without_prefix_stay ds rest a h
digits_follow_prefix (x ∷ []) ds rest p a h = absurd p
digits_follow_prefix (x ∷ y ∷ []) ds rest p a h = ap (λ (k : ℕ). text_after_prefix (k ∷ y ∷ (ds ++ 47 ∷ rest))) p.0
    ∙ hex_prefix_is_skipped y (ds ++ 47 ∷ rest) p.1
digits_follow_prefix (x ∷ y ∷ z ∷ zs) ds rest p a h = absurd p

-- `address_at` reads an address that is followed by `/`.
pub spelled_address_is_read : (place : ℕ) (address rest : List ℕ) → IsAddress place address → address_at (address ++ 47 ∷ rest)
    ≡ Ok (record { value = place; rest = rest })
unfolding address_at
spelled_address_is_read place address rest a =
    let whole : address ++ 47 ∷ rest ≡ a.prefix ++ (a.digits ++ 47 ∷ rest) =
    ap (λ (t : List ℕ). t ++ 47 ∷ rest) a.spelled ∙ append_assoc a.prefix a.digits (47 ∷ rest) in
    rw (
      whole,
      digits_follow_prefix a.prefix a.digits rest a.prefix_is a.number_is.are_digits a.number_is.some,
      spelled_number_is_read 16 8 place a.digits (47 ∷ rest) a.number_is (other_byte_has_no_digit_first 16 47 rest (omega arith)),
      first_byte_is_taken 47 rest,
    ) refl

pub comma_gives_next_place : (end : ℕ) (rest : List ℕ) → next_range_place end (44 ∷ rest) ≡ Ok (Some (record { value = end; rest = rest }))
unfolding next_range_place
comma_gives_next_place end rest = refl

pub slash_gives_next_place : (end place : ℕ) (address rest : List ℕ) → IsAddress place address →
    next_range_place end (47 ∷ (address ++ 47 ∷ rest)) ≡ Ok (Some (record { value = place; rest = rest }))
unfolding next_range_place
slash_gives_next_place end place address rest a = rw (spelled_address_is_read place address rest a) refl

pub end_gives_no_next_place : (end : ℕ) → next_range_place end [] ≡ Ok None
unfolding next_range_place
end_gives_no_next_place end = refl
