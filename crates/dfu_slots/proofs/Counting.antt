-- Lemmas about well-formed headers, and about the test for a slot that counts.
use Rattle.std.proofs.Common.{◌≡◌, inl, inr, ⊎_elim, Bool, true, false, not, ◌&&◌, ◌==◌, nat_le, ℕ, ◌≤◌, ◌<◌, ◌^◌, List, length, take, drop, slice_index, sym, ◌∙◌, ap, subst, arith, eq-eqb}
use Rattle.std.specs.Int.{w32, from_le_bytes}
use Rattle.std.proofs.lemmas.Nat.{from_le_bytes-to_le_bytes_4}
use Rattle.std.proofs.lemmas.Bool.{cases_Bool, both_ways, and_from, and_parts, or_left, or_right, or_cases, not_from_false, not-true, eqb-true, eqb-false, ne_eqb, le-leb, leb-true, cases_eq}
use lib.Pointwise.{bytes_decides}
use Rattle.dfu_suffix.specs.Register.{register}
use Rattle.dfu_slots.specs.Layout.{Slot, OPEN, HasOpenGate, generation, header_version, header_length, header, HasHeader}
use Rattle.dfu_slots.specs.Image.{SlotCounts, is_intact, slot_counts}

-- The length in a well-formed header is the length of the image.
pub formed_header_has_its_length : (s : Slot) (len : ℕ) → HasHeader s len → len < 2 ^ 32 → header_length s ≡ len
formed_header_has_its_length s len has fits = ⊎_elim
    (λ e. ap (λ (h : List ℕ). from_le_bytes w32 (take 4 (drop 4 h))) e ∙ from_le_bytes-to_le_bytes_4 len fits)
    (λ e. ap (λ (h : List ℕ). from_le_bytes w32 (take 4 (drop 4 h))) e ∙ from_le_bytes-to_le_bytes_4 len fits)
    has.well_formed

-- A header of version 2 with the CRC register over the first `len` data bytes of its slot is well formed.
pub version_two_header_is_formed : (s : Slot) (gen len : ℕ) → s.header ≡ header 2 gen len (register (take len s.data_bytes)) → len
    ≤ length s.data_bytes
    → HasHeader s len
version_two_header_is_formed s gen len is fits = record {
  well_formed = inr (is ∙ (λ i. header 2 (slice_index (sym is i) 0) len (register (take len s.data_bytes))));
  fits = fits;
}

-- If two slots have the same header and data, and the header of one is well formed, so is the header of the other.
pub same_bytes_same_header : (s t : Slot) (len : ℕ) → s.header ≡ t.header → s.data_bytes ≡ t.data_bytes → HasHeader s len → HasHeader t len
same_bytes_same_header s t len head body has = record {
  well_formed = ⊎_elim
      (λ e. inl (sym head ∙ e ∙ ap (λ (h : List ℕ). header 1 (slice_index h 0) len 0) head))
      (λ e. inr (sym head ∙ e ∙ (λ i. header 2 (slice_index (head i) 0) len (register (take len (body i))))))
      has.well_formed;
  fits = omega (arith, ap length body, has.fits);
}

-- An open slot counts if another slot with the same header and data counts.
pub equal_open_slot_counts : (s t : Slot) → s.header ≡ t.header → s.data_bytes ≡ t.data_bytes → HasOpenGate t → SlotCounts s → SlotCounts t
equal_open_slot_counts s t head body is_open c = record {
  is_open = is_open;
  intact = λ two.
      subst (λ (n : ℕ). HasHeader t n) (ap (λ (h : List ℕ). from_le_bytes w32 (take 4 (drop 4 h))) head)
      (same_bytes_same_header s t (header_length s) head body (c.intact (ap (λ (h : List ℕ). slice_index h 1) head ∙ two)));
}

-- A well-formed header of version 2 holds the CRC register of the image.
pub version_two_has_register : (s : Slot) (len : ℕ) → header_version s ≡ 2 → HasHeader s len
    → s.header ≡ header 2 (generation s) len (register (take len s.data_bytes))
version_two_has_register s len two has = ⊎_elim
    (λ e. let one : header_version s ≡ 1 = ap (λ (h : List ℕ). slice_index h 1) e in absurd (omega (arith, one, two)))
    (λ e. e)
    has.well_formed

formed_header_passes_test : (s : Slot) → header_version s ≡ 2 → HasHeader s (header_length s) → is_intact s ≡ true
unfolding is_intact
formed_header_passes_test s two has =
    and_from (nat_le (header_length s) (length s.data_bytes)) _ (le-leb _ _ has.fits)
    ((bytes_decides s.header (header 2 (generation s) (header_length s) (register (take (header_length s) s.data_bytes)))).1
    (version_two_has_register s (header_length s) two has))

tested_header_is_formed : (s : Slot) → is_intact s ≡ true → HasHeader s (header_length s)
unfolding is_intact
tested_header_is_formed s test =
    let parts = and_parts (nat_le (header_length s) (length s.data_bytes)) _ test in
    record {
      well_formed = inr ((bytes_decides s.header
          (header 2 (generation s) (header_length s) (register (take (header_length s) s.data_bytes)))).0 parts.1);
      fits = leb-true _ _ parts.0;
    }

-- `slot_counts` is true for a slot that counts.
pub counting_slot_passes : (s : Slot) → SlotCounts s → slot_counts s ≡ true
counting_slot_passes s c =
    and_from (s.gate == OPEN) _ (eq-eqb s.gate OPEN c.is_open)
    (⊎_elim
    (λ two. or_right (not (header_version s == 2)) _ (formed_header_passes_test s two (c.intact two)))
    (λ other. or_left _ _ (not_from_false _ (ne_eqb (header_version s) 2 other)))
    (cases_eq (header_version s) 2))

-- A slot counts if `slot_counts` is true for it.
pub passing_slot_counts : (s : Slot) → slot_counts s ≡ true → SlotCounts s
passing_slot_counts s test =
    let parts = and_parts (s.gate == OPEN) _ test in
    record {
      is_open = eqb-true s.gate OPEN parts.0;
      intact = λ two.
          ⊎_elim (λ other. absurd (eqb-false (header_version s) 2 (not-true _ other) two)) (λ whole. tested_header_is_formed s whole)
          (or_cases (not (header_version s == 2)) _ parts.1);
    }

-- A slot doesn't count if `slot_counts` is false for it.
pub failing_slot_does_not_count : (s : Slot) → slot_counts s ≡ false → ¬ SlotCounts s
failing_slot_does_not_count s test c = both_ways (slot_counts s) test (counting_slot_passes s c)

-- `slot_counts` is false for a slot that doesn't count.
pub uncounted_slot_fails : (s : Slot) → ¬ SlotCounts s → slot_counts s ≡ false
uncounted_slot_fails s off = ⊎_elim (λ on. absurd (off (passing_slot_counts s on))) (λ same. same) (cases_Bool (slot_counts s))

-- If `slot_counts` is false for both slots, neither counts.
pub neither_slot_counts : (x y : Slot) (p q : Bool) → p ≡ slot_counts x → q ≡ slot_counts y → (not p && not q) ≡ true → (¬ SlotCounts x)
    × (¬ SlotCounts y)
neither_slot_counts x y p q a b e =
    let parts = and_parts (not p) (not q) e in
    (failing_slot_does_not_count x (sym a ∙ not-true p parts.0), failing_slot_does_not_count y (sym b ∙ not-true q parts.1))

-- If `slot_counts` is true for one of two slots, at least one counts.
pub one_slot_counts : (x y : Slot) (p q : Bool) → p ≡ slot_counts x → q ≡ slot_counts y → (not p && not q) ≡ false
    → ¬ ((¬ SlotCounts x) × (¬ SlotCounts y))
one_slot_counts x y p q a b e none =
    both_ways (not p && not q) e (and_from (not p) (not q) (not_from_false p (a ∙ uncounted_slot_fails x none.0))
    (not_from_false q (b ∙ uncounted_slot_fails y none.1)))
