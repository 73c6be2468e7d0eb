-- Lemmas about the offsets of the active slot and of the spare slot, and about the test `is_newest`.
use Rattle.std.proofs.Common.{◌≡◌, inl, inr, ⊎_elim, not, true, false, ℕ, ◌+◌, ◌≤◌, List, length, sym, ◌∙◌, subst, arith, eq-eqb}
use Rattle.std.proofs.lemmas.Bool.{and_from, and_left, and_right, or_left, or_right, or_from, or_cases, and_parts, eqb-true, not-true, cases_Bool, not_from_false, not_from_true, ne_eqb, cond-true, cond-false}
use Rattle.dfu_slots.specs.Layout.{slot_size, capacity, Slot, slot, next_generation, ArePlaces}
use Rattle.dfu_slots.specs.Image.{IsNewest, slot_counts, is_newest, first_is_active, active_at, spare_at, spare}
use Rattle.dfu_slots.proofs.Parts.{data_length}
use Rattle.dfu_slots.proofs.Stands.{HasTwoSlots, ActiveAt}
use Rattle.dfu_slots.proofs.Counting.{counting_slot_passes, uncounted_slot_fails, passing_slot_counts, failing_slot_does_not_count}

-- `is_newest` is true for the newest slot.
pub newest_slot_passes_test : (mine other : Slot) → IsNewest mine other → is_newest mine other ≡ true
newest_slot_passes_test mine other a =
    and_from (slot_counts mine) _ (counting_slot_passes mine a.counts)
    (⊎_elim
    (λ off. or_left _ _ (not_from_false _ (uncounted_slot_fails other off)))
    (λ other_is_older. or_right (not (slot_counts other)) _ (eq-eqb _ _ other_is_older))
    a.other_is_older)

-- A slot is the newest if `is_newest` is true for it.
pub tested_slot_is_newest : (mine other : Slot) → is_newest mine other ≡ true → IsNewest mine other
tested_slot_is_newest mine other test =
    let parts = and_parts (slot_counts mine) _ test in
    record {
      counts = passing_slot_counts mine parts.0;
      other_is_older = ⊎_elim (λ off. inl (failing_slot_does_not_count other (not-true _ off))) (λ other_is_older. inr (eqb-true _ _
          other_is_older))
          (or_cases (not (slot_counts other)) _ parts.1);
    }

generations_not_each_next : (g h : ℕ) → g ≡ next_generation h → h ≡ next_generation g → ⊥
generations_not_each_next g h a b = omega arith

-- If one slot is the newest, `is_newest` is false for the other slot.
pub other_slot_fails_test : (mine other : Slot) → IsNewest mine other → is_newest other mine ≡ false
other_slot_fails_test mine other a =
    ⊎_elim
    (λ off. and_left (slot_counts other) _ (uncounted_slot_fails other off))
    (λ other_is_older. and_right (slot_counts other) _ (or_from _ _ (not_from_true _ (counting_slot_passes mine a.counts))
    (ne_eqb _ _ (λ e. generations_not_each_next _ _ other_is_older e))))
    a.other_is_older

-- `active_at` is the offset of the newest slot, and `spare_at` that of the other slot.
pub test_finds_newest_slot : (g : ℕ) (bytes : List ℕ) (mine other : ℕ) → ArePlaces bytes mine other
    → IsNewest (slot g bytes mine) (slot g bytes other) → (mine ≡ active_at g bytes) × (other ≡ spare_at g bytes)
test_finds_newest_slot g bytes mine other places newest =
    ⊎_elim
    (λ p.
    let is_first : first_is_active g bytes ≡ true =
    newest_slot_passes_test _ _ (subst (λ (q : ℕ). IsNewest (slot g bytes q) (slot g bytes (slot_size bytes))) p.0
    (subst (λ (q : ℕ). IsNewest (slot g bytes mine) (slot g bytes q)) p.1 newest)) in (
      p.0 ∙ sym (cond-true (first_is_active g bytes) 0 (slot_size bytes) is_first),
      p.1 ∙ sym (cond-true (first_is_active g bytes) (slot_size bytes) 0 is_first),
    ))
    (λ p.
    let is_second : first_is_active g bytes ≡ false =
    other_slot_fails_test _ _ (subst (λ (q : ℕ). IsNewest (slot g bytes q) (slot g bytes 0)) p.0
    (subst (λ (q : ℕ). IsNewest (slot g bytes mine) (slot g bytes q)) p.1 newest)) in (
      p.0 ∙ sym (cond-false (first_is_active g bytes) 0 (slot_size bytes) is_second),
      p.1 ∙ sym (cond-false (first_is_active g bytes) (slot_size bytes) 0 is_second),
    ))
    places

-- `active_at` is the offset of an active image's slot, and `spare_at` that of its spare.
pub test_finds_active_image : (g : ℕ) (bytes : List ℕ) (mine other : ℕ) (image : List ℕ) → ActiveAt g bytes mine other image → (mine
    ≡ active_at g bytes)
    × (other ≡ spare_at g bytes)
test_finds_active_image g bytes mine other image a = test_finds_newest_slot g bytes mine other a.places a.newest

-- `active_at` and `spare_at` are the offsets of the two slots, in either order.
pub tested_places_are_slots : (g : ℕ) (bytes : List ℕ) → ArePlaces bytes (active_at g bytes) (spare_at g bytes)
tested_places_are_slots g bytes = elim (cases_Bool (first_is_active g bytes)) [
  | inl first ↦ inl (
    cond-true (first_is_active g bytes) 0 (slot_size bytes) first,
    cond-true (first_is_active g bytes) (slot_size bytes) 0 first,
  )
  | inr second ↦ inr (
    cond-false (first_is_active g bytes) 0 (slot_size bytes) second,
    cond-false (first_is_active g bytes) (slot_size bytes) 0 second,
  )
]

-- Each slot ends within the medium.
pub slot_place_ends_within : (g : ℕ) (bytes : List ℕ) (mine other : ℕ) → HasTwoSlots g bytes → ArePlaces bytes mine other
    → (mine + slot_size bytes ≤ length bytes) × (other + slot_size bytes ≤ length bytes)
slot_place_ends_within g bytes mine other sized places =
    ⊎_elim (λ p. (omega (arith, sized.even, p.0), omega (arith, sized.even, p.1)))
    (λ p. (omega (arith, sized.even, p.0), omega (arith, sized.even, p.1))) places

-- The slot at `active_at` ends within the medium.
pub active_place_ends_within : (g : ℕ) (bytes : List ℕ) → HasTwoSlots g bytes → active_at g bytes + slot_size bytes ≤ length bytes
active_place_ends_within g bytes sized = (slot_place_ends_within g bytes (active_at g bytes) (spare_at g bytes) sized
    (tested_places_are_slots g bytes)).0

-- The slot at `spare_at` ends within the medium.
pub spare_place_ends_within : (g : ℕ) (bytes : List ℕ) → HasTwoSlots g bytes → spare_at g bytes + slot_size bytes ≤ length bytes
spare_place_ends_within g bytes sized = (slot_place_ends_within g bytes (active_at g bytes) (spare_at g bytes) sized
    (tested_places_are_slots g bytes)).1

-- The length of the spare's data is the capacity.
pub spare_data_has_capacity : (g : ℕ) (bytes : List ℕ) → HasTwoSlots g bytes → length (spare g bytes).data_bytes ≡ capacity g bytes
spare_data_has_capacity g bytes sized = data_length g bytes (spare_at g bytes) (spare_place_ends_within g bytes sized) (omega (
  arith,
  sized.room,
))
