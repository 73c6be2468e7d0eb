-- Lemmas about the test that `open` makes on a medium.
use Rattle.std.proofs.Common.{◌≡◌, inl, inr, Bool, true, false, ℕ, List, length, take, refl, sym, ◌∙◌, ap, subst}
use Rattle.std.proofs.lemmas.Bool.{cases_Bool, both_ways, cond-true, cond-false}
use Rattle.std.proofs.lemmas.List.{length-take-le}
use Rattle.dfu_slots.specs.Medium.{MediumState}
use Rattle.dfu_slots.specs.Layout.{slot_size, Slot, slot, HasHeader, ArePlaces}
use Rattle.dfu_slots.specs.Image.{SlotCounts, gate_of, slot_of, IsSizedMedium, IsNewest, HasImage, slot_counts, is_newest, first_is_active, active_at, spare_at}
use Rattle.dfu_slots.specs.Changes.{FirstSlotCounts, SecondSlotCounts, HasNewest, HasBadHeader}
use Rattle.dfu_slots.proofs.Counting.{passing_slot_counts, failing_slot_does_not_count}
use Rattle.dfu_slots.proofs.Newest.{newest_slot_passes_test, tested_slot_is_newest, test_finds_newest_slot, tested_places_are_slots}

neither_newest_so_both_count : (x y : Slot) → is_newest x y ≡ false → is_newest y x ≡ false → ¬ ((¬ SlotCounts x) × (¬ SlotCounts y)) →
    SlotCounts x
    × SlotCounts y
neither_newest_so_both_count x y a b some = elim (cases_Bool (slot_counts x)) [
  | inl p ↦ elim (cases_Bool (slot_counts y)) [
    | inl q ↦ (passing_slot_counts x p, passing_slot_counts y q)
    | inr q ↦ absurd (both_ways (is_newest x y) a (newest_slot_passes_test x y
        (record { counts = passing_slot_counts x p; other_is_older = inl (failing_slot_does_not_count y q) })))
  ]
  | inr p ↦ elim (cases_Bool (slot_counts y)) [
    | inl q ↦ absurd (both_ways (is_newest y x) b (newest_slot_passes_test y x
        (record { counts = passing_slot_counts y q; other_is_older = inl (failing_slot_does_not_count x p) })))
    | inr q ↦ absurd (some (failing_slot_does_not_count x p, failing_slot_does_not_count y q))
  ]
]

both_newest_tests_fail : (g : ℕ) (bytes : List ℕ) → is_newest (slot g bytes (active_at g bytes)) (slot g bytes (spare_at g bytes))
    ≡ false → (b : Bool)
    → first_is_active g bytes ≡ b
    → (is_newest (slot g bytes 0) (slot g bytes (slot_size bytes)) ≡ false)
    × (is_newest (slot g bytes (slot_size bytes)) (slot g bytes 0) ≡ false)
both_newest_tests_fail g bytes test true first =
    absurd (both_ways _ (sym (λ i. is_newest (slot g bytes (cond-true (first_is_active g bytes) 0 (slot_size bytes) first i))
    (slot g bytes (cond-true (first_is_active g bytes) (slot_size bytes) 0 first i))) ∙ test) first)
both_newest_tests_fail g bytes test false second = (
  second,
  sym (λ i. is_newest (slot g bytes (cond-false (first_is_active g bytes) 0 (slot_size bytes) second i))
      (slot g bytes (cond-false (first_is_active g bytes) (slot_size bytes) 0 second i))) ∙ test,
)

module _ (m : MediumState) where
  abbrev g : ℕ
  g = gate_of m

  -- True if the slot found as the active one counts, and the slot found as the spare doesn't count or is one generation older.
  abbrev is_found_slot_newest : Bool
  is_found_slot_newest = is_newest (slot_of m (active_at g m.bytes)) (slot_of m (spare_at g m.bytes))

  both_slots_count : is_found_slot_newest ≡ false → ¬ ((¬ FirstSlotCounts m) × (¬ SecondSlotCounts m)) → FirstSlotCounts m
      × SecondSlotCounts m
      × (¬ HasNewest m)
  both_slots_count test some =
      let tests = both_newest_tests_fail g m.bytes test (first_is_active g m.bytes) refl in
      let both = neither_newest_so_both_count (slot_of m 0) (slot_of m (slot_size m.bytes)) tests.0 tests.1 some in
      (both.0, both.1, λ one. none one)
    where
      none : ¬ HasNewest m
      none one =
          let p = test_finds_newest_slot g m.bytes one.at one.other one.places one.newest in
          both_ways _ test (newest_slot_passes_test _ _ (subst (λ (q : ℕ). IsNewest (slot_of m q) (slot_of m (spare_at g m.bytes))) p.0
          (subst (λ (q : ℕ). IsNewest (slot_of m one.at) (slot_of m q)) p.1 one.newest)))

  -- If the slot at `active_at` is the newest and its header is well formed, the medium has an active image.
  tested_medium_has_image : (len : ℕ) → IsSizedMedium m → is_found_slot_newest ≡ true → HasHeader (slot_of m (active_at g m.bytes)) len →
      HasImage m
  tested_medium_has_image len sized test head =
      let whole = (slot_of m (active_at g m.bytes)).data_bytes in
      let image = take len whole in
      let length_is : length image ≡ len = length-take-le len whole head.fits in
      record {
        image = image;
        active = record {
          sized = sized;
          at = active_at g m.bytes;
          spare = spare_at g m.bytes;
          places = tested_places_are_slots g m.bytes;
          newest = tested_slot_is_newest _ _ test;
          header_is = subst (HasHeader (slot_of m (active_at g m.bytes))) (sym length_is) head;
          image_is = ap (λ (n : ℕ). take n whole) (sym length_is);
        };
      }

  -- Facts about the slots at the two offsets that `open` found.
  module _ {p q : ℕ} (at_active : p ≡ active_at g m.bytes) (at_spare : q ≡ spare_at g m.bytes) where
    found_places_decide_test : (b : Bool) → is_newest (slot_of m p) (slot_of m q) ≡ b → is_found_slot_newest ≡ b
    found_places_decide_test b test = sym (λ i. is_newest (slot_of m (at_active i)) (slot_of m (at_spare i))) ∙ test

    -- If the slot that was found is not the newest, but at least one slot counts, then both count and neither is one generation newer than
    -- the other.
    pub found_places_have_two_counting : is_newest (slot_of m p) (slot_of m q) ≡ false → ¬ ((¬ FirstSlotCounts m) × (¬ SecondSlotCounts m))
        → FirstSlotCounts m
        × SecondSlotCounts m × (¬ HasNewest m)
    found_places_have_two_counting test some = both_slots_count (found_places_decide_test false test) some

    -- If the slot that was found is the newest and has a well-formed header, the medium has an active image.
    pub tested_places_have_image : (len : ℕ) → IsSizedMedium m → is_newest (slot_of m p) (slot_of m q) ≡ true → HasHeader (slot_of m p) len
        → HasImage m
    tested_places_have_image len sized test head = tested_medium_has_image len sized (found_places_decide_test true test)
        (subst (λ (r : ℕ). HasHeader (slot_of m r) len) at_active head)

    -- If the slot that was found is the newest and has no well-formed header, the medium has a bad header.
    pub found_places_have_bad_header : is_newest (slot_of m p) (slot_of m q) ≡ true → ((len : ℕ) → ¬ HasHeader (slot_of m p) len) →
        HasBadHeader m
    found_places_have_bad_header test none = record {
      newest = record {
        at = p;
        other = q;
        places = subst (λ (r : ℕ). ArePlaces m.bytes r q) (sym at_active)
            (subst (ArePlaces m.bytes (active_at g m.bytes)) (sym at_spare) (tested_places_are_slots g m.bytes));
        newest = tested_slot_is_newest _ _ test;
      };
      none = none;
    }
