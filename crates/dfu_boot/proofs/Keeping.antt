-- A trial after the write of a mark or the erase of its gate: the trial continues, ends with a confirmation, or ends with the confirmed
-- image active again.
use Rattle.std.proofs.Common.{◌≡◌, ◌⊎◌, inl, inr, ⊎_elim, ℕ, ◌+◌, ◌*◌, ◌≤◌, ◌<◌, true, false, length, take, slice_index, refl, sym, ◌∙◌, ap, subst, arith}
use Rattle.std.proofs.Math.Nat.{mul-le-mul_right}
use Rattle.std.proofs.lemmas.Bool.{cases_eq, cases_lt}
use Rattle.dfu_slots.specs.Medium.{MediumState, ChangedWithin}
use Rattle.dfu_slots.specs.Layout.{Slot, slot, ArePlaces, OPEN, header_length}
use Rattle.dfu_slots.specs.Image.{gate_of, slot_of, IsNewest, HasImage}
use Rattle.dfu_slots.proofs.BytesOutsideWrite.{range_kept_outside_write}
use Rattle.dfu_slots.proofs.Sectors.{gate_room_at_least_16, gate_unit_at_least_16}
use Rattle.dfu_slots.proofs.Parts.{gate_kept_outside_change, header_kept_outside_change, data_kept_outside_change, slot_kept_outside_change}
use Rattle.dfu_slots.proofs.Newest.{test_finds_newest_slot}
use Rattle.dfu_boot.specs.trial.Marks.{mark_size, mark_at, is_marked, is_mark_set, recorded_starts, AreTries}
use Rattle.dfu_boot.specs.trial.Trial.{IsFilledSlot, IsOnTrial, image_at}
use Rattle.dfu_boot.specs.trial.Calls.{IsStanding}
use Rattle.dfu_boot.specs.trial.Laws.{ImagesSurvive, TrialContinues, StartIsRecorded, IsConfirmed, ConfirmedImageIsBack}
use Rattle.dfu_boot.specs.declared.trial.standing.Trial.{Trial}
use Rattle.dfu_boot.specs.declared.trial.standing.Standing.TheVariants.{OnTrial}
use Rattle.dfu_boot.proofs.Places.{slot_places_swap, marks_end_in_header_sector}
use Rattle.dfu_boot.proofs.Slots.{newest_image_is_active, change_keeps_two_slots, change_keeps_slot_places, base_slot_kept_by_gate, base_is_newest_again, base_image_is_active_again}
use Rattle.dfu_boot.proofs.Closing.{marks_exclude_trial}
use Rattle.dfu_boot.proofs.Counting.{count_is_at_most_all_marks, counted_mark_is_set, set_marks_are_counted, equal_marks_have_equal_counts}

-- A mark outside a changed range is set exactly if it was set before.
pub mark_kept_outside_change : (m now : MediumState) (p j from to : ℕ) → ChangedWithin from to m.bytes now.bytes
    → (mark_at m.grain p j + mark_size m.grain ≤ from) ⊎ (to ≤ mark_at m.grain p j)
    → is_mark_set (record now { grain = m.grain }) p j ≡ is_mark_set m p j
unfolding is_mark_set
mark_kept_outside_change m now p j from to keeps apart = ap is_marked
    (range_kept_outside_write from to m.bytes now.bytes (mark_at m.grain p j) (mark_at m.grain p j + mark_size m.grain) keeps apart)

-- Equal slots have equal images.
pub equal_slots_equal_images : (a b : Slot) → a ≡ b → take (header_length a) a.data_bytes ≡ take (header_length b) b.data_bytes
equal_slots_equal_images a b same = ap (λ (s : Slot). take (header_length s) s.data_bytes) same

module _ (m now : MediumState) (tries : ℕ) (t : Trial) (are : AreTries m.grain tries) (stands : IsStanding m tries (OnTrial t)) where
  abbrev at : ℕ
  at = t.slot

  abbrev base : ℕ
  base = t.base

  abbrev g : ℕ
  g = gate_of m

  abbrev u : ℕ
  u = mark_size m.grain

  abbrev n : MediumState
  n = record now { grain = m.grain }

  abbrev trial : IsOnTrial m at base
  trial = stands.0

  marks_fit_gate_room : (j : ℕ) → j ≤ tries → 2 * u + j * u ≤ g
  marks_fit_gate_room j le = marks_end_in_header_sector m.grain tries j are le

  mark_at_least_16 : 16 ≤ u
  mark_at_least_16 = gate_unit_at_least_16 m.grain.unit

  -- If both slots and both confirmation marks are unchanged, the image is still on trial.
  trial_stays_with_slots : length now.bytes ≡ length m.bytes → slot g now.bytes at ≡ slot_of m at → slot g now.bytes base ≡ slot_of m base
      → is_mark_set n at 0 ≡ false → is_mark_set n base 0 ≡ is_mark_set m base 0 → IsOnTrial n at base
  trial_stays_with_slots size mine other unconfirmed kept = record {
    sized = change_keeps_two_slots m now size trial.sized;
    places = change_keeps_slot_places m now size at base trial.places;
    newest = subst (λ (s : Slot). IsNewest s (slot g now.bytes base)) (sym mine)
        (subst (λ (s : Slot). IsNewest (slot_of m at) s) (sym other) trial.newest);
    mine = subst IsFilledSlot (sym mine) trial.mine;
    other = subst IsFilledSlot (sym other) trial.other;
    unconfirmed = unconfirmed;
    confirmed = kept ∙ trial.confirmed;
  }

  both_images_kept : slot g now.bytes at ≡ slot_of m at → slot g now.bytes base ≡ slot_of m base → ImagesSurvive m t n
  both_images_kept mine other = record { new = equal_slots_equal_images _ _ mine; base = equal_slots_equal_images _ _ other }

  module _ (i : ℕ) (le : i ≤ tries) (keeps : ChangedWithin (mark_at m.grain at i) (mark_at m.grain at i + u) m.bytes now.bytes) where
    abbrev from : ℕ
    from = mark_at m.grain at i

    trial_slot_kept_by_mark : slot g now.bytes at ≡ slot_of m at
    trial_slot_kept_by_mark =
        let gate = gate_kept_outside_change g from (from + u) m.bytes now.bytes at keeps (inl (omega (arith, mark_at_least_16))) in
        let head = header_kept_outside_change g from (from + u) m.bytes now.bytes at keeps (inl (omega (arith, mark_at_least_16))) in
        let body = data_kept_outside_change g from (from + u) m.bytes now.bytes at keeps (inr (omega (arith, marks_fit_gate_room i le))) in
        λ j. record { gate = gate j; header = head j; data_bytes = body j }

    base_slot_kept_by_mark : slot g now.bytes base ≡ slot_of m base
    base_slot_kept_by_mark = slot_kept_outside_change g from (from + u) m.bytes now.bytes base keeps (gate_room_at_least_16 m.grain) (omega
        (arith, trial.sized.room))
        (⊎_elim (λ p. inr (omega (arith, p.0, p.1, trial.sized.room, marks_fit_gate_room i le))) (λ p. inl (omega (arith, p.0, p.1)))
        trial.places)

    -- The marks of the other slot are unchanged.
    base_marks_kept_by_mark : (j : ℕ) → j ≤ tries → is_mark_set n base j ≡ is_mark_set m base j
    base_marks_kept_by_mark j lej = mark_kept_outside_change m now base j from (from + u) keeps
        (⊎_elim (λ p. inr (omega (arith, p.0, p.1, trial.sized.room, marks_fit_gate_room i le)))
        (λ p. inl (omega (arith, p.0, p.1, trial.sized.room, marks_fit_gate_room j lej))) trial.places)

    other_marks_of_slot_kept : (j : ℕ) → (j < i) ⊎ (i < j) → is_mark_set n at j ≡ is_mark_set m at j
    other_marks_of_slot_kept j (inl lt) = mark_kept_outside_change m now at j from (from + u) keeps (inl (omega (
      arith,
      mul-le-mul_right u lt,
      product,
    )))
      where
        product : (j + 1) * u ≡ j * u + u
        product = grind arith
    other_marks_of_slot_kept j (inr lt) = mark_kept_outside_change m now at j from (from + u) keeps (inr (omega (
      arith,
      mul-le-mul_right u lt,
      product,
    )))
      where
        product : (i + 1) * u ≡ i * u + u
        product = grind arith

    -- If a write leaves a mark set or unset as it was before, the trial is unchanged.
    pub unset_mark_continues_trial : is_mark_set n at i ≡ is_mark_set m at i → TrialContinues m tries t n
    unset_mark_continues_trial same = record {
      stands = (
        trial_stays_with_slots keeps.size trial_slot_kept_by_mark base_slot_kept_by_mark (each 0 (omega arith)
            ∙ trial.unconfirmed) (base_marks_kept_by_mark 0 (omega arith)),
        stands.1 ∙ sym (equal_marks_have_equal_counts m n at 1 tries (λ k low high. each k (omega (arith, high)))),
      );
      images = both_images_kept trial_slot_kept_by_mark base_slot_kept_by_mark;
    }
      where
        each : (k : ℕ) → k ≤ tries → is_mark_set n at k ≡ is_mark_set m at k
        each k lek = ⊎_elim (λ lt. other_marks_of_slot_kept k (inl lt))
            (λ ge. ⊎_elim (λ gt. other_marks_of_slot_kept k (inr gt)) (λ lei. let e : k ≡ i = omega (arith, ge, lei) in
            subst (λ (x : ℕ). is_mark_set n at x ≡ is_mark_set m at x) (sym e) same) (cases_lt i k)) (cases_lt k i)

    -- If the mark of the next start is set after its write, that start is recorded.
    pub set_mark_records_start : i ≡ t.starts + 1 → is_mark_set n at i ≡ true → StartIsRecorded m tries t n
    set_mark_records_start next set = record {
      starts = recorded_starts n tries at;
      more = omega (arith, next, least);
      most = count_is_at_most_all_marks n at 1 tries;
      stands = (
        trial_stays_with_slots keeps.size trial_slot_kept_by_mark base_slot_kept_by_mark (other_marks_of_slot_kept 0 (inl (omega (
          arith,
          next,
        ))) ∙ trial.unconfirmed) (base_marks_kept_by_mark 0 (omega arith)),
        refl,
      );
      images = both_images_kept trial_slot_kept_by_mark base_slot_kept_by_mark;
    }
      where
        each : (k : ℕ) → 1 ≤ k → k < 1 + i → is_mark_set n at k ≡ true
        each k low high = ⊎_elim
            (λ lt. other_marks_of_slot_kept k (inl lt) ∙ counted_mark_is_set m at 1 tries k low (omega (arith, lt, next, stands.1)))
            (λ ge. let e : k ≡ i = omega (arith, ge, high) in subst (λ (x : ℕ). is_mark_set n at x ≡ true) (sym e) set) (cases_lt k i)

        least : i ≤ recorded_starts n tries at
        least = set_marks_are_counted n at 1 tries i le each

    -- If the confirmation mark is set after its write, the image is active and confirmed.
    pub set_confirmation_confirms : is_mark_set n at 0 ≡ true → IsConfirmed m t n
    set_confirmation_confirms set =
        let newest : IsNewest (slot_of n at) (slot_of n base) = subst (λ (s : Slot). IsNewest s (slot g now.bytes base)) (sym
        trial_slot_kept_by_mark)
        (subst (λ (s : Slot). IsNewest (slot_of m at) s) (sym base_slot_kept_by_mark) trial.newest) in
        let places : ArePlaces now.bytes at base = change_keeps_slot_places m now keeps.size at base trial.places in
        let found = test_finds_newest_slot g now.bytes at base places newest in
        let has : HasImage n = record {
          image = image_at n at;
          active =
              newest_image_is_active n at base (change_keeps_two_slots m now keeps.size trial.sized) places newest (subst IsFilledSlot (sym
              trial_slot_kept_by_mark) trial.mine);
        } in record {
          stands = record {
            has = has;
            slot = found.0;
            none = marks_exclude_trial n at base has found.0 found.1 (inl set);
            confirmed = sym set;
          };
          images = both_images_kept trial_slot_kept_by_mark base_slot_kept_by_mark;
        }

  module _ (keeps : ChangedWithin at (at + g) m.bytes now.bytes) where
    base_slot_kept_by_erase : slot g now.bytes base ≡ slot_of m base
    base_slot_kept_by_erase = base_slot_kept_by_gate m now at base trial.sized trial.places keeps

    -- The marks of the slot on trial are unchanged.
    trial_marks_kept_by_erase : (j : ℕ) → j ≤ tries → is_mark_set n at j ≡ is_mark_set m at j
    trial_marks_kept_by_erase j le = mark_kept_outside_change m now at j at (at + g) keeps (inr (omega arith))

    base_marks_kept_by_erase : (j : ℕ) → j ≤ tries → is_mark_set n base j ≡ is_mark_set m base j
    base_marks_kept_by_erase j le = mark_kept_outside_change m now base j at (at + g) keeps
        (⊎_elim (λ p. inr (omega (arith, p.0, p.1, trial.sized.room))) (λ p. inl (omega (
          arith,
          p.0,
          p.1,
          trial.sized.room,
          marks_fit_gate_room j le,
        )))
        trial.places)

    -- If the gate reads as open after the erase, the trial is unchanged.
    pub open_gate_continues_trial : slice_index now.bytes at ≡ OPEN → TrialContinues m tries t n
    open_gate_continues_trial reads =
        let gate : slice_index now.bytes at ≡ slice_index m.bytes at = reads ∙ sym trial.mine.counts.is_open in
        let head = header_kept_outside_change g at (at + g) m.bytes now.bytes at keeps (inr (omega arith)) in
        let body = data_kept_outside_change g at (at + g) m.bytes now.bytes at keeps (inr (omega arith)) in
        let mine : slot g now.bytes at ≡ slot_of m at = λ j. record { gate = gate j; header = head j; data_bytes = body j } in record {
          stands = (
            trial_stays_with_slots keeps.size mine base_slot_kept_by_erase (trial_marks_kept_by_erase 0 (omega arith)
                ∙ trial.unconfirmed) (base_marks_kept_by_erase 0 (omega arith)),
            stands.1 ∙ sym (equal_marks_have_equal_counts m n at 1 tries (λ k low high. trial_marks_kept_by_erase k (omega (arith, high)))),
          );
          images = both_images_kept mine base_slot_kept_by_erase;
        }

    -- If the gate does not read as open after the erase, the confirmed image is active again.
    pub closed_gate_ends_trial : ¬ (slice_index now.bytes at ≡ OPEN) → ConfirmedImageIsBack m t n
    closed_gate_ends_trial shut =
        let places = change_keeps_slot_places m now keeps.size base at (slot_places_swap m.bytes at base trial.places) in
        let newest = base_is_newest_again m now at base trial.sized trial.places keeps shut trial.other in
        let found = test_finds_newest_slot g now.bytes base at places newest in
        let has : HasImage n = record {
          image = image_at n base;
          active = base_image_is_active_again m now at base trial.sized trial.places keeps shut trial.other;
        } in
        let set : is_mark_set n base 0 ≡ true = base_marks_kept_by_erase 0 (omega arith) ∙ trial.confirmed in record {
          stands = record {
            has = has;
            slot = found.0;
            none = marks_exclude_trial n base at has found.0 found.1 (inl set);
            confirmed = sym set;
          };
          image = equal_slots_equal_images _ _ base_slot_kept_by_erase;
        }

    pub gate_erase_ends_or_continues : TrialContinues m tries t n ⊎ ConfirmedImageIsBack m t n
    gate_erase_ends_or_continues = elim (cases_eq (slice_index now.bytes at) OPEN) [
      | inl reads ↦ inl (open_gate_continues_trial reads)
      | inr shut ↦ inr (closed_gate_ends_trial shut)
    ]
