-- The offsets that `look` finds are those of the two slots, and the marks of these slots decide if an image is on trial.
use Rattle.std.proofs.Common.{◌≡◌, ◌⊎◌, ⊎_elim, ℕ, true, false, sym, ◌∙◌, ap, subst}
use Rattle.std.proofs.lemmas.Bool.{true≢false}
use Rattle.dfu_slots.specs.Medium.{MediumState}
use Rattle.dfu_slots.specs.Layout.{ArePlaces}
use Rattle.dfu_slots.specs.Image.{gate_of, slot_of, IsNewest, HasImage, active_at, spare_at}
use Rattle.dfu_slots.proofs.Stands.{active_image_at_its_place}
use Rattle.dfu_slots.proofs.Newest.{test_finds_active_image, test_finds_newest_slot}
use Rattle.dfu_boot.specs.trial.Marks.{is_mark_set}
use Rattle.dfu_boot.specs.trial.Trial.{IsFilledSlot, HasTrial}
use Rattle.dfu_boot.proofs.Slots.{active_slot_is_filled}

module _ (m : MediumState) (p q : ℕ) (has : HasImage m) (active : p ≡ active_at (gate_of m) m.bytes)
    (spare : q ≡ spare_at (gate_of m) m.bytes) where
  -- The offsets that `look` finds are those of the two slots.
  pub found_places_are_slots : ArePlaces m.bytes p q
  found_places_are_slots =
      let a = has.active in
      let at = test_finds_active_image (gate_of m) m.bytes a.at a.spare has.image (active_image_at_its_place a) in
      subst (λ (x : ℕ). ArePlaces m.bytes x q) (at.0 ∙ sym active) (subst (λ (x : ℕ). ArePlaces m.bytes a.at x) (at.1 ∙ sym spare) a.places)

  -- The active slot that `look` finds is the newest.
  pub found_slot_is_newest : IsNewest (slot_of m p) (slot_of m q)
  found_slot_is_newest =
      let a = has.active in
      let at = test_finds_active_image (gate_of m) m.bytes a.at a.spare has.image (active_image_at_its_place a) in
      subst (λ (x : ℕ). IsNewest (slot_of m x) (slot_of m q)) (at.0 ∙ sym active)
      (subst (λ (x : ℕ). IsNewest (slot_of m a.at) (slot_of m x)) (at.1 ∙ sym spare) a.newest)

  pub found_slot_is_filled : IsFilledSlot (slot_of m p)
  found_slot_is_filled =
      let a = has.active in
      let at = test_finds_active_image (gate_of m) m.bytes a.at a.spare has.image (active_image_at_its_place a) in
      subst (λ (x : ℕ). IsFilledSlot (slot_of m x)) (at.0 ∙ sym active) (active_slot_is_filled m has.image a)

  -- If an image is on trial, its slot is the active one that `look` finds, and the confirmed image is in the other slot.
  pub trial_is_at_found_slots : (t : HasTrial m) → (t.at ≡ p) × (t.base ≡ q)
  trial_is_at_found_slots t =
      let at = test_finds_newest_slot (gate_of m) m.bytes t.at t.base t.trial.places t.trial.newest in (at.0 ∙ sym active, at.1 ∙ sym spare)

  -- If the active image is confirmed, or the other slot is not confirmed or not filled, no image is on trial.
  pub marks_exclude_trial : (is_mark_set m p 0 ≡ true) ⊎ ((is_mark_set m q 0 ≡ false) ⊎ (¬ IsFilledSlot (slot_of m q))) → ¬ HasTrial m
  marks_exclude_trial why t =
      let there = trial_is_at_found_slots t in
      ⊎_elim
      (λ set. true≢false (sym set ∙ ap (λ (x : ℕ). is_mark_set m x 0) (sym there.0) ∙ t.trial.unconfirmed))
      (λ rest. ⊎_elim
      (λ unset. true≢false (sym t.trial.confirmed ∙ ap (λ (x : ℕ). is_mark_set m x 0) there.1 ∙ unset))
      (λ none. none (subst (λ (x : ℕ). IsFilledSlot (slot_of m x)) there.1 t.trial.other)) rest) why
