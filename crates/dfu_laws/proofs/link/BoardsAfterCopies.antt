-- The copy between two areas leaves the active image unchanged, and adds no image to the slots.
use Rattle.std.specs.Prelude.{◌≡◌, ◌⊎◌, ℕ, ◌+◌, ◌≤◌, Bool, List, length}
use Rattle.std.proofs.Common.{inl, inr, refl, sym, ap, ◌∙◌, subst, arith, ⊎_elim}
use Rattle.dfu_slots.specs.Units.{Grain, gate_room}
use Rattle.dfu_slots.specs.Medium.{MediumState}
use Rattle.dfu_slots.specs.Layout.{Slot, slot, slot_size, ArePlaces}
use Rattle.dfu_slots.specs.Image.{gate_of, slot_of, Active}
use Rattle.dfu_slots.specs.StoreView.{image_of}
use Rattle.dfu_slots.proofs.Sectors.{gate_room_at_least_16}
use Rattle.dfu_slots.proofs.Parts.{slot_size_kept_by_change, slot_kept_outside_change}
use Rattle.dfu_boot.specs.trial.Trial.{IsFilledSlot}
use Rattle.dfu_home.specs.declared.due.Due.{Due}
use Rattle.dfu_home.specs.declared.due.Due.TheVariants.{Refuse, Home, Erase, Program}
use Rattle.dfu_home.specs.declared.due.Progress.{Progress}
use Rattle.dfu_home.specs.Places.{first_of}
use Rattle.dfu_home.specs.Next.{IsNextDue}
use Rattle.dfu_home.specs.Laws.{place_of, end_of_due, HomeOperationOutcome, ImageStays, IsFirstSlotOperation, WritesTheFirstSlot, FirstSlotIsKnown}
use Rattle.dfu_laws.specs.board.Slots.{IsInSlot}
use Rattle.dfu_laws.specs.link.Copies.{HomeOperations, no_operation, then_operation, HomeOperationsKeepImage}
use Rattle.dfu_laws.proofs.board.Slots.{image_shown_in, filled_slot_holds_image, slot_of_image_is_filled, active_image_is_in_slot}

-- Laws of dfu_home about one operation of the copy.
pub record HomeOperationLaws : Type 0 where
  -- An operation leaves the active image unchanged.
  pub stays : ImageStays
  -- An operation of the copy writes only in the first slot.
  pub writes : WritesTheFirstSlot
  -- If the first slot is open after an operation, the slot is unchanged, or contains the active image.
  pub knows : FirstSlotIsKnown

-- An operation of the copy ends within the first slot.
operation_ends_in_first_slot : (m : MediumState) (due : Due) → IsFirstSlotOperation m due →
    end_of_due m.grain.sector due ≤ slot_size m.bytes
operation_ends_in_first_slot m (Erase at) first = first.0
operation_ends_in_first_slot m (Program at len) first = first.0
operation_ends_in_first_slot m (Refuse refusal) first = omega arith
operation_ends_in_first_slot m Home first = omega arith

-- Operations of the copy leave the active image unchanged.
pub operations_keep_image : ImageStays → HomeOperationsKeepImage
operations_keep_image stays m _ image a no_operation = a
operations_keep_image stays m _ image a (then_operation {mid = mid} {now = now} {due = due} p more does carried) =
    stays mid now image p due (operations_keep_image stays m mid image a more) does carried

-- Operations of the copy do not change the size of the flash.
pub operations_keep_size : (m now : MediumState) → HomeOperations m now → length now.bytes ≡ length m.bytes
operations_keep_size m _ no_operation = refl
operations_keep_size m _ (then_operation {mid = mid} {now = now} {due = due} p more does carried) =
    carried.bytes.size ∙ operations_keep_size m mid more

module _ (laws : HomeOperationLaws) where
  module _ (m now : MediumState) (image : List ℕ) (p : Progress) (due : Due) (a : Active m image) (does : IsNextDue m p due)
      (carried : HomeOperationOutcome m due now) where
    -- Number of bytes reserved for a gate, and for a header.
    abbrev g : ℕ
    g = gate_of m

    -- Size of a slot.
    abbrev half : ℕ
    half = slot_size m.bytes

    -- The slots do not change their size.
    size : slot_size now.bytes ≡ half
    size = slot_size_kept_by_change (place_of due) (end_of_due m.grain.sector due) m.bytes now.bytes carried.bytes

    -- An operation of the copy does not change the second slot.
    second_slot_stays : ◌≡◌ {A = Slot} (slot_of now half) (slot_of m half)
    second_slot_stays = ap (λ (w : Grain). slot (gate_room w) now.bytes half) carried.grain
        ∙ slot_kept_outside_change g (place_of due) (end_of_due m.grain.sector due) m.bytes now.bytes half carried.bytes
        (gate_room_at_least_16 m.grain) (omega (arith, a.sized.room))
        (inr (operation_ends_in_first_slot m due (laws.writes m p due does)))

    first_slot_image : (i : List ℕ) → IsFilledSlot (first_of now) → image_shown_in (first_of now) ≡ i → IsInSlot m i
    first_slot_image i filled shows = ⊎_elim
        (λ same.
        filled_slot_holds_image m 0 half i (inl (refl, refl)) (subst IsFilledSlot same filled) (ap image_shown_in (sym same) ∙ shows))
        (λ shown. subst (λ (j : List ℕ). IsInSlot m j) (sym shown ∙ shows) (active_image_is_in_slot m image a))
        (laws.knows m now image p due a does carried filled.counts.is_open)

    second_slot_image : (i : List ℕ) → IsFilledSlot (slot_of now half) → image_shown_in (slot_of now half) ≡ i → IsInSlot m i
    second_slot_image i filled shows = filled_slot_holds_image m half 0 i (inr (refl, refl)) (subst IsFilledSlot second_slot_stays filled)
        (ap image_shown_in (sym second_slot_stays) ∙ shows)

    -- After an operation of the copy, each image in a slot was in a slot before.
    operation_adds_no_image : (i : List ℕ) → IsInSlot now i → IsInSlot m i
    operation_adds_no_image i x =
        let filled = slot_of_image_is_filled now i x in
        ⊎_elim
        (λ first. first_slot_image i (subst (λ (k : ℕ). IsFilledSlot (slot_of now k)) first.0 filled)
        (ap (λ (k : ℕ). image_shown_in (slot_of now k)) (sym first.0) ∙ x.5))
        (λ second. second_slot_image i (subst (λ (k : ℕ). IsFilledSlot (slot_of now k)) (second.0 ∙ size) filled)
        (ap (λ (k : ℕ). image_shown_in (slot_of now k)) (sym (second.0 ∙ size)) ∙ x.5))
        x.2

  -- After any operations of the copy, each image in a slot was in a slot before.
  pub operations_add_no_image : (m now : MediumState) (image : List ℕ) → Active m image → HomeOperations m now → (i : List ℕ)
      → IsInSlot now i → IsInSlot m i
  operations_add_no_image m _ image a no_operation i there = there
  operations_add_no_image m _ image a (then_operation {mid = mid} {now = now} {due = due} p more does carried) i there =
      operations_add_no_image m mid image a more i
      (operation_adds_no_image mid now image p due (operations_keep_image laws.stays m mid image a more) does carried i there)
