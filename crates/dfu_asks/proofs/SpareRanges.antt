-- Ranges within the spare slot.
use Rattle.std.proofs.Common.{◌≡◌, ◌≢◌, ◌⊎◌, inl, inr, ⊎_elim, nat_eq, not, IsTrue, ℕ, ◌+◌, ◌*◌, ◌≤◌, ◌<◌, List, slice_index, sym, ◌∙◌, ap, arith}
use Rattle.std.proofs.lemmas.Grind.{common_steps}
use Rattle.dfu_slots.specs.Medium.{MediumState}
use Rattle.dfu_slots.specs.Layout.{slot_size, OPEN}
use Rattle.dfu_slots.specs.Image.{gate_of, spare_at, Active}
use Rattle.dfu_slots.proofs.Stands.{active_image_at_its_place}
use Rattle.dfu_slots.proofs.Newest.{test_finds_active_image}
use Rattle.dfu_asks.specs.Mapped.{IsSlotOf, RangeIsInSpare}

pub tested_equal_is_equal : (a b : ℕ) → IsTrue (nat_eq a b) → a ≡ b
tested_equal_is_equal a b t = grind (arith, common_steps)

pub tested_unequal_is_unequal : (a b : ℕ) → IsTrue (not (nat_eq a b)) → a ≢ b
tested_unequal_is_unequal a b t = grind (arith, common_steps)

-- The slot of an offset begins at or before that offset.
pub slot_begins_before_place : (at size slot : ℕ) → IsSlotOf at size slot → slot ≤ at
slot_begins_before_place at size slot (inl first) = omega (arith, first.1)
slot_begins_before_place at size slot (inr second) = omega (arith, second.0, second.1)

-- The slot of an offset is the first or the second.
pub slot_of_place_is_one_of_two : (at size slot : ℕ) → IsSlotOf at size slot → (slot ≡ 0) ⊎ (slot ≡ size)
slot_of_place_is_one_of_two at size slot (inl first) = inl first.1
slot_of_place_is_one_of_two at size slot (inr second) = inr second.1

-- The slot of an offset within the flash begins within the flash.
pub slot_of_place_begins_in_flash : (at size slot len : ℕ) → IsSlotOf at size slot → 0 < len → at + len ≤ slot + size → slot < 2 * size
slot_of_place_begins_in_flash at size slot len (inl first) some high = omega (arith, first.0, first.1)
slot_of_place_begins_in_flash at size slot len (inr second) some high = omega (arith, second.0, second.1, some, high)

-- The slot of an offset is unique.
pub slot_of_place_is_unique : (at size slot : ℕ) → IsSlotOf at size slot → (k : ℕ) → (k ≡ 0) ⊎ (k ≡ size) → k ≤ at → at < k + size → k
    ≡ slot
slot_of_place_is_unique at size slot (inl here) k (inl first) low high = omega (arith, first, here.1)
slot_of_place_is_unique at size slot (inl here) k (inr second) low high = absurd (omega (arith, second, low, here.0))
slot_of_place_is_unique at size slot (inr here) k (inl first) low high = absurd (omega (arith, first, high, here.0))
slot_of_place_is_unique at size slot (inr here) k (inr second) low high = omega (arith, second, here.1)

-- If an image is active, a range in a slot with a closed gate lies in the spare slot.
pub closed_slot_range_is_in_spare : (m : MediumState) (image : List ℕ) (slot at len : ℕ) → Active m image
    → (slot ≡ 0) ⊎ (slot ≡ slot_size m.bytes)
    → slice_index m.bytes slot ≢ OPEN → slot ≤ at → at + len ≤ slot + slot_size m.bytes → RangeIsInSpare m at len
closed_slot_range_is_in_spare m image slot at len a either shut low high =
    let is : a.spare ≡ spare_at (gate_of m) m.bytes = (test_finds_active_image (gate_of m) m.bytes a.at a.spare image
    (active_image_at_its_place a)).1 in
    let other : slot ≡ a.at → ⊥ = λ e. shut (ap (λ (k : ℕ). slice_index m.bytes k) e ∙ a.newest.counts.is_open) in
    let spare : slot ≡ a.spare =
    ⊎_elim
    (λ p. ⊎_elim (λ zero_is. absurd (other (zero_is ∙ sym p.0))) (λ half. half ∙ sym p.1) either)
    (λ p. ⊎_elim (λ zero_is. zero_is ∙ sym p.1) (λ half. absurd (other (half ∙ sym p.0))) either)
    a.places in
    record { from = omega (arith, low, spare, is); to = omega (arith, high, spare, is) }

-- A range lies in the spare slot if its slot begins at the spare slot's offset.
pub range_at_spare_is_in_spare : (m : MediumState) (slot at len : ℕ) → spare_at (gate_of m) m.bytes ≡ slot → slot ≤ at
    → at + len ≤ slot + slot_size m.bytes
    → RangeIsInSpare m at len
range_at_spare_is_in_spare m slot at len is low high = record { from = omega (arith, low, is); to = omega (arith, high, is) }
