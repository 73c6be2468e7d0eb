-- Length and bytes of an active image in the second slot.
use Rattle.std.proofs.Common.{◌≡◌, ⊎_elim, ℕ, ◌≤◌, ◌<◌, List, length, take, sym, ◌∙◌, ap, subst, arith}
use Rattle.dfu_slots.specs.Medium.{MediumState}
use Rattle.dfu_slots.specs.Layout.{slot_size, HasOpenGate, header_length}
use Rattle.dfu_slots.specs.Image.{gate_of, slot_of, capacity_of, Active, HasImage, active_at}
use Rattle.dfu_slots.proofs.Stands.{ActiveAt, active_image_at_its_place}
use Rattle.dfu_slots.proofs.Counting.{formed_header_has_its_length}
use Rattle.dfu_slots.proofs.Newest.{test_finds_active_image, tested_places_are_slots, slot_place_ends_within}
use Rattle.dfu_slots.proofs.Parts.{data_length}
use Rattle.dfu_home.specs.Places.{first_of, second_slot_of, away_image, IsActiveAway}
use Rattle.dfu_home.specs.Laws.{SecondIsSpare}

module _ (m : MediumState) (image : List ℕ) (a : Active m image) where
  abbrev pub IsImageInSecondSlot : Type 0
  IsImageInSecondSlot = ActiveAt (gate_of m) m.bytes (slot_size m.bytes) 0 image

  image_second_by_places : (a.at ≡ slot_size m.bytes) × (a.spare ≡ 0) → IsImageInSecondSlot
  image_second_by_places p = subst (λ (q : ℕ). ActiveAt (gate_of m) m.bytes q 0 image) p.0
      (subst (λ (q : ℕ). ActiveAt (gate_of m) m.bytes a.at q image) p.1 (active_image_at_its_place a))

  -- The active image is in the second slot if the gate of the first slot is closed.
  pub image_second_if_first_closed : ¬ HasOpenGate (first_of m) → IsImageInSecondSlot
  image_second_if_first_closed shut = ⊎_elim
      (λ p. absurd (shut (subst (λ (q : ℕ). HasOpenGate (slot_of m q)) p.0 a.newest.counts.is_open)))
      (λ p. image_second_by_places p) a.places

  -- If `active_at` is the offset of the second slot, the active image is in the second slot.
  pub image_second_if_found_second : active_at (gate_of m) m.bytes ≡ slot_size m.bytes → IsImageInSecondSlot
  image_second_if_found_second found =
      let at = (test_finds_active_image (gate_of m) m.bytes a.at a.spare image (active_image_at_its_place a)).0 in
      ⊎_elim (λ p. absurd (omega (arith, p.0, at, found, a.sized.room))) (λ p. image_second_by_places p) a.places

-- An image in the second slot has the length in the slot's header, and is at the front of the slot's data.
module _ (m : MediumState) (image : List ℕ) (s : ActiveAt (gate_of m) m.bytes (slot_size m.bytes) 0 image) where
  room : length (second_slot_of m).data_bytes ≡ capacity_of m
  room = data_length (gate_of m) m.bytes (slot_size m.bytes) (slot_place_ends_within (gate_of m) m.bytes (slot_size m.bytes) 0 s.sized
      s.places).0
      (omega (arith, s.sized.room))

  pub away_header_has_image_length : header_length (second_slot_of m) ≡ length image
  away_header_has_image_length = formed_header_has_its_length (second_slot_of m) (length image) s.header_is (omega (
    arith,
    s.header_is.fits,
    room,
    s.sized.bound,
  ))

  pub away_image_fits_capacity : length image ≤ capacity_of m
  away_image_fits_capacity = omega (arith, s.header_is.fits, room)

  pub active_image_is_away_image : image ≡ away_image m
  active_image_is_away_image = s.image_is ∙ ap (λ (n : ℕ). take n (second_slot_of m).data_bytes) (sym away_header_has_image_length)

-- While the active image is in the first slot, the second slot is the spare slot.
pub second_is_spare : SecondIsSpare
second_is_spare m home =
    let room = home.has.active.sized.room in
    ⊎_elim (λ p. p.1) (λ p. absurd (omega (arith, p.0, home.first, room))) (tested_places_are_slots (gate_of m) m.bytes)

-- If a medium has an active image and `active_at` isn't 0, the active image is in the second slot.
pub test_finds_second_slot : (m : MediumState) (at : ℕ) → HasImage m → at ≡ active_at (gate_of m) m.bytes → ¬ (at ≡ 0) → IsActiveAway m
test_finds_second_slot m at has is off = record {
  has = has;
  second = ⊎_elim (λ p. absurd (off (is ∙ p.0))) (λ p. p.0) (tested_places_are_slots (gate_of m) m.bytes);
}

-- A medium has no active image if the gate of its first slot is closed and the header of its second slot has a length over the capacity.
pub long_second_image_is_not_active : (m : MediumState) → ¬ HasOpenGate (first_of m) → capacity_of m < header_length (second_slot_of m)
    → ¬ HasImage m
long_second_image_is_not_active m shut past has =
    let s = image_second_if_first_closed m has.image has.active shut in
    omega (arith, past, away_header_has_image_length m has.image s, away_image_fits_capacity m has.image s)
