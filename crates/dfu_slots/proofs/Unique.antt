-- A medium has only one active image, and `image_of` reads it from the slot at `active_at`.
use Rattle.std.proofs.Common.{◌≡◌, ℕ, ◌+◌, ◌-◌, ◌*◌, ◌≤◌, List, length, take, drop, slice_range, refl, sym, ◌∙◌, ap, subst, arith}
use Rattle.std.proofs.lemmas.List.{take-take}
use Rattle.std.proofs.lemmas.Slice.{between_is}
use Rattle.dfu_slots.specs.Medium.{MediumState}
use Rattle.dfu_slots.specs.Layout.{slot_size, HasHeader}
use Rattle.dfu_slots.specs.Image.{SlotCounts, Active, active_at, gate_of, slot_of, capacity_of}
use Rattle.dfu_slots.proofs.Stands.{HasTwoSlots, sized_medium_has_two_slots, active_image_at_its_place}
use Rattle.dfu_slots.proofs.Counting.{formed_header_has_its_length}
use Rattle.dfu_slots.proofs.Newest.{test_finds_active_image, active_place_ends_within}
use Rattle.dfu_slots.proofs.Parts.{data_length}
use Rattle.dfu_slots.proofs.ReadBack.{range_by_its_length}

module _ {m : MediumState} {p : ℕ} {image : List ℕ} (here : p ≡ active_at (gate_of m) m.bytes) (a : Active m image) where
  abbrev g : ℕ
  g = gate_of m

  sized : HasTwoSlots g m.bytes
  sized = sized_medium_has_two_slots m a.sized

  place : a.at ≡ p
  place = (test_finds_active_image g m.bytes a.at a.spare image (active_image_at_its_place a)).0 ∙ sym here

  -- The slot at `active_at` counts.
  pub active_slot_counts : SlotCounts (slot_of m p)
  active_slot_counts = subst (λ (q : ℕ). SlotCounts (slot_of m q)) place a.newest.counts

  -- The slot at `active_at` has the header of the active image.
  pub active_slot_has_its_header : HasHeader (slot_of m p) (length image)
  active_slot_has_its_header = subst (λ (q : ℕ). HasHeader (slot_of m q) (length image)) place a.header_is

  room_is : length (slot_of m p).data_bytes ≡ capacity_of m
  room_is = data_length g m.bytes p (omega (arith, here, active_place_ends_within g m.bytes sized)) (omega (arith, sized.room))

  -- The active image fits into the data of a slot.
  pub active_image_fits : length image ≤ capacity_of m
  active_image_fits = omega (arith, active_slot_has_its_header.fits, room_is)

  -- If the header of the active slot is well formed for `len` bytes, the active image has that length.
  pub active_header_fits : (len : ℕ) → HasHeader (slot_of m p) len → len ≡ length image
  active_header_fits len head =
      sym (formed_header_has_its_length (slot_of m p) len head (omega (arith, head.fits, room_is, sized.bound)))
      ∙ formed_header_has_its_length (slot_of m p) (length image) active_slot_has_its_header (omega (arith, active_image_fits, sized.bound))

  -- The active image is a prefix of the active slot's data.
  pub image_is_data_front : image ≡ take (length image) (slot_of m p).data_bytes
  image_is_data_front = a.image_is ∙ ap (λ (q : ℕ). take (length image) (slot_of m q).data_bytes) place

  -- A range of the active slot's data that lies within the image is the same range of the image.
  pub active_data_range_is_of_image : (i j : ℕ) → j ≤ length image → slice_range (slot_of m p).data_bytes i j ≡ slice_range image i j
  active_data_range_is_of_image i j le =
      let whole = (slot_of m p).data_bytes in
      between_is whole i j ∙ ap (λ (l : List ℕ). drop i l)
      (sym (take-take j (length image) whole le) ∙ ap (λ (l : List ℕ). take j l) (sym image_is_data_front)) ∙ sym (between_is image i j)

  -- The active image is on the medium directly after the gate and the header of the active slot.
  pub image_at_its_place_on_medium : slice_range m.bytes (p + 2 * g) (p + 2 * g + length image) ≡ image
  image_at_its_place_on_medium =
      let from = p + 2 * g in
      range_by_its_length m.bytes from (length image)
      ∙ sym (image_is_data_front ∙ take-take (length image) (p + slot_size m.bytes - from) (drop from m.bytes) (omega (
        arith,
        active_image_fits,
      )))

  -- The active image ends within the medium.
  pub image_end : p + 2 * g + length image ≤ length m.bytes
  image_end = omega (arith, here, active_place_ends_within g m.bytes sized, active_image_fits, sized.room)

-- No medium has two active images.
pub active_image_is_unique : (m : MediumState) (x y : List ℕ) → Active m x → Active m y → x ≡ y
active_image_is_unique m x y first second =
    let here : active_at (gate_of m) m.bytes ≡ active_at (gate_of m) m.bytes = refl in
    image_is_data_front here first ∙ ap (λ (n : ℕ). take n (slot_of m (active_at (gate_of m) m.bytes)).data_bytes)
    (sym (active_header_fits here first (length y) (active_slot_has_its_header here second))) ∙ sym (image_is_data_front here second)
