-- Offset and length of the active image.
use Rattle.std.proofs.Common.{◌≡◌, ◌+◌, ◌-◌, ◌*◌, ◌^◌, ◌≤◌, ◌<◌, ⊎_elim, ℕ, List, length, take, drop, slice_range, sym, ◌∙◌, ap, subst, arith}
use Rattle.std.specs.Int.{w32, from_le_bytes}
use Rattle.std.proofs.lemmas.Nat.{from_le_bytes-to_le_bytes_4}
use Rattle.std.proofs.lemmas.List.{take-take}
use Rattle.dfu_slots.specs.Medium.{MediumState}
use Rattle.dfu_slots.specs.Units.{Grain}
use Rattle.dfu_slots.specs.Layout.{Slot, slot_size, header_length, HasHeader}
use Rattle.dfu_slots.specs.Image.{Active, HasImage, active_at, gate_of, slot_of, capacity_of}
use Rattle.dfu_slots.proofs.Stands.{HasTwoSlots, sized_medium_has_two_slots, active_image_at_its_place}
use Rattle.dfu_slots.proofs.Newest.{test_finds_active_image, active_place_ends_within}
use Rattle.dfu_slots.proofs.Parts.{data_length}
use Rattle.dfu_slots.proofs.ReadBack.{range_by_its_length}
use Rattle.dfu_asks.specs.Mapped.{mapped_medium}
use Rattle.dfu_asks.specs.declared.image.ImagePlace.{ImagePlace}
use Rattle.dfu_asks.specs.ActiveImage.{ImageIsAt}

-- A well-formed header contains the length of its image.
header_length_is_image_length : (s : Slot) (len : ℕ) → HasHeader s len → len < 2 ^ 32 → header_length s ≡ len
header_length_is_image_length s len has fits = ⊎_elim
    (λ e. ap (λ (h : List ℕ). from_le_bytes w32 (take 4 (drop 4 h))) e ∙ from_le_bytes-to_le_bytes_4 len fits)
    (λ e. ap (λ (h : List ℕ). from_le_bytes w32 (take 4 (drop 4 h))) e ∙ from_le_bytes-to_le_bytes_4 len fits)
    has.well_formed

module _ (grain : Grain) (flash : List ℕ) (p : ℕ) (has : HasImage (mapped_medium grain flash))
    (here : p ≡ active_at (gate_of (mapped_medium grain flash)) flash) where
  abbrev m : MediumState
  m = mapped_medium grain flash

  abbrev g : ℕ
  g = gate_of m

  abbrev image : List ℕ
  image = has.image

  abbrev a : Active m image
  a = has.active

  sized : HasTwoSlots g flash
  sized = sized_medium_has_two_slots m a.sized

  -- The active slot begins at offset p.
  place : a.at ≡ p
  place = (test_finds_active_image g flash a.at a.spare image (active_image_at_its_place a)).0 ∙ sym here

  -- The header of the active slot is well formed and contains the length of the image.
  head : HasHeader (slot_of m p) (length image)
  head = subst (λ (q : ℕ). HasHeader (slot_of m q) (length image)) place a.header_is

  -- The active slot has as many data bytes as the capacity of the medium.
  room : length (slot_of m p).data_bytes ≡ capacity_of m
  room = data_length g flash p (omega (arith, here, active_place_ends_within g flash sized)) (omega (arith, sized.room))

  -- The image fits in the data of a slot.
  fits : length image ≤ capacity_of m
  fits = omega (arith, head.fits, room)

  pub active_slot_ends_within : p + slot_size flash ≤ length flash
  active_slot_ends_within = omega (arith, here, active_place_ends_within g flash sized)

  -- The image lies after the gate and the header of its slot, and has the length that the header contains.
  pub image_lies_at_place : (place : ImagePlace) → place.at ≡ p + 2 * g → place.len ≡ header_length (slot_of m p) →
      ImageIsAt grain flash place
  image_lies_at_place at at_is length_is =
      let from = p + 2 * g in
      let len : at.len ≡ length image = length_is ∙ header_length_is_image_length (slot_of m p) (length image) head (omega (
        arith,
        fits,
        sized.bound,
      )) in
      let bytes : slice_range flash from (from + length image) ≡ image = range_by_its_length flash from (length image)
      ∙ sym (a.image_is ∙ ap (λ (q : ℕ). take (length image) (slot_of m q).data_bytes) place
      ∙ take-take (length image) (p + slot_size flash - from) (drop from flash) (omega (arith, fits))) in
      record {
        image = image;
        active = a;
        size = sym len;
        behind = at_is ∙ ap (λ (n : ℕ). n + 2 * g) here;
        within = omega (arith, at_is, len, active_slot_ends_within, fits, sized.room);
        there = (λ i. slice_range flash (at_is i) (at_is i + len i)) ∙ bytes;
      }
