-- Images in the slots of a medium after the writes of a call: each was in a slot before, or is active.
use Rattle.std.proofs.Common.{◌≡◌, ◌⊎◌, inl, inr, ⊎_elim, ◌==◌, true, ℕ, ◌+◌, ◌*◌, ◌≤◌, ◌<◌, ◌^◌, List, [], ◌∷◌, length, take, sym, ◌∙◌, ap, subst, arith}
use Rattle.std.specs.Int.{w32, from_le_bytes}
use Rattle.std.specs.Prelude.{drop}
use Rattle.std.proofs.lemmas.Bool.{eqb-true}
use Rattle.dfu_slots.specs.Units.{Grain, gate_room}
use Rattle.dfu_slots.specs.Medium.{MediumState, Write, ChangedWithin}
use Rattle.dfu_slots.specs.Layout.{Slot, slot, slot_size, OPEN, HasOpenGate, ArePlaces, header_length, HasHeader}
use Rattle.dfu_slots.specs.Image.{gate_of, slot_of, Active, HasImage, spare_at, spare}
use Rattle.dfu_slots.specs.Writes.{closed_gate, begin_writes}
use Rattle.dfu_slots.proofs.Stands.{ActiveAt, active_image_at_its_place}
use Rattle.dfu_slots.proofs.Sectors.{gate_room_at_least_16}
use Rattle.dfu_slots.proofs.Counting.{formed_header_has_its_length, same_bytes_same_header, equal_open_slot_counts}
use Rattle.dfu_slots.proofs.Parts.{gate_kept_outside_change, header_kept_outside_change, data_kept_outside_change, data_length, slot_size_kept_by_change}
use Rattle.dfu_slots.proofs.Newest.{test_finds_active_image, slot_place_ends_within}
use Rattle.dfu_slots.proofs.Kept.{active_slot_kept}
use Rattle.dfu_slots.proofs.BytesOutsideWrite.{wider_frame_holds}
use Rattle.dfu_slots.proofs.Series.{AllWritesInside, WritesEnded, ended_writes_keep_rest, ended_writes_keep_grain, tested_writes_ended}
use Rattle.dfu_slots.proofs.BeginMedium.{closed_gate_fits_room}
use Rattle.dfu_boot.specs.trial.Trial.{IsFilledSlot}
use Rattle.dfu_boot.proofs.Places.{slot_places_swap}
use Rattle.dfu_laws.specs.board.Slots.{IsInSlot}

-- Image of the length in the slot's header.
abbrev pub image_shown_in : Slot → List ℕ
image_shown_in s = take (header_length s) s.data_bytes

-- If two slots have the same header and data, one is filled, and the other is open, then the other is filled too, with the same image.
pub same_bytes_fill_same_image : (s t : Slot) → s.header ≡ t.header → s.data_bytes ≡ t.data_bytes → HasOpenGate t → IsFilledSlot s
    → IsFilledSlot t × (image_shown_in t ≡ image_shown_in s)
same_bytes_fill_same_image s t head body is_open f =
    let len : header_length s ≡ header_length t = ap (λ (h : List ℕ). from_le_bytes w32 (take 4 (drop 4 h))) head in (
      record {
        counts = equal_open_slot_counts s t head body is_open f.counts;
        header_is = subst (λ (n : ℕ). HasHeader t n) len (same_bytes_same_header s t (header_length s) head body f.header_is);
      },
      λ i. take (sym len i) (sym body i),
    )

-- A filled slot holds the image of the length in its header.
pub filled_slot_holds_image : (m : MediumState) (at other : ℕ) (image : List ℕ) → ArePlaces m.bytes at other → IsFilledSlot (slot_of m at)
    → image_shown_in (slot_of m at) ≡ image → IsInSlot m image
filled_slot_holds_image m at other image places f is = (at, other, places, f.counts, f.header_is, is)

pub slot_of_image_is_filled : (m : MediumState) (image : List ℕ) (x : IsInSlot m image) → IsFilledSlot (slot_of m x.0)
slot_of_image_is_filled m image x = record { counts = x.3; header_is = x.4 }

-- The active slot holds the active image.
pub active_slot_shows_image : (m : MediumState) (image : List ℕ) (a : Active m image) → (header_length (slot_of m a.at) ≡ length image)
    × (image_shown_in (slot_of m a.at) ≡ image)
active_slot_shows_image m image a =
    let fits : length image < 2 ^ 32 = omega (
      arith,
      a.header_is.fits,
      data_length (gate_of m) m.bytes a.at (slot_place_ends_within (gate_of m) m.bytes a.at a.spare (active_image_at_its_place a).sized
          a.places).0
          (omega (arith, a.sized.room)),
      a.sized.bound,
    ) in
    let long = formed_header_has_its_length (slot_of m a.at) (length image) a.header_is fits in
    (long, ap (λ (n : ℕ). take n (slot_of m a.at).data_bytes) long ∙ sym a.image_is)

-- The active image is in a slot.
pub active_image_is_in_slot : (m : MediumState) (image : List ℕ) → Active m image → IsInSlot m image
active_image_is_in_slot m image a =
    let s = active_slot_shows_image m image a in
    filled_slot_holds_image m a.at a.spare image a.places
    (record { counts = a.newest.counts; header_is = subst (λ (n : ℕ). HasHeader (slot_of m a.at) n) (sym s.0) a.header_is }) s.1

-- The offset of a slot is one of the two slot offsets.
pub place_is_one_of_two : (bytes : List ℕ) (mine other at beside : ℕ) → ArePlaces bytes mine other → ArePlaces bytes at beside
    → (at ≡ mine) ⊎ (at ≡ other)
place_is_one_of_two bytes mine other at beside (inl p) (inl q) = inl (q.0 ∙ sym p.0)
place_is_one_of_two bytes mine other at beside (inl p) (inr q) = inr (q.0 ∙ sym p.1)
place_is_one_of_two bytes mine other at beside (inr p) (inl q) = inr (q.0 ∙ sym p.1)
place_is_one_of_two bytes mine other at beside (inr p) (inr q) = inl (q.0 ∙ sym p.0)

module _ (m now : MediumState) (has : HasImage m) where
  -- Number of bytes reserved for a gate, and for a header.
  abbrev g : ℕ
  g = gate_of m

  -- Offset of the active slot.
  abbrev mine : ℕ
  mine = has.active.at

  -- Offset of the spare slot.
  abbrev other : ℕ
  other = has.active.spare

  -- End of the spare slot.
  abbrev to : ℕ
  to = other + slot_size m.bytes

  -- The active image is in the active slot.
  stands : ActiveAt g m.bytes mine other has.image
  stands = active_image_at_its_place has.active

  -- The offset `other` is that of the spare slot.
  place : other ≡ spare_at g m.bytes
  place = (test_finds_active_image g m.bytes mine other has.image stands).1

  -- The spare slot ends within the flash.
  end : to ≤ length m.bytes
  end = (slot_place_ends_within g m.bytes mine other stands.sized stands.places).1

  -- At least 16 bytes are reserved for a gate.
  wide : 16 ≤ g
  wide = gate_room_at_least_16 m.grain

  -- Write that closes the gate of the spare slot.
  abbrev closing : List Write
  closing = record { at = spare_at g m.bytes; bytes = closed_gate m.grain } ∷ []

  -- Let P hold for each image in a slot before a change in the spare slot, and for the spare slot's image after the change. Then P holds
  -- for each image in a slot after the change.
  pub spare_change_keeps_slot_images : (P : List ℕ → Type 0) → ChangedWithin other to m.bytes now.bytes → now.grain ≡ m.grain
      → ((i : List ℕ) → IsInSlot m i → P i) → (IsFilledSlot (slot g now.bytes other) → P (image_shown_in (slot g now.bytes other)))
      → (i : List ℕ) → IsInSlot now i → P i
  spare_change_keeps_slot_images P keeps grain before beside image x =
      let there : (a : ℕ) → ◌≡◌ {A = Slot} (slot_of now a) (slot g now.bytes a) =
      λ a. ap (λ (w : Grain). slot (gate_room w) now.bytes a) grain in
      let size : slot_size now.bytes ≡ slot_size m.bytes = slot_size_kept_by_change other to m.bytes now.bytes keeps in
      let places : ArePlaces m.bytes x.0 x.1 =
      subst (λ (n : ℕ). ((x.0 ≡ 0) × (x.1 ≡ n)) ⊎ ((x.0 ≡ n) × (x.1 ≡ 0))) size x.2 in
      elim (place_is_one_of_two m.bytes mine other x.0 x.1 has.active.places places) [
        | inl is_mine ↦
            let same : ◌≡◌ {A = Slot} (slot_of now x.0) (slot_of m mine) =
            there x.0 ∙ ap (λ (a : ℕ). slot g now.bytes a) is_mine
            ∙ active_slot_kept g wide m.bytes now.bytes mine other has.image other to stands keeps (omega arith) (omega arith) in
            before image (filled_slot_holds_image m mine other _ has.active.places (subst IsFilledSlot same (slot_of_image_is_filled now
            image x))
            (ap image_shown_in (sym same) ∙ x.5))
        | inr is_other ↦
            let same : ◌≡◌ {A = Slot} (slot_of now x.0) (slot g now.bytes other) =
            there x.0 ∙ ap (λ (a : ℕ). slot g now.bytes a) is_other in
            subst P (ap image_shown_in (sym same) ∙ x.5) (beside (subst IsFilledSlot same (slot_of_image_is_filled now image x)))
      ]

  -- `begin` adds no image to the slots, because it changes at most the gate of the spare slot, and only if that gate is open.
  pub begin_adds_no_image : WritesEnded m (begin_writes m.grain m.bytes) now → (i : List ℕ) → IsInSlot now i → IsInSlot m i
  begin_adds_no_image ends = ⊎_elim (λ one. closes one.0 one.1)
      (λ none. subst (λ (x : MediumState). (i : List ℕ) → IsInSlot x i → IsInSlot m i) (sym none.1) (λ i x. x))
      (tested_writes_ended m now ((spare g m.bytes).gate == OPEN) closing ends)
    where
      closes : ((spare g m.bytes).gate == OPEN) ≡ true → WritesEnded m closing now → (i : List ℕ) → IsInSlot now i → IsInSlot m i
      closes is_open ends =
          let keeps = ended_writes_keep_rest other (other + g) closing m now (omega (arith, end, stands.sized.room))
          (omega (arith, place), omega (arith, place, closed_gate_fits_room m.grain), tt) ends in
          spare_change_keeps_slot_images (λ i. IsInSlot m i)
          (wider_frame_holds other (other + g) other to m.bytes now.bytes keeps (omega arith) (omega (arith, stands.sized.room)))
          (ended_writes_keep_grain closing m now ends) (λ i x. x)
          (λ filled.
          let same = same_bytes_fill_same_image (slot g now.bytes other) (slot g m.bytes other)
          (header_kept_outside_change g other (other + g) m.bytes now.bytes other keeps (inr (omega arith)))
          (data_kept_outside_change g other (other + g) m.bytes now.bytes other keeps (inr (omega arith)))
          (subst (λ (q : ℕ). HasOpenGate (slot g m.bytes q)) (sym place) (eqb-true _ _ is_open)) filled in
          filled_slot_holds_image m other mine _ (slot_places_swap m.bytes mine other has.active.places) same.0 same.1)

  module _ (shut : ¬ HasOpenGate (slot g m.bytes other)) where
    -- Writes in the data of a closed spare slot add no image to the slots.
    pub data_writes_add_no_image : (ws : List Write) → AllWritesInside (other + 2 * g) to ws → WritesEnded m ws now → (i : List ℕ) →
        IsInSlot now i → IsInSlot m i
    data_writes_add_no_image ws inside ends =
        let kept = ended_writes_keep_rest (other + 2 * g) to ws m now end inside ends in
        spare_change_keeps_slot_images (λ i. IsInSlot m i)
        (wider_frame_holds (other + 2 * g) to other to m.bytes now.bytes kept (omega arith) (omega arith)) (ended_writes_keep_grain ws m
        now ends) (λ i x. x)
        (λ filled. absurd (shut (sym (gate_kept_outside_change g (other + 2 * g) to m.bytes now.bytes other kept (inl (omega (
          arith,
          wide,
        ))))
        ∙ filled.counts.is_open)))
