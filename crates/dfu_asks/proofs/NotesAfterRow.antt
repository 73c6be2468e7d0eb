-- After a row, the note describes the active image of the flash that the row left.
use Rattle.std.proofs.Common.{◌≡◌, ◌⊎◌, inl, inr, ⊎_elim, if◌then◌else◌, ℕ, ◌+◌, ◌/◌, ◌≤◌, List, sym, ◌∙◌, ap, subst, arith}
use Rattle.std.proofs.lemmas.Bool.{cases_Bool}
use Rattle.dfu_slots.specs.Units.{gate_room}
use Rattle.dfu_slots.specs.Medium.{MediumState, ChangedWithin}
use Rattle.dfu_slots.specs.Layout.{slot, slot_size}
use Rattle.dfu_slots.specs.Image.{gate_of, slot_of, active_at, spare_at, HasImage}
use Rattle.dfu_slots.specs.StoreView.{SlotsState}
use Rattle.dfu_slots.specs.Store.{IsStore}
use Rattle.dfu_slots.proofs.Stands.{active_image_at_its_place}
use Rattle.dfu_slots.proofs.Newest.{tested_places_are_slots, spare_place_ends_within}
use Rattle.dfu_slots.proofs.Parts.{header_kept_outside_change}
use Rattle.dfu_slots.proofs.Sectors.{gate_room_at_least_16}
use Rattle.dfu_slots.proofs.Series.{WritesEnded, ended_writes_keep_rest}
use Rattle.dfu_asks.specs.declared.noted.Noted.{Noted}
use Rattle.dfu_asks.specs.declared.pending_writes.PendingWrites.{PendingWrites}
use Rattle.dfu_asks.specs.Mapped.{mapped_medium}
use Rattle.dfu_asks.specs.Noted.{IsNoteOfMedium}
use Rattle.dfu_asks.specs.Lent.{LentDevice}
use Rattle.dfu_asks.specs.Asks.{grain_in, is_block, IsWorkingForRow, NoteAfterRow, writes_in}
use Rattle.dfu_asks.proofs.Working.{Stays}
use Rattle.dfu_asks.proofs.Inside.{due_writes_inside_spare}

module _ (s : SlotsState) (store : IsStore s) (now : MediumState) (grain : now.grain ≡ s.medium.grain)
    (keeps : ChangedWithin (spare_at (gate_of s.medium) s.medium.bytes)
    (spare_at (gate_of s.medium) s.medium.bytes + slot_size s.medium.bytes) s.medium.bytes now.bytes)
    (place : active_at (gate_of now) now.bytes ≡ active_at (gate_of s.medium) s.medium.bytes) where
  -- Writes within the spare slot leave the header of the active slot unchanged.
  active_header_stays : (slot_of s.medium (active_at (gate_of s.medium) s.medium.bytes)).header
      ≡ (slot_of now (active_at (gate_of now) now.bytes)).header
  active_header_stays =
      let g = gate_of s.medium in
      let m = s.medium.bytes in
      let at = active_at g m in
      let from = spare_at g m in
      let to = from + slot_size m in
      let sized = (active_image_at_its_place store.has_image.active).sized in
      let apart : (at + g + 16 ≤ from) ⊎ (to ≤ at + g) =
      ⊎_elim (λ p. inl (omega (arith, p.0, p.1, sized.room, gate_room_at_least_16 s.medium.grain))) (λ p. inr (omega (arith, p.0, p.1)))
      (tested_places_are_slots g m) in
      sym ((λ i. (slot (gate_room (grain i)) now.bytes (place i)).header) ∙ header_kept_outside_change g from to m now.bytes at keeps apart)

  -- A note of the medium remains valid after writes within the spare slot.
  notes_stay_right : (n : Noted) → IsNoteOfMedium n s.medium → IsNoteOfMedium n now
  notes_stay_right n noted = record {
    place = ap (λ (k : ℕ). if n.second then k / 2 else 0) keeps.size ∙ noted.place ∙ sym place;
    header = noted.header ∙ active_header_stays;
  }

module _ (a now : LentDevice) (w : PendingWrites) (len : ℕ) (s : SlotsState) (was flash : List ℕ) (working : IsWorkingForRow a w len s was)
    (notes : NoteAfterRow a.mode flash a now) (unit : now.unit ≡ a.unit) (sector : now.sector ≡ a.sector)
    (ends : WritesEnded (mapped_medium (grain_in a) was) (writes_in a w) (mapped_medium (grain_in a) flash)) (left : SlotsState)
    (is_left : left.medium ≡ mapped_medium (grain_in a) flash) (has : HasImage left.medium) (stays : Stays a.mode s left) where
  -- The medium that the row left is the flash, mapped with the device's unit and sector.
  medium_left_is_mapped : left.medium ≡ mapped_medium (grain_in now) flash
  medium_left_is_mapped = is_left ∙ (λ i. mapped_medium (record { unit = sym unit i; sector = (sym sector i).size }) flash)

  -- The row doesn't change the grain of the medium.
  grain : left.medium.grain ≡ s.medium.grain
  grain = ap (λ (x : MediumState). x.grain) is_left ∙ sym (ap (λ (x : MediumState). x.grain) working.medium)

  keeps : ChangedWithin (spare_at (gate_of s.medium) s.medium.bytes)
      (spare_at (gate_of s.medium) s.medium.bytes + slot_size s.medium.bytes) s.medium.bytes left.medium.bytes
  keeps = ended_writes_keep_rest (spare_at (gate_of s.medium) s.medium.bytes) (spare_at (gate_of s.medium) s.medium.bytes + slot_size
      s.medium.bytes)
      (writes_in a w) s.medium left.medium
      (spare_place_ends_within (gate_of s.medium) s.medium.bytes (active_image_at_its_place working.store.has_image.active).sized)
      (due_writes_inside_spare s working.store (grain_in a) (ap (λ (x : MediumState). x.grain) working.medium) a.block a.held a.put_end
      w.job
      a.mode w.asked len working.sound working.due)
      (subst (λ (x : MediumState). WritesEnded s.medium (writes_in a w) x) (sym is_left)
      (subst (λ (x : MediumState). WritesEnded x (writes_in a w) (mapped_medium (grain_in a) flash)) (sym working.medium) ends))

  -- The note after a row is valid for the medium that the row left.
  pub notes_after_row : IsNoteOfMedium now.noted (mapped_medium (grain_in now) flash)
  notes_after_row = elim (cases_Bool (is_block a.mode)) [
    | inl on ↦
        subst (λ (m : MediumState). IsNoteOfMedium now.noted m) medium_left_is_mapped
        (subst (λ (n : Noted). IsNoteOfMedium n left.medium) (sym (notes.of_block on))
        (notes_stay_right s working.store left.medium grain keeps (stays on) a.noted working.noted))
    | inr off ↦ notes.of_commit off (subst HasImage medium_left_is_mapped has)
  ]
