-- The slot store does not read marks.
use Rattle.std.proofs.Common.{◌≡◌, ◌⊎◌, inl, inr, ⊎_elim, ℕ, ◌+◌, ◌*◌, ◌≤◌, List, length, take, sym, ◌∙◌, subst, arith}
use Rattle.dfu_slots.specs.Units.{Grain, gate_room}
use Rattle.dfu_slots.specs.Medium.{MediumState}
use Rattle.dfu_slots.specs.Layout.{Slot, slot, ArePlaces, HasHeader}
use Rattle.dfu_slots.specs.Image.{gate_of, slot_of, IsSizedMedium, IsNewest, Active}
use Rattle.dfu_slots.proofs.Sectors.{gate_room_at_least_16, gate_unit_at_least_16}
use Rattle.dfu_slots.proofs.Parts.{gate_kept_outside_change, header_kept_outside_change, data_kept_outside_change, slot_kept_outside_change}
use Rattle.dfu_boot.specs.trial.Marks.{mark_size, mark_at, AreTries}
use Rattle.dfu_boot.specs.trial.Unread.{ChangedUnreadBytes, MarkIsWritten, MarksAreUnread, UnreadChangesNoImage}
use Rattle.dfu_boot.proofs.Places.{slot_places_swap, marks_end_in_header_sector}
use Rattle.dfu_boot.proofs.Slots.{change_keeps_two_slots, change_keeps_slot_places}

module _ (m now : MediumState) (tries : ℕ) (sized : IsSizedMedium m) (are : AreTries m.grain tries) (mark : MarkIsWritten m tries now) where
  abbrev g : ℕ
  g = gate_of m

  abbrev u : ℕ
  u = mark_size m.grain

  abbrev from : ℕ
  from = mark_at m.grain mark.at mark.mark

  mark_fits_gate_room : 2 * u + mark.mark * u ≤ g
  mark_fits_gate_room = marks_end_in_header_sector m.grain tries mark.mark are mark.few

  mark_unit_at_least_16 : 16 ≤ u
  mark_unit_at_least_16 = gate_unit_at_least_16 m.grain.unit

  marked_slot_stays : slot g now.bytes mark.at ≡ slot g m.bytes mark.at
  marked_slot_stays =
      let keeps = mark.carried.0 in
      let gate = gate_kept_outside_change g from (from + u) m.bytes now.bytes mark.at keeps (inl (omega (arith, mark_unit_at_least_16))) in
      let head = header_kept_outside_change g from (from + u) m.bytes now.bytes mark.at keeps (inl (omega (arith, mark_unit_at_least_16)))
      in
      let body = data_kept_outside_change g from (from + u) m.bytes now.bytes mark.at keeps (inr (omega (arith, mark_fits_gate_room))) in
      λ j. record { gate = gate j; header = head j; data_bytes = body j }

  other_slot_stays : slot g now.bytes mark.other ≡ slot g m.bytes mark.other
  other_slot_stays = slot_kept_outside_change g from (from + u) m.bytes now.bytes mark.other mark.carried.0 (gate_room_at_least_16
      m.grain) (omega (arith, sized.room))
      (⊎_elim (λ a. inr (omega (arith, a.0, a.1, sized.room, mark_fits_gate_room))) (λ a. inl (omega (arith, a.0, a.1))) mark.places)

  place_is_of_marked_slots : (a b : ℕ) → ArePlaces m.bytes a b → (a ≡ mark.at) ⊎ (a ≡ mark.other)
  place_is_of_marked_slots a b there = which mark.places there
    where
      which : ArePlaces m.bytes mark.at mark.other → ArePlaces m.bytes a b → (a ≡ mark.at) ⊎ (a ≡ mark.other)
      which (inl x) (inl y) = inl (y.0 ∙ sym x.0)
      which (inl x) (inr y) = inr (y.0 ∙ sym x.1)
      which (inr x) (inl y) = inr (y.0 ∙ sym x.1)
      which (inr x) (inr y) = inl (y.0 ∙ sym x.0)

  each_slot_kept_by_mark : (a b : ℕ) → ArePlaces m.bytes a b → slot g now.bytes a ≡ slot g m.bytes a
  each_slot_kept_by_mark a b there = ⊎_elim (λ e. subst (λ (x : ℕ). slot g now.bytes x ≡ slot g m.bytes x) (sym e) marked_slot_stays)
      (λ e. subst (λ (x : ℕ). slot g now.bytes x ≡ slot g m.bytes x) (sym e) other_slot_stays) (place_is_of_marked_slots a b there)

  mark_changes_unread_bytes : ChangedUnreadBytes m now
  mark_changes_unread_bytes = record {
    size = mark.carried.0.size;
    grain = mark.carried.1;
    slots = λ a b there. subst (λ (w : Grain). slot (gate_room w) now.bytes a
        ≡ slot_of m a) (sym mark.carried.1) (each_slot_kept_by_mark a b there);
  }

pub marks_are_unread : MarksAreUnread
marks_are_unread m now tries sized are mark = mark_changes_unread_bytes m now tries sized are mark

-- A medium of two slots still has two slots after a change of bytes that the store does not read.
pub unread_change_keeps_two_slots : (m now : MediumState) → ChangedUnreadBytes m now → IsSizedMedium m → IsSizedMedium now
unread_change_keeps_two_slots m now un sized =
    subst (λ (w : Grain). IsSizedMedium (record now { grain = w })) (sym un.grain) (change_keeps_two_slots m now un.size sized)

unread_change_keeps_active : (m now : MediumState) (image : List ℕ) → ChangedUnreadBytes m now → Active m image → Active now image
unread_change_keeps_active m now image un a =
    let mine : slot_of now a.at ≡ slot_of m a.at = un.slots a.at a.spare a.places in
    let other : slot_of now a.spare ≡ slot_of m a.spare = un.slots a.spare a.at (slot_places_swap m.bytes a.at a.spare a.places) in
    record {
      sized = unread_change_keeps_two_slots m now un a.sized;
      at = a.at;
      spare = a.spare;
      places = change_keeps_slot_places m now un.size a.at a.spare a.places;
      newest = subst (λ (s : Slot). IsNewest s (slot_of now a.spare)) (sym mine)
          (subst (λ (s : Slot). IsNewest (slot_of m a.at) s) (sym other) a.newest);
      header_is = subst (λ (s : Slot). HasHeader s (length image)) (sym mine) a.header_is;
      image_is = subst (λ (s : Slot). image ≡ take (length image) s.data_bytes) (sym mine) a.image_is;
    }

unread_change_symmetric : (m now : MediumState) → ChangedUnreadBytes m now → ChangedUnreadBytes now m
unread_change_symmetric m now un = record {
  size = sym un.size;
  grain = sym un.grain;
  slots = λ a b there. sym (un.slots a b (change_keeps_slot_places now m (sym un.size) a b there));
}

pub unread_change_keeps_images : UnreadChangesNoImage
unread_change_keeps_images m now image un =
    (λ a. unread_change_keeps_active now m image (unread_change_symmetric m now un) a, λ a. unread_change_keeps_active m now image un a)
