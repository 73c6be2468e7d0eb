-- Images in the slots of a medium after a commit: if the spare slot is open, its image is active.
use Rattle.std.proofs.Common.{◌≡◌, ◌⊎◌, inl, inr, ℕ, ◌+◌, ◌*◌, ◌%◌, ◌≤◌, List, ◌++◌, length, slice_index, slice_range, sym, ◌∙◌, ap, subst, arith}
use Rattle.dfu_slots.specs.Units.{Grain, gate_room, gate_size}
use Rattle.dfu_slots.specs.Medium.{MediumState, Write, ChangedWithin, AllWrites}
use Rattle.dfu_slots.specs.Layout.{Slot, slot, slot_size, ArePlaces, OPEN, HasOpenGate, generation, next_generation, header, gate_unit, header_unit}
use Rattle.dfu_slots.specs.Image.{gate_of, slot_of, Active, HasImage, active_at, spare_at}
use Rattle.dfu_slots.specs.Writes.{erasing_write, commit_writes}
use Rattle.dfu_slots.proofs.Stands.{ActiveAt, active_image_at_its_place}
use Rattle.dfu_slots.proofs.Sectors.{gate_unit_at_least_16, gate_room_at_least_16}
use Rattle.dfu_slots.proofs.Edges.{data_begins_at_edge, header_begins_at_edge}
use Rattle.dfu_slots.proofs.Parts.{gate_unit_has_size, header_unit_has_size, gate_kept_outside_change, header_kept_outside_change, slot_size_kept_by_change}
use Rattle.dfu_slots.proofs.Newest.{test_finds_active_image, slot_place_ends_within}
use Rattle.dfu_slots.proofs.Kept.{active_slot_kept}
use Rattle.dfu_slots.proofs.BytesOutsideWrite.{two_changes_are_one_change, wider_frame_holds}
use Rattle.dfu_slots.proofs.Series.{AllWritesInside, WritesEnded, writes_inside_keep_rest, broken_writes_keep_rest, writes_keep_grain, ended_writes_keep_grain, list_has_two_parts, either_part_was_broken}
use Rattle.dfu_slots.proofs.WritesWithErases.{write_with_erases_inside, write_goes_over_erases}
use Rattle.dfu_slots.proofs.Commit.{unit_begins_with_header}
use Rattle.dfu_boot.specs.trial.Trial.{IsFilledSlot}
use Rattle.dfu_laws.specs.board.Slots.{IsInSlot}
use Rattle.dfu_laws.proofs.board.Slots.{image_shown_in, active_slot_shows_image, place_is_one_of_two, spare_change_keeps_slot_images}

-- If the other slot is filled and one generation newer, its image is the active one.
module _ (now : MediumState) (after : HasImage now) (mine other : ℕ) (places : ArePlaces now.bytes mine other)
    (other_is_older : generation (slot_of now other) ≡ next_generation (generation (slot_of now mine))) where
  opened_spare_is_active : IsFilledSlot (slot_of now other) → Active now (image_shown_in (slot_of now other))
  opened_spare_is_active filled = elim (place_is_one_of_two now.bytes mine other after.active.at after.active.spare places
      after.active.places) [
        | inl is_mine ↦
            let spare_place_same : after.active.spare ≡ other = beside after.active.at after.active.spare after.active.places is_mine in
            elim (after.active.newest.other_is_older) [
              | inl off ↦ absurd (off (subst (λ (q : ℕ). IsFilledSlot (slot_of now q)) (sym spare_place_same) filled).counts)
              | inr older ↦
                  let x : generation (slot_of now mine) ≡ next_generation (generation (slot_of now other)) =
                  ap (λ (q : ℕ). generation (slot_of now q)) (sym is_mine) ∙ older
                  ∙ ap (λ (q : ℕ). next_generation (generation (slot_of now q))) spare_place_same in
                  absurd (never (generation (slot_of now mine)) (generation (slot_of now other)) x other_is_older)
            ]
        | inr is_other ↦
            let same : image_shown_in (slot_of now other) ≡ after.image =
            ap (λ (q : ℕ). image_shown_in (slot_of now q)) (sym is_other) ∙ (active_slot_shows_image now after.image after.active).1 in
            subst (λ (i : List ℕ). Active now i) (sym same) after.active
      ]
    where
      never : (x y : ℕ) → x ≡ (y + 1) % 256 → y ≡ (x + 1) % 256 → ⊥
      never x y e f = omega (arith, e, f)

      beside : (at spare : ℕ) → ArePlaces now.bytes at spare → at ≡ mine → spare ≡ other
      beside at spare p e = omega (arith, p, places, e)

module _ (m now : MediumState) (has : HasImage m) (after : HasImage now) (shut : ¬ HasOpenGate (slot (gate_of m) m.bytes has.active.spare))
    (part : List Write) (len crc : ℕ)
    (inside : AllWritesInside (has.active.spare + 2 * gate_of m) (has.active.spare + slot_size m.bytes) part) where
  -- Number of bytes reserved for a gate, and for a header.
  abbrev g : ℕ
  g = gate_of m

  -- Offset of the active slot.
  abbrev mine : ℕ
  mine = has.active.at

  -- Number of bytes that are programmed for a gate, and for a header.
  abbrev k : ℕ
  k = gate_size m.grain.unit

  -- Offset of the spare slot.
  abbrev other : ℕ
  other = has.active.spare

  -- End of the spare slot.
  abbrev to : ℕ
  to = other + slot_size m.bytes

  -- Generation of the new image.
  abbrev gen : ℕ
  gen = next_generation (generation (slot g m.bytes (active_at g m.bytes)))

  -- Writes of the spare slot's header.
  abbrev head : List Write
  head = erasing_write m.grain.sector (spare_at g m.bytes + g) (header_unit k gen len crc)

  -- Writes that open the spare slot's gate.
  abbrev gate : List Write
  gate = erasing_write m.grain.sector (spare_at g m.bytes) (gate_unit k OPEN)

  -- The active image is in the active slot.
  stands : ActiveAt g m.bytes mine other has.image
  stands = active_image_at_its_place has.active

  -- The two offsets are those of the active and the spare slot.
  there : (mine ≡ active_at g m.bytes) × (other ≡ spare_at g m.bytes)
  there = test_finds_active_image g m.bytes mine other has.image stands

  -- The spare slot ends within the flash.
  end : to ≤ length m.bytes
  end = (slot_place_ends_within g m.bytes mine other stands.sized stands.places).1

  -- At least 16 bytes are reserved for a gate.
  wide : 16 ≤ g
  wide = gate_room_at_least_16 m.grain

  -- The writes of the header lie in the range reserved for the spare slot's header.
  head_inside : AllWritesInside (other + g) (other + 2 * g) head
  head_inside = write_with_erases_inside m.grain.sector (other + g) (other + 2 * g) (spare_at g m.bytes + g) (header_unit k gen len crc)
      (data_begins_at_edge m.grain m.bytes stands.sized has.active.sized.whole mine other has.active.places) (omega (arith, there.1))
      (omega (arith, there.1, header_unit_has_size k gen len crc (gate_unit_at_least_16 m.grain.unit)))

  -- The writes that open the gate lie in the range reserved for the spare slot's gate.
  gate_inside : AllWritesInside other (other + g) gate
  gate_inside = write_with_erases_inside m.grain.sector other (other + g) (spare_at g m.bytes) (gate_unit k OPEN)
      (header_begins_at_edge m.grain m.bytes stands.sized has.active.sized.whole mine other has.active.places) (omega (arith, there.1))
      (omega (arith, there.1, gate_unit_has_size k OPEN (gate_unit_at_least_16 m.grain.unit)))

  -- If a commit is broken off before its writes reach the gate, each image in a slot was in a slot before, or is active.
  early : ChangedWithin (other + g) to m.bytes now.bytes → now.grain ≡ m.grain → (i : List ℕ) → IsInSlot now i
      → IsInSlot m i ⊎ Active now i
  early keeps grain = spare_change_keeps_slot_images m now has (λ i. IsInSlot m i ⊎ Active now i)
      (wider_frame_holds (other + g) to other to m.bytes now.bytes keeps (omega arith) (omega arith)) grain (λ i x. inl x)
      (λ filled. absurd (shut (sym (gate_kept_outside_change g (other + g) to m.bytes now.bytes other keeps (inl (omega (arith, wide))))
      ∙ filled.counts.is_open)))

  -- If a commit is broken off while its gate is written, each image in a slot was in a slot before, or is active.
  late : (mid top : MediumState) → AllWrites m part mid → AllWrites mid head top → ChangedWithin other (other + g) top.bytes now.bytes
      → now.grain ≡ m.grain → (i : List ℕ) → IsInSlot now i → IsInSlot m i ⊎ Active now i
  late mid top first second torn grain =
      let kept = writes_inside_keep_rest (other + 2 * g) to part m mid end inside first in
      let room : other + 2 * g ≤ length mid.bytes = omega (arith, kept.size, end, stands.sized.room) in
      let told = writes_inside_keep_rest (other + g) (other + 2 * g) head mid top room head_inside second in
      let both = two_changes_are_one_change (other + g) to m.bytes mid.bytes top.bytes
      (wider_frame_holds (other + 2 * g) to (other + g) to m.bytes mid.bytes kept (omega arith) (omega arith))
      (wider_frame_holds (other + g) (other + 2 * g) (other + g) to mid.bytes top.bytes told (omega arith) (omega (
        arith,
        stands.sized.room,
      ))) in
      let keeps : ChangedWithin other to m.bytes now.bytes = two_changes_are_one_change other to m.bytes top.bytes now.bytes
      (wider_frame_holds (other + g) to other to m.bytes top.bytes both (omega arith) (omega arith))
      (wider_frame_holds other (other + g) other to top.bytes now.bytes torn (omega arith) (omega (arith, stands.sized.room))) in
      let size : slot_size now.bytes ≡ slot_size m.bytes = slot_size_kept_by_change other to m.bytes now.bytes keeps in
      let wrote = write_goes_over_erases m.grain.sector (other + 2 * g) (spare_at g m.bytes + g) (header_unit k gen len crc)
      (data_begins_at_edge m.grain m.bytes stands.sized has.active.sized.whole mine other has.active.places)
      (omega (arith, there.1, header_unit_has_size k gen len crc (gate_unit_at_least_16 m.grain.unit))) mid top room second in
      let written_is : (slot g top.bytes other).header ≡ header 2 gen len crc =
      ap (λ (q : ℕ). slice_range top.bytes (q + g) (q + g + 16)) there.1
      ∙ ap (λ (l : List ℕ). slice_range l (spare_at g m.bytes + g) (spare_at g m.bytes + g + 16)) wrote.is
      ∙ unit_begins_with_header k (gate_unit_at_least_16 m.grain.unit) wrote.left (spare_at g m.bytes + g) gen len crc
      (omega (arith, wrote.erased.size, there.1, room)) in
      let now_is : (slot g now.bytes other).header ≡ header 2 gen len crc =
      header_kept_outside_change g other (other + g) top.bytes now.bytes other torn (inr (omega arith)) ∙ written_is in
      let at : (q : ℕ) → ◌≡◌ {A = Slot} (slot_of now q) (slot g now.bytes q) =
      λ q. ap (λ (w : Grain). slot (gate_room w) now.bytes q) grain in
      let mine_is : ◌≡◌ {A = Slot} (slot_of now mine) (slot g m.bytes (active_at g m.bytes)) =
      at mine ∙ active_slot_kept g wide m.bytes now.bytes mine other has.image other to stands keeps (omega arith) (omega arith)
      ∙ ap (λ (q : ℕ). slot g m.bytes q) there.0 in
      let other_is_older : generation (slot_of now other) ≡ next_generation (generation (slot_of now mine)) =
      ap (λ (x : Slot). generation x) (at other) ∙ ap (λ (h : List ℕ). slice_index h 0) now_is
      ∙ ap (λ (x : Slot). next_generation (generation x)) (sym mine_is) in
      spare_change_keeps_slot_images m now has (λ i. IsInSlot m i ⊎ Active now i) keeps grain (λ i x. inl x)
      (λ filled. inr (subst (λ (x : Slot). Active now (image_shown_in x)) (at other)
      (opened_spare_is_active now after mine other
      (subst (λ (n : ℕ). ((mine ≡ 0) × (other ≡ n)) ⊎ ((mine ≡ n) × (other ≡ 0))) (sym size) has.active.places) other_is_older
      (subst IsFilledSlot (sym (at other)) filled))))

  -- After the writes of a commit, with any result, each image in a slot was in a slot before, or is active.
  pub commit_keeps_or_activates_image : WritesEnded m (part ++ commit_writes m.grain m.bytes len crc) now → (i : List ℕ) → IsInSlot now i
      → IsInSlot m i ⊎ Active now i
  commit_keeps_or_activates_image (inl all) =
      let parts = list_has_two_parts part (head ++ gate) m now all in
      let more = list_has_two_parts head gate parts.0 now parts.1.second in
      late parts.0 more.0 parts.1.first more.1.first
      (writes_inside_keep_rest other (other + g) gate more.0 now (room parts.0 more.0 parts.1.first more.1.first) gate_inside more.1.second)
      (writes_keep_grain (part ++ commit_writes m.grain m.bytes len crc) m now all)
    where
      room : (mid top : MediumState) → AllWrites m part mid → AllWrites mid head top → other + g ≤ length top.bytes
      room mid top first second =
          let kept = writes_inside_keep_rest (other + 2 * g) to part m mid end inside first in
          let told = writes_inside_keep_rest (other + g) (other + 2 * g) head mid top (omega (arith, kept.size, end, stands.sized.room))
          head_inside
          second in
          omega (arith, kept.size, told.size, end, stands.sized.room)
  commit_keeps_or_activates_image (inr (fault, broken)) = elim (either_part_was_broken fault part (head ++ gate) m now broken) [
    | inl off ↦ early (wider_frame_holds (other + 2 * g) to (other + g) to m.bytes now.bytes
        (broken_writes_keep_rest (other + 2 * g) to fault part m now end inside off) (omega arith) (omega arith)) grain
    | inr on ↦
        let mid = on.0 in
        let kept = writes_inside_keep_rest (other + 2 * g) to part m mid end inside on.1.first in
        let room : other + 2 * g ≤ length mid.bytes = omega (arith, kept.size, end, stands.sized.room) in
        elim (either_part_was_broken fault head gate mid now on.1.second) [
          | inl off ↦ early (two_changes_are_one_change (other + g) to m.bytes mid.bytes now.bytes
              (wider_frame_holds (other + 2 * g) to (other + g) to m.bytes mid.bytes kept (omega arith) (omega arith))
              (wider_frame_holds (other + g) (other + 2 * g) (other + g) to mid.bytes now.bytes
              (broken_writes_keep_rest (other + g) (other + 2 * g) fault head mid now room head_inside off) (omega arith)
              (omega (arith, stands.sized.room)))) grain
          | inr more ↦
              let top = more.0 in
              let told = writes_inside_keep_rest (other + g) (other + 2 * g) head mid top room head_inside more.1.first in
              late mid top on.1.first more.1.first
              (broken_writes_keep_rest other (other + g) fault gate top now (omega (arith, told.size, room)) gate_inside more.1.second)
              grain
        ]
  ]
    where
      grain : now.grain ≡ m.grain
      grain = ended_writes_keep_grain (part ++ commit_writes m.grain m.bytes len crc) m now (inr (fault, broken))
