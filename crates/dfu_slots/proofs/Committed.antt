-- Facts about the medium after `commit`, which writes the held bytes and then opens the slot of the new image.
use Rattle.std.proofs.Common.{◌≡◌, ◌⊎◌, inl, inr, ℕ, ◌+◌, ◌-◌, ◌*◌, ◌≤◌, List, ◌++◌, length, take, replicate, sym, ◌∙◌, ap, subst, arith, length-append}
use Rattle.dfu_slots.specs.declared.layout.Unit.{Unit as WriteUnit}
use Rattle.dfu_suffix.specs.Register.{register}
use Rattle.dfu_slots.specs.Units.{Grain, gate_room, IsWhole, fill_size, filled_units}
use Rattle.dfu_slots.specs.declared.fault.WriteFault.{WriteFault}
use Rattle.dfu_slots.specs.Medium.{MediumState, Write, AllWrites, BrokenWrites, written}
use Rattle.dfu_slots.specs.Layout.{slot_size, capacity, Slot, slot, HasOpenGate, generation, next_generation}
use Rattle.dfu_slots.specs.Image.{active_at, spare_at, spare}
use Rattle.dfu_slots.specs.Writes.{held_writes, open_writes, commit_writes}
use Rattle.dfu_slots.proofs.Stands.{ActiveAt}
use Rattle.dfu_slots.proofs.Parts.{slot_size_kept_by_change}
use Rattle.dfu_slots.proofs.Newest.{test_finds_active_image, slot_place_ends_within, spare_data_has_capacity}
use Rattle.dfu_slots.proofs.Series.{AllWritesInside, list_has_two_parts, either_part_was_broken, appended_writes_inside}
use Rattle.dfu_slots.proofs.WritesWithErases.{write_some_lies_inside, write_some_leaves_bytes}
use Rattle.dfu_slots.proofs.SlotOpened.{open_writes_in_gate_and_header}
use Rattle.dfu_slots.proofs.Sectors.{IsSectorEdge, gate_room_at_least_16}
use Rattle.dfu_slots.proofs.Edges.{slot_ends_at_edge}
use Rattle.dfu_slots.proofs.WritesWithinRanges.{front_shows_written_bytes}
use Rattle.dfu_slots.proofs.SpareData.{SpareDataResult, closed_spare_data_result, write_extends_spare_front}
use Rattle.dfu_slots.proofs.Kept.{active_slot_kept}
use Rattle.dfu_slots.proofs.Commit.{committed_image_is_active, broken_commit_leaves_one}

module _ (w : Grain) (s : MediumState) (mine other : ℕ) (image : List ℕ) (a : ActiveAt (gate_room w) s.bytes mine other image)
    (whole : IsWhole w (capacity (gate_room w) s.bytes)) (shut : ¬ HasOpenGate (slot (gate_room w) s.bytes other))
    (k : ℕ) (held : List ℕ) (room : k + length (filled_units w.unit held) ≤ capacity (gate_room w) s.bytes) (len : ℕ)
    (le : len ≤ k + length held)
    (crc : ℕ) (crc_is : crc ≡ register (take len (written (spare (gate_room w) s.bytes).data_bytes k held))) where
  abbrev g : ℕ
  g = gate_room w

  wide : 16 ≤ g
  wide = gate_room_at_least_16 w

  abbrev u : WriteUnit
  u = w.unit

  abbrev from : ℕ
  from = spare_at g s.bytes + 2 * g + k

  abbrev part : List Write
  part = held_writes w from held

  committed_spare_end_is_edge : IsSectorEdge w.sector (other + slot_size s.bytes)
  committed_spare_end_is_edge = slot_ends_at_edge w s.bytes a.sized whole mine other a.places

  commit_finds_spare_place : other ≡ spare_at g s.bytes
  commit_finds_spare_place = (test_finds_active_image g s.bytes mine other image a).1

  held_writes_inside_data : AllWritesInside (other + 2 * g) (other + slot_size s.bytes) part
  held_writes_inside_data = write_some_lies_inside w.sector (other + 2 * g) (other + slot_size s.bytes) from (filled_units u held)
      committed_spare_end_is_edge (omega (arith, commit_finds_spare_place))
      (omega (arith, commit_finds_spare_place, room, a.sized.room))

  abbrev new_image : List ℕ
  new_image = take len (written (spare g s.bytes).data_bytes k held)

  -- All writes of a `commit` lie in the spare slot.
  pub commit_writes_inside_spare : AllWritesInside other (other + slot_size s.bytes) (part ++ commit_writes w s.bytes len crc)
  commit_writes_inside_spare =
      appended_writes_inside other (other + slot_size s.bytes) part (commit_writes w s.bytes len crc)
      (write_some_lies_inside w.sector other (other + slot_size s.bytes) from (filled_units u held) committed_spare_end_is_edge (omega
      (arith, commit_finds_spare_place))
      (omega (arith, commit_finds_spare_place, room, a.sized.room)))
      (open_writes_in_gate_and_header w other (other + slot_size s.bytes) (spare_at g s.bytes)
      (next_generation (generation (slot g s.bytes (active_at g s.bytes)))) len crc committed_spare_end_is_edge (omega (
        arith,
        commit_finds_spare_place,
      ))
      (omega (arith, commit_finds_spare_place, a.sized.room)))

  -- Facts after the held bytes are written.
  module _ (mid : MediumState) (first : AllWrites s part mid) where
    held_writes_are_safe : SpareDataResult g s mid mine other image
    held_writes_are_safe = closed_spare_data_result g wide s mid mine other image a shut part held_writes_inside_data (inl first)

    gate_closed_after_held_bytes : ¬ HasOpenGate (slot g mid.bytes other)
    gate_closed_after_held_bytes is_open = shut (sym held_writes_are_safe.gate_at_spare_place ∙ is_open)

    held_bytes_keep_slot_size : slot_size mid.bytes ≡ slot_size s.bytes
    held_bytes_keep_slot_size = slot_size_kept_by_change (other + 2 * g) (other + slot_size s.bytes) s.bytes mid.bytes
        held_writes_are_safe.kept

    held_bytes_keep_generation : generation (slot g mid.bytes (active_at g mid.bytes)) ≡ generation (slot g s.bytes (active_at g s.bytes))
    held_bytes_keep_generation =
        ap (λ (q : ℕ). generation (slot g mid.bytes q)) (sym (test_finds_active_image g mid.bytes mine other image
        held_writes_are_safe.stands).0)
        ∙ ap (λ (x : Slot). generation x) (active_slot_kept g wide s.bytes mid.bytes mine other image (other + 2 * g) (other + slot_size
        s.bytes)
        a held_writes_are_safe.kept (omega arith) (omega arith))
        ∙ ap (λ (q : ℕ). generation (slot g s.bytes q)) (test_finds_active_image g s.bytes mine other image a).0

    length_fits_after_held_bytes : len ≤ capacity g mid.bytes
    length_fits_after_held_bytes = omega (
      arith,
      le,
      room,
      held_bytes_keep_slot_size,
      length-append held (replicate (fill_size u (length
          held)) 0),
    )

    capacity_whole_after_held_bytes : IsWhole w (capacity g mid.bytes)
    capacity_whole_after_held_bytes = subst (λ (n : ℕ). IsWhole w (n - 2 * g)) (sym held_bytes_keep_slot_size) whole

    held_bytes_end_within_slot : from + length (filled_units u held) ≤ other + slot_size s.bytes
    held_bytes_end_within_slot = omega (arith, commit_finds_spare_place, room, a.sized.room)

    spare_ends_within_committed : other + slot_size s.bytes ≤ length s.bytes
    spare_ends_within_committed = (slot_place_ends_within g s.bytes mine other a.sized a.places).1

    data_begins_with_held_bytes : take (k + length (filled_units u held)) (spare g mid.bytes).data_bytes ≡ take k
        (spare g s.bytes).data_bytes ++ filled_units u held
    data_begins_with_held_bytes = write_extends_spare_front g s.bytes mid.bytes a.sized held_writes_are_safe.spare_place_stays k
        (filled_units u held) (other + slot_size s.bytes) room
        (write_some_leaves_bytes w.sector (other + slot_size s.bytes) from (filled_units u held) committed_spare_end_is_edge
        held_bytes_end_within_slot s mid spare_ends_within_committed first)

    committed_image_is_front : take len (spare g mid.bytes).data_bytes ≡ new_image
    committed_image_is_front =
        front_shows_written_bytes (spare g s.bytes).data_bytes (spare g mid.bytes).data_bytes k held (replicate (fill_size u (length held))
        0) len
        (omega (arith, room, spare_data_has_capacity g s.bytes a.sized)) le data_begins_with_held_bytes

    -- Writing the held bytes doesn't change the later writes of a `commit`.
    held_bytes_keep_commit_writes : commit_writes w s.bytes len crc
        ≡ commit_writes w mid.bytes len (register (take len (spare g mid.bytes).data_bytes))
    held_bytes_keep_commit_writes =
        λ i.
        open_writes w (sym held_writes_are_safe.spare_place_stays i) (next_generation (sym held_bytes_keep_generation i)) len
        ((crc_is ∙ ap (λ (l : List ℕ). register l) (sym committed_image_is_front)) i)

  -- After all writes of a `commit` the new image is active.
  pub commit_activates_new_image : (now : MediumState) → AllWrites s (part ++ commit_writes w s.bytes len crc) now
      → ActiveAt g now.bytes other mine new_image
  commit_activates_new_image now came =
      let parts = list_has_two_parts part (commit_writes w s.bytes len crc) s now came in
      let mid = parts.0 in
      let first = parts.1.first in
      let second = subst (λ (ws : List Write). AllWrites mid ws now) (held_bytes_keep_commit_writes mid first) parts.1.second in
      subst (λ (l : List ℕ). ActiveAt g now.bytes other mine l) (committed_image_is_front mid first)
      (committed_image_is_active w mid mine other image (held_writes_are_safe mid first).stands (capacity_whole_after_held_bytes mid first)
      (gate_closed_after_held_bytes mid first) len (length_fits_after_held_bytes mid first) now
      second)

  -- If a write of a `commit` fails, the old image or the new one is active.
  pub broken_commit_leaves_either : (fault : WriteFault) (now : MediumState) → BrokenWrites fault s (part
      ++ commit_writes w s.bytes len crc) now
      → ActiveAt g now.bytes mine other image ⊎ ActiveAt g now.bytes other mine new_image
  broken_commit_leaves_either fault now broken = elim (either_part_was_broken fault part (commit_writes w s.bytes len crc) s now broken) [
    | inl early ↦ inl (closed_spare_data_result g wide s now mine other image a shut part held_writes_inside_data (inr (
      fault,
      early,
    ))).stands
    | inr late ↦
        let mid = late.0 in
        let first = late.1.first in
        let second = subst (λ (ws : List Write). BrokenWrites fault mid ws now) (held_bytes_keep_commit_writes mid first) late.1.second in
        subst (λ (l : List ℕ). ActiveAt g now.bytes mine other image ⊎ ActiveAt g now.bytes other mine l) (committed_image_is_front mid
        first)
        (broken_commit_leaves_one w mid mine other image (held_writes_are_safe mid first).stands (capacity_whole_after_held_bytes mid first)
        (gate_closed_after_held_bytes mid first) len
        (length_fits_after_held_bytes mid first) fault now second)
  ]
