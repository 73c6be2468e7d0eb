-- Facts about the medium that `commit` leaves.
use Rattle.std.proofs.Common.{◌≡◌, ◌⊎◌, inl, inr, ⊎_elim, ℕ, ◌+◌, ◌-◌, ◌*◌, ◌^◌, ◌≤◌, ◌<◌, List, length, take, replicate, slice_index, slice_range, sym, ◌∙◌, ap, subst, arith, length-append}
use Rattle.std.proofs.lemmas.List.{length-take-le}
use Rattle.std.proofs.lemmas.Bool.{cases_eq}
use Rattle.dfu_suffix.specs.Register.{register}
use Rattle.dfu_slots.specs.declared.fault.WriteFault.{WriteFault}
use Rattle.dfu_slots.specs.Medium.{MediumState, Write, ChangedWithin, AllWrites, BrokenWrites, written}
use Rattle.dfu_slots.specs.Layout.{slot_size, capacity, Slot, slot, OPEN, HasOpenGate, generation, next_generation, header, HasHeader, gate_unit, header_unit}
use Rattle.dfu_slots.specs.Image.{active_at, spare_at, spare}
use Rattle.dfu_slots.specs.Units.{Grain, gate_size, gate_room, IsWhole}
use Rattle.dfu_slots.specs.Writes.{erasing_write, commit_writes}
use Rattle.dfu_slots.proofs.Sectors.{IsSectorEdge, gate_unit_at_least_16, gate_room_at_least_16}
use Rattle.dfu_slots.proofs.Edges.{header_begins_at_edge, data_begins_at_edge}
use Rattle.dfu_slots.proofs.WritesWithErases.{IsWrittenAfterErases, write_with_erases_inside, write_goes_over_erases}
use Rattle.dfu_slots.proofs.Stands.{ActiveAt}
use Rattle.dfu_slots.proofs.Counting.{formed_header_has_its_length, version_two_header_is_formed}
use Rattle.dfu_slots.proofs.BytesOutsideWrite.{whole_write_is_torn, written_bytes_in_range, two_changes_are_one_change, wider_frame_holds}
use Rattle.dfu_slots.proofs.ReadBack.{first_part_is_stored}
use Rattle.dfu_slots.proofs.Parts.{gate_unit_has_size, header_unit_has_size, header_kept_outside_change, data_kept_outside_change, data_length, slot_size_kept_by_change, same_length_has_two_slots}
use Rattle.dfu_slots.proofs.Newest.{test_finds_active_image, slot_place_ends_within}
use Rattle.dfu_slots.proofs.Kept.{active_slot_kept, closed_slot_change_keeps_image, active_image_kept}
use Rattle.dfu_slots.proofs.Series.{AllWritesInside, writes_inside_keep_rest, broken_writes_keep_rest, list_has_two_parts, either_part_was_broken}
use Rattle.dfu_slots.proofs.BeginMedium.{unit_begins_with_gate}

-- After a header unit is written, its range begins with the 16 bytes of the header.
pub unit_begins_with_header : (g : ℕ) → 16 ≤ g → (old : List ℕ) (p gen len crc : ℕ) → p + g ≤ length old
    → slice_range (written old p (header_unit g gen len crc)) p (p + 16) ≡ header 2 gen len crc
unit_begins_with_header g wide old p gen len crc fits =
    let unit = header_unit g gen len crc in
    let zeros = replicate {A = ℕ} (g - 16) 0 in
    let size = header_unit_has_size g gen len crc wide in
    let room : p + length unit ≤ length old = omega (arith, size, fits) in
    let parts = length-append (header 2 gen len crc) zeros in
    let long : length (header 2 gen len crc) ≡ 16 = omega arith in
    ap (λ (n : ℕ). slice_range (written old p unit) p (p + n)) (sym long)
    ∙ first_part_is_stored (written old p unit) p (header 2 gen len crc) zeros
    (omega (arith, (whole_write_is_torn old p unit room).size, parts, room)) (written_bytes_in_range old p unit room)

-- Facts about a slot that holds the header and the data of a new image, with an open or a closed gate.

module _ (g : ℕ) (wide : 16 ≤ g) (old mid left : List ℕ) (mine other : ℕ) (image : List ℕ) (a : ActiveAt g old mine other image)
    (len : ℕ) (whole : List ℕ) (fits : len ≤ length whole) (bound : len < 2 ^ 32)
    (keeps : ChangedWithin (other + g) (other + slot_size old) old mid)
    (torn : ChangedWithin other (other + g) mid left)
    (head : (slot g mid other).header ≡ header 2 (next_generation (generation (slot g old mine))) len (register (take len whole)))
    (data_is : (slot g mid other).data_bytes ≡ whole) where
  abbrev gen : ℕ
  gen = next_generation (generation (slot g old mine))

  abbrev spare_front_image : List ℕ
  spare_front_image = take len whole

  change_within_spare : ChangedWithin other (other + slot_size old) old left
  change_within_spare =
      two_changes_are_one_change other (other + slot_size old) old mid left
      (wider_frame_holds (other + g) (other + slot_size old) other (other + slot_size old) old mid keeps (omega arith) (omega arith))
      (wider_frame_holds other (other + g) other (other + slot_size old) mid left torn (omega arith) (omega (arith, a.sized.room)))

  new_image_keeps_slot_size : slot_size left ≡ slot_size old
  new_image_keeps_slot_size = slot_size_kept_by_change other (other + slot_size old) old left change_within_spare

  slot_has_new_header : (slot g left other).header ≡ header 2 gen len (register (take len whole))
  slot_has_new_header = header_kept_outside_change g other (other + g) mid left other torn (inr (omega arith)) ∙ head

  slot_has_new_data : (slot g left other).data_bytes ≡ whole
  slot_has_new_data = data_kept_outside_change g other (other + g) mid left other torn (inr (omega arith)) ∙ data_is

  active_slot_is_as_before : slot g left mine ≡ slot g old mine
  active_slot_is_as_before = active_slot_kept g wide old left mine other image other (other + slot_size old) a change_within_spare (omega
      arith) (omega arith)

  new_image_has_length_len : length spare_front_image ≡ len
  new_image_has_length_len = length-take-le len whole fits

  slot_has_new_generation : generation (slot g left other) ≡ gen
  slot_has_new_generation = ap (λ (h : List ℕ). slice_index h 0) slot_has_new_header

  -- The slot's header is well formed for the new image, with an open or a closed gate.
  new_header_well_formed : HasHeader (slot g left other) len
  new_header_well_formed = version_two_header_is_formed (slot g left other) gen len
      (slot_has_new_header ∙ ap (λ (d : List ℕ). header 2 gen len (register (take len d))) (sym slot_has_new_data))
      (omega (arith, ap length slot_has_new_data, fits))

  -- If the slot's gate is open, the slot is the newest, and the new image is active.
  pub new_image_active_if_open : HasOpenGate (slot g left other) → ActiveAt g left other mine spare_front_image
  new_image_active_if_open is_open = record {
    sized = same_length_has_two_slots g old left change_within_spare.size a.sized;
    places = ⊎_elim (λ p. inr (p.1 ∙ sym new_image_keeps_slot_size, p.0)) (λ p. inl (p.1, p.0 ∙ sym new_image_keeps_slot_size)) a.places;
    newest = record {
      counts = record {
        is_open = is_open;
        intact = λ two.
            subst (HasHeader (slot g left other)) (sym (formed_header_has_its_length (slot g left other) len new_header_well_formed bound))
            new_header_well_formed;
      };
      other_is_older = inr (slot_has_new_generation ∙ ap (λ (x : Slot). next_generation (generation x)) (sym active_slot_is_as_before));
    };
    header_is = subst (HasHeader (slot g left other)) (sym new_image_has_length_len) new_header_well_formed;
    image_is = ap (λ (n : ℕ). take n whole) (sym new_image_has_length_len)
        ∙ ap (λ (d : List ℕ). take (length spare_front_image) d) (sym slot_has_new_data);
  }

  -- If the slot's gate is closed, the slot doesn't count, and the old image stays active.
  pub old_image_stays_if_closed : ¬ HasOpenGate (slot g left other) → ActiveAt g left mine other image
  old_image_stays_if_closed shut = active_image_kept g wide old left mine other image other (other + slot_size old) a change_within_spare
      (omega arith) (omega arith)
      (inl (λ c. shut c.is_open))

  old_or_new_image_active : ActiveAt g left mine other image ⊎ ActiveAt g left other mine spare_front_image
  old_or_new_image_active = elim (cases_eq (slot g left other).gate OPEN) [
    | inl is_open ↦ inr (new_image_active_if_open is_open)
    | inr shut
        ↦ inl (old_image_stays_if_closed shut)
  ]

-- Facts about the writes of a commit.

module _ (w : Grain) (s : MediumState) (mine other : ℕ) (image : List ℕ) (a : ActiveAt (gate_room w) s.bytes mine other image)
    (whole : IsWhole w (capacity (gate_room w) s.bytes)) (shut : ¬ HasOpenGate (slot (gate_room w) s.bytes other))
    (len : ℕ) (fits : len ≤ capacity (gate_room w) s.bytes) where
  abbrev g : ℕ
  g = gate_room w

  -- Size of a gate unit or a header unit, in bytes.
  abbrev k : ℕ
  k = gate_size w.unit

  wide : 16 ≤ g
  wide = gate_room_at_least_16 w

  abbrev was : List ℕ
  was = s.bytes

  places_of : (mine ≡ active_at g was) × (other ≡ spare_at g was)
  places_of = test_finds_active_image g was mine other image a

  end : other + slot_size was ≤ length was
  end = (slot_place_ends_within g was mine other a.sized a.places).1

  abbrev crc : ℕ
  crc = register (take len (spare g was).data_bytes)

  abbrev next : ℕ
  next = next_generation (generation (slot g was (active_at g was)))

  abbrev new_header_unit : List ℕ
  new_header_unit = header_unit k next len crc

  new_header_unit_has_its_size : length new_header_unit ≡ k
  new_header_unit_has_its_size = header_unit_has_size k next len crc (gate_unit_at_least_16 w.unit)

  opening_unit_has_its_size : length (gate_unit k OPEN) ≡ k
  opening_unit_has_its_size = gate_unit_has_size k OPEN (gate_unit_at_least_16 w.unit)

  abbrev writes_before_gate : List Write
  writes_before_gate = erasing_write w.sector (spare_at g was + g) new_header_unit

  abbrev opening_gate_writes : List Write
  opening_gate_writes = erasing_write w.sector (spare_at g was) (gate_unit k OPEN)

  header_end_is_edge : IsSectorEdge w.sector (other + 2 * g)
  header_end_is_edge = data_begins_at_edge w was a.sized whole mine other a.places

  gate_end_is_edge : IsSectorEdge w.sector (other + g)
  gate_end_is_edge = header_begins_at_edge w was a.sized whole mine other a.places

  pub header_writes_inside : AllWritesInside (other + g) (other + 2 * g) writes_before_gate
  header_writes_inside =
      write_with_erases_inside w.sector (other + g) (other + 2 * g) (spare_at g was + g) new_header_unit header_end_is_edge (omega (
        arith,
        places_of.1,
      ))
      (omega (arith, places_of.1, new_header_unit_has_its_size))

  pub gate_writes_inside : AllWritesInside other (other + g) opening_gate_writes
  gate_writes_inside =
      write_with_erases_inside w.sector other (other + g) (spare_at g was) (gate_unit k OPEN) gate_end_is_edge (omega (arith, places_of.1))
      (omega (arith, places_of.1, opening_unit_has_its_size))

  spare_length_is_capacity : length (slot g was other).data_bytes ≡ capacity g was
  spare_length_is_capacity = data_length g was other end (omega (arith, a.sized.room))

  bound : len < 2 ^ 32
  bound = omega (arith, fits, a.sized.bound)

  -- Facts after all writes of a commit except the write of the gate.
  module _ (mid : MediumState) (first : AllWrites s writes_before_gate mid) where
    header_write_within_header : ChangedWithin (other + g) (other + 2 * g) was mid.bytes
    header_write_within_header = writes_inside_keep_rest (other + g) (other + 2 * g) writes_before_gate s mid (omega (
      arith,
      end,
      a.sized.room,
    )) header_writes_inside first

    header_write_within_slot : ChangedWithin (other + g) (other + slot_size was) was mid.bytes
    header_write_within_slot = wider_frame_holds (other + g) (other + 2 * g) (other + g) (other + slot_size was) was mid.bytes
        header_write_within_header (omega arith)
        (omega (arith, a.sized.room))

    header_written_anew : IsWrittenAfterErases (spare_at g was + g) (other + 2 * g) new_header_unit was mid.bytes
    header_written_anew = write_goes_over_erases w.sector (other + 2 * g) (spare_at g was + g) new_header_unit header_end_is_edge (omega
        (arith, places_of.1, new_header_unit_has_its_size)) s mid
        (omega (arith, end, a.sized.room)) first

    header_is_new_before_gate : (slot g mid.bytes other).header
        ≡ header 2 (next_generation (generation (slot g was mine))) len (register (take len (slot g was other).data_bytes))
    header_is_new_before_gate =
        ap (λ (q : ℕ). slice_range mid.bytes (q + g) (q + g + 16)) places_of.1
        ∙ ap (λ (l : List ℕ). slice_range l (spare_at g was + g) (spare_at g was + g + 16)) header_written_anew.is
        ∙ unit_begins_with_header k (gate_unit_at_least_16 w.unit) header_written_anew.left (spare_at g was + g) next len crc
        (omega (arith, header_written_anew.erased.size, places_of.1, end, a.sized.room))
        ∙ (λ i. header 2 (next_generation (generation (slot g was (sym places_of.0 i)))) len
        (register (take len (slot g was (sym places_of.1 i)).data_bytes)))

    data_is_kept_before_gate : (slot g mid.bytes other).data_bytes ≡ (slot g was other).data_bytes
    data_is_kept_before_gate = data_kept_outside_change g (other + g) (other + 2 * g) was mid.bytes other header_write_within_header (inr
        (omega arith))

  abbrev new_image : List ℕ
  new_image = take len (spare g was).data_bytes

  -- After all writes of a commit the new image is active.
  pub committed_image_is_active : (now : MediumState) → AllWrites s (commit_writes w was len crc) now →
      ActiveAt g now.bytes other mine new_image
  committed_image_is_active now all =
      let parts = list_has_two_parts writes_before_gate opening_gate_writes s now all in
      let mid = parts.0 in
      let first = parts.1.first in
      let size = (header_write_within_slot mid first).size in
      let torn = writes_inside_keep_rest other (other + g) opening_gate_writes mid now (omega (arith, size, end, a.sized.room))
      gate_writes_inside parts.1.second in
      let opens = write_goes_over_erases w.sector (other + g) (spare_at g was) (gate_unit k OPEN) gate_end_is_edge (omega (
        arith,
        places_of.1,
        opening_unit_has_its_size,
      ))
      mid now (omega (arith, size, end, a.sized.room)) parts.1.second in
      let is_open : HasOpenGate (slot g now.bytes other) =
      ap (λ (q : ℕ). slice_index now.bytes q) places_of.1 ∙ ap (λ (l : List ℕ). slice_index l (spare_at g was)) opens.is
      ∙ unit_begins_with_gate k (gate_unit_at_least_16 w.unit) opens.left (spare_at g was) OPEN
      (omega (arith, opens.erased.size, size, end, places_of.1, a.sized.room)) in
      subst (λ (q : ℕ). ActiveAt g now.bytes other mine (take len (slot g was q).data_bytes)) places_of.1
      (new_image_active_if_open g wide was mid.bytes now.bytes mine other image a len (slot g was other).data_bytes (omega (
        arith,
        spare_length_is_capacity,
      )) bound
      (header_write_within_slot mid first) torn (header_is_new_before_gate mid first) (data_is_kept_before_gate mid first) is_open)

  -- If a write of a commit fails, the old image or the new one is active.
  pub broken_commit_leaves_one : (fault : WriteFault) (now : MediumState) → BrokenWrites fault s (commit_writes w was len crc) now
      → ActiveAt g now.bytes mine other image
      ⊎ ActiveAt g now.bytes other mine new_image
  broken_commit_leaves_one fault now broken = elim (either_part_was_broken fault writes_before_gate opening_gate_writes s now broken) [
    | inl early ↦
        inl (closed_slot_change_keeps_image g wide was now.bytes mine other image (other + g) (other + 2 * g) a
        (broken_writes_keep_rest (other + g) (other + 2 * g) fault writes_before_gate s now (omega (arith, end, a.sized.room))
        header_writes_inside early) shut
        (omega (arith, wide)) (omega (arith, a.sized.room)))
    | inr late ↦
        let mid = late.0 in
        let first = late.1.first in
        let size = (header_write_within_slot mid first).size in
        let torn = broken_writes_keep_rest other (other + g) fault opening_gate_writes mid now (omega (arith, size, end, a.sized.room))
        gate_writes_inside
        late.1.second in
        subst (λ (q : ℕ). ActiveAt g now.bytes mine other image
        ⊎ ActiveAt g now.bytes other mine (take len (slot g was q).data_bytes)) places_of.1
        (old_or_new_image_active g wide was mid.bytes now.bytes mine other image a len (slot g was other).data_bytes (omega (
          arith,
          spare_length_is_capacity,
        )) bound
        (header_write_within_slot mid first) torn (header_is_new_before_gate mid first) (data_is_kept_before_gate mid first))
  ]
