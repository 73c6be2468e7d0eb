-- Facts about the medium that `begin` leaves.
use Rattle.std.proofs.Common.{◌≡◌, ◌≢◌, ◌<◌, inl, inr, ⊎_elim, ◌==◌, Bool, true, false, if◌then◌else◌, ℕ, suc, ◌+◌, ◌-◌, ◌≤◌, List, [], ◌∷◌, length, replicate, slice_index, refl, sym, ◌∙◌, ap, subst, arith}
use Rattle.std.proofs.lemmas.Bool.{eqb-true, eqb-false}
use Rattle.std.proofs.lemmas.List.{length-replicate}
use Rattle.dfu_slots.specs.Medium.{MediumState, Write, ChangedWithin, AllWrites, written}
use Rattle.dfu_slots.specs.Layout.{slot_size, slot, OPEN, HasOpenGate, gate_unit}
use Rattle.dfu_slots.specs.Image.{spare_at, spare}
use Rattle.dfu_slots.specs.Units.{Grain, gate_size, gate_room}
use Rattle.dfu_slots.specs.Writes.{closed_gate, begin_writes}
use Rattle.dfu_slots.proofs.Sectors.{gate_unit_at_least_16, gate_room_at_least_16}
use Rattle.dfu_slots.proofs.Stands.{ActiveAt}
use Rattle.dfu_slots.proofs.BytesOutsideWrite.{written_bytes_in_range, range_begins_there}
use Rattle.dfu_slots.proofs.Parts.{gate_unit_has_size, data_kept_outside_change}
use Rattle.dfu_slots.proofs.Newest.{test_finds_active_image, slot_place_ends_within}
use Rattle.dfu_slots.proofs.Kept.{open_gate_change_keeps_image}
use Rattle.dfu_slots.proofs.Series.{AllWritesInside, WritesEnded, SameSize, ended_writes_keep_rest, writes_keep_size, tested_writes_ended, all_if, chosen_writes_inside}

-- If the active image stays in its slot, the other slot stays the spare.
pub spare_stays_at_its_place : (g : ℕ) (old now : List ℕ) (mine other : ℕ) (image : List ℕ) → ActiveAt g old mine other image
    → ActiveAt g now mine other image → spare_at g now ≡ spare_at g old
spare_stays_at_its_place g old now mine other image a b = sym (test_finds_active_image g now mine other image b).1
    ∙ (test_finds_active_image g old mine other image a).1

-- The first byte of an erased sector is FFh.
erased_byte_reads_ff : (n : ℕ) → 0 < n → (old : List ℕ) (p : ℕ) → p + n ≤ length old → slice_index (written old p (replicate n 255)) p ≡ 255
erased_byte_reads_ff n some old p fits =
    let size = length-replicate {A = ℕ} n 255 in
    let split : replicate {A = ℕ} n 255 ≡ 255 ∷ replicate (n - 1) 255 =
    (let e : n ≡ suc (n - 1) = omega (arith, some) in ap (λ (k : ℕ). replicate {A = ℕ} k 255) e) in
    range_begins_there (written old p (replicate n 255)) p (p + length (replicate n 255)) 255 (replicate (n - 1) 255)
    (omega (arith, size, some))
    (written_bytes_in_range old p (replicate n 255) (omega (arith, size, fits)) ∙ split)

-- After a gate unit is written at an offset, the byte at that offset is the gate's first byte.
pub unit_begins_with_gate : (g : ℕ) → 16 ≤ g → (old : List ℕ) (p gate : ℕ) → p + g ≤ length old
    → slice_index (written old p (gate_unit g gate)) p ≡ gate
unit_begins_with_gate g wide old p gate fits =
    let size = gate_unit_has_size g gate wide in
    range_begins_there (written old p (gate_unit g gate)) p (p + length (gate_unit g gate)) gate (replicate (g - 1) 0) (omega (arith, size))
    (written_bytes_in_range old p (gate_unit g gate) (omega (arith, size)))

-- The bytes that close a gate fit into the space of a gate.
pub closed_gate_fits_room : (w : Grain) → length (closed_gate w) ≤ gate_room w
closed_gate_fits_room w = in_either_result (w.sector == 0) refl
  where
    in_either_result : (b : Bool) → (w.sector == 0) ≡ b
        → length (if b then gate_unit (gate_size w.unit) 0 else replicate {A = ℕ} w.sector 255) ≤ gate_room w
    in_either_result true is = omega (arith, gate_unit_has_size (gate_size w.unit) 0 (gate_unit_at_least_16 w.unit))
    in_either_result false is = omega (arith, length-replicate {A = ℕ} w.sector 255)

-- After the bytes that close a gate are written, the gate is closed.
pub written_closed_gate_is_closed : (w : Grain) (old : List ℕ) (p : ℕ) → p + gate_room w ≤ length old
    → slice_index (written old p (closed_gate w)) p ≢ OPEN
written_closed_gate_is_closed w old p fits = in_either_result (w.sector == 0) refl
  where
    in_either_result : (b : Bool) → (w.sector == 0) ≡ b
        → slice_index (written old p (if b then gate_unit (gate_size w.unit) 0 else replicate {A = ℕ} w.sector 255)) p ≢ OPEN
    in_either_result true is = λ e. omega (
      arith,
      e,
      unit_begins_with_gate (gate_size w.unit) (gate_unit_at_least_16 w.unit) old p 0 (omega
          (arith, fits)),
    )
    in_either_result false is =
        let some : w.sector ≢ 0 = eqb-false _ _ is in
        λ e. omega (arith, e, erased_byte_reads_ff w.sector (omega (arith, some)) old p (omega (arith, fits)))

module _ (w : Grain) (s now : MediumState) (mine other : ℕ) (image : List ℕ) (a : ActiveAt (gate_room w) s.bytes mine other image) where
  abbrev g : ℕ
  g = gate_room w

  wide : 16 ≤ g
  wide = gate_room_at_least_16 w

  abbrev old : List ℕ
  old = s.bytes

  begin_knows_the_spare : other ≡ spare_at g old
  begin_knows_the_spare = (test_finds_active_image g old mine other image a).1

  spare_ends_at_begin : other + slot_size old ≤ length old
  spare_ends_at_begin = (slot_place_ends_within g old mine other a.sized a.places).1

  abbrev closing_writes : List Write
  closing_writes = record { at = spare_at g old; bytes = closed_gate w } ∷ []

  begin_writes_inside_gate : AllWritesInside other (other + g) (begin_writes w old)
  begin_writes_inside_gate = chosen_writes_inside other (other + g) ((spare g old).gate == OPEN) closing_writes []
      (omega (arith, begin_knows_the_spare), omega (arith, begin_knows_the_spare, closed_gate_fits_room w), tt) tt

  -- Facts after the writes of a `begin` worked or one of them failed.
  module _ (ends : WritesEnded s (begin_writes w old) now) where
    -- A `begin` changes no byte outside the spare's gate.
    begin_writes_gate_only : ChangedWithin other (other + g) old now.bytes
    begin_writes_gate_only = ended_writes_keep_rest other (other + g) (begin_writes w old) s now (omega (
      arith,
      spare_ends_at_begin,
      a.sized.room,
    )) begin_writes_inside_gate ends

    -- A `begin` keeps the length and the grain of the medium.
    pub begin_keeps_size : SameSize s now
    begin_keeps_size = writes_keep_size other (other + g) (begin_writes w old) s now (omega (arith, spare_ends_at_begin, a.sized.room))
        begin_writes_inside_gate ends

    -- A `begin` keeps the active image in its slot.
    pub begin_keeps_active_image : ActiveAt g now.bytes mine other image
    begin_keeps_active_image =
        ⊎_elim
        (λ one.
        let is_open : HasOpenGate (slot g old other) = subst (λ (q : ℕ). HasOpenGate (slot g old q)) (sym begin_knows_the_spare) (eqb-true _
        _ one.0) in
        open_gate_change_keeps_image g wide old now.bytes mine other image other (other + g) a begin_writes_gate_only is_open (omega arith)
        (omega arith))
        (λ none. subst (λ (m : MediumState). ActiveAt g m.bytes mine other image) (sym none.1) a)
        (tested_writes_ended s now ((spare g old).gate == OPEN) closing_writes ends)

    begin_keeps_spare_place : spare_at g now.bytes ≡ spare_at g old
    begin_keeps_spare_place = spare_stays_at_its_place g old now.bytes mine other image a begin_keeps_active_image

    -- A `begin` keeps the data of the spare.
    pub begin_keeps_spare_data : (spare g now.bytes).data_bytes ≡ (spare g old).data_bytes
    begin_keeps_spare_data =
        ap (λ (q : ℕ). (slot g now.bytes q).data_bytes) (begin_keeps_spare_place ∙ sym begin_knows_the_spare)
        ∙ data_kept_outside_change g other (other + g) old now.bytes other begin_writes_gate_only (inr (omega arith))
        ∙ ap (λ (q : ℕ). (slot g old q).data_bytes) begin_knows_the_spare

  -- If all writes of a `begin` worked, the spare's gate is closed.
  pub begin_closes_gate : AllWrites s (begin_writes w old) now → ¬ HasOpenGate (spare g now.bytes)
  begin_closes_gate came =
      let kept = begin_keeps_spare_place (inl came) in
      ⊎_elim
      (λ one.
      let bytes_are : now.bytes ≡ written old (spare_at g old) (closed_gate w) = ap (λ (m : MediumState). m.bytes) one.1.2
      ∙ one.1.1.bytes in
      let gate : (spare g now.bytes).gate ≡ slice_index (written old (spare_at g old) (closed_gate w)) (spare_at g old) =
      ap (λ (q : ℕ). slice_index now.bytes q) kept ∙ ap (λ (l : List ℕ). slice_index l (spare_at g old)) bytes_are in
      λ is_open. written_closed_gate_is_closed w old (spare_at g old) (omega (
        arith,
        begin_knows_the_spare,
        spare_ends_at_begin,
        a.sized.room,
      )) (sym gate ∙ is_open))
      (λ none. subst (λ (m : MediumState). ¬ HasOpenGate (spare g m.bytes)) (sym none.1) (eqb-false _ _ none.0))
      (all_if s now ((spare g old).gate == OPEN) closing_writes came)
