-- Each due operation lies in the first slot, and the active image stays active after it.
use Rattle.std.proofs.Common.{◌≡◌, inl, inr, ℕ, ◌+◌, ◌-◌, ◌*◌, ◌%◌, ◌≤◌, ◌<◌, List, length, get_or, drop, slice_index, Option, sym, ◌∙◌, ap, subst, arith}
use Rattle.std.proofs.lemmas.List.{get_or-take, get_or-drop}
use Rattle.dfu_slots.specs.Units.{gate_size}
use Rattle.dfu_slots.specs.Medium.{MediumState}
use Rattle.dfu_slots.specs.Layout.{slot_size}
use Rattle.dfu_slots.specs.Image.{gate_of, capacity_of, Active}
use Rattle.dfu_slots.proofs.Stands.{ActiveAt, active_image_at_its_place}
use Rattle.dfu_slots.proofs.VisibleStores.{active_on_same_size}
use Rattle.dfu_slots.proofs.Sectors.{gate_room_at_least_16, gate_room_is_a_sector, first_byte_is_edge, gate_room_ends_at_edge, edge_sum_is_edge}
use Rattle.dfu_slots.proofs.Parts.{data_length}
use Rattle.dfu_boot.specs.install.Area.{RangeIsBlank}
use Rattle.dfu_boot.specs.declared.install.due.Due.TheVariants as fill
use Rattle.dfu_boot.proofs.Allowing.{does_only_allowed as fill_allowed}
use Rattle.dfu_home.specs.declared.due.Due.TheVariants.{Refuse, Home, Erase, Program}
use Rattle.dfu_home.specs.Places.{first_of, away_image, last_in_data}
use Rattle.dfu_home.specs.Next.{IsCopying, IsByteCopyDue, ErasesForCopy, ProgramsForCopy}
use Rattle.dfu_home.specs.Laws.{ImageStays, WritesTheFirstSlot}
use Rattle.dfu_home.proofs.SecondSlotImage.{image_second_if_first_closed, image_second_if_found_second}
use Rattle.dfu_home.proofs.UnchangedImage.{image_stays_as_gate_closes, image_stays_as_data_fills, image_stays_as_gate_opens}

module _ (m : MediumState) (c : IsCopying m) where
  abbrev g : ℕ
  g = gate_of m

  abbrev half : ℕ
  half = slot_size m.bytes

  abbrev sector : ℕ
  sector = m.grain.sector

  pub gate_room_is_one_sector : g ≡ sector
  gate_room_is_one_sector = gate_room_is_a_sector m.grain (capacity_of m) c.sized.whole c.sectors

  gate_is_whole_sectors : g % sector ≡ 0
  gate_is_whole_sectors = gate_room_ends_at_edge m.grain (capacity_of m) c.sized.whole c.sectors

  pub first_data_fills_capacity : length (first_of m).data_bytes ≡ capacity_of m
  first_data_fills_capacity = data_length g m.bytes 0 (omega (arith, c.sized.even)) (omega (arith, c.sized.room))

  -- A data sector that the copy erases lies in the first slot, and begins at a multiple of the sector size.
  data_erase_within_slot : (last : Option ℕ) (at d : ℕ) → at ≡ 2 * g + d → IsByteCopyDue m last (fill.Erase d)
      → (at + sector ≤ half) × (at % sector ≡ 0)
  data_erase_within_slot last at d is does =
      let ok = fill_allowed (away_image m) (first_of m).data_bytes sector (last_in_data (2 * g) last) (fill.Erase d) does in
      let sum : g + g + d ≡ at = omega (arith, is) in (
        omega (arith, is, ok.1, first_data_fills_capacity, c.sized.room),
        subst (λ (k : ℕ). k % sector ≡ 0) sum
            (edge_sum_is_edge sector (g + g) d (edge_sum_is_edge sector g g (λ some. gate_is_whole_sectors) (λ some.
            gate_is_whole_sectors)) (λ some. ok.0) c.sectors),
      )

  pub copy_erase_within_slot : (last : Option ℕ) (at : ℕ) → ErasesForCopy m last at → (at + sector ≤ half) × (at % sector ≡ 0)
  copy_erase_within_slot last at (inl (d, is, does)) = data_erase_within_slot last at d is does
  copy_erase_within_slot last at (inr (inl (due, is, old))) =
      (omega (arith, is, gate_room_is_one_sector, c.sized.room), ap (λ (k : ℕ). k % sector) is ∙ gate_is_whole_sectors)
  copy_erase_within_slot last at (inr (inr (due, is, old))) =
      (omega (arith, is, gate_room_is_one_sector, c.sized.room), ap (λ (k : ℕ). k % sector) is ∙ first_byte_is_edge sector c.sectors)

  -- Byte i of the medium, after the gate and the header of the first slot, is byte i - 2 * g of that slot's data.
  data_byte_is_medium_byte : (i : ℕ) → 2 * g ≤ i → i < half → slice_index (first_of m).data_bytes (i - 2 * g) ≡ slice_index m.bytes i
  data_byte_is_medium_byte i low high =
      let e : 0 + 2 * g + (i - 2 * g) ≡ i = omega (arith, low) in
      get_or-take (0 + half - (0 + 2 * g)) (drop (0 + 2 * g) m.bytes) (i - 2 * g) 0 (omega (arith, low, high))
      ∙ get_or-drop (0 + 2 * g) m.bytes (i - 2 * g) 0
      ∙ ap (λ (k : ℕ). get_or m.bytes k 0) e

  data_program_within_blank : (last : Option ℕ) (at d : ℕ) → at ≡ 2 * g + d → IsByteCopyDue m last (fill.Program d)
      → (at + 256 ≤ half) × RangeIsBlank m.bytes at (at + 256)
  data_program_within_blank last at d is does =
      let ok = fill_allowed (away_image m) (first_of m).data_bytes sector (last_in_data (2 * g) last) (fill.Program d) does in
      let fits : at + 256 ≤ half = omega (arith, is, ok.1, first_data_fills_capacity, c.sized.room) in (
        fits,
        λ i low high. sym (data_byte_is_medium_byte i (omega (arith, is, low)) (omega (arith, high, fits)))
            ∙ ok.3 (i - 2 * g) (omega (arith, is, low)) (omega (arith, is, low, high)),
      )

  few : gate_size m.grain.unit ≤ g
  few = omega arith

  pub copy_program_within_blank : (last : Option ℕ) (at len : ℕ) → ProgramsForCopy m last at len
      → (at + len ≤ half) × RangeIsBlank m.bytes at (at + len)
  copy_program_within_blank last at len (inl (d, is, size, does)) =
      subst (λ (n : ℕ). (at + n ≤ half) × RangeIsBlank m.bytes at (at + n)) (sym size) (data_program_within_blank last at d is does)
  copy_program_within_blank last at len (inr (inl (due, is, size, erased))) =
      (omega (arith, is, size, few, c.sized.room), subst (λ (n : ℕ). RangeIsBlank m.bytes at (at + n)) (sym size) erased.1)
  copy_program_within_blank last at len (inr (inr (due, is, size, erased))) =
      (omega (arith, is, size, few, c.sized.room), subst (λ (n : ℕ). RangeIsBlank m.bytes at (at + n)) (sym size) erased.1)

pub writes_the_first_slot : WritesTheFirstSlot
writes_the_first_slot m p (Refuse refusal) does = _
writes_the_first_slot m p Home does = _
writes_the_first_slot m p (Erase at) (may, inl (away, is_open, some, is)) =
    let sized = away.has.active.sized in (
      omega (arith, is, gate_room_is_a_sector m.grain (capacity_of m) sized.whole some, sized.room),
      ap (λ (k : ℕ). k % m.grain.sector) is ∙ first_byte_is_edge m.grain.sector some,
    )
writes_the_first_slot m p (Erase at) (may, inr (c, erases)) = copy_erase_within_slot m c p.last at erases
writes_the_first_slot m p (Program at len) (may, c, programs) = copy_program_within_blank m c p.last at len programs

-- A medium whose bytes are unchanged has the same active image.
unchanged_medium_keeps_image : (m now : MediumState) (image : List ℕ) → Active m image → now.bytes ≡ m.bytes → now.grain ≡ m.grain →
    Active now image
unchanged_medium_keeps_image m now image a bytes grain =
    active_on_same_size {m = m} {n = now} a.at a.spare image (record { grain = grain; size = ap length bytes }) a.sized.whole
    (subst (λ (l : List ℕ). ActiveAt (gate_of m) l a.at a.spare image) (sym bytes) (active_image_at_its_place a))

pub image_stays : ImageStays
image_stays m now image p (Refuse refusal) a does carried = unchanged_medium_keeps_image m now image a carried.bytes.after carried.grain
image_stays m now image p Home a does carried = unchanged_medium_keeps_image m now image a carried.bytes.after carried.grain
image_stays m now image p (Erase at) a (may, inl (away, is_open, some, is)) carried =
    let gate = gate_room_is_a_sector m.grain (capacity_of m) a.sized.whole some in
    image_stays_as_gate_closes m now image at (at + m.grain.sector) (image_second_if_found_second m image a away.second) a.sized.whole
    carried.bytes carried.grain
    (omega (arith, is, gate, a.sized.room)) is_open (omega (arith, is, gate))
image_stays m now image p (Erase at) a (may, inr (c, erases)) carried =
    let away = image_second_if_first_closed m image a c.shut in
    let within = (copy_erase_within_slot m c p.last at erases).0 in
    elim erases [
      | inl (d, is, does) ↦ image_stays_as_data_fills m now image at (at + m.grain.sector) away a.sized.whole carried.bytes carried.grain
          within
          c.shut (omega (arith, is, gate_room_at_least_16 m.grain))
      | inr (inl (due, is, old)) ↦ image_stays_as_data_fills m now image at (at + m.grain.sector) away a.sized.whole carried.bytes
          carried.grain within
          c.shut (omega (arith, is, gate_room_at_least_16 m.grain))
      | inr (inr (due, is, old)) ↦ image_stays_as_gate_opens m now image at (at + m.grain.sector) away a.sized.whole carried.bytes
          carried.grain within
          (omega (arith, is, gate_room_is_one_sector m c)) due.0 due.1
    ]
image_stays m now image p (Program at len) a (may, c, programs) carried =
    let away = image_second_if_first_closed m image a c.shut in
    let within = (copy_program_within_blank m c p.last at len programs).0 in
    elim programs [
      | inl (d, is, size, does) ↦ image_stays_as_data_fills m now image at (at + len) away a.sized.whole carried.bytes carried.grain within
          c.shut (omega (arith, is, gate_room_at_least_16 m.grain))
      | inr (inl (due, is, size, erased)) ↦ image_stays_as_data_fills m now image at (at + len) away a.sized.whole carried.bytes
          carried.grain within
          c.shut (omega (arith, is, gate_room_at_least_16 m.grain))
      | inr (inr (due, is, size, erased)) ↦ image_stays_as_gate_opens m now image at (at + len) away a.sized.whole carried.bytes
          carried.grain within
          (omega (arith, is, size)) due.0 due.1
    ]
