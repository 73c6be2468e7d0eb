-- The marks of a slot lie within the medium, and the medium accepts the marks that are not set.
use Rattle.std.proofs.Common.{◌≡◌, inl, inr, ⊎_elim, ℕ, zero, suc, ◌+◌, ◌-◌, ◌*◌, ◌≤◌, ◌<◌, ◌==◌, Bool, true, false, List, [], ◌∷◌, length, get_or, take, drop, slice_index, slice_range, sym, ◌∙◌, ap, arith, if◌then◌else◌, length-drop, eqb-true}
use Rattle.std.specs.List.{list_all}
use Rattle.std.proofs.lemmas.Bool.{not-false, and_parts}
use Rattle.std.proofs.lemmas.List.{length-take-le, get_or-take, get_or-drop}
use Rattle.dfu_slots.specs.declared.layout.Unit.{Unit as WriteUnit}
use Rattle.dfu_slots.specs.declared.layout.Unit.TheVariants.{Byte, U16, U64, U256}
use Rattle.dfu_slots.specs.Units.{Grain, gate_size, gate_room, IsMultiple}
use Rattle.dfu_slots.specs.Medium.{MediumState}
use Rattle.dfu_slots.specs.Layout.{slot_size, ArePlaces}
use Rattle.dfu_slots.specs.Image.{IsSizedMedium, gate_of, capacity_of}
use Rattle.dfu_slots.proofs.Stands.{sized_medium_has_two_slots}
use Rattle.dfu_slots.proofs.Newest.{slot_place_ends_within}
use Rattle.dfu_slots.proofs.Edges.{slot_begins_at_edge}
use Rattle.dfu_slots.proofs.Sectors.{gate_room_is_a_sector, gate_room_is_multiple, gate_size_is_multiple}
use Rattle.dfu_boot.specs.trial.Marks.{mark_size, mark_at, mark_bytes, is_erased, is_mark_set, marks_set_in_row, recorded_starts, AreTries}
use Rattle.dfu_boot.specs.trial.Calls.{MediumAccepts, mark_op}
use Rattle.dfu_boot.specs.declared.trial.operation.Operation.TheVariants.{Close}

-- The offsets of the two slots may be given in either order.
pub slot_places_swap : (l : List ℕ) (p q : ℕ) → ArePlaces l p q → ArePlaces l q p
slot_places_swap l p q there = ⊎_elim (λ a. inr (a.1, a.0)) (λ a. inl (a.1, a.0)) there

-- All bytes of a mark that is not set are FFh.
unset_mark_is_erased : (m : MediumState) (at i : ℕ) → is_mark_set m at i ≡ false → list_all is_erased (mark_bytes m at i) ≡ true
unfolding is_mark_set
unset_mark_is_erased m at i unset = not-false _ unset

-- If a list is erased, each of its bytes is FFh.
erased_list_bytes_are_ff : (l : List ℕ) (i : ℕ) → list_all is_erased l ≡ true → i < length l → get_or l i 0 ≡ 255
erased_list_bytes_are_ff [] i all lt = absurd (omega (arith, lt))
erased_list_bytes_are_ff (x ∷ xs) zero all lt = eqb-true x 255 (and_parts (x == 255) (list_all is_erased xs) all).0
erased_list_bytes_are_ff (x ∷ xs) (suc i) all lt = erased_list_bytes_are_ff xs i (and_parts (x == 255) (list_all is_erased xs) all).1
    (omega (arith, lt))

-- If a range is erased, each byte of the medium in that range is FFh.
erased_range_bytes_are_ff : (l : List ℕ) (at n p : ℕ) → list_all is_erased (slice_range l at (at + n)) ≡ true → at + n ≤ length l → at
    ≤ p → p < at + n
    → slice_index l p ≡ 255
erased_range_bytes_are_ff l at n p all room low high =
    let e : at + (p - at) ≡ p = omega (arith, low) in
    let f : at + n - at ≡ n = omega arith in
    let long : length (take n (drop at l)) ≡ n = length-take-le n (drop at l) (omega (arith, room, length-drop at l)) in
    ap (λ (k : ℕ). get_or l k 0) (sym e) ∙ sym (get_or-drop at l (p - at) 0)
    ∙ sym (get_or-take n (drop at l) (p - at) 0 (omega (arith, low, high)))
    ∙ erased_list_bytes_are_ff (take n (drop at l)) (p - at) (ap (λ (k : ℕ). list_all is_erased (take k (drop at l))) (sym f) ∙ all)
    (omega (arith, low, high, long))

-- Each mark ends within the sector of the header.
pub marks_end_in_header_sector : (w : Grain) (tries i : ℕ) → AreTries w tries → i ≤ tries → 2 * mark_size w + i * mark_size w ≤ gate_room w
marks_end_in_header_sector w tries i t le =
    let more : tries ≡ i + (tries - i) = omega (arith, le) in
    let product : (tries + 2) * mark_size w ≡ 2 * mark_size w + i * mark_size w + (tries - i) * mark_size w =
    ap (λ (k : ℕ). (k + 2) * mark_size w) more ∙ grind arith in
    omega (arith, t.room, product)

-- Each mark of a slot within the medium ends within the medium.
pub mark_ends_within_medium : (m : MediumState) (tries at i : ℕ) → IsSizedMedium m → AreTries m.grain tries → i ≤ tries
    → at + slot_size m.bytes ≤ length m.bytes → mark_at m.grain at i + mark_size m.grain ≤ length m.bytes
mark_ends_within_medium m tries at i sized t le within = omega (arith, marks_end_in_header_sector m.grain tries i t le, sized.room, within)

-- If the next mark is set, one more start is recorded.
pub set_mark_adds_a_start : (m : MediumState) (at done tries : ℕ) → done < tries → is_mark_set m at (done + 1) ≡ true
    → recorded_starts m tries at ≡ done + marks_set_in_row m at (done + 1) (tries - done)
    → recorded_starts m tries at ≡ done + 1 + marks_set_in_row m at (done + 1 + 1) (tries - (done + 1))
set_mark_adds_a_start m at done tries lt set so_far =
    let rest : tries - done ≡ suc (tries - (done + 1)) = omega (arith, lt) in
    so_far ∙ ap (λ (k : ℕ). done + marks_set_in_row m at (done + 1) k) rest
    ∙ ap (λ (b : Bool). done + (if b then marks_set_in_row m at (done + 1 + 1) (tries - (done + 1)) + 1 else 0))
    set
    ∙ omega arith

-- If the next mark is not set, no more starts are recorded.
pub unset_mark_ends_starts : (m : MediumState) (at done tries : ℕ) → done < tries → is_mark_set m at (done + 1) ≡ false
    → recorded_starts m tries at ≡ done + marks_set_in_row m at (done + 1) (tries - done) → done ≡ recorded_starts m tries at
unset_mark_ends_starts m at done tries lt unset so_far =
    let rest : tries - done ≡ suc (tries - (done + 1)) = omega (arith, lt) in
    sym (so_far ∙ ap (λ (k : ℕ). done + marks_set_in_row m at (done + 1) k) rest
    ∙ ap (λ (b : Bool). done + (if b then marks_set_in_row m at (done + 1 + 1) (tries - (done + 1)) + 1 else 0))
    unset
    ∙ omega arith)

-- A mark begins at a multiple of the write unit, because the offset of its slot and the number of bytes reserved for a gate are such
-- multiples.
mark_place_is_multiple : (u : WriteUnit) (a r i : ℕ) → IsMultiple u a → IsMultiple u r →
    IsMultiple u (a + r + gate_size u + i * gate_size u)
mark_place_is_multiple Byte a r i x y = omega arith
mark_place_is_multiple U16 a r i x y = omega (arith, x, y)
mark_place_is_multiple U64 a r i x y = omega (arith, x, y)
mark_place_is_multiple U256 a r i x y = omega (arith, x, y)

slot_size_is_multiple : (u : WriteUnit) (c r s : ℕ) → IsMultiple u c → IsMultiple u r → s ≡ c + 2 * r → IsMultiple u s
slot_size_is_multiple Byte c r s x y e = omega arith
slot_size_is_multiple U16 c r s x y e = omega (arith, x, y, e)
slot_size_is_multiple U64 c r s x y e = omega (arith, x, y, e)
slot_size_is_multiple U256 c r s x y e = omega (arith, x, y, e)

zero_size_is_multiple : (u : WriteUnit) (s : ℕ) → s ≡ 0 → IsMultiple u s
zero_size_is_multiple Byte s e = omega arith
zero_size_is_multiple U16 s e = omega (arith, e)
zero_size_is_multiple U64 s e = omega (arith, e)
zero_size_is_multiple U256 s e = omega (arith, e)

module _ (m : MediumState) (at other : ℕ) (sized : IsSizedMedium m) (places : ArePlaces m.bytes at other) where
  -- Each slot ends within the medium.
  pub slot_ends_within_medium : at + slot_size m.bytes ≤ length m.bytes
  slot_ends_within_medium = (slot_place_ends_within (gate_of m) m.bytes at other (sized_medium_has_two_slots m sized) places).0

  -- Each slot begins at a multiple of the write unit.
  slot_begins_with_unit : IsMultiple m.grain.unit at
  slot_begins_with_unit = ⊎_elim (λ p. zero_size_is_multiple m.grain.unit at p.0)
      (λ p. slot_size_is_multiple m.grain.unit (capacity_of m) (gate_of m) at sized.whole.units (gate_room_is_multiple m.grain (capacity_of
      m) sized.whole)
      (omega (arith, p.0, sized.room))) places

  -- The medium accepts a mark that is not set.
  pub unset_mark_is_accepted : (tries i : ℕ) → AreTries m.grain tries → i ≤ tries → is_mark_set m at i ≡ false →
      MediumAccepts m (mark_op m.grain at i)
  unset_mark_is_accepted tries i t le unset =
      let place : ℕ = mark_at m.grain at i in
      let size : ℕ = mark_size m.grain in
      let room : place + size ≤ length m.bytes = mark_ends_within_medium m tries at i sized t le slot_ends_within_medium in (
        room,
        mark_place_is_multiple m.grain.unit at (gate_of m) i slot_begins_with_unit (gate_room_is_multiple m.grain (capacity_of m)
            sized.whole),
        gate_size_is_multiple m.grain.unit,
        λ some p low high. erased_range_bytes_are_ff m.bytes place size p (unset_mark_is_erased m at i unset) room low high,
      )

  -- The medium accepts the erase that closes the gate.
  pub gate_close_is_accepted : 0 < m.grain.sector → MediumAccepts m (Close at)
  gate_close_is_accepted some = (
    omega (arith, slot_ends_within_medium, sized.room, gate_room_is_a_sector m.grain (capacity_of m) sized.whole some),
    slot_begins_at_edge m.grain m.bytes (sized_medium_has_two_slots m sized) sized.whole other at (slot_places_swap m.bytes at other
        places) some,
  )
