-- Lemmas about sector edges on a medium of two slots.
use Rattle.std.proofs.Common.{◌≡◌, ⊎_elim, ℕ, ◌+◌, ◌*◌, List, length, sym, subst, arith}
use Rattle.dfu_slots.specs.Units.{Grain, gate_room, IsWhole}
use Rattle.dfu_slots.specs.Medium.{MediumState}
use Rattle.dfu_slots.specs.Layout.{slot_size, capacity, ArePlaces}
use Rattle.dfu_slots.specs.Image.{gate_of, active_at, spare_at, IsSizedMedium}
use Rattle.dfu_slots.proofs.Stands.{HasTwoSlots, sized_medium_has_two_slots}
use Rattle.dfu_slots.proofs.Newest.{tested_places_are_slots}
use Rattle.dfu_slots.proofs.Sectors.{IsSectorEdge, first_byte_is_edge, edge_sum_is_edge, gate_room_ends_at_edge}

module _ (w : Grain) (bytes : List ℕ) (sized : HasTwoSlots (gate_room w) bytes) (whole : IsWhole w (capacity (gate_room w) bytes)) where
  abbrev g : ℕ
  g = gate_room w

  gate_room_is_edge : IsSectorEdge w.sector g
  gate_room_is_edge = gate_room_ends_at_edge w (capacity g bytes) whole

  -- The second slot begins at a sector edge.
  pub second_slot_begins_sector : IsSectorEdge w.sector (slot_size bytes)
  second_slot_begins_sector =
      let e : g + g + capacity g bytes ≡ slot_size bytes = omega (arith, sized.room) in
      subst (λ (n : ℕ). IsSectorEdge w.sector n) e
      (edge_sum_is_edge w.sector (g + g) (capacity g bytes) (edge_sum_is_edge w.sector g g gate_room_is_edge gate_room_is_edge)
      whole.sectors)

  -- The medium ends at a sector edge.
  pub medium_end_is_edge : IsSectorEdge w.sector (length bytes)
  medium_end_is_edge =
      let e : slot_size bytes + slot_size bytes ≡ length bytes = omega (arith, sized.even) in
      subst (λ (n : ℕ). IsSectorEdge w.sector n) e (edge_sum_is_edge w.sector (slot_size bytes) (slot_size bytes) second_slot_begins_sector
      second_slot_begins_sector)

  module _ (at other : ℕ) (places : ArePlaces bytes at other) where
    -- Each slot begins at a sector edge.
    pub slot_begins_at_edge : IsSectorEdge w.sector other
    slot_begins_at_edge =
        ⊎_elim (λ p. subst (λ (n : ℕ). IsSectorEdge w.sector n) (sym p.1) second_slot_begins_sector)
        (λ p. subst (λ (n : ℕ). IsSectorEdge w.sector n) (sym p.1) (first_byte_is_edge w.sector)) places

    -- The header of a slot begins at a sector edge.
    pub header_begins_at_edge : IsSectorEdge w.sector (other + g)
    header_begins_at_edge = edge_sum_is_edge w.sector other g slot_begins_at_edge gate_room_is_edge

    -- The data of a slot begins at a sector edge.
    pub data_begins_at_edge : IsSectorEdge w.sector (other + 2 * g)
    data_begins_at_edge =
        let e : other + g + g ≡ other + 2 * g = omega arith in
        subst (λ (n : ℕ). IsSectorEdge w.sector n) e (edge_sum_is_edge w.sector (other + g) g header_begins_at_edge gate_room_is_edge)

    -- A slot ends at a sector edge.
    pub slot_ends_at_edge : IsSectorEdge w.sector (other + slot_size bytes)
    slot_ends_at_edge = edge_sum_is_edge w.sector other (slot_size bytes) slot_begins_at_edge second_slot_begins_sector

-- A medium that consists of exactly two slots ends at a sector edge.
pub sized_medium_ends_at_edge : (m : MediumState) → IsSizedMedium m → IsSectorEdge m.grain.sector (length m.bytes)
sized_medium_ends_at_edge m sized = medium_end_is_edge m.grain m.bytes (sized_medium_has_two_slots m sized) sized.whole

-- The spare slot begins at a sector edge.
pub spare_begins_at_edge : (m : MediumState) → IsSizedMedium m → IsSectorEdge m.grain.sector (spare_at (gate_of m) m.bytes)
spare_begins_at_edge m sized = slot_begins_at_edge m.grain m.bytes (sized_medium_has_two_slots m sized) sized.whole (active_at (gate_of m)
    m.bytes)
    (spare_at (gate_of m) m.bytes) (tested_places_are_slots (gate_of m) m.bytes)

-- The data of the spare slot begins at a sector edge.
pub spare_data_begins_at_edge : (m : MediumState) → IsSizedMedium m →
    IsSectorEdge m.grain.sector (spare_at (gate_of m) m.bytes + 2 * gate_of m)
spare_data_begins_at_edge m sized = data_begins_at_edge m.grain m.bytes (sized_medium_has_two_slots m sized) sized.whole (active_at
    (gate_of m) m.bytes)
    (spare_at (gate_of m) m.bytes) (tested_places_are_slots (gate_of m) m.bytes)
