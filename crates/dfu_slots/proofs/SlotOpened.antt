-- A lemma about the range of the writes that open a slot.
use Rattle.std.proofs.Common.{ℕ, ◌+◌, ◌*◌, ◌≤◌, arith}
use Rattle.dfu_slots.specs.Units.{Grain, gate_size, gate_room}
use Rattle.dfu_slots.specs.Layout.{OPEN, gate_unit, header_unit}
use Rattle.dfu_slots.specs.Writes.{erasing_write, open_writes}
use Rattle.dfu_slots.proofs.Series.{AllWritesInside, appended_writes_inside}
use Rattle.dfu_slots.proofs.WritesWithErases.{write_with_erases_inside}
use Rattle.dfu_slots.proofs.Parts.{gate_unit_has_size, header_unit_has_size}
use Rattle.dfu_slots.proofs.Sectors.{IsSectorEdge, gate_unit_at_least_16}

-- The writes that open a slot lie in its gate and its header.
pub open_writes_in_gate_and_header : (w : Grain) (from to at gen len crc : ℕ) → IsSectorEdge w.sector to → from ≤ at →
    at + 2 * gate_room w ≤ to
    → AllWritesInside from to (open_writes w at gen len crc)
open_writes_in_gate_and_header w from to at gen len crc edge low high =
    let k = gate_size w.unit in
    let head = header_unit k gen len crc in
    appended_writes_inside from to (erasing_write w.sector (at + gate_room w) head) (erasing_write w.sector at (gate_unit k OPEN))
    (write_with_erases_inside w.sector from to (at + gate_room w) head edge (omega (arith, low))
    (omega (arith, high, header_unit_has_size k gen len crc (gate_unit_at_least_16 w.unit))))
    (write_with_erases_inside w.sector from to at (gate_unit k OPEN) edge low (omega (
      arith,
      high,
      gate_unit_has_size k OPEN
          (gate_unit_at_least_16 w.unit),
    )))
