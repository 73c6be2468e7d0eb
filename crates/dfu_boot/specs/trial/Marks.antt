-- Marks, in the sector of a slot's header, after the header. The slot store never reads them, and each new header erases them.
use Rattle.std.specs.Prelude.{ℕ, zero, suc, ◌+◌, ◌*◌, ◌≤◌, ◌<◌, ◌==◌, Bool, not, List, slice_range, if◌then◌else◌}
use Rattle.std.specs.List.{list_all}
use Rattle.dfu_slots.specs.Units.{Grain, gate_size, gate_room}
use Rattle.dfu_slots.specs.Medium.{MediumState}

-- Number of bytes of a mark: the write unit, but at least 16.
abbrev pub mark_size : Grain → ℕ
mark_size grain = gate_size grain.unit

-- Offset of mark i of the slot at offset `at`, after the header's unit. Mark 0 is the confirmation, and each other mark is a start.
abbrev pub mark_at : Grain → ℕ → ℕ → ℕ
mark_at grain at i = at + gate_room grain + mark_size grain + i * mark_size grain

-- Bytes of mark i of a slot.
abbrev pub mark_bytes : MediumState → ℕ → ℕ → List ℕ
mark_bytes m at i = slice_range m.bytes (mark_at m.grain at i) (mark_at m.grain at i + mark_size m.grain)

-- True if a byte is FFh, the value after an erase.
abbrev pub is_erased : ℕ → Bool
is_erased byte = byte == 255

-- True for the bytes of a set mark: at least one byte is not FFh.
abbrev pub is_marked : List ℕ → Bool
is_marked bytes = not (list_all is_erased bytes)

-- True if mark i of the slot at offset `at` is set.
unfoldable pub is_mark_set : MediumState → ℕ → ℕ → Bool
is_mark_set m at i = is_marked (mark_bytes m at i)

-- Number of consecutive marks that are set, from mark i on, at most `most`.
abbrev pub marks_set_in_row : MediumState → ℕ → ℕ → ℕ → ℕ
marks_set_in_row m at i zero = 0
marks_set_in_row m at i (suc most) = if is_mark_set m at i then marks_set_in_row m at (i + 1) most + 1 else 0

-- Number of recorded starts of the image in a slot, at most `tries`.
abbrev pub recorded_starts : MediumState → ℕ → ℕ → ℕ
recorded_starts m tries at = marks_set_in_row m at 1 tries

-- Number of tries that a medium allows: at least 2, on a medium with sectors. The header, the confirmation mark and a mark for each try fit
-- in one sector.
pub record AreTries (grain : Grain) (tries : ℕ) : Type 0 where
  pub sectors : 0 < grain.sector
  pub few : 2 ≤ tries
  pub room : (tries + 2) * mark_size grain ≤ grain.sector
