-- Addresses of virtual bytes on a part.
use Rattle.std.specs.Prelude.{ℕ, ◌+◌, ◌-◌, ◌*◌, ◌%◌, nat_lt, ◌==◌, ◌||◌, ◌&&◌, Option, Some, None, if◌then◌else◌}
use Rattle.dfu_places.specs.declared.region.Span.{Span}
use Rattle.dfu_places.specs.declared.placement.Placement.{Placement}
use Rattle.dfu_places.specs.Things.{span_at, bytes_at}

-- Number of virtual bytes of a slot: a virtual sector for the gate, one for the header, and the data.
abbrev pub slot_len : Placement → ℕ
slot_len p = 2 * p.sector + p.first.data.len

-- Number of virtual bytes of both slots.
abbrev pub virtual_len : Placement → ℕ
virtual_len p = 2 * slot_len p

-- Spot of a virtual byte: the rank of its gate, header or data, and the byte's offset there.
pub record Spot : Type 0 where
  pub rank : ℕ
  pub offset : ℕ

-- Spot of byte `at` of a slot, whose gate has the rank `first`.
abbrev pub spot_in : ℕ → ℕ → ℕ → Spot
spot_in sector first at =
    if nat_lt at sector then record { rank = first; offset = at }
    else if nat_lt at (2 * sector) then record { rank = first + 1; offset = at - sector }
    else record { rank = first + 2; offset = at - 2 * sector }

-- Spot of a virtual byte, in the first or the second slot.
abbrev pub spot_of : Placement → ℕ → Spot
spot_of p at = if nat_lt at (slot_len p) then spot_in p.sector 0 at else spot_in p.sector 3 (at - slot_len p)

-- Address of the `len` virtual bytes from `at` on, if they all lie in the same gate, header or data, and on the part; else None.
abbrev pub found : Placement → ℕ → ℕ → Option ℕ
found p at len =
    let spot = spot_of p at in
    if nat_lt (bytes_at p spot.rank) (spot.offset + len) then None else Some ((span_at p spot.rank).at + spot.offset)

-- Span that is erased for the virtual sector that begins at a spot: the whole gate or header, or one virtual sector of data. None if no
-- virtual sector begins there.
abbrev pub erased_at_spot : Placement → Spot → Option Span
erased_at_spot p spot =
    let span = span_at p spot.rank in
    if spot.rank == 2 || spot.rank == 5
    then if (spot.offset % p.sector == 0) && nat_lt spot.offset span.len
    then Some (record { at = span.at + spot.offset; len = p.sector })
    else None
    else if spot.offset == 0 then Some span else None

-- Span that is erased for the virtual sector that begins at a virtual byte; None if no virtual sector begins there.
abbrev pub erased : Placement → ℕ → Option Span
erased p at = erased_at_spot p (spot_of p at)
