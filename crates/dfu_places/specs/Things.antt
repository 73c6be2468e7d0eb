-- Gates, headers and data of both slots, and the run area, by their ranks in the enum `Thing`.
use Rattle.std.specs.Prelude.{ℕ, ◌+◌, ◌==◌, ◌||◌, min, Option, Some, None, if◌then◌else◌}
use Rattle.dfu_slots.specs.Units.{gate_size}
use Rattle.dfu_places.specs.declared.region.Span.{Span}
use Rattle.dfu_places.specs.declared.placement.Placement.{Placement}
use Rattle.dfu_places.specs.declared.placement.Needs.{Needs}
use Rattle.dfu_places.specs.declared.refusal.Thing.{Thing}
use Rattle.dfu_places.specs.declared.refusal.Thing.TheVariants.{FirstGate, FirstHeader, FirstData, SecondGate, SecondHeader, SecondData, RunArea}

-- Span of the run area, or the empty span at address 0 if there is none.
abbrev pub run_span : Option Span → Span
run_span (Some span) = span
run_span None = record { at = 0; len = 0 }

-- Number of gates, headers, data and run areas in a placement with this run area, or without one.
abbrev pub things_with : Option Span → ℕ
things_with (Some span) = 7
things_with None = 6

-- Number of gates, headers, data and run areas of a placement: 7 with a run area, else 6.
abbrev pub things : Placement → ℕ
things p = things_with p.run

-- Rank of a `Thing`: its index in the enum, from 0 on.
abbrev pub rank : Thing → ℕ
rank FirstGate = 0
rank FirstHeader = 1
rank FirstData = 2
rank SecondGate = 3
rank SecondHeader = 4
rank SecondData = 5
rank RunArea = 6

-- Span of the `Thing` of rank `i`. From rank 6 on, it is the run area, or the empty span if there is none.
unfoldable pub span_at : Placement → ℕ → Span
span_at p i =
    if i == 0 then p.first.gate
    else if i == 1 then p.first.header
    else if i == 2 then p.first.data
    else if i == 3 then p.second.gate
    else if i == 4 then p.second.header
    else if i == 5 then p.second.data
    else run_span p.run

-- Number of bytes of the `Thing` of rank `i` that are erased together: a virtual sector of data, else the whole span.
unfoldable pub part_at : Placement → ℕ → ℕ
part_at p i = if i == 2 || i == 5 then p.sector else (span_at p i).len

-- Number of bytes that the `Thing` of rank `i` needs: for a gate 16 or a unit, whichever is more; for a header as many and the marks; 1 for
-- data or a run area.
unfoldable pub room_at : Needs → ℕ → ℕ
room_at needs i =
    if i == 0 || i == 3 then gate_size needs.unit
    else if i == 1 || i == 4 then gate_size needs.unit + needs.marks
    else 1

-- Number of bytes of the `Thing` of rank `i` that are mapped to virtual bytes: at most a virtual sector of a gate, header or run area, and
-- all data.
unfoldable pub bytes_at : Placement → ℕ → ℕ
bytes_at p i = if i == 2 || i == 5 then (span_at p i).len else min (span_at p i).len p.sector

-- Number of bytes of the `Thing` of rank `i` that the store uses: those that a gate or a header needs, and all data.
abbrev pub thing_used_bytes : Needs → Placement → ℕ → ℕ
thing_used_bytes needs p i = if i == 2 || i == 5 then (span_at p i).len else room_at needs i
