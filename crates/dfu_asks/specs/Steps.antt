-- Steps of a series of writes: erases of sectors, and programs of bytes.
use Rattle.std.specs.Prelude.{ℕ, ◌==◌, Bool, true, false, List, [], ◌∷◌, ◌++◌, length, if◌then◌else◌}
use Rattle.dfu_slots.specs.Units.{Grain, gate_size, gate_room, whole_part}
use Rattle.dfu_slots.specs.Medium.{Write}
use Rattle.dfu_slots.specs.Layout.{OPEN, gate_unit, header_unit}
use Rattle.dfu_slots.specs.Writes.{erase_write, sector_erases, closed_gate, head_write_size}
use Rattle.std.specs.Prelude.{◌+◌, take, drop}

-- A step is a write, marked as an erase or a program. A program of bytes FFh has the same write as an erase, but isn't marked as one.
pub record Step : Type 0 where
  pub erases : Bool
  pub write : Write

-- Writes of a list of steps, without the marks that tell erases from programs.
abbrev pub step_writes : List Step → List Write
step_writes [] = []
step_writes (s ∷ ss) = s.write ∷ step_writes ss

-- Steps of a list of writes, all marked as erases or all as programs.
abbrev pub steps_of_writes : Bool → List Write → List Step
steps_of_writes erases [] = []
steps_of_writes erases (w ∷ ws) = record { erases = erases; write = w } ∷ steps_of_writes erases ws

-- Step that erases n bytes at an offset.
abbrev pub erase_step : ℕ → ℕ → Step
erase_step at n = record { erases = true; write = erase_write n at }

-- Step that programs `bytes` at an offset.
abbrev pub program_step : ℕ → List ℕ → Step
program_step at bytes = record { erases = false; write = record { at = at; bytes = bytes } }

-- Steps of `erasing_write`: an erase of each sector that begins in the range, and a program of the bytes.
abbrev pub write_anew_steps : ℕ → ℕ → List ℕ → List Step
write_anew_steps sector at bytes =
    steps_of_writes true (if sector == 0 then [] else sector_erases sector at (length bytes)) ++ program_step at bytes ∷ []

-- Steps of `write_some`: those of `erasing_write`, or none if there are no bytes.
abbrev pub write_some_steps : ℕ → ℕ → List ℕ → List Step
write_some_steps sector at bytes = if length bytes == 0 then [] else write_anew_steps sector at bytes

-- Steps of a `put` at an offset: the head of the held and the new bytes, and then the other bytes that fill whole units.
abbrev pub put_steps : Grain → ℕ → List ℕ → List ℕ → List Step
put_steps grain at held bytes =
    let all = held ++ bytes in
    let head = head_write_size grain.unit held bytes in
    write_some_steps grain.sector at (take head all)
    ++ write_some_steps grain.sector (at + head) (drop head (take (whole_part grain.unit (length all)) all))

-- Steps that open the slot at an offset: a write of its header, and then a write of its open gate.
abbrev pub open_steps : Grain → ℕ → ℕ → ℕ → ℕ → List Step
open_steps grain at gen len crc =
    write_anew_steps grain.sector (at + gate_room grain) (header_unit (gate_size grain.unit) gen len crc)
    ++ write_anew_steps grain.sector at (gate_unit (gate_size grain.unit) OPEN)

-- Step that closes the gate of the slot at an offset. It erases the gate's sector, or programs a closed gate if there are no sectors.
abbrev pub close_step : Grain → ℕ → Step
close_step grain at = record { erases = if grain.sector == 0 then false else true; write = record { at = at; bytes = closed_gate grain } }
