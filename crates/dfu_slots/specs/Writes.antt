-- Writes of each change of a medium, in their order.
use Rattle.std.specs.Prelude.{ℕ, zero, suc, ◌+◌, ◌*◌, ◌%◌, min, List, [], ◌∷◌, ◌++◌, length, take, drop, replicate, if◌then◌else◌, ◌==◌}
use Rattle.dfu_slots.specs.declared.layout.Unit.{Unit as WriteUnit}
use Rattle.dfu_slots.specs.Units.{Grain, unit_size, gate_size, gate_room, whole_part, filled_units}
use Rattle.dfu_suffix.specs.Register.{register}
use Rattle.dfu_slots.specs.Medium.{Write}
use Rattle.dfu_slots.specs.Layout.{slot, slot_size, OPEN, generation, next_generation, gate_unit, header_unit}
use Rattle.dfu_slots.specs.Image.{active_at, spare_at, spare}

-- Erase of the sector that begins at offset `at`, as a write of FFh over the sector.
abbrev pub erase_write : ℕ → ℕ → Write
erase_write sector at = record { at = at; bytes = replicate sector 255 }

-- Erases, in order, of the sectors that begin in the range of n bytes from offset `at`.
abbrev pub sector_erases : ℕ → ℕ → ℕ → List Write
sector_erases sector at zero = []
sector_erases sector at (suc n) = (if at % sector == 0 then erase_write sector at ∷ [] else []) ++ sector_erases sector (at + 1) n

-- Write of `bytes` at offset `at`. On a medium with sectors, the erases of the sectors that begin in the range precede it.
abbrev pub erasing_write : ℕ → ℕ → List ℕ → List Write
erasing_write sector at bytes =
    (if sector == 0 then [] else sector_erases sector at (length bytes)) ++ record { at = at; bytes = bytes } ∷ []

-- Write of `bytes` with the erases before it. An empty list makes no write and no erase.
abbrev pub write_some : ℕ → ℕ → List ℕ → List Write
write_some sector at bytes = if length bytes == 0 then [] else erasing_write sector at bytes

-- Bytes that close a gate: without sectors a gate unit of zeros, with sectors a whole sector of FFh.
abbrev pub closed_gate : Grain → List ℕ
closed_gate grain = if grain.sector == 0 then gate_unit (gate_size grain.unit) 0 else replicate grain.sector 255

-- Writes of `begin`: it closes the spare's gate if that is open.
abbrev pub begin_writes : Grain → List ℕ → List Write
begin_writes grain bytes =
    let g = gate_room grain in
    if (spare g bytes).gate == OPEN then record { at = spare_at g bytes; bytes = closed_gate grain } ∷ [] else []

-- Number of bytes of the first write of a `put`: a whole unit if bytes are held back and the put completes their unit, otherwise 0.
abbrev pub head_write_size : WriteUnit → List ℕ → List ℕ → ℕ
head_write_size unit held bytes = if length held == 0 then 0 else min (unit_size unit) (whole_part unit (length (held ++ bytes)))

-- Writes of a `put`: the unit that the held bytes begin, if the put completes it, and then all other whole units in one write.
abbrev pub put_writes : Grain → ℕ → List ℕ → List ℕ → List Write
put_writes grain at held bytes =
    let all = held ++ bytes in
    let head = head_write_size grain.unit held bytes in
    write_some grain.sector at (take head all)
    ++ write_some grain.sector (at + head) (drop head (take (whole_part grain.unit (length all)) all))

-- Bytes that a `put` holds back, because they fill no whole unit.
abbrev pub put_rest : WriteUnit → List ℕ → List ℕ → List ℕ
put_rest unit held bytes = let all = held ++ bytes in drop (whole_part unit (length all)) all

-- First write of a `commit`: the held bytes, filled up with zeros to a unit. There is none if no bytes are held.
abbrev pub held_writes : Grain → ℕ → List ℕ → List Write
held_writes grain at held = write_some grain.sector at (filled_units grain.unit held)

-- Writes that open the slot at offset `at`: its header, and then its open gate.
abbrev pub open_writes : Grain → ℕ → ℕ → ℕ → ℕ → List Write
open_writes grain at gen len crc =
    erasing_write grain.sector (at + gate_room grain) (header_unit (gate_size grain.unit) gen len crc)
    ++ erasing_write grain.sector at (gate_unit (gate_size grain.unit) OPEN)

-- Last writes of a `commit`: they open the spare slot, whose generation follows that of the active slot.
abbrev pub commit_writes : Grain → List ℕ → ℕ → ℕ → List Write
commit_writes grain bytes len crc =
    let g = gate_room grain in
    open_writes grain (spare_at g bytes) (next_generation (generation (slot g bytes (active_at g bytes)))) len crc

-- Writes of `bytes` from offset `at` on, in pieces of 4096 bytes; the last piece may be shorter. The count n must be at least the number of
-- bytes.
abbrev pub piece_writes : ℕ → ℕ → ℕ → List ℕ → List Write
piece_writes sector zero at bytes = []
piece_writes sector (suc n) at [] = []
piece_writes sector (suc n) at (b ∷ bs) =
    erasing_write sector at (take 4096 (b ∷ bs)) ++ piece_writes sector n (at + 4096) (drop 4096 (b ∷ bs))

-- First writes of a `format`: they close both gates, even closed ones, and begin with the gate of the second slot.
abbrev pub close_writes : Grain → List ℕ → List Write
close_writes grain bytes =
    record { at = slot_size bytes; bytes = closed_gate grain } ∷ record { at = 0; bytes = closed_gate grain } ∷ []

-- Next writes of a `format`: the image in pieces, with zeros that fill the last unit, into the first slot's data.
abbrev pub image_writes : Grain → List ℕ → List Write
image_writes grain image =
    let units = filled_units grain.unit image in
    piece_writes grain.sector (length units) (2 * gate_room grain) units

-- Writes of a `format`: they close both gates, write the image, and open the first slot with generation 0.
abbrev pub format_writes : Grain → List ℕ → List ℕ → List Write
format_writes grain bytes image =
    close_writes grain bytes ++ image_writes grain image ++ open_writes grain 0 0 (length image) (register image)
