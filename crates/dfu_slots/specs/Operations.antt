-- Operations of each change of a medium, in their order, and the writes that they make.
use Rattle.std.specs.Prelude.{ℕ, zero, suc, ◌+◌, ◌-◌, ◌*◌, min, List, [], ◌∷◌, ◌++◌, replicate, slice_range, if◌then◌else◌, ◌==◌, Option, Some, None}
use Rattle.dfu_slots.specs.declared.layout.Unit.{Unit as WriteUnit}
use Rattle.dfu_slots.specs.declared.operation.Op.{Op}
use Rattle.dfu_slots.specs.declared.operation.Op.TheVariants.{Erase, Program}
use Rattle.dfu_slots.specs.declared.operation.Source.{Source}
use Rattle.dfu_slots.specs.declared.operation.Source.TheVariants.{Joined, Held, Header, Opened, Closed}
use Rattle.dfu_slots.specs.declared.sequence.Sequence.{Sequence}
use Rattle.dfu_slots.specs.declared.sequence.Sequence.TheVariants.{Close, Put, Commit, Image}
use Rattle.dfu_slots.specs.Units.{Grain, unit_size, gate_size, gate_room, whole_part, fill_size}
use Rattle.dfu_slots.specs.Medium.{Write}
use Rattle.dfu_slots.specs.Layout.{OPEN}
use Rattle.dfu_slots.specs.Writes.{erase_write, write_some}

-- Bytes of a source, given the bytes held back, the block and the header.
abbrev pub source_content : Source → List ℕ → List ℕ → List ℕ → List ℕ
source_content Joined held block header = held ++ block
source_content Held held block header = held
source_content Header held block header = header
source_content Opened held block header = OPEN ∷ []
source_content Closed held block header = []

-- Bytes of an operation: n bytes of a source after its first `skip` bytes. Beyond the end of the source they are zeros, at most 256.
abbrev pub range_of : Source → List ℕ → List ℕ → List ℕ → ℕ → ℕ → List ℕ
range_of source held block header skip n = slice_range (source_content source held block header ++ replicate 256 0) skip (skip + n)

-- Writes of an operation: the write of an erase, or the erases and the write of a program.
abbrev pub op_writes : ℕ → List ℕ → List ℕ → List ℕ → Op → List Write
op_writes sector held block header (Erase at) = erase_write sector at ∷ []
op_writes sector held block header (Program at source skip len) = write_some sector at (range_of source held block header skip len)

-- Writes of several operations, one after the other.
abbrev pub ops_writes : ℕ → List ℕ → List ℕ → List ℕ → List Op → List Write
ops_writes sector held block header [] = []
ops_writes sector held block header (o ∷ os) = op_writes sector held block header o ++ ops_writes sector held block header os

-- Operation number n of a list, counted from 0; None if the list is shorter.
abbrev pub op_at : List Op → ℕ → Option Op
op_at [] n = None
op_at (o ∷ os) zero = Some o
op_at (o ∷ os) (suc n) = op_at os n

-- Offset on the medium at which an operation begins.
abbrev pub op_place : Op → ℕ
op_place (Erase at) = at
op_place (Program at source skip len) = at

-- Operation that closes a gate: without sectors it writes a gate unit of zeros, with sectors it erases the gate's sector.
abbrev pub close_ops : Grain → ℕ → List Op
close_ops grain slot = (if grain.sector == 0 then Program slot Closed 0 (gate_size grain.unit) else Erase slot) ∷ []

-- Offset on the medium of the first byte held back, in the slot that begins at `slot`.
abbrev pub held_from : Grain → ℕ → ℕ → ℕ → ℕ
held_from grain slot end held = slot + 2 * gate_room grain + (end - held)

-- Operations of a `put`: they write the unit that the held bytes begin, if the block completes it, and then all other whole units.
abbrev pub put_ops : WriteUnit → ℕ → ℕ → ℕ → List Op
put_ops unit at held block =
    let whole = whole_part unit (held + block) in
    let head = if held == 0 then 0 else min (unit_size unit) whole in
    Program at Joined 0 head ∷ Program (at + head) Joined head (whole - head) ∷ []

-- Operations of a `commit`: they write the held bytes, filled up to a unit, then the header, and then the open gate.
abbrev pub commit_ops : Grain → ℕ → ℕ → ℕ → List Op
commit_ops grain slot at held =
    Program at Held 0 (held + fill_size grain.unit held)
    ∷ Program (slot + gate_room grain) Header 0 (gate_size grain.unit)
    ∷ Program slot Opened 0 (gate_size grain.unit)
    ∷ []

-- Operation that writes the piece of an image that begins at byte `from`, at most 4096 bytes and filled up to a unit, into the data of the
-- first slot.
abbrev pub image_ops : Grain → ℕ → ℕ → List Op
image_ops grain from image =
    let size = image + fill_size grain.unit image in
    Program (2 * gate_room grain + from) Joined (min from size) (min (size - min from size) 4096) ∷ []

-- Operations of a sequence, in their order.
abbrev pub operations : Grain → Sequence → List Op
operations grain (Close slot) = close_ops grain slot
operations grain (Put slot end held block) = put_ops grain.unit (held_from grain slot end held) held block
operations grain (Commit slot end held) = commit_ops grain slot (held_from grain slot end held) held
operations grain (Image from image) = image_ops grain from image
