-- Operations that copy the active image into the first slot.
use Rattle.std.specs.Prelude.{◌≡◌, ◌⊎◌, ℕ, ◌+◌, ◌-◌, ◌*◌, ◌≤◌, ◌<◌, ◌++◌, List, length, take, replicate, Option, ◌==◌, if◌then◌else◌}
use Rattle.dfu_suffix.specs.Register.{register}
use Rattle.dfu_slots.specs.Units.{gate_size}
use Rattle.dfu_slots.specs.Medium.{MediumState}
use Rattle.dfu_slots.specs.Layout.{OPEN, HasOpenGate, generation, next_generation, header_length, gate_unit, header_unit}
use Rattle.dfu_slots.specs.Image.{gate_of, capacity_of, IsSizedMedium, HasImage}
use Rattle.dfu_boot.specs.install.Area.{program_piece}
use Rattle.dfu_boot.specs.install.Next.{IsNextDue as Fills}
use Rattle.dfu_boot.specs.declared.install.due.Due.{Due as FillDue}
use Rattle.dfu_boot.specs.declared.install.due.Due.TheVariants as fill
use Rattle.dfu_home.specs.declared.due.Due.{Due}
use Rattle.dfu_home.specs.declared.due.Due.TheVariants.{Refuse, Home, Erase, Program}
use Rattle.dfu_home.specs.declared.due.CopyRefusal.TheVariants.{NoSectors, NoImage, NotWritten}
use Rattle.dfu_home.specs.declared.due.Progress.{Progress}
use Rattle.dfu_home.specs.Places.{first_of, second_slot_of, IsActiveHome, IsActiveAway, away_image, HasCopiedBytes, HasCopyHeader, IsErasedByLast, last_in_data, most_operations}

-- The operation `due` is the next one that copies bytes of the image. Such operations fill the first slot's data like a run area, from the
-- first byte of the data on.
abbrev pub IsByteCopyDue : MediumState → Option ℕ → FillDue → Type 0
IsByteCopyDue m last due = Fills (away_image m) (first_of m).data_bytes m.grain.sector (last_in_data (2 * gate_of m) last) due

-- A copy has begun: the first slot's gate is closed, the second slot's gate is open, and a slot can hold the second slot's image.
pub record IsCopying (m : MediumState) : Type 0 where
  pub sized : IsSizedMedium m
  pub sectors : 0 < m.grain.sector
  pub shut : ¬ HasOpenGate (first_of m)
  pub there : HasOpenGate (second_slot_of m)
  pub fits : header_length (second_slot_of m) ≤ capacity_of m

-- The bytes of the copy are written, but its header is not, so the header is due.
abbrev pub IsHeaderDue : MediumState → Type 0
IsHeaderDue m = HasCopiedBytes m × (¬ HasCopyHeader m)

-- The bytes and the header of the copy are written, so the gate is due.
abbrev pub IsGateDue : MediumState → Type 0
IsGateDue m = HasCopiedBytes m × HasCopyHeader m

-- The next operation of a copy erases the sector at `at`: a sector of the data, that of the header, or that of the gate.
abbrev pub ErasesForCopy : MediumState → Option ℕ → ℕ → Type 0
ErasesForCopy m last at = ((d : ℕ) × (at ≡ 2 * gate_of m + d) × IsByteCopyDue m last (fill.Erase d))
    ⊎ (IsHeaderDue m × (at ≡ gate_of m) × (¬ IsErasedByLast m last at)
    ⊎ IsGateDue m × (at ≡ 0) × (¬ IsErasedByLast m last at))

-- The next operation of a copy programs `len` bytes at `at`: a piece of the image, the unit of the header, or the unit of the gate.
abbrev pub ProgramsForCopy : MediumState → Option ℕ → ℕ → ℕ → Type 0
ProgramsForCopy m last at len = ((d : ℕ) × (at ≡ 2 * gate_of m + d) × (len ≡ 256) × IsByteCopyDue m last (fill.Program d))
    ⊎ (IsHeaderDue m × (at ≡ gate_of m) × (len ≡ gate_size m.grain.unit) × IsErasedByLast m last at
    ⊎ IsGateDue m × (at ≡ 0) × (len ≡ gate_size m.grain.unit) × IsErasedByLast m last at)

-- Fewer than `most_operations` operations were done, so another is allowed. Before the first one, the medium must have an active image.
pub record HasOperationLeft (m : MediumState) (p : Progress) : Type 0 where
  pub looked : p.count ≡ 0 → HasImage m
  pub left : p.count < most_operations m

-- The operation is the one that is due next. The first one closes the gate of the first slot, so that from then on only the second slot can
-- contain the active image.
abbrev pub IsNextDue : MediumState → Progress → Due → Type 0
IsNextDue m p (Refuse NoSectors) = m.grain.sector ≡ 0
IsNextDue m p (Refuse NoImage) = (0 < m.grain.sector) × (¬ HasImage m)
IsNextDue m p (Refuse NotWritten) = (0 < m.grain.sector) × (¬ IsActiveHome m) × (most_operations m ≤ p.count)
IsNextDue m p Home = (0 < m.grain.sector) × IsActiveHome m
IsNextDue m p (Erase at) = HasOperationLeft m p × (IsActiveAway m × HasOpenGate (first_of m) × (0 < m.grain.sector) × (at ≡ 0)
    ⊎ IsCopying m × ErasesForCopy m p.last at)
IsNextDue m p (Program at len) = HasOperationLeft m p × IsCopying m × ProgramsForCopy m p.last at len

-- Bytes of a program at an offset: the unit of the gate at 0, the unit of the header after the gate, or else a piece of the image.
abbrev pub program_bytes : MediumState → ℕ → List ℕ
program_bytes m at =
    let s = second_slot_of m in
    let size = gate_size m.grain.unit in
    if at == 0 then gate_unit size OPEN
    else if at == gate_of m then header_unit size (next_generation (generation s)) (header_length s) (register (away_image m))
    else program_piece (away_image m) (at - 2 * gate_of m)

-- The buffer begins with the bytes of the program that is due. If no program is due, the buffer is unchanged.
abbrev pub BufferOfProgram : MediumState → Due → List ℕ → List ℕ → Type 0
BufferOfProgram m (Program at len) before after = take len after ≡ program_bytes m at
BufferOfProgram m (Refuse refusal) before after = after ≡ before
BufferOfProgram m Home before after = after ≡ before
BufferOfProgram m (Erase at) before after = after ≡ before

-- The operation is the next one of a copy, and is an erase or a program.
abbrev pub IsCopyDue : MediumState → Option ℕ → Due → Type 0
IsCopyDue m last (Erase at) = ErasesForCopy m last at
IsCopyDue m last (Program at len) = ProgramsForCopy m last at len
IsCopyDue m last (Refuse refusal) = ⊥
IsCopyDue m last Home = ⊥

-- The operation is the next one once the bytes are copied: that of the header, or once the header is copied that of the gate.
abbrev pub IsHeaderOrGateDue : MediumState → Option ℕ → Due → Type 0
IsHeaderOrGateDue m last (Erase at) = ((¬ HasCopyHeader m) × (at ≡ gate_of m) × (¬ IsErasedByLast m last at))
    ⊎ (HasCopyHeader m × (at ≡ 0) × (¬ IsErasedByLast m last at))
IsHeaderOrGateDue m last (Program at len) =
    ((¬ HasCopyHeader m) × (at ≡ gate_of m) × (len ≡ gate_size m.grain.unit) × IsErasedByLast m last at)
    ⊎ (HasCopyHeader m × (at ≡ 0) × (len ≡ gate_size m.grain.unit) × IsErasedByLast m last at)
IsHeaderOrGateDue m last (Refuse refusal) = ⊥
IsHeaderOrGateDue m last Home = ⊥

-- The operation is the next one of the unit at `place`: a program if the last operation erased the unit's sector, else the erase.
abbrev pub IsGateUnitDue : MediumState → Option ℕ → ℕ → Due → Type 0
IsGateUnitDue m last place (Erase at) = (at ≡ place) × (¬ IsErasedByLast m last place)
IsGateUnitDue m last place (Program at len) = (at ≡ place) × (len ≡ gate_size m.grain.unit) × IsErasedByLast m last place
IsGateUnitDue m last place (Refuse refusal) = ⊥
IsGateUnitDue m last place Home = ⊥

-- If the program of a unit is due, the buffer begins with the bytes of the unit: `front`, and zeros after it. If not, the buffer is
-- unchanged.
abbrev pub BufferOfUnitProgram : List ℕ → Due → List ℕ → List ℕ → Type 0
BufferOfUnitProgram front (Program at len) before after = take len after ≡ front ++ replicate (len - length front) 0
BufferOfUnitProgram front (Erase at) before after = after ≡ before
BufferOfUnitProgram front (Refuse refusal) before after = after ≡ before
BufferOfUnitProgram front Home before after = after ≡ before
