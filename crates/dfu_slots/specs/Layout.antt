-- Offsets and content of the two slots of a medium. The gate and the header of a slot occupy `g` bytes each.
use Rattle.std.specs.Prelude.{◌≡◌, ◌⊎◌, ℕ, ◌+◌, ◌-◌, ◌*◌, ◌/◌, ◌%◌, ◌≤◌, Bool, List, ◌∷◌, ◌++◌, length, take, drop, replicate, slice_index, slice_range, if◌then◌else◌}
use Rattle.std.specs.Int.{w32, to_le_bytes, from_le_bytes}
use Rattle.dfu_suffix.specs.Register.{register}

-- Size of a slot: half of the medium.
abbrev pub slot_size : List ℕ → ℕ
slot_size bytes = length bytes / 2

-- Offset at which a slot begins: 0 for the first one, and the middle of the medium for the second.
abbrev pub slot_place : Bool → List ℕ → ℕ
slot_place first bytes = if first then 0 else slot_size bytes

-- Number of data bytes of a slot: its size without the gate and the header.
abbrev pub capacity : ℕ → List ℕ → ℕ
capacity g bytes = slot_size bytes - 2 * g

-- `at` and `other` are the offsets of the two slots, in either order.
abbrev pub ArePlaces : List ℕ → ℕ → ℕ → Type 0
ArePlaces bytes at other = ((at ≡ 0) × (other ≡ slot_size bytes)) ⊎ ((at ≡ slot_size bytes) × (other ≡ 0))

-- Content of a slot: the first byte of its gate, the 16 bytes of its header, and its data.
pub record Slot : Type 0 where
  pub gate : ℕ
  pub header : List ℕ
  pub data_bytes : List ℕ

-- Content of the slot that begins at offset `at`.
abbrev pub slot : ℕ → List ℕ → ℕ → Slot
slot g bytes at = record {
  gate = slice_index bytes at;
  header = slice_range bytes (at + g) (at + g + 16);
  data_bytes = slice_range bytes (at + 2 * g) (at + slot_size bytes);
}

-- First byte of an open gate, A5h.
abbrev pub OPEN : ℕ
OPEN = 165

-- The gate is open if its first byte is A5h; with any other byte it is closed.
abbrev pub HasOpenGate : Slot → Type 0
HasOpenGate s = s.gate ≡ OPEN

-- Generation of a slot: the first byte of its header.
abbrev pub generation : Slot → ℕ
generation s = slice_index s.header 0

-- Generation that follows another one; 0 follows 255.
abbrev pub next_generation : ℕ → ℕ
next_generation gen = (gen + 1) % 256

-- Version of a header: its second byte.
abbrev pub header_version : Slot → ℕ
header_version s = slice_index s.header 1

-- Length of the image, in bytes, that a slot's header holds.
abbrev pub header_length : Slot → ℕ
header_length s = from_le_bytes w32 (take 4 (drop 4 s.header))

-- Header of an image: generation, version, two zero bytes, length, CRC register, four zero bytes.
abbrev pub header : ℕ → ℕ → ℕ → ℕ → List ℕ
header version gen len crc = gen ∷ version ∷ 0 ∷ 0 ∷ to_le_bytes w32 len ++ to_le_bytes w32 crc ++ replicate 4 0

-- The header of a slot is well formed for the slot's first `len` data bytes: it has version 2 and their CRC register, or version 1 and
-- zeros instead of the register. The slot has at least `len` bytes of data.
pub record HasHeader (s : Slot) (len : ℕ) : Type 0 where
  pub well_formed : (s.header ≡ header 1 (generation s) len 0) ⊎ (s.header ≡ header 2 (generation s) len (register (take len s.data_bytes)))
  pub fits : len ≤ length s.data_bytes

-- Bytes of a gate unit: its first byte `gate`, and then zeros.
abbrev pub gate_unit : ℕ → ℕ → List ℕ
gate_unit g gate = gate ∷ replicate (g - 1) 0

-- Bytes of a header unit: a header of version 2, and then zeros.
abbrev pub header_unit : ℕ → ℕ → ℕ → ℕ → List ℕ
header_unit g gen len crc = header 2 gen len crc ++ replicate (g - 16) 0
