-- Contents of the two slots of a medium while the image of the second is copied into the first.
use Rattle.std.specs.Prelude.{◌≡◌, ℕ, ◌+◌, ◌-◌, ◌/◌, List, length, take, Option, Some, None, nat_lt, if◌then◌else◌}
use Rattle.dfu_suffix.specs.Register.{register}
use Rattle.dfu_slots.specs.Units.{gate_size}
use Rattle.dfu_slots.specs.Medium.{MediumState}
use Rattle.dfu_slots.specs.Layout.{Slot, slot_size, generation, next_generation, header_length, header}
use Rattle.dfu_slots.specs.Image.{gate_of, slot_of, HasImage, active_at}
use Rattle.dfu_boot.specs.install.Area.{RangeIsBlank}

abbrev pub first_of : MediumState → Slot
first_of m = slot_of m 0

abbrev pub second_slot_of : MediumState → Slot
second_slot_of m = slot_of m (slot_size m.bytes)

-- The active image of a medium is in the first slot, where a program runs it.
pub record IsActiveHome (m : MediumState) : Type 0 where
  pub has : HasImage m
  pub first : active_at (gate_of m) m.bytes ≡ 0

-- The active image of a medium is in the second slot.
pub record IsActiveAway (m : MediumState) : Type 0 where
  pub has : HasImage m
  pub second : active_at (gate_of m) m.bytes ≡ slot_size m.bytes

-- Image in the second slot, with the length in the slot's header.
abbrev pub away_image : MediumState → List ℕ
away_image m = take (header_length (second_slot_of m)) (second_slot_of m).data_bytes

-- Header, in version 2, of the copy of the image in the second slot. The copy has the next generation after that of the second slot.
abbrev pub copy_header : MediumState → List ℕ
copy_header m = header 2 (next_generation (generation (second_slot_of m))) (header_length (second_slot_of m)) (register (away_image m))

-- The data of the first slot begins with the bytes of the image in the second one.
abbrev pub HasCopiedBytes : MediumState → Type 0
HasCopiedBytes m = take (length (away_image m)) (first_of m).data_bytes ≡ away_image m

-- The first slot has the header of the copy.
abbrev pub HasCopyHeader : MediumState → Type 0
HasCopyHeader m = (first_of m).header ≡ copy_header m

-- The last operation succeeded at this offset, and the gate unit there reads FFh, because its sector was erased.
abbrev pub IsErasedByLast : MediumState → Option ℕ → ℕ → Type 0
IsErasedByLast m last at = (last ≡ Some at) × RangeIsBlank m.bytes at (at + gate_size m.grain.unit)

-- Offset of the last operation in the first slot's data, which begins at `gates`. None if there was no operation or it lay before the data.
abbrev pub last_in_data : ℕ → Option ℕ → Option ℕ
last_in_data gates None = None
last_in_data gates (Some at) = if nat_lt at gates then None else Some (at - gates)

-- Largest number of operations that a copy on a medium may take: one for each 128 bytes.
abbrev pub most_operations : MediumState → ℕ
most_operations m = length m.bytes / 128
