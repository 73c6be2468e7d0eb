-- Flash that reads as if it was never written.
use Rattle.std.specs.Prelude.{◌==◌, ◌+◌, ◌*◌, ℕ, Bool, IsTrue, List, slice_range}
use Rattle.std.specs.List.{list_all}
use Rattle.dfu_slots.specs.Units.{Grain, gate_room}
use Rattle.dfu_slots.specs.Layout.{slot_size}

-- True if a byte is FFh, the value of erased and of new NOR flash.
abbrev pub is_erased_byte : ℕ → Bool
is_erased_byte byte = byte == 255

-- Bytes of the gate and the header of the slot at an offset. Each occupies a sector, a unit or 16 bytes, whichever is largest.
abbrev pub gate_and_header_of : Grain → List ℕ → ℕ → List ℕ
gate_and_header_of grain flash at = slice_range flash at (at + 2 * gate_room grain)

-- Every byte of the gates and the headers of both slots is FFh. The data of the slots is not checked.
pub record AreSlotFrontsErased (grain : Grain) (flash : List ℕ) : Type 0 where
  pub first : IsTrue (list_all is_erased_byte (gate_and_header_of grain flash 0))
  pub second : IsTrue (list_all is_erased_byte (gate_and_header_of grain flash (slot_size flash)))
