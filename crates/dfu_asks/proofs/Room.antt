-- Memory for the bytes that are held back, which are fewer than a write unit.
use Rattle.std.proofs.Common.{◌≡◌, ◌%◌, ◌≤◌, ◌<◌, ℕ, List, length, take, arith}
use Rattle.std.proofs.lemmas.List.{length-take}
use Rattle.dfu_slots.specs.declared.layout.Unit.{Unit as WriteUnit}
use Rattle.dfu_slots.specs.declared.layout.Unit.TheVariants.{Byte}
use Rattle.dfu_slots.specs.Units.{unit_size}
use Rattle.dfu_asks.specs.Lent.{HasRoom}

unit_size_at_most_256 : (u : WriteUnit) → unit_size u ≤ 256
unit_size_at_most_256 Byte = omega arith
unit_size_at_most_256 _ = omega arith

-- A buffer of 256 bytes has room for every write unit.
pub memory_of_256_has_room : (u : WriteUnit) (held : List ℕ) → length held ≡ 256 → HasRoom u held
memory_of_256_has_room u held size = omega (arith, unit_size_at_most_256 u, size)

part_below_unit : (u : WriteUnit) (n : ℕ) → n % unit_size u < unit_size u
part_below_unit Byte n = omega arith
part_below_unit _ n = omega arith

-- The k bytes that are held back are fewer than a unit, so a buffer with room for a unit holds all of them.
pub held_memory_has_held_length : (u : WriteUnit) (k end : ℕ) (held : List ℕ) → HasRoom u held → length (take k held) ≡ end % unit_size u
    → length (take k held) ≡ k
held_memory_has_held_length u k end held room part = omega (arith, length-take k held, part, part_below_unit u end, room)
