-- Units in which a medium is written, and lengths that are a whole number of units.
use Rattle.std.specs.Prelude.{◌≡◌, ℕ, ◌-◌, ◌%◌, ◌^◌, ◌<◌, ◌≤◌, max, List, ◌++◌, length, replicate}
use Rattle.dfu_slots.specs.declared.layout.Unit.{Unit as WriteUnit}
use Rattle.dfu_slots.specs.declared.layout.Unit.TheVariants.{Byte, U16, U64, U256}

-- Number of bytes of a unit.
abbrev pub unit_size : WriteUnit → ℕ
unit_size Byte = 1
unit_size U16 = 16
unit_size U64 = 64
unit_size U256 = 256

-- Grain of a medium: the unit in which it is written, and the size of the sectors that are erased before a write. With sector size 0 the
-- medium is overwritten in place.
pub record Grain : Type 0 where
  pub unit : WriteUnit
  pub sector : ℕ

-- Grain of a medium that is overwritten in place, in a given unit.
abbrev pub in_place_grain : WriteUnit → Grain
in_place_grain unit = record { unit = unit; sector = 0 }

-- Number of bytes of a gate unit: 16, or the unit's size if that is larger. A header unit has the same size.
abbrev pub gate_size : WriteUnit → ℕ
gate_size unit = max 16 (unit_size unit)

-- Number of bytes that the gate of a slot occupies: the largest of 16, the unit's size and the sector's. The header occupies as many.
abbrev pub gate_room : Grain → ℕ
gate_room grain = max (max 16 (unit_size grain.unit)) grain.sector

-- An offset or a length is a multiple of the unit's size.
abbrev pub IsMultiple : WriteUnit → ℕ → Type 0
IsMultiple unit n = n % unit_size unit ≡ 0

-- A length of n bytes is a whole number of units and of sectors, and the store supports the sector size.
pub record IsWhole (grain : Grain) (n : ℕ) : Type 0 where
  pub units : n % unit_size grain.unit ≡ 0
  pub sectors : 0 < grain.sector → n % grain.sector ≡ 0
  pub pages : grain.sector % 256 ≡ 0
  pub bound : grain.sector ≤ 2 ^ 18

-- Number of bytes, out of n, that fill whole units: with units of 16 bytes, 16 out of 19.
abbrev pub whole_part : WriteUnit → ℕ → ℕ
whole_part unit n = n - n % unit_size unit

-- Number of zeros that fill n bytes up to the end of a unit: with units of 16 bytes, 13 for 19.
abbrev pub fill_size : WriteUnit → ℕ → ℕ
fill_size unit n = (unit_size unit - n % unit_size unit) % unit_size unit

-- A list of bytes, followed by zeros up to the end of a unit.
abbrev pub filled_units : WriteUnit → List ℕ → List ℕ
filled_units unit bytes = bytes ++ replicate (fill_size unit (length bytes)) 0
