-- Configuration of a device, which a program in C provides.
use Rattle.std.specs.Prelude.{◌≡◌, ◌==◌, ◌+◌, ◌%◌, ◌^◌, ◌≤◌, ℕ, if◌then◌else◌}
use Rattle.dfu_wire.specs.Functional.{functional_of}
use Rattle.dfu_slots.specs.declared.layout.Unit.{Unit as WriteUnit}
use Rattle.dfu_slots.specs.declared.layout.Unit.TheVariants.{Byte, U16, U64, U256}
use Rattle.dfu_slots.specs.Units.{unit_size, Grain}
use Rattle.dfu_device.specs.Setting.{Setting, IsAllowedSetting}
use Rattle.dfu_core.specs.declared.config.DfuConfig.{DfuConfig}

-- Unit in which the flash is written, found by its size; Byte if no unit has that size.
unfoldable pub unit_of : DfuConfig → WriteUnit
unit_of c = if c.unit == 16 then U16 else if c.unit == 64 then U64 else if c.unit == 256 then U256 else Byte

-- Device settings that a configuration gives, with bcdDFUVersion 0110h.
abbrev pub config_setting : DfuConfig → Setting
config_setting c = record {
  ids = record { device = c.device; product = c.product; vendor = c.vendor };
  functional = functional_of c.attributes c.detach_ms c.transfer 0x0110;
  least = c.least;
  busy_ms = c.busy_ms;
  manifest_ms = c.manifest_ms;
  pace = record { erase_ms = c.erase_ms; program_ms = c.program_ms; unit = unit_of c; sector = c.sector };
}

-- Version of the library, 0.3.0: 10,000 times the major, plus 100 times the minor, plus the patch number.
abbrev pub version : ℕ
version = 300

-- Transfer size of a configuration: the largest length of a block.
abbrev pub transfer_of : DfuConfig → ℕ
transfer_of c = (config_setting c).functional.transfer

-- Smallest size of a block memory: the transfer size plus a unit for the bytes that are held back.
abbrev pub block_memory_size : DfuConfig → ℕ
block_memory_size c = transfer_of c + unit_size (unit_of c)

-- The sector size, in bytes, is allowed: a multiple of 256 and at most 262,144. Size 0 means that the flash has no sectors and is
-- overwritten in place.
abbrev pub IsAllowedSectorSize : ℕ → Type 0
IsAllowedSectorSize n = (n % 256 ≡ 0) × (n ≤ 2 ^ 18)

-- Unit and sector size of a configuration.
abbrev pub config_grain : DfuConfig → Grain
config_grain c = record { unit = unit_of c; sector = c.sector }

-- The configuration is allowed: it has the library's version, dfu_device allows its settings, its unit size is that of a unit, and its
-- sector size is allowed.
pub record IsConfig (c : DfuConfig) : Type 0 where
  pub version_is : c.version ≡ version
  pub allowed : IsAllowedSetting (config_setting c)
  pub unit_is : unit_size (unit_of c) ≡ c.unit
  pub sector_is : IsAllowedSectorSize c.sector
