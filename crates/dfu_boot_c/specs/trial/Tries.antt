-- Write unit, sectors and tries in the configuration of a trial in C.
use Rattle.std.specs.Prelude.{◌≡◌, ◌⊎◌, ℕ, nat_lt, ◌%◌, ◌^◌, ◌≤◌, List, length, if◌then◌else◌}
use Rattle.dfu_slots.specs.declared.layout.Unit.{Unit as WriteUnit}
use Rattle.dfu_slots.specs.declared.layout.Unit.TheVariants.{Byte, U16, U64, U256}
use Rattle.dfu_slots.specs.Units.{unit_size, Grain}
use Rattle.dfu_slots.specs.Medium.{MediumState}
use Rattle.dfu_slots.specs.Image.{HasImage}
use Rattle.dfu_asks.specs.Mapped.{mapped_medium}
use Rattle.dfu_boot.specs.trial.Marks.{AreTries}
use Rattle.dfu_boot.specs.trial.Calls.{IsTriesFault, IsStanding}
use Rattle.dfu_boot.specs.declared.trial.standing.Standing.{Standing}
use Rattle.dfu_boot_c.specs.declared.trial.flash.DfuTries.{DfuTries}
use Rattle.dfu_boot_c.specs.declared.trial.flash.TrialRefusal.{TrialRefusal}
use Rattle.dfu_boot_c.specs.declared.trial.flash.TrialRefusal.TheVariants.{NoConfig, Tries, NoMedium}

-- Largest write unit of at most n bytes; one byte for 0.
unfoldable pub unit_of_at_most : ℕ → WriteUnit
unit_of_at_most n = if nat_lt n 16 then Byte else if nat_lt n 64 then U16 else if nat_lt n 256 then U64 else U256

-- Write unit and sectors of the flash, by the configuration of a trial.
abbrev pub grain_of_tries : DfuTries → Grain
grain_of_tries t = record { unit = unit_of_at_most t.unit; sector = t.sector }

-- Flash as a medium with this write unit and these sectors.
abbrev pub trial_medium_state : DfuTries → List ℕ → MediumState
trial_medium_state t flash = mapped_medium (grain_of_tries t) flash

-- The configured unit size is that of a write unit, and the sector size is a multiple of 256 and at most 262,144. Sector size 0 means that
-- the flash has no sectors.
pub record HasTriesUnitAndSector (t : DfuTries) : Type 0 where
  pub unit_is : unit_size (unit_of_at_most t.unit) ≡ t.unit
  pub pages : t.sector % 256 ≡ 0
  pub bound : t.sector ≤ 2 ^ 18

-- The configuration and its number of tries are allowed, and the images of the flash have this standing.
pub record HasStanding (t : DfuTries) (flash : List ℕ) (s : Standing) : Type 0 where
  pub part : HasTriesUnitAndSector t
  pub tries : AreTries (grain_of_tries t) t.tries
  pub stands : IsStanding (trial_medium_state t flash) t.tries s

-- Reasons for which a call is refused, in this order: the unit or sector size is not allowed; the number of tries is refused; the flash has
-- no active image, or 2^32 bytes or more.
abbrev pub IsTrialRefused : TrialRefusal → DfuTries → List ℕ → Type 0
IsTrialRefused NoConfig t flash = ¬ HasTriesUnitAndSector t
IsTrialRefused (Tries fault) t flash = HasTriesUnitAndSector t × IsTriesFault fault (grain_of_tries t) t.tries
IsTrialRefused NoMedium t flash = HasTriesUnitAndSector t × AreTries (grain_of_tries t) t.tries
    × (¬ HasImage (trial_medium_state t flash) ⊎ (2 ^ 32 ≤ length flash))
