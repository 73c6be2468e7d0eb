-- Flash of two areas, by the configuration of the device in C.
use Rattle.std.specs.Prelude.{◌≡◌, ℕ, ℤ, ◌^◌, ◌≤◌, List, length, negsuc}
use Rattle.dfu_slots.specs.Medium.{MediumState}
use Rattle.dfu_home.specs.declared.due.Progress.{Progress}
use Rattle.dfu_core.specs.declared.config.DfuConfig.{DfuConfig}
use Rattle.dfu_boot_c.specs.declared.trial.flash.DfuTries.{DfuTries}
use Rattle.dfu_boot_c.specs.declared.trial.flash.TrialRefusal.{TrialRefusal}
use Rattle.dfu_boot_c.specs.declared.trial.flash.TrialRefusal.TheVariants.{NoConfig, Tries, NoMedium}
use Rattle.dfu_boot_c.specs.declared.home.numbers.DfuHomeRecord.{DfuHomeRecord}
use Rattle.dfu_boot_c.specs.trial.Tries.{trial_medium_state, HasTriesUnitAndSector}
use Rattle.dfu_boot_c.specs.trial.Numbers.{trial_refusal_number}
use Rattle.dfu_boot_c.specs.install.Calls.{last_of}

-- Configuration of a trial with the write unit and the sectors of the device's flash.
abbrev pub trial_config_of : DfuConfig → DfuTries
trial_config_of c = record { unit = c.unit; sector = c.sector; tries = 0 }

-- Flash as a medium with the write unit and the sectors of the configuration.
abbrev pub home_medium_state : DfuConfig → List ℕ → MediumState
home_medium_state c flash = trial_medium_state (trial_config_of c) flash

-- Reason for which the flash can't be used: the configured unit or sector size is not allowed, or else the flash has 2^32 bytes or more.
abbrev pub IsFlashRefused : TrialRefusal → DfuConfig → List ℕ → Type 0
IsFlashRefused NoConfig c flash = ¬ HasTriesUnitAndSector (trial_config_of c)
IsFlashRefused (Tries fault) c flash = ⊥
IsFlashRefused NoMedium c flash = HasTriesUnitAndSector (trial_config_of c) × (2 ^ 32 ≤ length flash)

-- The call is refused, and returns the number of the reason for which the flash can't be used.
abbrev pub RefusesFlash : DfuConfig → List ℕ → ℤ → Type 0
RefusesFlash c flash result = (why : TrialRefusal) × IsFlashRefused why c flash × (result ≡ trial_refusal_number why)

-- Progress of a copy, by its record.
abbrev pub progress_of : DfuHomeRecord → Progress
progress_of r = record { last = last_of r.last; count = r.count }
