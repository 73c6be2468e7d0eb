-- Parts of a standing that dfu_core_trial_start_from reads.
use Rattle.std.specs.Prelude.{ℕ, ◌==◌, Option, Some, None, if◌then◌else◌}
use Rattle.dfu_boot_c.specs.declared.trial.told.DfuStanding.{DfuStanding}

-- Offset of the confirmed image, which becomes active again if the trial fails; None if no image is on trial.
abbrev pub base_of_trial : DfuStanding → Option ℕ
base_of_trial d = if d.on_trial == 0 then None else Some d.base.at
