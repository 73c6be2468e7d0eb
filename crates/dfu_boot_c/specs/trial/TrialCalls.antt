-- Results of the calls for a trial in C.
use Rattle.std.specs.Prelude.{◌≡◌, ℕ, ℤ, pos, List, Some}
use Rattle.dfu_boot.specs.trial.Calls.{trial_start, trial_confirmation, end_of_trial, upload_operation}
use Rattle.dfu_boot.specs.declared.trial.standing.Standing.{Standing}
use Rattle.dfu_boot.specs.declared.trial.confirming.Confirmation.{Confirmation}
use Rattle.dfu_boot.specs.declared.trial.confirming.Confirmation.TheVariants as confirm
use Rattle.dfu_core.specs.declared.records.DfuAsk.{DfuAsk}
use Rattle.dfu_boot_c.specs.declared.trial.flash.TrialRefusal.{TrialRefusal}
use Rattle.dfu_boot_c.specs.declared.trial.flash.DfuTries.{DfuTries}
use Rattle.dfu_boot_c.specs.declared.trial.told.DfuStanding.{DfuStanding}
use Rattle.dfu_boot_c.specs.declared.trial.told.DfuStarting.{DfuStarting}
use Rattle.dfu_boot_c.specs.trial.Tries.{grain_of_tries, trial_medium_state, HasStanding, IsTrialRefused}
use Rattle.dfu_boot_c.specs.trial.TrialRecords.{standing_told, starting_told, TrialOpInAsk}
use Rattle.dfu_boot_c.specs.trial.Numbers.{ELSEWHERE, trial_refusal_number}

-- A call for a trial is refused, and returns the number of the reason.
abbrev pub RefusesTrial : DfuTries → List ℕ → ℤ → Type 0
RefusesTrial t flash result = (why : TrialRefusal) × IsTrialRefused why t flash × (result ≡ trial_refusal_number why)

-- dfu_core_trial_look returns 0 and the standing of the images.
pub record TrialLookResult (t : DfuTries) (flash : List ℕ) (result : ℤ) (told : DfuStanding) : Type 0 where
  pub standing : Standing
  pub stands : HasStanding t flash standing
  pub number_is : result ≡ pos 0
  pub told_is : told ≡ standing_told (trial_medium_state t flash) t.tries standing

-- dfu_core_trial_start returns the image that starts, and the operation that must come before the start, if there is one.
pub record TrialStartResult (t : DfuTries) (flash : List ℕ) (result : ℤ) (before after : DfuAsk) (told : DfuStarting) : Type 0 where
  pub standing : Standing
  pub stands : HasStanding t flash standing
  pub asks : TrialOpInAsk t.sector (trial_start (grain_of_tries t) t.tries standing).operation result before after
  pub told_is : told ≡ starting_told (trial_medium_state t flash) (trial_start (grain_of_tries t) t.tries standing)

-- The call returns DFU_WRITE_PENDING and the operation that sets the image's mark, 0 if the image is confirmed already, or DFU_ELSEWHERE.
-- Without an operation `after` equals `before`.
abbrev pub ConfirmationInAsk : ℕ → Confirmation → ℤ → DfuAsk → DfuAsk → Type 0
ConfirmationInAsk sector (confirm.By operation) result before after = TrialOpInAsk sector (Some operation) result before after
ConfirmationInAsk sector confirm.Confirmed result before after = (result ≡ pos 0) × (after ≡ before)
ConfirmationInAsk sector confirm.Elsewhere result before after = (result ≡ ELSEWHERE) × (after ≡ before)

-- dfu_core_trial_confirm returns the operation that confirms the image at the offset, 0 if the image is confirmed already, or
-- DFU_ELSEWHERE.
pub record TrialConfirmResult (t : DfuTries) (flash : List ℕ) (at : ℕ) (result : ℤ) (before after : DfuAsk) : Type 0 where
  pub standing : Standing
  pub stands : HasStanding t flash standing
  pub told : ConfirmationInAsk t.sector (trial_confirmation (grain_of_tries t) standing at) result before after

-- dfu_core_trial_end returns the operation that ends a trial, or 0 if no image is on trial.
pub record TrialEndResult (t : DfuTries) (flash : List ℕ) (result : ℤ) (before after : DfuAsk) : Type 0 where
  pub standing : Standing
  pub stands : HasStanding t flash standing
  pub asks : TrialOpInAsk t.sector (end_of_trial standing) result before after

-- dfu_core_trial_upload returns the operation that must come before an upload, or 0 if there is none.
pub record TrialUploadResult (t : DfuTries) (flash : List ℕ) (result : ℤ) (before after : DfuAsk) : Type 0 where
  pub standing : Standing
  pub stands : HasStanding t flash standing
  pub asks : TrialOpInAsk t.sector (upload_operation t.tries standing) result before after
