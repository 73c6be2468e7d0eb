use Rattle.std.proofs.Common.{◌≡◌, inl, inr, ⊎_elim, ℕ, List, [], refl, sym, ap, subst, arith}
use Rattle.dfu_slots.specs.Medium.Fuse.{Whole}
use Rattle.dfu_slots.specs.StoreView.{SlotsState}
use Rattle.dfu_device.specs.Cases.{holds_in_both_branches}
use Rattle.dfu_device.specs.Errors.{IsMediumError, MediumErrorsHaveCause}
use Rattle.dfu_device.specs.Parts.{stage_of}
use Rattle.dfu_device.specs.Rows.{Cause, Row}
use Rattle.dfu_device.specs.Stage.{Profile, Stage, InDownloadSync, InDownloadBusy, InManifestSync, InManifestSyncComplete, InManifest, InManifestWaitReset}
use Rattle.dfu_device.specs.DeviceView.{DeviceView, profile}
use Rattle.dfu_device.specs.declared.answer.Answer.{Answer}
use Rattle.dfu_asks.specs.Lent.{LentDevice}
use Rattle.dfu_asks.specs.declared.reply.Reply.{Reply}
use Rattle.dfu_asks.specs.declared.reply.Reply.TheVariants as reply
use Rattle.dfu_asks.specs.Mapped.{UnseenState}
use Rattle.dfu_asks.specs.Due.{due_plan, PlanWorks}
use Rattle.dfu_asks.specs.Asks.{flash_store, device_in, device_with}
use Rattle.dfu_asks.specs.Calls.{DueOutcome, outcome_asks, outcome_answered, DeviceCalled, call_answered, call_asks, piece_on_flash, piece_write_failed, piece_not_on_flash}
use Rattle.dfu_asks.proofs.UnseenState.{spare_ignores_unseen}
use Rattle.dfu_asks.proofs.laws.errors_follow_failures.Goals as goal

-- Unseen state of a medium on which no write has failed and no write will fail.
abbrev unseen_without_failures : UnseenState
unseen_without_failures = record { failures = 0; fuse = Whole; tag = [] }

-- The stage of a device is the same on a medium without failures as on any other medium with these bytes.
stage_is_same_on_each_medium : (a : LentDevice) (flash : List ℕ) → (device_with unseen_without_failures a flash).stage
    ≡ (device_in a flash).stage
stage_is_same_on_each_medium a flash = ap (λ (spare : List ℕ). stage_of a.mode spare a.block) (spare_ignores_unseen unseen_without_failures
    (flash_store a flash))

error_answer_has_cause : MediumErrorsHaveCause → (a now : LentDevice) (flash out out' : List ℕ) (cause : Cause) (r : Reply)
    → DeviceCalled a flash out (λ d y sent d'. Row d cause y sent d') now out' r → (x : Answer) (count : ℕ) → r ≡ reply.Answered x count
    → IsMediumError (device_in now flash).stage → IsMediumError (device_in a flash).stage
error_answer_has_cause have a now flash out out' cause _ (call_answered y n e) x count is broken =
    ⊎_elim (λ before. subst IsMediumError (stage_is_same_on_each_medium a flash) before) (λ rose. absurd (omega (arith, rose)))
    (have (device_with unseen_without_failures a flash) cause y e.gave.sent (device_with unseen_without_failures now flash) (e.gave.row
    unseen_without_failures)
    (subst IsMediumError (sym (stage_is_same_on_each_medium now flash)) broken))
error_answer_has_cause have a now flash out out' cause _ (call_asks len asks same due out_is) x count is broken = absurd (cc)

pub returns-clause-answered : goal.returns-clause-answered
returns-clause-answered c = λ a now flash out out' cause x count called broken.
    error_answer_has_cause c.rows_keep.ensures.errors a now flash out out' cause (reply.Answered x count) called x count refl broken

-- A row whose writes all succeeded doesn't lead to an error of the medium.
worked_row_enters_no_error : (c : Profile) (st : Stage) (len : ℕ) (w : DeviceView) (a : Answer) (out : List ℕ) (w' : DeviceView)
    → PlanWorks (due_plan c st) len w a out w' → IsMediumError w'.stage → ⊥
worked_row_enters_no_error c (InDownloadSync before block number) len w a out w' done broken = subst IsMediumError done.1.stage_is broken
worked_row_enters_no_error c (InDownloadBusy before block number passed) len w a out w' done broken = subst IsMediumError done.1.stage_is
    broken
worked_row_enters_no_error c (InManifestSync taken) len w a out w' done broken = subst IsMediumError done.1.stage_is broken
worked_row_enters_no_error c (InManifest taken passed) len w a out w' done broken =
    holds_in_both_branches (λ (st : Stage). IsMediumError st → ⊥) c.tolerant InManifestSyncComplete InManifestWaitReset (λ x. x) (λ x. x)
    (subst IsMediumError done.1.stage_is broken)
worked_row_enters_no_error c st len w a out w' done broken = absurd done

due_outcome_enters_no_error : (d : DeviceView) (len : ℕ) (s : SlotsState) (was flash out out' : List ℕ) (now : LentDevice) (r : Reply)
    → DueOutcome d len s was flash out now out' r → (x : Answer) (count : ℕ) → r ≡ reply.Answered x count
    → IsMediumError (device_in now flash).stage → ⊥
due_outcome_enters_no_error d len s was flash out out' now _ (outcome_asks asks same out_is) x count is broken = cc
due_outcome_enters_no_error d len s was flash out out' now _ (outcome_answered y n e) x count is broken =
    worked_row_enters_no_error (profile d) d.stage len d y e.gave.sent (device_in now flash) e.gave.row broken

pub returns-clause-took : goal.returns-clause-took
returns-clause-took c = λ d len s was flash out out' p failed now x count took broken. elim took [
  | piece_on_flash fine there comes ↦ absurd (due_outcome_enters_no_error d len s was flash out out' now (reply.Answered x count) comes x
      count refl broken)
  | piece_write_failed y n fails is e ↦ inl fails
  | piece_not_on_flash y n fine lies is e ↦ inr lies
]
