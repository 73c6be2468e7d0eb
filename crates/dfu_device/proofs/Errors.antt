-- The medium errors errWRITE, errPROG and errVERIFY have a cause.
use Rattle.std.specs.Prelude.{◌⊎◌, ℕ, List, []}
use Rattle.std.proofs.Common.{ap, inl, inr, subst}
use Rattle.dfu_slots.specs.StoreView.{image_of}
use Rattle.dfu_device.specs.declared.answer.Answer.{Answer}
use Rattle.dfu_device.specs.declared.answer.Answer.TheVariants as answer
use Rattle.dfu_device.specs.declared.objection.Objection.{Objection}
use Rattle.dfu_device.specs.declared.objection.Objection.TheVariants.{Target, File}
use Rattle.dfu_device.specs.Stage.{Stage, InAppDetach, InManifestSync, InManifest, InError}
use Rattle.dfu_device.specs.Table.{reset_stage, objection_code, refuse_stage, Plan, Sure, Writes, Commits, time_plan}
use Rattle.dfu_device.specs.DeviceView.{DeviceView, profile}
use Rattle.dfu_device.specs.Rows.{request_for_table, asked_length, Done, is_served, setup_plan, handled_by_reading, Transfer, Passing, BusReset, RefusingClose, Refusing, PowerOn}
use Rattle.dfu_device.specs.Cases.{holds_in_both_branches}
use Rattle.dfu_device.specs.Errors.{IsMediumError, MediumFailed, MediumErrorsHaveCause}
use Rattle.dfu_device.specs.RowForms.{EndsInNoMediumError}
use Rattle.dfu_device.proofs.FaithfulPlans.{row_is_faithful, time_row_is_faithful}

-- If a performed plan ends in a medium error (errWRITE, errPROG or errVERIFY), the plan began in one, or the medium failed.
medium_error_had_cause : (p : Plan) (len : ℕ) (w : DeviceView) (a : Answer) (out : List ℕ) (w' : DeviceView) →
    EndsInNoMediumError w.stage p
    → Done p len w a out w'
    → IsMediumError w'.stage → IsMediumError w.stage ⊎ MediumFailed w w'
medium_error_had_cause (Sure reply stage) len w a out w' well (says, is) broken =
    inl (well (subst IsMediumError (ap (λ (z : DeviceView). z.stage) is) broken))
medium_error_had_cause (Writes before block reply stage bad) len w a out w' well (inl (says, h)) broken =
    inl (well (subst IsMediumError h.stage_is broken))
medium_error_had_cause (Writes before block reply stage bad) len w a out w' well (inr (fault, says, h)) broken = inr h.failed
medium_error_had_cause (Commits taken reply stage bad) len w a out w' well (inl (says, h)) broken = inl (well (subst IsMediumError
    h.stage_is broken))
medium_error_had_cause (Commits taken reply stage bad) len w a out w' well (inr (fault, says, h)) broken = inr h.failed

-- A reset of the bus never leads to a medium error (errWRITE, errPROG or errVERIFY).
reset_enters_no_medium_error : (st : Stage) → IsMediumError (reset_stage st) → ⊥
reset_enters_no_medium_error (InAppDetach timer passed) x = x
reset_enters_no_medium_error st x = x

-- The code of an objection is not a medium error, because it is errTARGET or errFILE.
objection_is_no_medium_error : (why : Objection) → IsMediumError (InError (objection_code why)) → ⊥
objection_is_no_medium_error Target x = x
objection_is_no_medium_error File x = x

-- If the device is in a medium error (errWRITE, errPROG or errVERIFY) after a refusal of an image, it was in one before.
refusal_enters_no_medium_error : (why : Objection) (st : Stage) → IsMediumError (refuse_stage why st) → IsMediumError st
refusal_enters_no_medium_error why (InManifestSync taken) x = absurd (objection_is_no_medium_error why x)
refusal_enters_no_medium_error why (InManifest taken passed) x = absurd (objection_is_no_medium_error why x)
refusal_enters_no_medium_error why st x = x

-- A row ends in a medium error (errWRITE, errPROG or errVERIFY) only if the row began in one, or the medium failed during the row.
pub medium_errors_have_cause : MediumErrorsHaveCause
medium_errors_have_cause w (Transfer setup body) a out w' (handled_by_reading p q reads asks done) broken =
    medium_error_had_cause (setup_plan w p q body) (asked_length q) w a out w'
    (holds_in_both_branches (EndsInNoMediumError w.stage) (is_served p q body) _ _
    (row_is_faithful (profile w) (image_of w.slots) w.stage (request_for_table q body)).1
    (λ y. y)) done broken
medium_errors_have_cause w (Passing ms) a out w' (is, none, row) broken =
    medium_error_had_cause (time_plan (profile w) w.stage ms) 0 w answer.Ack [] w'
    (time_row_is_faithful (profile w) (image_of w.slots) w.stage
    ms).1 row broken
medium_errors_have_cause w BusReset a out w' (is, none, same) broken =
    absurd (reset_enters_no_medium_error w.stage (subst IsMediumError (ap (λ (z : DeviceView). z.stage) same) broken))
medium_errors_have_cause w (RefusingClose setup why) a out w' (is, none, closes, same) broken =
    absurd (objection_is_no_medium_error why (subst IsMediumError (ap (λ (z : DeviceView). z.stage) same) broken))
medium_errors_have_cause w (Refusing why) a out w' (is, none, same) broken =
    inl (refusal_enters_no_medium_error why w.stage (subst IsMediumError (ap (λ (z : DeviceView). z.stage) same) broken))
medium_errors_have_cause w PowerOn a out w' (is, none, same) broken = absurd (subst IsMediumError (ap (λ (z : DeviceView). z.stage) same)
    broken)
