-- The passing of time, resets of the bus and losses of power, as steps of the standard's table.
use Rattle.std.specs.Prelude.{◌≡◌, ℕ, ◌+◌, ◌==◌, nat_le, max, not, true, List, ◌∷◌, length}
use Rattle.std.specs.List.{list_any}
use Rattle.std.proofs.Common.{refl, sym, ap, subst, ◌∙◌, inl, inr}
use Rattle.dfu_device.specs.Pace.{block_ms, image_ms}
use Rattle.dfu_device.specs.declared.answer.Answer.{Answer}
use Rattle.dfu_device.specs.declared.objection.Objection.{Objection}
use Rattle.dfu_device.specs.declared.objection.Objection.TheVariants.{Target, File}
use Rattle.dfu_device.specs.Stage.{Profile, Stage, InAppIdle, InAppDetach, InDownloadBusy, InManifestSync, InManifestSyncComplete, InManifest, InManifestWaitReset, InError}
use Rattle.dfu_device.specs.Table.{Plan, Sure, Writes, Commits, time_plan, reset_stage, objection_code, refuse_stage}
use Rattle.dfu_device.specs.Cases.{holds_in_both_branches}
use Rattle.dfu_device.specs.DeviceView.{DeviceView}
use Rattle.dfu_device.specs.Rows.{Done}
use Rattle.dfu_conformance.specs.declared.row.StandardState.{StandardState}
use Rattle.dfu_conformance.specs.declared.row.StandardState.TheVariants as place
use Rattle.dfu_conformance.specs.declared.row.When.{When}
use Rattle.dfu_conformance.specs.declared.row.When.TheVariants.{Always, Tolerant, NotTolerant, WillDetach}
use Rattle.dfu_conformance.specs.declared.row.Gives.TheVariants as gives
use Rattle.dfu_conformance.specs.declared.event.LogEvent.{LogEvent}
use Rattle.dfu_conformance.specs.declared.marks.TheConstants.{MARKS}
use Rattle.dfu_conformance.specs.declared.drifts.TheConstants.{DRIFTS}
use Rattle.dfu_conformance.specs.RowMatches.{asks, answer_matches}
use Rattle.dfu_conformance.specs.Candidates.{applies_to}
use Rattle.dfu_conformance.specs.Setups.{reset_event, power_event}
use Rattle.dfu_conformance.specs.MayAnswer.{MayAnswer, MayMove, Run}
use Rattle.dfu_conformance.proofs.ForCallers.{is_row, device_goes_by_listed_row, is_move, device_moves_by_listed_drift, move_begins_run}
use Rattle.dfu_laws.specs.judge.Conformity.{attributes_of, place_of, StageInvariant}
use Rattle.dfu_laws.proofs.judge.Bits.{attribute_bits_select_rows}
use Rattle.dfu_laws.proofs.judge.LeadingAnswers.{write_code_allowed_in_error, commit_code_allowed_in_error, fact_of_branch}

-- If time passes, the device stays in its state, or makes a move that the standard's table allows without an event.
abbrev pub TimePlanMoves : Profile → Stage → Plan → Type 0
TimePlanMoves c st (Sure reply next) = MayMove (attributes_of c) 0 (place_of st) (place_of next) × StageInvariant c next
TimePlanMoves c st (Writes before block reply next bad) =
    (MayMove (attributes_of c) 0 (place_of st) (place_of next) × StageInvariant c next)
    × MayMove (attributes_of c) 0 (place_of st) place.Error
TimePlanMoves c st (Commits taken reply next bad) =
    (MayMove (attributes_of c) 0 (place_of st) (place_of next) × StageInvariant c next)
    × MayMove (attributes_of c) 0 (place_of st) place.Error

-- If the standard's table has a move of the device without an event, the device may make this move.
pub device_moves_itself : (c : Profile) (from : StandardState) (when : When) (next : StandardState)
    → list_any (is_move from when next) DRIFTS ≡ true
    → applies_to when (attributes_of c) 0 ≡ true → MayMove (attributes_of c) 0 from next
device_moves_itself c from when next some row_is_for_device = inr (device_moves_by_listed_drift DRIFTS from when next (attributes_of c) 0
    some row_is_for_device)

-- The plan of a device for the passing of time makes only moves that the table allows without an event.
pub time_plan_moves : (c : Profile) (st : Stage) (ms : ℕ) → StageInvariant c st → TimePlanMoves c st (time_plan c st ms)
time_plan_moves c (InAppDetach timer passed) ms stands =
    let P : Plan → Type 0 = TimePlanMoves c (InAppDetach timer passed) in
    holds_in_both_branches P (ms == 0) _ _ (inl refl, tt) (fact_of_branch P c.will_detach _ _
    (λ detaches. (
      device_moves_itself c place.AppDetach WillDetach place.DfuIdle refl
          ((attribute_bits_select_rows c.can_download c.can_upload c.tolerant c.will_detach).4 ∙ detaches),
      tt,
    ))
    (λ stays. holds_in_both_branches P (nat_le (max 1 timer) (passed + ms)) _ _ (
      device_moves_itself c place.AppDetach Always place.AppIdle refl refl,
      tt,
    ) (inl refl, tt)))
time_plan_moves c (InDownloadBusy before block number passed) ms stands =
    let P : Plan → Type 0 = TimePlanMoves c (InDownloadBusy before block number passed) in
    holds_in_both_branches P (ms == 0) _ _ (inl refl, tt)
    (holds_in_both_branches P (nat_le (block_ms c.pace c.busy (length before) (length block)) (passed + ms)) _ _ (
      (device_moves_itself c place.DownloadBusy Always place.DownloadSync refl refl, tt),
      device_moves_itself c place.DownloadBusy Always place.Error refl refl,
    ) (inl refl, tt))
time_plan_moves c (InManifest taken passed) ms stands =
    let P : Plan → Type 0 = TimePlanMoves c (InManifest taken passed) in
    let Q : Stage → Type 0 = λ next. (MayMove (attributes_of c) 0 place.Manifest (place_of next) × StageInvariant c next)
    × MayMove (attributes_of c) 0 place.Manifest place.Error in
    let fault : MayMove (attributes_of c) 0 place.Manifest place.Error =
    device_moves_itself c place.Manifest Always place.Error refl refl in
    holds_in_both_branches P (ms == 0) _ _ (inl refl, tt)
    (holds_in_both_branches P (nat_le (image_ms c.pace c.manifest (length taken)) (passed + ms)) _ _
    (fact_of_branch Q c.tolerant InManifestSyncComplete InManifestWaitReset
    (λ on. (
      (
        device_moves_itself c place.Manifest Tolerant place.ManifestSync refl
            ((attribute_bits_select_rows c.can_download c.can_upload c.tolerant c.will_detach).2 ∙ on),
        on,
      ),
      fault,
    ))
    (λ off. (
      (
        device_moves_itself c place.Manifest NotTolerant place.ManifestWaitReset refl
            ((attribute_bits_select_rows c.can_download c.can_upload c.tolerant c.will_detach).3 ∙ ap not off),
        tt,
      ),
      fault,
    )))
    (inl refl, tt))
time_plan_moves c st ms stands = (inl refl, stands)

-- After the passing of time, a device is in the same state, or has made a move that the table allows without an event.
pub passed_time_moves_device : (pl : Plan) (c : Profile) (st : Stage) (w : DeviceView) (a : Answer) (out : List ℕ) (w' : DeviceView) →
    TimePlanMoves c st pl
    → Done pl 0 w a out w'
    → MayMove (attributes_of c) 0 (place_of st) (place_of w'.stage) × StageInvariant c w'.stage
passed_time_moves_device (Sure reply next) c st w a out w' kept (says, is) =
    subst (λ (z : DeviceView). MayMove (attributes_of c) 0 (place_of st) (place_of z.stage) × StageInvariant c z.stage) (sym is) kept
passed_time_moves_device (Writes before block reply next bad) c st w a out w' kept (inl (says, h)) =
    subst (λ (z : Stage). MayMove (attributes_of c) 0 (place_of st) (place_of z) × StageInvariant c z) (sym h.stage_is) kept.0
passed_time_moves_device (Writes before block reply next bad) c st w a out w' kept (inr (fault, says, h)) =
    subst (λ (z : Stage). MayMove (attributes_of c) 0 (place_of st) (place_of z) × StageInvariant c z) (sym h.stage_is) (
      kept.1,
      write_code_allowed_in_error c fault,
    )
passed_time_moves_device (Commits taken reply next bad) c st w a out w' kept (inl (says, h)) =
    subst (λ (z : Stage). MayMove (attributes_of c) 0 (place_of st) (place_of z) × StageInvariant c z) (sym h.stage_is) kept.0
passed_time_moves_device (Commits taken reply next bad) c st w a out w' kept (inr (fault, says, h)) =
    subst (λ (z : Stage). MayMove (attributes_of c) 0 (place_of st) (place_of z) × StageInvariant c z) (sym h.stage_is) (
      kept.1,
      commit_code_allowed_in_error c fault,
    )

-- The status code of a program's objection is allowed in dfuERROR.
pub objection_code_allowed_in_error : (c : Profile) (why : Objection) → StageInvariant c (InError (objection_code why))
objection_code_allowed_in_error c Target = tt
objection_code_allowed_in_error c File = tt

-- If a program refuses an image after its close, the device moves to dfuERROR, or stays in its state.
pub late_refusal_moves_device : (c : Profile) (why : Objection) (st : Stage) → StageInvariant c st
    → MayMove (attributes_of c) 0 (place_of st) (place_of (refuse_stage why st)) × StageInvariant c (refuse_stage why st)
late_refusal_moves_device c why (InManifestSync taken) stands =
    (device_moves_itself c place.ManifestSync Always place.Error refl refl, objection_code_allowed_in_error c why)
late_refusal_moves_device c why (InManifest taken passed) stands =
    (device_moves_itself c place.Manifest Always place.Error refl refl, objection_code_allowed_in_error c why)
late_refusal_moves_device c why st stands = (inl refl, stands)

-- If the judge's table `MARKS` has a row for an event, the standard allows the event.
pub mark_row_allows_event : (att : ℕ) (from : StandardState) (next : StandardState) (e : LogEvent)
    → list_any (is_row from e.asked Always gives.Silent next) MARKS ≡ true
    → answer_matches gives.Silent from next e.length e.answer ≡ true → asks e.asked e ≡ true → MayAnswer att 0 from e next
mark_row_allows_event att from next e some is_shown is_asked =
    inr (inl (device_goes_by_listed_row MARKS from e.asked Always gives.Silent next att 0 e some refl is_asked is_shown))

-- If the events after a reset of the bus are a run, they are a run with the reset before them. In appDETACH, the reset leads to dfuIDLE.
pub reset_leads_run_on : (att : ℕ) (st : Stage) (rest : List LogEvent) (last : StandardState) →
    Run att 0 (place_of (reset_stage st)) rest last
    → Run att 0 (place_of st) (reset_event ∷ rest) last
reset_leads_run_on att (InAppDetach timer passed) rest last run = (
  place.AppDetach,
  place.Fresh,
  inl refl,
  mark_row_allows_event att place.AppDetach place.Fresh reset_event refl refl refl,
  move_begins_run att 0 place.Fresh place.DfuIdle rest last (inr (device_moves_by_listed_drift DRIFTS place.Fresh Always place.DfuIdle att 0
      refl refl)) run,
)
reset_leads_run_on att st rest last run =
    (place_of st, place.AppIdle, inl refl, mark_row_allows_event att (place_of st) place.AppIdle reset_event refl refl refl, run)

-- A reset of the bus preserves the stage invariant.
pub reset_stage_keeps_invariant : (c : Profile) (st : Stage) → StageInvariant c (reset_stage st)
reset_stage_keeps_invariant c (InAppDetach timer passed) = tt
reset_stage_keeps_invariant c st = tt

-- If the events after a power on are a run that begins in appIDLE, they are a run with the power on before them.
pub power_leads_run_on : (att : ℕ) (st : Stage) (rest : List LogEvent) (last : StandardState) → Run att 0 place.AppIdle rest last
    → Run att 0 (place_of st) (power_event ∷ rest) last
power_leads_run_on att InAppIdle rest last run =
    (place.AppIdle, place.AppIdle, inl refl, mark_row_allows_event att place.AppIdle place.AppIdle power_event refl refl refl, run)
power_leads_run_on att st rest last run =
    (place_of st, place.AppIdle, inl refl, mark_row_allows_event att (place_of st) place.AppIdle power_event refl refl refl, run)
