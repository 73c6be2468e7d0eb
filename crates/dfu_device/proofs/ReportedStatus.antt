-- Lemmas about the status and the state that a row reports to the host.
use Rattle.std.specs.Prelude.{◌≡◌, ◌⊎◌, ℕ, ◌==◌, Bool, true, false, List, ◌++◌}
use Rattle.std.proofs.Common.{refl, sym, ap, inl, inr, subst}
use Rattle.std.proofs.lemmas.Bool.{false≢true}
use Rattle.dfu_wire.specs.declared.requests.Request.TheVariants as asked
use Rattle.dfu_slots.specs.StoreView.{image_of}
use Rattle.dfu_device.specs.declared.answer.Answer.{Answer}
use Rattle.dfu_device.specs.declared.answer.Answer.TheVariants as answer
use Rattle.dfu_device.specs.Stage.{GetStatus, GetState, Reply, StateOf, Stall, Profile, Stage, InAppIdle, InAppDetach, InDfuIdle, InDownloadSync, InDownloadSyncWritten, InDownloadBusy, InDownloadIdle, InManifestSync, InManifestSyncComplete, InManifest, InManifestWaitReset, InUploadIdle, InError, state_of, status_of}
use Rattle.dfu_device.specs.Table.{write_and_report, Plan, plan, commit_and_report}
use Rattle.dfu_device.specs.Outcome.{Luck, Works, FailsOld, FailsNew, Outcome, plan_outcome}
use Rattle.dfu_device.specs.DeviceView.{profile, situation}
use Rattle.dfu_device.specs.Rows.{ReplyAnswer}
use Rattle.dfu_device.specs.PlanOutcomes.{PlanOutcome, setups_have_outcomes}
use Rattle.dfu_device.specs.Cases.{holds_in_both_branches}
use Rattle.dfu_device.specs.ReportLaws.{StatusReportMatches, StateReportMatches}

-- Definitions and lemmas about reports of the status and of the state.

-- The outcome is a stall, or a reply with the status of the stage that the device enters.
abbrev pub Tells : Profile → Outcome → Type 0
Tells c o = (o.reply ≡ status_of c o.after.stage) ⊎ (o.reply ≡ Stall)

-- The row of GETSTATUS stalls, or it reports the status of the stage that the device enters.
getstatus_reports_stage_entered : (c : Profile) (i : List ℕ) (st : Stage) (luck : Luck) →
    Tells c (plan_outcome i (plan c i st GetStatus) luck)
getstatus_reports_stage_entered c i InAppIdle luck = inl refl
getstatus_reports_stage_entered c i (InAppDetach timer passed) luck = inl refl
getstatus_reports_stage_entered c i InDfuIdle luck = inl refl
getstatus_reports_stage_entered c i (InDownloadSync before block number) luck = getstatus_plan_reports_write luck
  where
    P : Plan → Type 0
    P p = (luck : Luck) → Tells c (plan_outcome i p luck)

    now : P (write_and_report c before block (InDownloadIdle (before ++ block) number))
    now Works = inl refl
    now (FailsOld fault) = inl refl
    now (FailsNew fault) = inl refl

    getstatus_plan_reports_write : P (plan c i (InDownloadSync before block number) GetStatus)
    getstatus_plan_reports_write = holds_in_both_branches P (c.busy == 0) _ _ now (λ luck. inl refl)
getstatus_reports_stage_entered c i (InDownloadSyncWritten taken number) luck = inl refl
getstatus_reports_stage_entered c i (InDownloadBusy before block number passed) luck = inr refl
getstatus_reports_stage_entered c i (InDownloadIdle taken number) luck = inl refl
getstatus_reports_stage_entered c i (InManifestSync taken) luck = getstatus_reports_after_commit luck
  where
    P : Plan → Type 0
    P p = (luck : Luck) → Tells c (plan_outcome i p luck)

    now : P (commit_and_report c taken InDfuIdle)
    now Works = inl refl
    now (FailsOld fault) = inl refl
    now (FailsNew fault) = inl refl

    getstatus_reports_after_commit : P (plan c i (InManifestSync taken) GetStatus)
    getstatus_reports_after_commit = holds_in_both_branches P (c.manifest == 0) _ _ now (λ luck. inl refl)
getstatus_reports_stage_entered c i InManifestSyncComplete luck = inl refl
getstatus_reports_stage_entered c i (InManifest taken passed) luck = inr refl
getstatus_reports_stage_entered c i InManifestWaitReset luck = inr refl
getstatus_reports_stage_entered c i (InUploadIdle place number) luck = inl refl
getstatus_reports_stage_entered c i (InError code) luck = inl refl

-- The outcome is a stall, or a reply with the state of the current stage, which doesn't change.
abbrev pub ReportsCurrentState : Stage → Outcome → Type 0
ReportsCurrentState st o = ((o.reply ≡ StateOf (state_of st)) × (o.after.stage ≡ st)) ⊎ (o.reply ≡ Stall)

-- The row of GETSTATE stalls, or it reports the current state.
getstate_reports_current_state : (c : Profile) (i : List ℕ) (st : Stage) (luck : Luck)
    → ReportsCurrentState st (plan_outcome i (plan c i st GetState) luck)
getstate_reports_current_state c i InAppIdle luck = inl (refl, refl)
getstate_reports_current_state c i (InAppDetach timer passed) luck = inl (refl, refl)
getstate_reports_current_state c i InDfuIdle luck = inl (refl, refl)
getstate_reports_current_state c i (InDownloadSync before block number) luck = inl (refl, refl)
getstate_reports_current_state c i (InDownloadSyncWritten taken number) luck = inl (refl, refl)
getstate_reports_current_state c i (InDownloadBusy before block number passed) luck = inr refl
getstate_reports_current_state c i (InDownloadIdle taken number) luck = inl (refl, refl)
getstate_reports_current_state c i (InManifestSync taken) luck = inl (refl, refl)
getstate_reports_current_state c i InManifestSyncComplete luck = inl (refl, refl)
getstate_reports_current_state c i (InManifest taken passed) luck = inr refl
getstate_reports_current_state c i InManifestWaitReset luck = inr refl
getstate_reports_current_state c i (InUploadIdle place number) luck = inl (refl, refl)
getstate_reports_current_state c i (InError code) luck = inl (refl, refl)

-- The answer to a Stall reply is a stall.
stall_reply_has_stall_answer : (len : ℕ) (reply : Reply) (a : Answer) (out : List ℕ) → reply ≡ Stall → ReplyAnswer len reply a out → a
    ≡ answer.Stall
stall_reply_has_stall_answer len reply a out e says = (subst (λ (r : Reply). ReplyAnswer len r a out) e says).0

abbrev pub is_stall : Answer → Bool
is_stall answer.Stall = true
is_stall a = false

-- An answer with bytes is not a stall.
pub bytes_answer_is_no_stall : answer.Bytes ≡ answer.Stall → ⊥
bytes_answer_is_no_stall e = false≢true (ap (λ (a : Answer). is_stall a) e)

-- An answer to GETSTATUS contains the status of the device after the row.
pub status_report_matches : StatusReportMatches
status_report_matches p len setup body w out w' reads asks on h =
    let x : PlanOutcome (plan (profile w) (image_of w.slots) w.stage GetStatus) len w answer.Bytes out w' =
    setups_have_outcomes p (asked.GetStatus len) setup body w answer.Bytes out w' reads asks on h in
    let told : Tells (profile w) (record { reply = x.reply; after = situation w' }) =
    subst (λ (o : Outcome). Tells (profile w) o) x.same (getstatus_reports_stage_entered (profile w) (image_of w.slots) w.stage x.luck) in
    elim told [
      | inl is ↦ subst (λ (c : Profile). ReplyAnswer len (status_of c w'.stage) answer.Bytes out) (sym x.fixed)
          (subst (λ (r : Reply). ReplyAnswer len r answer.Bytes out) is x.answers)
      | inr is ↦ absurd (bytes_answer_is_no_stall (stall_reply_has_stall_answer len x.reply answer.Bytes out is x.answers))
    ]

-- An answer to GETSTATE contains the state of the device after the row, and the row doesn't change the stage.
pub state_report_matches : StateReportMatches
state_report_matches p len setup body w out w' reads asks on h =
    let x : PlanOutcome (plan (profile w) (image_of w.slots) w.stage GetState) len w answer.Bytes out w' =
    setups_have_outcomes p (asked.GetState len) setup body w answer.Bytes out w' reads asks on h in
    let told : ReportsCurrentState w.stage (record { reply = x.reply; after = situation w' }) =
    subst (λ (o : Outcome). ReportsCurrentState w.stage o) x.same
    (getstate_reports_current_state (profile w) (image_of w.slots) w.stage x.luck) in
    elim told [
      | inl is ↦ (
        subst (λ (st : Stage). ReplyAnswer len (StateOf (state_of st)) answer.Bytes out) (sym is.1)
            (subst (λ (r : Reply). ReplyAnswer len r answer.Bytes out) is.0 x.answers),
        is.1,
      )
      | inr is ↦ absurd (bytes_answer_is_no_stall (stall_reply_has_stall_answer len x.reply answer.Bytes out is x.answers))
    ]
