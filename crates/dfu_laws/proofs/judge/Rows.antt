-- In each stage of the device, the answer to each request is a row of the standard's table.
use Rattle.std.specs.Prelude.{◌≡◌, ℕ, ◌==◌, nat_le, not, min, true, List, [], ◌∷◌, ◌++◌, length}
use Rattle.std.proofs.Common.{refl, ◌∙◌, arith}
use Rattle.std.proofs.lemmas.Bool.{true_from_ne_false, false≢true, eqb-true, not-false}
use Rattle.dfu_wire.specs.declared.setups.Setup.{Setup}
use Rattle.dfu_wire.specs.declared.codes.Code.{Code}
use Rattle.dfu_wire.specs.declared.codes.Code.TheVariants.{StalledPkt as ErrStalledPkt, NotDone as ErrNotDone}
use Rattle.dfu_wire.specs.declared.requests.Request.{Request as Asked}
use Rattle.dfu_wire.specs.declared.requests.Request.TheVariants as asked
use Rattle.dfu_wire.specs.Request.{SetupAsksFor}
use Rattle.dfu_device.specs.Stage.{Profile, Stage, InAppIdle, InAppDetach, InDfuIdle, InDownloadSync, InDownloadSyncWritten, InDownloadBusy, InDownloadIdle, InManifestSync, InManifestSyncComplete, InManifest, InManifestWaitReset, InUploadIdle, InError}
use Rattle.dfu_device.specs.Table.{plan, write_code, commit_code}
use Rattle.dfu_device.specs.Cases.{holds_in_both_branches}
use Rattle.dfu_device.specs.Rows.{request_for_table, is_served}
use Rattle.dfu_conformance.specs.declared.row.When.TheVariants.{Always, CanDownload, Tolerant}
use Rattle.dfu_conformance.specs.RowMatches.{asks}
use Rattle.dfu_laws.specs.judge.Conformity.{StageInvariant, NeedsManifestTime}
use Rattle.dfu_laws.proofs.judge.Bits.{attribute_bits_select_rows}
use Rattle.dfu_laws.proofs.judge.LeadingAnswers.{PlanOutcomesLead, stall_row_leads, ack_row_leads, getstatus_row_leads, getstatus_of_fault_leads, write_code_allowed_in_error, commit_code_allowed_in_error, getstate_row_leads, fact_of_branch, upload_plan_leads, block_plan_leads}

-- In this stage, the plan of each request follows the standard's table.
abbrev pub AllPlansLead : Profile → (image : List ℕ) → Stage → Type 0
AllPlansLead c i st = (p : Setup) (q : Asked) (body : List ℕ) → NeedsManifestTime c → StageInvariant c st → SetupAsksFor p q
    → is_served p q body ≡ true
    → PlanOutcomesLead c p q body st (plan c i st (request_for_table q body))

-- In appIDLE, the plan of each request follows the standard's table.
app_idle_plans_lead : (c : Profile) (i : List ℕ) → AllPlansLead c i InAppIdle
app_idle_plans_lead c i p asked.NotDfu body takes s asks v = absurd (false≢true v)
app_idle_plans_lead c i p (asked.Detach timeout) body takes s asks v =
    (ack_row_leads c p (asked.Detach timeout) body InAppIdle (InAppDetach (min c.detach_ms timeout) 0) Always asks v refl refl, tt)
app_idle_plans_lead c i p (asked.GetStatus len) body takes s asks v = (
  getstatus_row_leads c p len body InAppIdle InAppIdle Always tt
      asks.1 refl refl,
  tt,
)
app_idle_plans_lead c i p (asked.GetState len) body takes s asks v = (getstate_row_leads c p len body InAppIdle asks.1 refl, tt)
app_idle_plans_lead c i p (asked.Dnload k len) [] takes s asks v =
    (stall_row_leads c p (asked.Dnload k len) [] InAppIdle InAppIdle asks v refl, tt)
app_idle_plans_lead c i p q body takes s asks v = (stall_row_leads c p q body InAppIdle InAppIdle asks v refl, tt)

-- In appDETACH, the plan of each request follows the standard's table.
app_detach_plans_lead : (c : Profile) (i : List ℕ) (timer passed : ℕ) → AllPlansLead c i (InAppDetach timer passed)
app_detach_plans_lead c i timer passed p asked.NotDfu body takes s asks v = absurd (false≢true v)
app_detach_plans_lead c i timer passed p (asked.GetStatus len) body takes s asks v =
    (getstatus_row_leads c p len body (InAppDetach timer passed) (InAppDetach timer passed) Always tt asks.1 refl refl, tt)
app_detach_plans_lead c i timer passed p (asked.GetState len) body takes s asks v =
    (getstate_row_leads c p len body (InAppDetach timer passed) asks.1 refl, tt)
app_detach_plans_lead c i timer passed p (asked.Dnload k len) [] takes s asks v =
    (stall_row_leads c p (asked.Dnload k len) [] (InAppDetach timer passed) InAppIdle asks v refl, tt)
app_detach_plans_lead c i timer passed p q body takes s asks v = (
  stall_row_leads c p q body (InAppDetach timer passed) InAppIdle asks v
      refl,
  tt,
)

-- In dfuIDLE, the plan of each request follows the standard's table.
dfu_idle_plans_lead : (c : Profile) (i : List ℕ) → AllPlansLead c i InDfuIdle
dfu_idle_plans_lead c i p asked.NotDfu body takes s asks v = absurd (false≢true v)
dfu_idle_plans_lead c i p (asked.Dnload k len) [] takes s asks v =
    holds_in_both_branches (PlanOutcomesLead c p (asked.Dnload k len) [] InDfuIdle) (not c.can_download) _ _
    (stall_row_leads c p (asked.Dnload k len) [] InDfuIdle (InError ErrStalledPkt) asks v refl, tt)
    (stall_row_leads c p (asked.Dnload k len) [] InDfuIdle (InError ErrStalledPkt) asks v refl, tt)
dfu_idle_plans_lead c i p (asked.Dnload k len) (x ∷ xs) takes s asks v =
    fact_of_branch (PlanOutcomesLead c p (asked.Dnload k len) (x ∷ xs) InDfuIdle) (not c.can_download) _ _
    (λ off. (stall_row_leads c p (asked.Dnload k len) (x ∷ xs) InDfuIdle (InError ErrStalledPkt) asks v refl, tt))
    (λ on. block_plan_leads c [] 0 InDfuIdle p k len x xs CanDownload asks v refl refl
    ((attribute_bits_select_rows c.can_download c.can_upload c.tolerant c.will_detach).0 ∙ not-false _ on))
dfu_idle_plans_lead c i p (asked.Upload k len) body takes s asks v =
    fact_of_branch (PlanOutcomesLead c p (asked.Upload k len) body InDfuIdle) c.can_upload _ _
    (λ can. upload_plan_leads c i 0 0 InDfuIdle p k len body can asks v refl refl refl)
    (λ off. (stall_row_leads c p (asked.Upload k len) body InDfuIdle (InError ErrStalledPkt) asks v refl, tt))
dfu_idle_plans_lead c i p asked.Abort body takes s asks v = (
  ack_row_leads c p asked.Abort body InDfuIdle InDfuIdle Always asks v refl
      refl,
  tt,
)
dfu_idle_plans_lead c i p (asked.GetStatus len) body takes s asks v = (
  getstatus_row_leads c p len body InDfuIdle InDfuIdle Always tt
      asks.1 refl refl,
  tt,
)
dfu_idle_plans_lead c i p (asked.GetState len) body takes s asks v = (getstate_row_leads c p len body InDfuIdle asks.1 refl, tt)
dfu_idle_plans_lead c i p q body takes s asks v = (stall_row_leads c p q body InDfuIdle (InError ErrStalledPkt) asks v refl, tt)

-- In dfuDNLOAD-SYNC with an unwritten block, the plan of each request follows the standard's table.
download_sync_plans_lead : (c : Profile) (i : List ℕ) (before block : List ℕ) (number : ℕ)
    → AllPlansLead c i (InDownloadSync before block number)
download_sync_plans_lead c i before block number p asked.NotDfu body takes s asks v = absurd (false≢true v)
download_sync_plans_lead c i before block number p (asked.GetStatus len) body takes s asks v =
    holds_in_both_branches (PlanOutcomesLead c p (asked.GetStatus len) body (InDownloadSync before block number)) (c.busy == 0) _ _ (
      (
        getstatus_row_leads c p len body (InDownloadSync before block number) (InDownloadIdle (before
            ++ block) number) Always tt asks.1 refl refl,
        tt,
      ),
      λ fault. getstatus_of_fault_leads c p len body (InDownloadSync before block number) (write_code fault) (write_code_allowed_in_error c
          fault) asks.1 refl,
    ) (
      getstatus_row_leads c p len body (InDownloadSync before block number) (InDownloadBusy before block number 0) Always tt asks.1 refl
          refl,
      tt,
    )
download_sync_plans_lead c i before block number p (asked.GetState len) body takes s asks v =
    (getstate_row_leads c p len body (InDownloadSync before block number) asks.1 refl, tt)
download_sync_plans_lead c i before block number p (asked.Dnload k len) [] takes s asks v =
    (stall_row_leads c p (asked.Dnload k len) [] (InDownloadSync before block number) (InError ErrStalledPkt) asks v refl, tt)
download_sync_plans_lead c i before block number p q body takes s asks v =
    (stall_row_leads c p q body (InDownloadSync before block number) (InError ErrStalledPkt) asks v refl, tt)

-- In dfuDNLOAD-SYNC with all blocks written, the plan of each request follows the standard's table.
written_sync_plans_lead : (c : Profile) (i : List ℕ) (taken : List ℕ) (number : ℕ)
    → AllPlansLead c i (InDownloadSyncWritten taken number)
written_sync_plans_lead c i taken number p asked.NotDfu body takes s asks v = absurd (false≢true v)
written_sync_plans_lead c i taken number p (asked.GetStatus len) body takes s asks v =
    (getstatus_row_leads c p len body (InDownloadSyncWritten taken number) (InDownloadIdle taken number) Always tt asks.1 refl refl, tt)
written_sync_plans_lead c i taken number p (asked.GetState len) body takes s asks v =
    (getstate_row_leads c p len body (InDownloadSyncWritten taken number) asks.1 refl, tt)
written_sync_plans_lead c i taken number p (asked.Dnload k len) [] takes s asks v =
    (stall_row_leads c p (asked.Dnload k len) [] (InDownloadSyncWritten taken number) (InError ErrStalledPkt) asks v refl, tt)
written_sync_plans_lead c i taken number p q body takes s asks v =
    (stall_row_leads c p q body (InDownloadSyncWritten taken number) (InError ErrStalledPkt) asks v refl, tt)

-- In dfuDNBUSY, the plan of each request follows the standard's table.
download_busy_plans_lead : (c : Profile) (i : List ℕ) (before block : List ℕ) (number passed : ℕ)
    → AllPlansLead c i (InDownloadBusy before block number passed)
download_busy_plans_lead c i before block number passed p asked.NotDfu body takes s asks v = absurd (false≢true v)
download_busy_plans_lead c i before block number passed p (asked.Dnload k len) [] takes s asks v =
    (stall_row_leads c p (asked.Dnload k len) [] (InDownloadBusy before block number passed) (InError ErrStalledPkt) asks v refl, tt)
download_busy_plans_lead c i before block number passed p q body takes s asks v =
    (stall_row_leads c p q body (InDownloadBusy before block number passed) (InError ErrStalledPkt) asks v refl, tt)

-- In dfuDNLOAD-IDLE, the plan of each request follows the standard's table.
download_idle_plans_lead : (c : Profile) (i : List ℕ) (taken : List ℕ) (number : ℕ) → AllPlansLead c i (InDownloadIdle taken number)
download_idle_plans_lead c i taken number p asked.NotDfu body takes s asks v = absurd (false≢true v)
download_idle_plans_lead c i taken number p (asked.Dnload k len) [] takes s asks v =
    holds_in_both_branches (PlanOutcomesLead c p (asked.Dnload k len) [] (InDownloadIdle taken number)) (nat_le c.least (length taken)) _ _
    (ack_row_leads c p (asked.Dnload k len) [] (InDownloadIdle taken number) (InManifestSync taken) Always asks v refl refl, tt)
    (stall_row_leads c p (asked.Dnload k len) [] (InDownloadIdle taken number) (InError ErrNotDone) asks v refl, tt)
download_idle_plans_lead c i taken number p (asked.Dnload k len) (x ∷ xs) takes s asks v =
    block_plan_leads c taken number (InDownloadIdle taken number) p k len x xs Always asks v refl refl refl
download_idle_plans_lead c i taken number p asked.Abort body takes s asks v =
    (ack_row_leads c p asked.Abort body (InDownloadIdle taken number) InDfuIdle Always asks v refl refl, tt)
download_idle_plans_lead c i taken number p (asked.GetStatus len) body takes s asks v =
    (getstatus_row_leads c p len body (InDownloadIdle taken number) (InDownloadIdle taken number) Always tt asks.1 refl refl, tt)
download_idle_plans_lead c i taken number p (asked.GetState len) body takes s asks v =
    (getstate_row_leads c p len body (InDownloadIdle taken number) asks.1 refl, tt)
download_idle_plans_lead c i taken number p q body takes s asks v =
    (stall_row_leads c p q body (InDownloadIdle taken number) (InError ErrStalledPkt) asks v refl, tt)

-- In dfuMANIFEST-SYNC before manifestation, the plan of each request follows the standard's table.
manifest_sync_plans_lead : (c : Profile) (i : List ℕ) (taken : List ℕ) → AllPlansLead c i (InManifestSync taken)
manifest_sync_plans_lead c i taken p asked.NotDfu body takes s asks v = absurd (false≢true v)
manifest_sync_plans_lead c i taken p (asked.GetStatus len) body takes s asks v =
    fact_of_branch (PlanOutcomesLead c p (asked.GetStatus len) body (InManifestSync taken)) (c.manifest == 0) _ _
    (λ at_once. let is_tolerant : c.tolerant ≡ true =
    true_from_ne_false c.tolerant (λ off. absurd (omega (arith, takes off, eqb-true _ _ at_once))) in (
      (
        getstatus_row_leads c p len body (InManifestSync taken) InDfuIdle Tolerant tt asks.1 refl
            ((attribute_bits_select_rows c.can_download c.can_upload c.tolerant c.will_detach).2 ∙ is_tolerant),
        tt,
      ),
      λ fault. getstatus_of_fault_leads c p len body (InManifestSync taken) (commit_code fault) (commit_code_allowed_in_error c fault)
          asks.1 refl,
    ))
    (λ later. (getstatus_row_leads c p len body (InManifestSync taken) (InManifest taken 0) Always tt asks.1 refl refl, tt))
manifest_sync_plans_lead c i taken p (asked.GetState len) body takes s asks v = (
  getstate_row_leads c p len body (InManifestSync taken)
      asks.1 refl,
  tt,
)
manifest_sync_plans_lead c i taken p (asked.Dnload k len) [] takes s asks v =
    (stall_row_leads c p (asked.Dnload k len) [] (InManifestSync taken) (InError ErrStalledPkt) asks v refl, tt)
manifest_sync_plans_lead c i taken p q body takes s asks v = (
  stall_row_leads c p q body (InManifestSync taken) (InError ErrStalledPkt)
      asks v refl,
  tt,
)

-- In dfuMANIFEST-SYNC after manifestation, the plan of each request follows the standard's table.
manifest_complete_plans_lead : (c : Profile) (i : List ℕ) → AllPlansLead c i InManifestSyncComplete
manifest_complete_plans_lead c i p asked.NotDfu body takes s asks v = absurd (false≢true v)
manifest_complete_plans_lead c i p (asked.GetStatus len) body takes s asks v = (
  getstatus_row_leads c p len body InManifestSyncComplete InDfuIdle Tolerant tt asks.1 refl
      ((attribute_bits_select_rows c.can_download c.can_upload c.tolerant c.will_detach).2 ∙ s),
  tt,
)
manifest_complete_plans_lead c i p (asked.GetState len) body takes s asks v = (
  getstate_row_leads c p len body InManifestSyncComplete
      asks.1 refl,
  s,
)
manifest_complete_plans_lead c i p (asked.Dnload k len) [] takes s asks v =
    (stall_row_leads c p (asked.Dnload k len) [] InManifestSyncComplete (InError ErrStalledPkt) asks v refl, tt)
manifest_complete_plans_lead c i p q body takes s asks v = (
  stall_row_leads c p q body InManifestSyncComplete (InError ErrStalledPkt) asks
      v refl,
  tt,
)

-- In dfuMANIFEST, the plan of each request follows the standard's table.
manifest_plans_lead : (c : Profile) (i : List ℕ) (taken : List ℕ) (passed : ℕ) → AllPlansLead c i (InManifest taken passed)
manifest_plans_lead c i taken passed p asked.NotDfu body takes s asks v = absurd (false≢true v)
manifest_plans_lead c i taken passed p (asked.Dnload k len) [] takes s asks v =
    (stall_row_leads c p (asked.Dnload k len) [] (InManifest taken passed) (InError ErrStalledPkt) asks v refl, tt)
manifest_plans_lead c i taken passed p q body takes s asks v = (
  stall_row_leads c p q body (InManifest taken passed) (InError
      ErrStalledPkt) asks v refl,
  tt,
)

-- In dfuMANIFEST-WAIT-RESET, the plan of each request follows the standard's table.
manifest_wait_reset_plans_lead : (c : Profile) (i : List ℕ) → AllPlansLead c i InManifestWaitReset
manifest_wait_reset_plans_lead c i p asked.NotDfu body takes s asks v = absurd (false≢true v)
manifest_wait_reset_plans_lead c i p (asked.Dnload k len) [] takes s asks v =
    (stall_row_leads c p (asked.Dnload k len) [] InManifestWaitReset InManifestWaitReset asks v refl, tt)
manifest_wait_reset_plans_lead c i p q body takes s asks v = (
  stall_row_leads c p q body InManifestWaitReset InManifestWaitReset asks v
      refl,
  tt,
)

-- In dfuUPLOAD-IDLE, the plan of each request follows the standard's table.
upload_idle_plans_lead : (c : Profile) (i : List ℕ) (at number : ℕ) → AllPlansLead c i (InUploadIdle at number)
upload_idle_plans_lead c i at number p asked.NotDfu body takes s asks v = absurd (false≢true v)
upload_idle_plans_lead c i at number p (asked.Upload k len) body takes s asks v =
    upload_plan_leads c i at number (InUploadIdle at number) p k len body s asks v refl refl refl
upload_idle_plans_lead c i at number p asked.Abort body takes s asks v =
    (ack_row_leads c p asked.Abort body (InUploadIdle at number) InDfuIdle Always asks v refl refl, tt)
upload_idle_plans_lead c i at number p (asked.GetStatus len) body takes s asks v =
    (getstatus_row_leads c p len body (InUploadIdle at number) (InUploadIdle at number) Always s asks.1 refl refl, s)
upload_idle_plans_lead c i at number p (asked.GetState len) body takes s asks v =
    (getstate_row_leads c p len body (InUploadIdle at number) asks.1 refl, s)
upload_idle_plans_lead c i at number p (asked.Dnload k len) [] takes s asks v =
    (stall_row_leads c p (asked.Dnload k len) [] (InUploadIdle at number) (InError ErrStalledPkt) asks v refl, tt)
upload_idle_plans_lead c i at number p q body takes s asks v = (
  stall_row_leads c p q body (InUploadIdle at number) (InError ErrStalledPkt)
      asks v refl,
  tt,
)

-- In dfuERROR, the plan of each request follows the standard's table.
error_plans_lead : (c : Profile) (i : List ℕ) (code : Code) → AllPlansLead c i (InError code)
error_plans_lead c i code p asked.NotDfu body takes s asks v = absurd (false≢true v)
error_plans_lead c i code p asked.ClrStatus body takes s asks v =
    (ack_row_leads c p asked.ClrStatus body (InError code) InDfuIdle Always asks v refl refl, tt)
error_plans_lead c i code p (asked.GetStatus len) body takes s asks v =
    (getstatus_row_leads c p len body (InError code) (InError code) Always s asks.1 refl refl, s)
error_plans_lead c i code p (asked.GetState len) body takes s asks v = (getstate_row_leads c p len body (InError code) asks.1 refl, s)
error_plans_lead c i code p (asked.Dnload k len) [] takes s asks v =
    (stall_row_leads c p (asked.Dnload k len) [] (InError code) (InError code) asks v refl, s)
error_plans_lead c i code p q body takes s asks v = (stall_row_leads c p q body (InError code) (InError code) asks v refl, s)

-- In each stage, the plan of each request follows the standard's table.
pub all_plans_lead : (c : Profile) (i : List ℕ) (st : Stage) → AllPlansLead c i st
all_plans_lead c i InAppIdle = app_idle_plans_lead c i
all_plans_lead c i (InAppDetach timer passed) = app_detach_plans_lead c i timer passed
all_plans_lead c i InDfuIdle = dfu_idle_plans_lead c i
all_plans_lead c i (InDownloadSync before block number) = download_sync_plans_lead c i before block number
all_plans_lead c i (InDownloadSyncWritten taken number) = written_sync_plans_lead c i taken number
all_plans_lead c i (InDownloadBusy before block number passed) = download_busy_plans_lead c i before block number passed
all_plans_lead c i (InDownloadIdle taken number) = download_idle_plans_lead c i taken number
all_plans_lead c i (InManifestSync taken) = manifest_sync_plans_lead c i taken
all_plans_lead c i InManifestSyncComplete = manifest_complete_plans_lead c i
all_plans_lead c i (InManifest taken passed) = manifest_plans_lead c i taken passed
all_plans_lead c i InManifestWaitReset = manifest_wait_reset_plans_lead c i
all_plans_lead c i (InUploadIdle at number) = upload_idle_plans_lead c i at number
all_plans_lead c i (InError code) = error_plans_lead c i code
