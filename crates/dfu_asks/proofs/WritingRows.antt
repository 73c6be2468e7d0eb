-- A row that writes is the due row; every other row makes no call of the slot store.
use Rattle.std.proofs.Common.{◌≡◌, inl, inr, ⊎_elim, ◌==◌, not, nat_le, nat_lt, max, Bool, true, false, IsTrue, ℕ, ◌+◌, [], List, length, take, drop, Some, None, refl, sym, ◌∙◌, ap, subst}
use Rattle.dfu_wire.specs.declared.setups.Setup.{Setup}
use Rattle.dfu_wire.specs.declared.requests.Request.{Request as Asked}
use Rattle.dfu_wire.specs.declared.requests.Request.TheVariants as asked
use Rattle.dfu_slots.specs.declared.fault.WriteFault.{WriteFault}
use Rattle.dfu_slots.specs.StoreView.{image_of, spare_of}
use Rattle.dfu_device.specs.declared.answer.Answer.{Answer}
use Rattle.dfu_device.specs.declared.answer.Answer.TheVariants as answer
use Rattle.dfu_device.specs.declared.device_state.DeviceState.{DeviceState}
use Rattle.dfu_device.specs.declared.config.Profile.{Profile as ProfileRead}
use Rattle.dfu_device.specs.declared.decision.Decision.{Decision}
use Rattle.dfu_device.specs.Stage.{Request, Dnload, Upload, GetStatus, GetState, Profile, Stage, InAppDetach, InDfuIdle, InDownloadSync, InDownloadBusy, InDownloadIdle, InManifestSync, InManifest, InUploadIdle}
use Rattle.dfu_device.specs.Table.{Plan, Sure, Writes, Commits, has_no_bytes, block_plan, upload_plan, plan, time_plan}
use Rattle.dfu_device.specs.DeviceView.{DeviceView, profile}
use Rattle.dfu_device.specs.Parts.{stage_of, are_device_parts}
use Rattle.dfu_device.specs.Rows.{Done, request_for_table, asked_length, is_served, setup_plan}
use Rattle.dfu_device.specs.Decision.{table_profile_of, plan_of, DecidesTime}
use Rattle.dfu_device.specs.Cases.{holds_in_both_branches}
use Rattle.dfu_device.proofs.PlanRows.{parts_have_time_inputs}
use Rattle.dfu_asks.specs.Due.{due_plan, PlanWorks, PlanFails, HoldsOfDueRow, IsStorelessPlan, IsStorelessOrDue, writes_on_request}
use Rattle.dfu_device.specs.Pace.{block_ms, image_ms}

-- The plan of a DNLOAD with data makes no call of the slot store.
block_plan_is_storeless : (c : Profile) (before : List ℕ) (expected number : ℕ) (body : List ℕ)
    → IsStorelessPlan (block_plan c before expected number body)
block_plan_is_storeless c before expected number body =
    holds_in_both_branches IsStorelessPlan (nat_lt c.transfer (length body)) _ _ tt
    (holds_in_both_branches IsStorelessPlan (not (number == expected)) _ _ tt
    (holds_in_both_branches IsStorelessPlan (nat_lt c.capacity (length before + length body)) _ _ tt tt))

-- The plan of an UPLOAD makes no call of the slot store.
upload_plan_is_storeless : (c : Profile) (image : List ℕ) (place expected number size : ℕ)
    → IsStorelessPlan (upload_plan c image place expected number size)
upload_plan_is_storeless c image place expected number size =
    holds_in_both_branches IsStorelessPlan (size == 0) _ _ tt
    (holds_in_both_branches IsStorelessPlan (nat_lt c.transfer size) _ _ tt
    (holds_in_both_branches IsStorelessPlan (not (number == expected)) _ _ tt
    (holds_in_both_branches IsStorelessPlan (nat_lt (length (take size (drop place image))) size) _ _ tt tt)))

-- The plan of a request that doesn't write makes no call of the slot store.
quiet_request_is_storeless : (c : Profile) (image : List ℕ) (st : Stage) (r : Request) → writes_on_request c st r ≡ false →
    IsStorelessPlan (plan c image st r)
quiet_request_is_storeless c image InDfuIdle (Dnload number body) off =
    holds_in_both_branches IsStorelessPlan (not c.can_download) _ _ tt
    (holds_in_both_branches IsStorelessPlan (has_no_bytes body) _ _ tt (block_plan_is_storeless c [] 0 number body))
quiet_request_is_storeless c image InDfuIdle (Upload number size) off = holds_in_both_branches IsStorelessPlan c.can_upload _ _
    (upload_plan_is_storeless c image 0 0 number size) tt
quiet_request_is_storeless c image (InDownloadSync before block number) GetStatus off = rw off tt
quiet_request_is_storeless c image (InDownloadIdle taken number) (Dnload k body) off =
    holds_in_both_branches IsStorelessPlan (has_no_bytes body) _ _
    (holds_in_both_branches IsStorelessPlan (nat_le c.least (length taken)) _ _ tt tt)
    (block_plan_is_storeless c taken number k body)
quiet_request_is_storeless c image (InManifestSync taken) GetStatus off = rw off tt
quiet_request_is_storeless c image (InUploadIdle place number) (Upload k size) off = upload_plan_is_storeless c image place number k size
quiet_request_is_storeless c image st GetState off = tt
quiet_request_is_storeless c image st r off = tt

-- The plan of a request makes no call of the slot store, unless it is the plan of the due row.
request_plan_is_storeless_or_due : (c : Profile) (image : List ℕ) (st : Stage) (q : Asked) (body : List ℕ)
    → IsStorelessOrDue (plan c image st (request_for_table q body)) c st (Some (asked_length q)) (asked_length q)
request_plan_is_storeless_or_due c image (InDownloadSync before block number) (asked.GetStatus len) body = by_time (c.busy == 0) refl
  where
    by_time : (b : Bool) → (c.busy == 0) ≡ b
        → IsStorelessOrDue (plan c image (InDownloadSync before block number) GetStatus) c (InDownloadSync before block number)
        (Some len) len
    by_time true on = inr (rw on refl, refl)
    by_time false off = inl (quiet_request_is_storeless c image (InDownloadSync before block number) GetStatus off)
request_plan_is_storeless_or_due c image (InManifestSync taken) (asked.GetStatus len) body = by_time (c.manifest == 0) refl
  where
    by_time : (b : Bool) → (c.manifest == 0) ≡ b
        → IsStorelessOrDue (plan c image (InManifestSync taken) GetStatus) c (InManifestSync taken) (Some len) len
    by_time true on = inr (rw on refl, refl)
    by_time false off = inl (quiet_request_is_storeless c image (InManifestSync taken) GetStatus off)
request_plan_is_storeless_or_due c image st q body = inl (quiet_request_is_storeless c image st (request_for_table q body) refl)

-- The plan of a setup makes no call of the slot store, unless it is the plan of the due row.
pub setup_plan_is_storeless_or_due : (w : DeviceView) (p : Setup) (q : Asked) (body : List ℕ)
    → IsStorelessOrDue (setup_plan w p q body) (profile w) w.stage (Some (asked_length q)) (asked_length q)
setup_plan_is_storeless_or_due w p q body =
    holds_in_both_branches (λ (z : Plan). IsStorelessOrDue z (profile w) w.stage (Some (asked_length q)) (asked_length q))
    (is_served p q body) _ _
    (request_plan_is_storeless_or_due (profile w) (image_of w.slots) w.stage q body) (inl tt)

-- The plan of elapsed time makes no call of the slot store, unless it is the plan of the due row.
pub time_plan_is_storeless_or_due : (c : Profile) (st : Stage) (ms : ℕ) → IsStorelessOrDue (time_plan c st ms) c st None 0
time_plan_is_storeless_or_due c (InAppDetach timer passed) ms =
    inl (holds_in_both_branches IsStorelessPlan (ms == 0) _ _ tt
    (holds_in_both_branches IsStorelessPlan c.will_detach _ _ tt
    (holds_in_both_branches IsStorelessPlan (nat_le (max 1 timer) (passed + ms)) _ _ tt tt)))
time_plan_is_storeless_or_due c (InDownloadBusy before block number passed) ms =
    holds_in_both_branches (λ p. IsStorelessOrDue p c (InDownloadBusy before block number passed) None 0) (ms == 0) _ _ (inl tt)
    (holds_in_both_branches (λ p. IsStorelessOrDue p c (InDownloadBusy before block number passed) None 0)
    (nat_le (block_ms c.pace c.busy (length before) (length block)) (passed + ms)) _ _
    (inr (refl, refl)) (inl tt))
time_plan_is_storeless_or_due c (InManifest taken passed) ms =
    holds_in_both_branches (λ p. IsStorelessOrDue p c (InManifest taken passed) None 0) (ms == 0) _ _ (inl tt)
    (holds_in_both_branches (λ p. IsStorelessOrDue p c (InManifest taken passed) None 0)
    (nat_le (image_ms c.pace c.manifest (length taken)) (passed + ms)) _ _ (inr (refl, refl)) (inl tt))
time_plan_is_storeless_or_due c st ms = inl tt

-- Every answer of the plan is an acknowledgement.
abbrev IsAcknowledgingPlan : Plan → Type 0
IsAcknowledgingPlan p = (len : ℕ) (w : DeviceView) (a : Answer) (out : List ℕ) (w' : DeviceView) → Done p len w a out w' → (a
    ≡ answer.Ack) × (out ≡ [])

-- The answer of the plan of elapsed time is an acknowledgement.
pub time_plan_acknowledges : (c : Profile) (st : Stage) (ms : ℕ) → IsAcknowledgingPlan (time_plan c st ms)
time_plan_acknowledges c (InAppDetach timer passed) ms =
    holds_in_both_branches IsAcknowledgingPlan (ms == 0) _ _ (λ len w a out w' d. d.0)
    (holds_in_both_branches IsAcknowledgingPlan c.will_detach _ _ (λ len w a out w' d. d.0)
    (holds_in_both_branches IsAcknowledgingPlan (nat_le (max 1 timer) (passed + ms)) _ _ (λ len w a out w' d. d.0)
    (λ len w a out w' d. d.0)))
time_plan_acknowledges c (InDownloadBusy before block number passed) ms =
    holds_in_both_branches IsAcknowledgingPlan (ms == 0) _ _ (λ len w a out w' d. d.0)
    (holds_in_both_branches IsAcknowledgingPlan (nat_le (block_ms c.pace c.busy (length before) (length block)) (passed + ms)) _ _
    (λ len w a out w' d.
    ⊎_elim (λ x. x.0) (λ x. x.1) d) (λ len w a out w' d. d.0))
time_plan_acknowledges c (InManifest taken passed) ms =
    holds_in_both_branches IsAcknowledgingPlan (ms == 0) _ _ (λ len w a out w' d. d.0)
    (holds_in_both_branches IsAcknowledgingPlan (nat_le (image_ms c.pace c.manifest (length taken)) (passed + ms)) _ _
    (λ len w a out w' d. ⊎_elim (λ
    x. x.0) (λ x. x.1) d)
    (λ len w a out w' d. d.0))
time_plan_acknowledges c st ms = λ len w a out w' d. d.0

-- `Done` holds for a plan whose writes all succeeded.
pub worked_plan_is_carried_out : (p : Plan) (len : ℕ) (w : DeviceView) (a : Answer) (out : List ℕ) (w' : DeviceView)
    → PlanWorks p len w a out w'
    → Done p len w a out w'
worked_plan_is_carried_out (Sure reply stage) len w a out w' none = absurd none
worked_plan_is_carried_out (Writes before block reply stage bad) len w a out w' done = inl done
worked_plan_is_carried_out (Commits taken reply stage bad) len w a out w' done = inl done

-- `Done` holds for a plan that a fault in a write broke off.
failed_plan_is_carried_out : (fault : WriteFault) (p : Plan) (len : ℕ) (w : DeviceView) (a : Answer) (out : List ℕ) (w' : DeviceView)
    → PlanFails fault p len w a out w' → Done p len w a out w'
failed_plan_is_carried_out fault (Sure reply stage) len w a out w' none = absurd none
failed_plan_is_carried_out fault (Writes before block reply stage bad) len w a out w' done = inr (fault, done.0, done.1)
failed_plan_is_carried_out fault (Commits taken reply stage bad) len w a out w' done = inr (fault, done.0, done.1)

-- If a plan equals that of the due row, `Done` holds for it with each result of the due row.
pub due_plan_is_due_row : (p : Plan) (len : ℕ) (w : DeviceView) → p ≡ due_plan (profile w) w.stage
    → HoldsOfDueRow len w (λ a out w'. Done p len w a out w')
due_plan_is_due_row p len w is = record {
  works =
      λ a out w' x. subst (λ (q : Plan). Done q len w a out w') (sym is)
      (worked_plan_is_carried_out (due_plan (profile w) w.stage) len w a out w' x);
  fails = λ fault a out w' x.
      subst (λ (q : Plan). Done q len w a out w') (sym is)
      (failed_plan_is_carried_out fault (due_plan (profile w) w.stage) len w a out w' x);
}

-- The plan of a decision on elapsed time is the plan of the state table for that time.
pub decision_on_time_is_row : (p : ProfileRead) (ms : ℕ) (m : DeviceState) (block : List ℕ) (d : Decision) (w : DeviceView) →
    table_profile_of p ≡ profile w
    → IsTrue (are_device_parts m (length block) w.slots) → w.stage ≡ stage_of m (spare_of w.slots) block
    → DecidesTime p m (length block) ms d
    → plan_of (profile w) (image_of w.slots) (spare_of w.slots) block [] d ≡ time_plan (profile w) w.stage ms
decision_on_time_is_row p ms m block d w same sound stage decides =
    let image = image_of w.slots in
    let spare = spare_of w.slots in
    subst (λ (c : Profile). plan_of c image spare block [] d ≡ time_plan c (stage_of m spare block) ms) same
    (decides image spare block (parts_have_time_inputs m block w.slots sound))
    ∙ ap (λ (st : Stage). time_plan (profile w) st ms) (sym stage)
