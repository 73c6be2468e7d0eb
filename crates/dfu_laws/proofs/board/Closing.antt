-- Rows that change the image: only an acknowledged DNLOAD of no bytes makes an image pending, and only a pending image becomes active.
use Rattle.std.specs.Prelude.{◌≡◌, ◌⊎◌, ℕ, ◌+◌, ◌==◌, ◌&&◌, nat_lt, nat_le, max, not, true, List, [], ◌∷◌, length, take, drop, slice_index}
use Rattle.std.proofs.Common.{inl, inr, refl, sym, ap, ◌∙◌, subst}
use Rattle.dfu_wire.specs.declared.setups.Setup.{Setup}
use Rattle.dfu_wire.specs.declared.requests.Request.{Request as Asked}
use Rattle.dfu_wire.specs.declared.requests.Request.TheVariants as asked
use Rattle.dfu_wire.specs.Setup.{IsSetup}
use Rattle.dfu_wire.specs.Request.{SetupAsksFor}
use Rattle.dfu_slots.specs.StoreView.{SlotsState, store_on, image_of}
use Rattle.dfu_device.specs.Pace.{block_ms, image_ms}
use Rattle.dfu_device.specs.declared.answer.Answer.{Answer}
use Rattle.dfu_device.specs.declared.objection.Objection.{Objection}
use Rattle.dfu_device.specs.declared.answer.Answer.TheVariants as answer
use Rattle.dfu_device.specs.Stage.{Request, Dnload, Upload, GetStatus, GetState, OtherRequest, Reply, Ack, Profile, Stage, InAppDetach, InDfuIdle, InDownloadSync, InDownloadBusy, InDownloadIdle, InManifestSync, InManifestSyncComplete, InManifest, InManifestWaitReset, InUploadIdle, InError}
use Rattle.dfu_device.specs.Table.{Plan, Sure, Writes, Commits, has_no_bytes, block_plan, next_dnload_plan, upload_plan, plan, time_plan, reset_stage, refuse_stage, commit_code}
use Rattle.dfu_device.specs.DeviceView.{DeviceView, profile, situation}
use Rattle.dfu_device.specs.Rows.{request_for_table, asked_length, ReplyAnswer, Done, is_served, setup_plan, handled_by_reading, Cause, Transfer, Passing, BusReset, RefusingClose, Refusing, PowerOn, Row}
use Rattle.dfu_device.specs.AcceptedBytes.{accepted_in, accepted_of, is_dnload}
use Rattle.dfu_device.specs.Cases.{holds_in_both_branches}
use Rattle.dfu_slots.specs.declared.fault.WriteFault.{WriteFault}
use Rattle.dfu_slots.specs.declared.fault.WriteFault.TheVariants.{Failed, NotVerified}
use Rattle.dfu_laws.specs.board.Accepts.{IsPending, IsAbandonedStage}

-- No image is pending in this stage, and a device does not enter this stage by giving up a pending image.
abbrev pub IsPlaced : Stage → Type 0
IsPlaced st = ((t : List ℕ) → IsPending st t → ⊥) × (IsAbandonedStage st → ⊥)

failed_commit_settles_image : (fault : WriteFault) → IsPlaced (InError (commit_code fault))
failed_commit_settles_image Failed = (λ t m. m, λ g. g)
failed_commit_settles_image NotVerified = (λ t m. m, λ g. g)

-- A pending image consists of all bytes of the download.
pub waiting_bytes_are_taken : (image : List ℕ) (st : Stage) (t : List ℕ) → IsPending st t → accepted_in image st ≡ t
waiting_bytes_are_taken image (InManifestSync taken) t m = m
waiting_bytes_are_taken image (InManifest taken passed) t m = m
waiting_bytes_are_taken image st t m = absurd m

-- The reply acknowledges a DNLOAD of no bytes.
abbrev ReplyClosesDownload : Request → Reply → Type 0
ReplyClosesDownload r reply = (reply ≡ Ack) × (number : ℕ) × (r ≡ Dnload number [])

-- An image is pending only if it was pending before, or the request closed the download of this image. Only a pending image is committed.
abbrev IsPendingOnlyIfClosed : List ℕ → Stage → Request → Plan → Type 0
IsPendingOnlyIfClosed image st r (Sure reply next) = (t : List ℕ) → IsPending next t → IsPending st t ⊎ (ReplyClosesDownload r reply
    × (t ≡ accepted_in image st))
IsPendingOnlyIfClosed image st r (Writes before block reply next bad) = (t : List ℕ) → IsPending next t → ⊥
IsPendingOnlyIfClosed image st r (Commits taken reply next bad) = IsPending st taken × IsPlaced next

block_plan_pending_if_closed : (c : Profile) (image : List ℕ) (st : Stage) (before : List ℕ) (expected number : ℕ) (body : List ℕ)
    → IsPendingOnlyIfClosed image st (Dnload number body) (block_plan c before expected number body)
block_plan_pending_if_closed c image st before expected number body =
    let P : Plan → Type 0 = IsPendingOnlyIfClosed image st (Dnload number body) in
    holds_in_both_branches P (nat_lt c.transfer (length body)) _ _ (λ t m. absurd m)
    (holds_in_both_branches P (not (number == expected)) _ _ (λ t m. absurd m)
    (holds_in_both_branches P (nat_lt c.capacity (length before + length body)) _ _ (λ t m. absurd m) (λ t m. absurd m)))

further_plan_pending_if_closed : (c : Profile) (image taken : List ℕ) (expected number : ℕ) (body : List ℕ)
    → IsPendingOnlyIfClosed image (InDownloadIdle taken expected) (Dnload number body) (next_dnload_plan c taken expected number body)
further_plan_pending_if_closed c image taken expected number [] =
    holds_in_both_branches (IsPendingOnlyIfClosed image (InDownloadIdle taken expected) (Dnload number []))
    (nat_le c.least (length taken)) _ _
    (λ t m. inr ((refl, number, refl), sym m)) (λ t m. absurd m)
further_plan_pending_if_closed c image taken expected number (b ∷ bs) =
    block_plan_pending_if_closed c image (InDownloadIdle taken expected) taken expected number (b ∷ bs)

upload_plan_leaves_no_new_image_pending : (c : Profile) (image : List ℕ) (st : Stage) (place expected number size : ℕ)
    → IsPendingOnlyIfClosed image st (Upload number size) (upload_plan c image place expected number size)
upload_plan_leaves_no_new_image_pending c image st place expected number size =
    let P : Plan → Type 0 = IsPendingOnlyIfClosed image st (Upload number size) in
    holds_in_both_branches P (size == 0) _ _ (λ t m. absurd m)
    (holds_in_both_branches P (nat_lt c.transfer size) _ _ (λ t m. absurd m)
    (holds_in_both_branches P (not (number == expected)) _ _ (λ t m. absurd m)
    (holds_in_both_branches P (nat_lt (length (take size (drop place image))) size) _ _ (λ t m. absurd m) (λ t m. absurd m))))

-- A request makes an image pending only if it closes the image's download.
request_plan_pending_if_closed : (c : Profile) (image : List ℕ) (st : Stage) (r : Request) →
    IsPendingOnlyIfClosed image st r (plan c image st r)
request_plan_pending_if_closed c image InDfuIdle (Dnload number body) =
    let P : Plan → Type 0 = IsPendingOnlyIfClosed image InDfuIdle (Dnload number body) in
    holds_in_both_branches P (not c.can_download) _ _ (λ t m. absurd m)
    (holds_in_both_branches P (has_no_bytes body) _ _ (λ t m. absurd m) (block_plan_pending_if_closed c image InDfuIdle [] 0 number body))
request_plan_pending_if_closed c image InDfuIdle (Upload number size) =
    holds_in_both_branches (IsPendingOnlyIfClosed image InDfuIdle (Upload number
    size)) c.can_upload _ _
    (upload_plan_leaves_no_new_image_pending c image InDfuIdle 0 0 number size) (λ t m. absurd m)
request_plan_pending_if_closed c image (InDownloadSync before block number) GetStatus =
    holds_in_both_branches (IsPendingOnlyIfClosed image (InDownloadSync before block number) GetStatus) (c.busy == 0) _ _ (λ t m. absurd m)
    (λ t m.
    absurd m)
request_plan_pending_if_closed c image (InDownloadIdle taken number) (Dnload k body) = further_plan_pending_if_closed c image taken number
    k body
request_plan_pending_if_closed c image (InManifestSync taken) GetStatus =
    holds_in_both_branches (IsPendingOnlyIfClosed image (InManifestSync taken) GetStatus) (c.manifest == 0) _ _ (refl, (λ t m. m, λ g. g))
    (λ t m. inl
    m)
request_plan_pending_if_closed c image (InManifestSync taken) GetState = λ t m. inl m
request_plan_pending_if_closed c image (InUploadIdle place number) (Upload k size) = upload_plan_leaves_no_new_image_pending c image
    (InUploadIdle place number) place number k size
request_plan_pending_if_closed c image st GetState = λ t m. absurd m
request_plan_pending_if_closed c image st r = λ t m. absurd m

-- The passing of time makes no image pending.
time_plan_pending_if_closed : (c : Profile) (image : List ℕ) (st : Stage) (ms : ℕ) →
    IsPendingOnlyIfClosed image st OtherRequest (time_plan c st ms)
time_plan_pending_if_closed c image (InAppDetach timer passed) ms =
    let P : Plan → Type 0 = IsPendingOnlyIfClosed image (InAppDetach timer passed) OtherRequest in
    holds_in_both_branches P (ms == 0) _ _ (λ t m. absurd m)
    (holds_in_both_branches P c.will_detach _ _ (λ t m. absurd m)
    (holds_in_both_branches P (nat_le (max 1 timer) (passed + ms)) _ _ (λ t m. absurd m) (λ t m. absurd m)))
time_plan_pending_if_closed c image (InDownloadBusy before block number passed) ms =
    let P : Plan → Type 0 = IsPendingOnlyIfClosed image (InDownloadBusy before block number passed) OtherRequest in
    holds_in_both_branches P (ms == 0) _ _ (λ t m. absurd m)
    (holds_in_both_branches P (nat_le (block_ms c.pace c.busy (length before) (length block)) (passed + ms)) _ _ (λ t m. absurd m)
    (λ t m. absurd m))
time_plan_pending_if_closed c image (InManifest taken passed) ms =
    let P : Plan → Type 0 = IsPendingOnlyIfClosed image (InManifest taken passed) OtherRequest in
    holds_in_both_branches P (ms == 0) _ _ (λ t m. inl m)
    (holds_in_both_branches P (nat_le (image_ms c.pace c.manifest (length taken)) (passed + ms)) _ _
    (holds_in_both_branches
    (λ (next : Stage). P (Commits taken Ack next (λ fault. Ack))) c.tolerant InManifestSyncComplete InManifestWaitReset
    (refl, (λ t m. m, λ g. g)) (refl, (λ t m. m, λ g. g)))
    (λ t m. inl m))
time_plan_pending_if_closed c image (InManifestSync taken) ms = λ t m. inl m
time_plan_pending_if_closed c image st ms = λ t m. absurd m

-- The cause is a DNLOAD of no bytes, and its answer is an acknowledgement.
abbrev pub IsClosingAnswer : Cause → Answer → List ℕ → Type 0
IsClosingAnswer cause a out =
    (setup : List ℕ) × (cause ≡ Transfer setup []) × (is_dnload setup ≡ true) × (a ≡ answer.Ack) × (out ≡ [])

-- If an image is pending after a row, it was pending before, or the row closed the download of this image. The active image is unchanged,
-- or is the image that was pending.
pub record RowImageOutcome (w : DeviceView) (cause : Cause) (a : Answer) (out : List ℕ) (w' : DeviceView) : Type 0 where
  pub waits : (t : List ℕ) → IsPending w'.stage t → IsPending w.stage t ⊎ (IsClosingAnswer cause a out × (t ≡ accepted_of (situation w)))
  pub image : (image_of w'.slots ≡ image_of w.slots) ⊎ IsPending w.stage (image_of w'.slots)
  pub placed : (image_of w'.slots ≡ image_of w.slots) ⊎ IsPlaced w'.stage

-- If `request_for_table` gives a DNLOAD of no bytes, the request is a DNLOAD and its body is empty.
empty_dnload_has_no_body : (q : Asked) (body : List ℕ) (number : ℕ) → request_for_table q body ≡ Dnload number []
    → (block : ℕ) × (len : ℕ) × (q ≡ asked.Dnload block len) × (body ≡ [])
empty_dnload_has_no_body (asked.Dnload block len) body number e = (block, len, refl, cc)
empty_dnload_has_no_body (asked.Detach timeout) body number e = absurd (cc)
empty_dnload_has_no_body (asked.Upload block len) body number e = absurd (cc)
empty_dnload_has_no_body (asked.GetStatus len) body number e = absurd (cc)
empty_dnload_has_no_body asked.ClrStatus body number e = absurd (cc)
empty_dnload_has_no_body (asked.GetState len) body number e = absurd (cc)
empty_dnload_has_no_body asked.Abort body number e = absurd (cc)
empty_dnload_has_no_body asked.OtherClass body number e = absurd (cc)
empty_dnload_has_no_body asked.NotDfu body number e = absurd (cc)

dnload_request_is_dnload_setup : (p : Setup) (block len : ℕ) (setup : List ℕ) → IsSetup p setup → SetupAsksFor p (asked.Dnload block len)
    → is_dnload setup ≡ true
dnload_request_is_dnload_setup p block len setup reads asks =
    let first : slice_index setup 0 ≡ 0x21 = sym reads.kind ∙ asks.0.kind in
    let second : slice_index setup 1 ≡ 1 = sym reads.request ∙ asks.0.request in
    λ i. (first i == 0x21) && (second i == 1)

acked_reply_is_ack : (len : ℕ) (reply : Reply) (a : Answer) (out : List ℕ) → reply ≡ Ack → ReplyAnswer len reply a out → (a ≡ answer.Ack)
    × (out ≡ [])
acked_reply_is_ack len reply a out is says = subst (λ (x : Reply). ReplyAnswer len x a out) is says

-- If a plan satisfies `IsPendingOnlyIfClosed`, a row that carries out the plan satisfies `RowImageOutcome`.
done_plan_leads_image : (p : Plan) (r : Request) (cause : Cause) (len : ℕ) (w : DeviceView) (a : Answer) (out : List ℕ) (w' : DeviceView)
    → IsPendingOnlyIfClosed (image_of w.slots) w.stage r p → Done p len w a out w'
    → ((number : ℕ) → r ≡ Dnload number [] → (a ≡ answer.Ack) × (out ≡ []) → IsClosingAnswer cause a out) → RowImageOutcome w cause a out w'
done_plan_leads_image (Sure reply stage) r cause len w a out w' closes (says, is) by = record {
  waits = λ t m. elim (closes t (subst (λ (x : DeviceView). IsPending x.stage t) is m)) [
    | inl before ↦ inl before
    | inr closed ↦ inr (by closed.0.1 closed.0.2 (acked_reply_is_ack len reply a out closed.0.0 says), closed.1)
  ];
  image = inl (ap (λ (x : DeviceView). image_of x.slots) is);
  placed = inl (ap (λ (x : DeviceView). image_of x.slots) is);
}
done_plan_leads_image (Writes before block reply stage bad) r cause len w a out w' closes (inl (says, h)) by = record {
  waits = λ t m. absurd (closes t (subst (λ (x : Stage). IsPending x t) h.stage_is m));
  image = inl h.image;
  placed = inl h.image;
}
done_plan_leads_image (Writes before block reply stage bad) r cause len w a out w' closes (inr (fault, says, h)) by = record {
  waits = λ t m. absurd (subst (λ (x : Stage). IsPending x t) h.stage_is m);
  image = inl h.image;
  placed = inl h.image;
}
done_plan_leads_image (Commits taken reply stage bad) r cause len w a out w' closes (inl (says, h)) by = record {
  waits = λ t m. absurd (closes.1.0 t (subst (λ (x : Stage). IsPending x t) h.stage_is m));
  image = inr (subst (λ (t : List ℕ). IsPending w.stage t) (sym h.image) closes.0);
  placed = inr (subst IsPlaced (sym h.stage_is) closes.1);
}
done_plan_leads_image (Commits taken reply stage bad) r cause len w a out w' closes (inr (fault, says, h)) by = record {
  waits = λ t m. absurd (subst (λ (x : Stage). IsPending x t) h.stage_is m);
  image = elim (h.image) [
    | inl old ↦ inl old
    | inr new ↦ inr (subst (λ (t : List ℕ). IsPending w.stage t) (sym new) closes.0)
  ];
  placed = inr (subst IsPlaced (sym h.stage_is) (failed_commit_settles_image fault));
}

setup_plan_pending_if_closed : (w : DeviceView) (p : Setup) (q : Asked) (body : List ℕ)
    → IsPendingOnlyIfClosed (image_of w.slots) w.stage (request_for_table q body) (setup_plan w p q body)
setup_plan_pending_if_closed w p q body =
    holds_in_both_branches (IsPendingOnlyIfClosed (image_of w.slots) w.stage (request_for_table q body))
    (is_served p q body) _ _
    (request_plan_pending_if_closed (profile w) (image_of w.slots) w.stage (request_for_table q body)) (λ t m. inl m)

nothing_pending_after_reset : (st : Stage) (t : List ℕ) → IsPending (reset_stage st) t → ⊥
nothing_pending_after_reset (InAppDetach timer passed) t m = m
nothing_pending_after_reset st t m = m

pending_after_refusal_was_before : (why : Objection) (st : Stage) (t : List ℕ) → IsPending (refuse_stage why st) t → IsPending st t
pending_after_refusal_was_before why (InManifestSync taken) t m = absurd m
pending_after_refusal_was_before why (InManifest taken passed) t m = absurd m
pending_after_refusal_was_before why st t m = m

-- Reopening a store does not change its image.
pub reopened_store_keeps_image : (s : SlotsState) → image_of (store_on s.medium) ≡ image_of s
unfolding image_of
reopened_store_keeps_image s = refl

-- Each row satisfies `RowImageOutcome`.
pub row_has_image_outcome : (w : DeviceView) (cause : Cause) (a : Answer) (out : List ℕ) (w' : DeviceView) → Row w cause a out w'
    → RowImageOutcome w cause a out w'
row_has_image_outcome w (Transfer setup body) a out w' (handled_by_reading p q reads asks done) =
    done_plan_leads_image (setup_plan w p q body) (request_for_table q body) (Transfer setup body) (asked_length q) w a out w'
    (setup_plan_pending_if_closed w p q body) done
    (λ number e acks.
    let is = empty_dnload_has_no_body q body number e in (
      setup,
      ap (λ (l : List ℕ). Transfer setup l) is.3,
      dnload_request_is_dnload_setup p is.0 is.1 setup reads (subst (λ (x : Asked). SetupAsksFor p x) is.2 asks),
      acks.0,
      acks.1,
    ))
row_has_image_outcome w (Passing ms) a out w' (is, none, row) =
    subst (λ (x : Answer). RowImageOutcome w (Passing ms) x out w') (sym is)
    (subst (λ (l : List ℕ). RowImageOutcome w (Passing ms) answer.Ack l w') (sym none)
    (done_plan_leads_image (time_plan (profile w) w.stage ms) OtherRequest (Passing ms) 0 w answer.Ack [] w'
    (time_plan_pending_if_closed (profile w) (image_of w.slots) w.stage ms) row (λ number e acks. absurd (cc))))
row_has_image_outcome w BusReset a out w' (is, none, same) = record {
  waits = λ t m. absurd (nothing_pending_after_reset w.stage t (subst (λ (x : DeviceView). IsPending x.stage t) same m));
  image = inl (ap (λ (x : DeviceView). image_of x.slots) same);
  placed = inl (ap (λ (x : DeviceView). image_of x.slots) same);
}
row_has_image_outcome w (RefusingClose setup why) a out w' (is, none, closes, same) = record {
  waits = λ t m. absurd (subst (λ (x : DeviceView). IsPending x.stage t) same m);
  image = inl (ap (λ (x : DeviceView). image_of x.slots) same);
  placed = inl (ap (λ (x : DeviceView). image_of x.slots) same);
}
row_has_image_outcome w (Refusing why) a out w' (is, none, same) = record {
  waits = λ t m. inl (pending_after_refusal_was_before why w.stage t (subst (λ (x : DeviceView). IsPending x.stage t) same m));
  image = inl (ap (λ (x : DeviceView). image_of x.slots) same);
  placed = inl (ap (λ (x : DeviceView). image_of x.slots) same);
}
row_has_image_outcome w PowerOn a out w' (is, none, same) = record {
  waits = λ t m. absurd (subst (λ (x : DeviceView). IsPending x.stage t) same m);
  image = inl (ap (λ (x : DeviceView). image_of x.slots) same ∙ reopened_store_keeps_image w.slots);
  placed = inl (ap (λ (x : DeviceView). image_of x.slots) same ∙ reopened_store_keeps_image w.slots);
}
