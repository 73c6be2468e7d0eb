-- The five forms of a row of the table. With them a proof about all rows has five cases, instead of one case for each state and request.
use Rattle.std.specs.Prelude.{◌≡◌, ℕ, ◌+◌, ◌==◌, ◌≤◌, nat_lt, nat_le, max, true, not, List, [], ◌∷◌, ◌++◌, length, take, drop}
use Rattle.std.proofs.Common.{refl, arith}
use Rattle.std.proofs.lemmas.Bool.{cond_both, ltb-false}
use Rattle.std.proofs.lemmas.List.{length-take}
use Rattle.dfu_wire.specs.declared.codes.Code.{Code}
use Rattle.dfu_wire.specs.declared.codes.Code.TheVariants.{Address as ErrAddress, NotDone as ErrNotDone, StalledPkt as ErrStalledPkt}
use Rattle.dfu_slots.specs.declared.fault.WriteFault.{WriteFault}
use Rattle.dfu_device.specs.Pace.{block_ms, image_ms}
use Rattle.dfu_device.specs.Stage.{Request, Dnload, Upload, GetStatus, ClrStatus, GetState, OtherRequest, Reply, Ack, StatusOf, StateOf, Data, Stall, Profile, Stage, InAppDetach, InDfuIdle, InDownloadSync, InDownloadBusy, InDownloadIdle, InManifestSync, InManifestSyncComplete, InManifest, InManifestWaitReset, InUploadIdle, InError, state_of}
use Rattle.dfu_device.specs.Table.{Plan, Sure, Writes, Commits, ack_plan, error_plan, has_no_bytes, block_plan, next_dnload_plan, upload_plan, plan, time_plan}
use Rattle.dfu_device.specs.Outcome.{Situation, Luck, Works, FailsOld, FailsNew, plan_outcome}
use Rattle.dfu_device.specs.DeviceView.{written_bytes_in}
use Rattle.dfu_device.specs.AcceptedBytes.{accepted_in, accepted_of, accepted_in_state}
use Rattle.dfu_device.specs.Sent.{sent_in, sent_of, sent_in_state}
use Rattle.dfu_device.specs.Errors.{IsMediumError}
use Rattle.dfu_device.specs.Cases.{holds_in_both_branches}

-- Definitions and lemmas about the replies that a plan may give.

-- The property P holds for each reply that a plan may give.
abbrev pub HoldsForEachReply : (Reply → Type 0) → Plan → Type 0
HoldsForEachReply P (Sure reply stage) = P reply
HoldsForEachReply P (Writes before block reply stage bad) = P reply × ((fault : WriteFault) → P (bad fault))
HoldsForEachReply P (Commits taken reply stage bad) = P reply × ((fault : WriteFault) → P (bad fault))

-- If a property holds for each reply that a plan may give, it holds for the reply in each outcome of the plan.
pub reply_of_plan : (P : Reply → Type 0) (image : List ℕ) (p : Plan) (luck : Luck) → HoldsForEachReply P p
    → P (plan_outcome image p luck).reply
reply_of_plan P image (Sure reply stage) luck each = each
reply_of_plan P image (Writes before block reply stage bad) Works each = each.0
reply_of_plan P image (Writes before block reply stage bad) (FailsOld fault) each = each.1 fault
reply_of_plan P image (Writes before block reply stage bad) (FailsNew fault) each = each.1 fault
reply_of_plan P image (Commits taken reply stage bad) Works each = each.0
reply_of_plan P image (Commits taken reply stage bad) (FailsOld fault) each = each.1 fault
reply_of_plan P image (Commits taken reply stage bad) (FailsNew fault) each = each.1 fault

-- The request may receive a reply of this kind, and the reply sends at most `most` bytes of an image.
abbrev pub ReplyMatches : ℕ → Reply → Request → Type 0
ReplyMatches most Stall r = Unit {0}
ReplyMatches most Ack GetStatus = ⊥
ReplyMatches most Ack GetState = ⊥
ReplyMatches most Ack (Upload number size) = ⊥
ReplyMatches most Ack r = Unit {0}
ReplyMatches most (StatusOf code poll state) GetStatus = Unit {0}
ReplyMatches most (StateOf state) GetState = Unit {0}
ReplyMatches most (Data bytes) (Upload number size) = length bytes ≤ most
ReplyMatches most reply r = ⊥

-- The reply is quiet: it acknowledges no block and sends no piece of the image.
abbrev pub IsQuietReply : Reply → Request → Type 0
IsQuietReply (Data bytes) r = ⊥
IsQuietReply Ack (Dnload number body) = ⊥
IsQuietReply reply r = Unit {0}

-- The reply is quiet, and the request may receive a reply of this kind.
abbrev pub QuietReplyMatches : ℕ → Request → Reply → Type 0
QuietReplyMatches most r reply = ReplyMatches most reply r × IsQuietReply reply r

-- If each reply that a plan may give is quiet, the reply in each outcome of the plan is quiet.
pub quiet_plan_gives_quiet_reply : (c : Profile) (image : List ℕ) (r : Request) (p : Plan) (luck : Luck)
    → HoldsForEachReply (QuietReplyMatches c.transfer r) p
    → IsQuietReply (plan_outcome image p luck).reply r
quiet_plan_gives_quiet_reply c image r p luck each = (reply_of_plan (QuietReplyMatches c.transfer r) image p luck each).1

-- Definitions for the effects of a plan on the slot store and the stage.

-- A plan calls the slot store only for the accepted bytes: it writes the last block after the written bytes, or commits the accepted bytes.
abbrev pub CallsStoreFor : (written taken : List ℕ) → Plan → Type 0
CallsStoreFor w x (Sure reply stage) = Unit {0}
CallsStoreFor w x (Writes before block reply stage bad) = (before ≡ w) × (before ++ block ≡ x)
CallsStoreFor w x (Commits taken reply stage bad) = taken ≡ x

-- If all writes work, a plan leads to a medium error (IsMediumError) only if the stage before the plan was already a medium error.
abbrev pub EndsInNoMediumError : Stage → Plan → Type 0
EndsInNoMediumError st p = IsMediumError (plan_outcome [] p Works).after.stage → IsMediumError st

-- In situation s the accepted bytes are those of the stage `st` before it, or none outside a download. The sent bytes are those of the
-- stage before it, or none outside an upload.
abbrev pub KeepsTransferredBytes : List ℕ → Stage → Situation → Type 0
KeepsTransferredBytes image st s =
    (accepted_of s ≡ accepted_in_state (state_of s.stage) (accepted_in image st))
    × (sent_of s ≡ sent_in_state (state_of s.stage) (sent_in image st))

-- If a plan keeps the accepted and sent bytes when all writes work, it also keeps them when a write fails.
pub counted : (image : List ℕ) (st : Stage) (p : Plan) (luck : Luck) → KeepsTransferredBytes image st (plan_outcome image p Works).after
    → KeepsTransferredBytes image st (plan_outcome image p luck).after
counted image st (Sure reply stage) luck on = on
counted image st (Writes before block reply stage bad) Works on = on
counted image st (Commits taken reply stage bad) Works on = on
counted image st p luck on = (refl, refl)

-- Definition of the forms of a row, and lemmas about them.

-- Form of a row of the table with this stage, request and plan.
pub data RowForm (c : Profile) (image : List ℕ) : Stage → Request → Plan → Type 0 where
  -- In a quiet row the device accepts no block and sends no piece; it may write the last block, or commit the accepted bytes.
  quiet : {st : Stage} {r : Request} {p : Plan} → HoldsForEachReply (QuietReplyMatches c.transfer r) p
      → CallsStoreFor (written_bytes_in st) (accepted_in image st) p → EndsInNoMediumError st p
      → KeepsTransferredBytes image st (plan_outcome image p Works).after
      → RowForm c image st r p
  -- The device accepts a block after the bytes accepted before.
  takes : {st : Stage} {body : List ℕ} {number next : ℕ}
      → RowForm c image st (Dnload number body) (ack_plan (InDownloadSync (accepted_in image st) body next))
  -- The host closes the download with a DNLOAD of no bytes.
  closes : {taken : List ℕ} {number k : ℕ} → RowForm c image (InDownloadIdle taken number) (Dnload k []) (ack_plan (InManifestSync taken))
  -- The device sends the next bytes of the image, at most wLength, and enters dfuUPLOAD-IDLE.
  sends : {st : Stage} (place : ℕ) {next number : ℕ} (size : ℕ) → sent_in image st ≡ take place image → size ≤ c.transfer
      → RowForm c image st (Upload number size) (Sure (Data (take size (drop place image))) (InUploadIdle (place + size) next))
  -- The device sends the last piece, which is shorter than wLength, and enters dfuIDLE.
  ends : {st : Stage} (place : ℕ) {number : ℕ} (size : ℕ) → sent_in image st ≡ take place image → size ≤ c.transfer
      → nat_lt (length (take size (drop place image))) size ≡ true
      → RowForm c image st (Upload number size) (Sure (Data (take size (drop place image))) InDfuIdle)

-- The plan of an error has one of the five forms, unless its code reports a failure of the medium.
error_plan_has_form : (c : Profile) (image : List ℕ) (st : Stage) (r : Request) (code : Code) → (IsMediumError (InError code) → ⊥)
    → RowForm c image st r (error_plan code)
error_plan_has_form c image st r code own = quiet (tt, tt) tt (λ y. absurd (own y)) (refl, refl)

-- The plan of a DNLOAD with wLength over 0 has one of the five forms.
block_plan_has_form : (c : Profile) (image : List ℕ) (st : Stage) (expected number : ℕ) (body : List ℕ)
    → RowForm c image st (Dnload number body) (block_plan c (accepted_in image st) expected number body)
block_plan_has_form c image st expected number body =
    let P : Plan → Type 0 = RowForm c image st (Dnload number body) in
    holds_in_both_branches P (nat_lt c.transfer (length body)) _ _ (error_plan_has_form c image st _ ErrStalledPkt (λ y. y))
    (holds_in_both_branches P (not (number == expected)) _ _ (error_plan_has_form c image st _ ErrAddress (λ y. y))
    (holds_in_both_branches P (nat_lt c.capacity (length (accepted_in image st) + length body)) _ _
    (error_plan_has_form c image st _ ErrAddress (λ y.
    y)) takes))

-- The plan of a DNLOAD in dfuDNLOAD-IDLE has one of the five forms.
next_dnload_plan_has_form : (c : Profile) (image taken : List ℕ) (expected number : ℕ) (body : List ℕ)
    → RowForm c image (InDownloadIdle taken expected) (Dnload number body) (next_dnload_plan c taken expected number body)
next_dnload_plan_has_form c image taken expected number [] =
    holds_in_both_branches (RowForm c image (InDownloadIdle taken expected) (Dnload number [])) (nat_le c.least (length taken)) _ _ closes
    (error_plan_has_form c image _ _ ErrNotDone (λ y. y))
next_dnload_plan_has_form c image taken expected number (b ∷ bs) =
    block_plan_has_form c image (InDownloadIdle taken expected) expected number
    (b ∷ bs)

-- The plan of an UPLOAD has one of the five forms.
upload_plan_has_form : (c : Profile) (image : List ℕ) (st : Stage) (place expected number size : ℕ) → sent_in image st ≡ take place image
    → RowForm c image st (Upload number size) (upload_plan c image place expected number size)
upload_plan_has_form c image st place expected number size is =
    let P : Plan → Type 0 = RowForm c image st (Upload number size) in
    holds_in_both_branches P (size == 0) _ _ (error_plan_has_form c image st _ ErrStalledPkt (λ y. y))
    (cond_both (nat_lt c.transfer size) _ _ P (λ large. error_plan_has_form c image st _ ErrStalledPkt (λ y. y)) (λ small.
    holds_in_both_branches P (not (number == expected)) _ _ (error_plan_has_form c image st _ ErrAddress (λ y. y))
    (cond_both (nat_lt (length (take size (drop place image))) size) _ _ P
    (λ short. ends place size is (ltb-false c.transfer size small) short) (λ full. sends place size is (ltb-false c.transfer size small)))))

-- Each row has one of the five forms. The last equation covers all other rows: in these the device accepts no block, sends no piece and
-- doesn't call the store. GETSTATE has its own equation before the last one, so that the last one is checked for each request.
pub row_form : (c : Profile) (image : List ℕ) (st : Stage) (r : Request) → RowForm c image st r (plan c image st r)
row_form c image InDfuIdle (Dnload number body) =
    let P : Plan → Type 0 = RowForm c image InDfuIdle (Dnload number body) in
    holds_in_both_branches P (not c.can_download) _ _ (error_plan_has_form c image _ _ ErrStalledPkt (λ y. y))
    (holds_in_both_branches P (has_no_bytes body) _ _ (error_plan_has_form c image _ _ ErrStalledPkt (λ y. y))
    (block_plan_has_form c image InDfuIdle 0
    number body))
row_form c image InDfuIdle (Upload number size) = holds_in_both_branches (RowForm c image InDfuIdle (Upload number size)) c.can_upload _ _
    (upload_plan_has_form c image InDfuIdle 0 0 number size refl) (error_plan_has_form c image _ _ ErrStalledPkt (λ y. y))
row_form c image (InDownloadSync before block number) GetStatus =
    holds_in_both_branches (RowForm c image (InDownloadSync before block number) GetStatus) (c.busy == 0) _ _
    (quiet ((tt, tt), λ fault. (tt, tt)) (refl, refl) (λ y. absurd y) (refl, refl)) (quiet (tt, tt) tt (λ y. absurd y) (refl, refl))
row_form c image (InDownloadIdle taken number) (Dnload k body) = next_dnload_plan_has_form c image taken number k body
row_form c image (InManifestSync taken) GetStatus =
    holds_in_both_branches (RowForm c image (InManifestSync taken) GetStatus) (c.manifest == 0) _ _
    (quiet ((tt, tt), λ fault. (tt, tt)) refl (λ y. absurd y) (refl, refl)) (quiet (tt, tt) tt (λ y. absurd y) (refl, refl))
row_form c image (InUploadIdle place number) (Upload k size) = upload_plan_has_form c image (InUploadIdle place number) place number k size
    refl
row_form c image (InError code) ClrStatus = quiet (tt, tt) tt (λ y. absurd y) (refl, refl)
row_form c image (InError code) r = quiet (tt, tt) tt (λ y. y) (refl, refl)
row_form c image st GetState = quiet (tt, tt) tt (λ y. absurd y) (refl, refl)
row_form c image st r = quiet (tt, tt) tt (λ y. absurd y) (refl, refl)

-- Each row of elapsed time has one of the five forms.
pub time_plan_has_form : (c : Profile) (image : List ℕ) (st : Stage) (ms : ℕ) → RowForm c image st OtherRequest (time_plan c st ms)
time_plan_has_form c image (InAppDetach timer passed) ms =
    let P : Plan → Type 0 = RowForm c image (InAppDetach timer passed) OtherRequest in
    holds_in_both_branches P (ms == 0) _ _ (quiet (tt, tt) tt (λ y. absurd y) (refl, refl))
    (holds_in_both_branches P c.will_detach _ _ (quiet (tt, tt) tt (λ y. absurd y) (refl, refl))
    (holds_in_both_branches P (nat_le (max 1 timer) (passed + ms)) _ _ (quiet (tt, tt) tt (λ y. absurd y) (refl, refl))
    (quiet (tt, tt) tt (λ y. absurd y) (refl, refl))))
time_plan_has_form c image (InDownloadBusy before block number passed) ms =
    let P : Plan → Type 0 = RowForm c image (InDownloadBusy before block number passed) OtherRequest in
    holds_in_both_branches P (ms == 0) _ _ (quiet (tt, tt) tt (λ y. absurd y) (refl, refl))
    (holds_in_both_branches P (nat_le (block_ms c.pace c.busy (length before) (length block)) (passed + ms)) _ _ (quiet ((tt, tt), λ fault. (tt, tt)) (refl, refl) (λ y. absurd y) (refl, refl))
    (quiet (tt, tt) tt (λ y. absurd y) (refl, refl)))
time_plan_has_form c image (InManifest taken passed) ms =
    let P : Plan → Type 0 = RowForm c image (InManifest taken passed) OtherRequest in
    holds_in_both_branches P (ms == 0) _ _ (quiet (tt, tt) tt (λ y. absurd y) (refl, refl))
    (holds_in_both_branches P (nat_le (image_ms c.pace c.manifest (length taken)) (passed + ms)) _ _
    (holds_in_both_branches
    (λ (next : Stage). P (Commits taken Ack next (λ fault. Ack))) c.tolerant InManifestSyncComplete InManifestWaitReset
    (quiet ((tt, tt), λ fault. (tt, tt)) refl (λ y. absurd y) (refl, refl))
    (quiet ((tt, tt), λ fault. (tt, tt)) refl (λ y. absurd y) (refl, refl)))
    (quiet (tt, tt) tt (λ y. absurd y) (refl, refl)))
time_plan_has_form c image (InError code) ms = quiet (tt, tt) tt (λ y. y) (refl, refl)
time_plan_has_form c image st ms = quiet (tt, tt) tt (λ y. absurd y) (refl, refl)

-- If a plan has one of the five forms, the request may receive each reply that the plan may give.
pub row_reply_matches_request : (c : Profile) (image : List ℕ) (st : Stage) (r : Request) (p : Plan) → RowForm c image st r p
    → HoldsForEachReply (λ reply. ReplyMatches c.transfer reply r) p
row_reply_matches_request c image st r p (quiet replies calls well counts) = each p replies
  where
    each : (p : Plan) → HoldsForEachReply (QuietReplyMatches c.transfer r) p
        → HoldsForEachReply (λ reply. ReplyMatches c.transfer reply r) p
    each (Sure reply next) replies = replies.0
    each (Writes before block reply next bad) replies = (replies.0.0, λ fault. (replies.1 fault).0)
    each (Commits taken reply next bad) replies = (replies.0.0, λ fault. (replies.1 fault).0)
row_reply_matches_request c image st r p takes = tt
row_reply_matches_request c image st r p closes = tt
row_reply_matches_request c image st r p (sends place size is small) = omega (arith, small, length-take size (drop place image))
row_reply_matches_request c image st r p (ends place size is small short) = omega (arith, small, length-take size (drop place image))
