-- The device table puts an image in place only if the image waited before.
use Rattle.std.proofs.Common.{◌⊎◌, inl, inr, ℕ, ◌+◌, ◌==◌, nat_lt, nat_le, max, not, List, [], ◌∷◌, length, take, drop, Option, Some, None, refl}
use Rattle.dfu_device.specs.Pace.{block_ms, image_ms}
use Rattle.dfu_device.specs.declared.objection.Objection.{Objection}
use Rattle.dfu_device.specs.Stage.{Request, Dnload, Upload, GetStatus, ClrStatus, GetState, Ack, Profile, Stage, InAppDetach, InDfuIdle, InDownloadSync, InDownloadBusy, InDownloadIdle, InManifestSync, InManifestSyncComplete, InManifest, InManifestWaitReset, InUploadIdle, InError}
use Rattle.dfu_device.specs.Table.{Plan, Sure, Writes, Commits, has_no_bytes, error_plan, objection_code, block_plan, next_dnload_plan, upload_plan, plan, time_plan}
use Rattle.dfu_device.specs.Cases.{holds_in_both_branches}
use Rattle.dfu_sim.specs.Play.{request_closes, plan_with_refusal}
use Rattle.dfu_sim.specs.Headline.{IsWaiting}

-- In this stage no image waits to be put in place.
abbrev pub HasNoWaitingImage : Stage → Type 0
HasNoWaitingImage st = (t : List ℕ) → IsWaiting st t → ⊥

-- In this stage a device has put an image in place, or failed to.
abbrev pub IsDone : Stage → Type 0
IsDone InDfuIdle = Unit {0}
IsDone InManifestSyncComplete = Unit {0}
IsDone InManifestWaitReset = Unit {0}
IsDone (InError code) = Unit {0}
IsDone st = ⊥

-- The request is a DNLOAD.
abbrev pub IsDnloadRequest : Request → Type 0
IsDnloadRequest (Dnload number body) = Unit {0}
IsDnloadRequest r = ⊥

-- The device is in dfuMANIFEST-SYNC, and manifestation is not complete.
abbrev pub IsManifestSyncStage : Stage → Type 0
IsManifestSyncStage (InManifestSync taken) = Unit {0}
IsManifestSyncStage st = ⊥

-- After a device has put an image in place, or failed to, no image waits.
pub done_stage_has_no_waiting_image : (st : Stage) → IsDone st → HasNoWaitingImage st
done_stage_has_no_waiting_image InDfuIdle d = λ t m. m
done_stage_has_no_waiting_image InManifestSyncComplete d = λ t m. m
done_stage_has_no_waiting_image InManifestWaitReset d = λ t m. m
done_stage_has_no_waiting_image (InError code) d = λ t m. m
done_stage_has_no_waiting_image st d = absurd d

-- Lemmas about plans that put an image in place or make one wait.

-- Only a DNLOAD can make an image wait. No DNLOAD puts an image in place, and any other request puts only a waiting image in place.
abbrev pub Leads : Stage → Request → Plan → Type 0
Leads st r (Sure reply next) = (t : List ℕ) → IsWaiting next t → IsWaiting st t ⊎ (IsDnloadRequest r × IsManifestSyncStage next)
Leads st r (Writes before block reply next bad) = HasNoWaitingImage next
Leads st r (Commits taken reply next bad) = IsWaiting st taken × IsDone next × (IsDnloadRequest r → ⊥)

-- The plan of a block puts no image in place.
block_plan_places_nothing : (c : Profile) (st : Stage) (before : List ℕ) (expected number : ℕ) (body : List ℕ)
    → Leads st (Dnload number body) (block_plan c before expected number body)
block_plan_places_nothing c st before expected number body =
    let P : Plan → Type 0 = Leads st (Dnload number body) in
    holds_in_both_branches P (nat_lt c.transfer (length body)) _ _ (λ t m. absurd m)
    (holds_in_both_branches P (not (number == expected)) _ _ (λ t m. absurd m)
    (holds_in_both_branches P (nat_lt c.capacity (length before + length body)) _ _ (λ t m. absurd m) (λ t m. absurd m)))

-- The plan of a later DNLOAD puts no image in place.
further_plan_places_nothing : (c : Profile) (taken : List ℕ) (expected number : ℕ) (body : List ℕ)
    → Leads (InDownloadIdle taken expected) (Dnload number body) (next_dnload_plan c taken expected number body)
further_plan_places_nothing c taken expected number [] =
    holds_in_both_branches (Leads (InDownloadIdle taken expected) (Dnload number [])) (nat_le c.least (length taken)) _ _
    (λ t m. inr (tt, tt)) (λ t m. absurd m)
further_plan_places_nothing c taken expected number (b ∷ bs) = block_plan_places_nothing c (InDownloadIdle taken expected) taken expected
    number (b ∷ bs)

-- The plan of an UPLOAD puts no image in place.
upload_plan_places_nothing : (c : Profile) (image : List ℕ) (st : Stage) (place expected number size : ℕ)
    → Leads st (Upload number size) (upload_plan c image place expected number size)
upload_plan_places_nothing c image st place expected number size =
    let P : Plan → Type 0 = Leads st (Upload number size) in
    holds_in_both_branches P (size == 0) _ _ (λ t m. absurd m)
    (holds_in_both_branches P (nat_lt c.transfer size) _ _ (λ t m. absurd m)
    (holds_in_both_branches P (not (number == expected)) _ _ (λ t m. absurd m)
    (holds_in_both_branches P (nat_lt (length (take size (drop place image))) size) _ _ (λ t m. absurd m) (λ t m. absurd m))))

-- Each row of a request puts only a waiting image in place.
request_row_places_waiting : (c : Profile) (image : List ℕ) (st : Stage) (r : Request) → Leads st r (plan c image st r)
request_row_places_waiting c image InDfuIdle (Dnload number body) =
    let P : Plan → Type 0 = Leads InDfuIdle (Dnload number body) in
    holds_in_both_branches P (not c.can_download) _ _ (λ t m. absurd m)
    (holds_in_both_branches P (has_no_bytes body) _ _ (λ t m. absurd m) (block_plan_places_nothing c InDfuIdle [] 0 number body))
request_row_places_waiting c image InDfuIdle (Upload number size) =
    holds_in_both_branches (Leads InDfuIdle (Upload number size)) c.can_upload _ _
    (upload_plan_places_nothing c image InDfuIdle 0 0 number size) (λ t m. absurd m)
request_row_places_waiting c image (InDownloadSync before block number) GetStatus =
    holds_in_both_branches (Leads (InDownloadSync before block number) GetStatus) (c.busy == 0) _ _ (λ t m. absurd m) (λ t m. absurd m)
request_row_places_waiting c image (InDownloadIdle taken number) (Dnload k body) = further_plan_places_nothing c taken number k body
request_row_places_waiting c image (InManifestSync taken) GetStatus =
    holds_in_both_branches (Leads (InManifestSync taken) GetStatus) (c.manifest == 0) _ _ (refl, tt, λ x. x) (λ t m. inl m)
request_row_places_waiting c image (InManifestSync taken) GetState = λ t m. inl m
request_row_places_waiting c image (InUploadIdle place number) (Upload k size) = upload_plan_places_nothing c image (InUploadIdle place
    number) place number k size
request_row_places_waiting c image st GetState = λ t m. absurd m
request_row_places_waiting c image st r = λ t m. absurd m

-- The plan of a request puts only a waiting image in place, even if the program refuses an image.
pub refused_plan_places_nothing : (x : Option Objection) (c : Profile) (image : List ℕ) (st : Stage) (r : Request)
    → Leads st r (plan_with_refusal x c image st r)
refused_plan_places_nothing None c image st r = request_row_places_waiting c image st r
refused_plan_places_nothing (Some why) c image st r =
    holds_in_both_branches (Leads st r) (request_closes c.least st r) (error_plan (objection_code why)) (plan c image st r)
    (λ t m. absurd m)
    (request_row_places_waiting c image st r)

-- A plan for passing time commits only a waiting image, and not in dfuMANIFEST-SYNC. The device is done after the commit.
abbrev pub TimePlacesClosedImage : Stage → Plan → Type 0
TimePlacesClosedImage st (Sure reply next) = Unit {0}
TimePlacesClosedImage st (Writes before block reply next bad) = Unit {0}
TimePlacesClosedImage st (Commits taken reply next bad) = IsWaiting st taken × IsDone next × (IsManifestSyncStage st → ⊥)

-- The row for passing time puts only a waiting image in place.
pub time_places_waiting : (c : Profile) (st : Stage) (ms : ℕ) → TimePlacesClosedImage st (time_plan c st ms)
time_places_waiting c (InAppDetach timer passed) ms =
    let P : Plan → Type 0 = TimePlacesClosedImage (InAppDetach timer passed) in
    holds_in_both_branches P (ms == 0) _ _ tt
    (holds_in_both_branches P c.will_detach _ _ tt (holds_in_both_branches P (nat_le (max 1 timer) (passed + ms)) _ _ tt tt))
time_places_waiting c (InDownloadBusy before block number passed) ms =
    let P : Plan → Type 0 = TimePlacesClosedImage (InDownloadBusy before block number passed) in
    holds_in_both_branches P (ms == 0) _ _ tt
    (holds_in_both_branches P (nat_le (block_ms c.pace c.busy (length before) (length block)) (passed + ms)) _ _ tt tt)
time_places_waiting c (InManifest taken passed) ms =
    let P : Plan → Type 0 = TimePlacesClosedImage (InManifest taken passed) in
    holds_in_both_branches P (ms == 0) _ _ tt
    (holds_in_both_branches P (nat_le (image_ms c.pace c.manifest (length taken)) (passed + ms)) _ _
    (holds_in_both_branches
    (λ (next : Stage). P (Commits taken Ack next (λ fault. Ack))) c.tolerant InManifestSyncComplete InManifestWaitReset
    (refl, tt, λ x. x) (refl, tt, λ x. x))
    tt)
time_places_waiting c st ms = tt

-- A calm plan writes and commits nothing, and no image waits after it. Once the image is in place, every plan is calm.
abbrev pub IsCalmPlan : Plan → Type 0
IsCalmPlan (Sure reply next) = HasNoWaitingImage next
IsCalmPlan (Writes before block reply next bad) = ⊥
IsCalmPlan (Commits taken reply next bad) = ⊥

-- The plan of a DNLOAD of block 0, before any block was taken, is calm.
block_plan_is_calm : (c : Profile) (number : ℕ) (body : List ℕ) → IsCalmPlan (block_plan c [] 0 number body)
block_plan_is_calm c number body =
    holds_in_both_branches IsCalmPlan (nat_lt c.transfer (length body)) _ _ (λ t m. absurd m)
    (holds_in_both_branches IsCalmPlan (not (number == 0)) _ _ (λ t m. absurd m)
    (holds_in_both_branches IsCalmPlan (nat_lt c.capacity (length {A = ℕ} [] + length body)) _ _ (λ t m. absurd m) (λ t m. absurd m)))

-- The plan of an UPLOAD of part 0, from the beginning of the image, is calm.
upload_plan_is_calm : (c : Profile) (image : List ℕ) (number size : ℕ) → IsCalmPlan (upload_plan c image 0 0 number size)
upload_plan_is_calm c image number size =
    holds_in_both_branches IsCalmPlan (size == 0) _ _ (λ t m. absurd m)
    (holds_in_both_branches IsCalmPlan (nat_lt c.transfer size) _ _ (λ t m. absurd m)
    (holds_in_both_branches IsCalmPlan (not (number == 0)) _ _ (λ t m. absurd m)
    (holds_in_both_branches IsCalmPlan (nat_lt (length (take size (drop 0 image))) size) _ _ (λ t m. absurd m) (λ t m. absurd m))))

-- After a device has put an image in place, or failed to, the plan of each request is calm.
pub calm_plan_of_done_stage : (c : Profile) (image : List ℕ) (st : Stage) (r : Request) → IsDone st → IsCalmPlan (plan c image st r)
calm_plan_of_done_stage c image InDfuIdle (Dnload number body) d =
    holds_in_both_branches IsCalmPlan (not c.can_download) _ _ (λ t m. absurd m)
    (holds_in_both_branches IsCalmPlan (has_no_bytes body) _ _ (λ t m. absurd m) (block_plan_is_calm c number body))
calm_plan_of_done_stage c image InDfuIdle (Upload number size) d =
    holds_in_both_branches IsCalmPlan c.can_upload _ _ (upload_plan_is_calm c image
    number size) (λ t m. absurd m)
calm_plan_of_done_stage c image InDfuIdle r d = λ t m. absurd m
calm_plan_of_done_stage c image InManifestSyncComplete GetStatus d = λ t m. absurd m
calm_plan_of_done_stage c image InManifestSyncComplete GetState d = λ t m. absurd m
calm_plan_of_done_stage c image InManifestSyncComplete r d = λ t m. absurd m
calm_plan_of_done_stage c image InManifestWaitReset r d = λ t m. absurd m
calm_plan_of_done_stage c image (InError code) ClrStatus d = λ t m. absurd m
calm_plan_of_done_stage c image (InError code) GetStatus d = λ t m. absurd m
calm_plan_of_done_stage c image (InError code) GetState d = λ t m. absurd m
calm_plan_of_done_stage c image (InError code) r d = λ t m. absurd m
calm_plan_of_done_stage c image st r d = absurd d

-- After a device has put an image in place, or failed to, the plan for passing time is calm.
pub calm_time_plan_of_done_stage : (c : Profile) (st : Stage) (ms : ℕ) → IsDone st → IsCalmPlan (time_plan c st ms)
calm_time_plan_of_done_stage c InDfuIdle ms d = λ t m. absurd m
calm_time_plan_of_done_stage c InManifestSyncComplete ms d = λ t m. absurd m
calm_time_plan_of_done_stage c InManifestWaitReset ms d = λ t m. absurd m
calm_time_plan_of_done_stage c (InError code) ms d = λ t m. absurd m
calm_time_plan_of_done_stage c st ms d = absurd d
