-- The device table: the state table of USB DFU 1.1, appendix A, as this device implements it, row by row. A star marks a rule for which the
-- appendix allows another reading; docs/PROFILE.md, "Where we choose", describes the other reading of each.
use Rattle.std.specs.Prelude.{ℕ, ◌+◌, ◌%◌, ◌==◌, nat_lt, nat_le, min, max, Bool, true, false, not, if◌then◌else◌, List, [], ◌∷◌, ◌++◌, length, take, drop}
use Rattle.dfu_wire.specs.declared.codes.Code.{Code}
use Rattle.dfu_wire.specs.declared.codes.Code.TheVariants.{Target as ErrTarget, File as ErrFile, Write as ErrWrite, Prog as ErrProg, Verify as ErrVerify, Address as ErrAddress, NotDone as ErrNotDone, StalledPkt as ErrStalledPkt}
use Rattle.dfu_slots.specs.declared.fault.WriteFault.{WriteFault}
use Rattle.dfu_slots.specs.declared.fault.WriteFault.TheVariants.{Failed, NotVerified}
use Rattle.dfu_device.specs.declared.objection.Objection.{Objection}
use Rattle.dfu_device.specs.declared.objection.Objection.TheVariants.{Target, File}
use Rattle.dfu_device.specs.Pace.{block_ms, image_ms}
use Rattle.dfu_device.specs.Stage.{Request, Detach, Dnload, Upload, GetStatus, ClrStatus, GetState, Abort, Reply, Ack, StateOf, Data, Stall, Profile, Stage, InAppIdle, InAppDetach, InDfuIdle, InDownloadSync, InDownloadSyncWritten, InDownloadBusy, InDownloadIdle, InManifestSync, InManifestSyncComplete, InManifest, InManifestWaitReset, InUploadIdle, InError, state_of, status_of}

-- Plan of a row. Only the result of a write is still open: if each write works, the device gives the first reply and enters the stage;
-- after a fault it gives the last reply and enters dfuERROR.
pub data Plan : Type 0 where
  -- Answers, enters a stage, and doesn't call the slot store.
  Sure : Reply → Stage → Plan
  -- Writes a block after the bytes written before. If a write fails, the device enters dfuERROR with errWRITE, or with errVERIFY if other
  -- bytes were read back.
  Writes : (before block : List ℕ) → Reply → Stage → (WriteFault → Reply) → Plan
  -- Makes the accepted bytes the active image. If a write fails, the device enters dfuERROR with errPROG, or with errVERIFY if other bytes
  -- were read back.
  Commits : (taken : List ℕ) → Reply → Stage → (WriteFault → Reply) → Plan

-- Status code for a fault in the write of a block: errWRITE if the write failed, errVERIFY if other bytes were read back.
abbrev pub write_code : WriteFault → Code
write_code Failed = ErrWrite
write_code NotVerified = ErrVerify

-- Status code for a fault in a write of a commit: errPROG if the write failed, errVERIFY if other bytes were read back.
abbrev pub commit_code : WriteFault → Code
commit_code Failed = ErrProg
commit_code NotVerified = ErrVerify

-- Acknowledges the request and enters a stage.
abbrev pub ack_plan : Stage → Plan
ack_plan stage = Sure Ack stage

-- Stalls the request and enters a stage.
abbrev pub stall_plan : Stage → Plan
stall_plan stage = Sure Stall stage

-- Stalls the request and enters dfuERROR with a code.
abbrev pub error_plan : Code → Plan
error_plan code = stall_plan (InError code)

-- Enters a stage and answers GETSTATUS with its status.
abbrev pub status_plan : Profile → Stage → Plan
status_plan c stage = Sure (status_of c stage) stage

-- Writes the block, and then answers GETSTATUS. If the write has a fault, the answer reports the code of the fault.
abbrev pub write_and_report : Profile → List ℕ → List ℕ → Stage → Plan
write_and_report c before block stage =
    Writes before block (status_of c stage) stage (λ fault. status_of c (InError (write_code fault)))

-- Makes the image active, and then answers GETSTATUS. If a write has a fault, the answer reports the code of the fault.
abbrev pub commit_and_report : Profile → List ℕ → Stage → Plan
commit_and_report c taken stage =
    Commits taken (status_of c stage) stage (λ fault. status_of c (InError (commit_code fault)))

-- Answers GETSTATE with the current state.
abbrev pub state_plan : Stage → Plan
state_plan stage = Sure (StateOf (state_of stage)) stage

-- Next block number: numbers have 16 bits, so 0 follows 65,535.
abbrev pub number_after : ℕ → ℕ
number_after n = (n + 1) % 65536

-- True if the body is empty, as with wLength 0.
abbrev pub has_no_bytes : List ℕ → Bool
has_no_bytes [] = true
has_no_bytes (x ∷ xs) = false

-- DNLOAD with wLength over 0: the errors are checked in their order. A block without errors counts as accepted, but is not written yet.
abbrev pub block_plan : Profile → List ℕ → ℕ → ℕ → List ℕ → Plan
block_plan c before expected number body =
    if nat_lt c.transfer (length body) then error_plan ErrStalledPkt
    else if not (number == expected) then error_plan ErrAddress
    else if nat_lt c.capacity (length before + length body) then error_plan ErrAddress
    else ack_plan (InDownloadSync before body (number_after expected))

-- DNLOAD in dfuIDLE: the first block has number 0.
abbrev pub first_plan : Profile → ℕ → List ℕ → Plan
first_plan c number body =
    if not c.can_download then error_plan ErrStalledPkt
    else if has_no_bytes body then error_plan ErrStalledPkt
    else block_plan c [] 0 number body

-- DNLOAD in dfuDNLOAD-IDLE: a DNLOAD with wLength 0 closes the download if the image is long enough. *The number of the closing DNLOAD is
-- not checked.
abbrev pub next_dnload_plan : Profile → List ℕ → ℕ → ℕ → List ℕ → Plan
next_dnload_plan c taken expected number body =
    if has_no_bytes body
    then if nat_le c.least (length taken) then ack_plan (InManifestSync taken) else error_plan ErrNotDone
    else block_plan c taken expected number body

-- UPLOAD: the errors are checked in their order, then the next bytes of the image are sent. An answer shorter than wLength is the last one.
-- *A short first answer, in dfuIDLE, is the last one too.
abbrev pub upload_plan : Profile → List ℕ → ℕ → ℕ → ℕ → ℕ → Plan
upload_plan c image place expected number size =
    if size == 0 then error_plan ErrStalledPkt
    else if nat_lt c.transfer size then error_plan ErrStalledPkt
    else if not (number == expected) then error_plan ErrAddress
    else let part = take size (drop place image) in
    if nat_lt (length part) size then Sure (Data part) InDfuIdle
    else Sure (Data part) (InUploadIdle (place + size) (number_after expected))

-- Rows of the table by state and request; `image` is the active image.
abbrev pub plan : Profile → List ℕ → Stage → Request → Plan
-- In appIDLE, DETACH starts the timer of appDETACH: the smaller of the host's timeout and the device's.
plan c image InAppIdle (Detach timeout) = ack_plan (InAppDetach (min c.detach_ms timeout) 0)
plan c image InAppIdle GetStatus = status_plan c InAppIdle
plan c image InAppIdle GetState = state_plan InAppIdle
plan c image InAppIdle _ = stall_plan InAppIdle
-- In appDETACH, any request other than GETSTATUS and GETSTATE, even a second DETACH, is stalled and leads back to appIDLE.
plan c image (InAppDetach timer passed) GetStatus = status_plan c (InAppDetach timer passed)
plan c image (InAppDetach timer passed) GetState = state_plan (InAppDetach timer passed)
plan c image (InAppDetach timer passed) _ = stall_plan InAppIdle
-- In dfuIDLE, a device without support for uploads stalls UPLOAD as it stalls any other request, and a device without support for downloads
-- stalls DNLOAD.
plan c image InDfuIdle (Dnload number body) = first_plan c number body
plan c image InDfuIdle (Upload number size) = if c.can_upload then upload_plan c image 0 0 number size else error_plan ErrStalledPkt
plan c image InDfuIdle Abort = ack_plan InDfuIdle
plan c image InDfuIdle GetStatus = status_plan c InDfuIdle
plan c image InDfuIdle GetState = state_plan InDfuIdle
plan c image InDfuIdle _ = error_plan ErrStalledPkt
-- In dfuDNLOAD-SYNC with an unwritten block, the device writes the block on GETSTATUS if the busy time is 0. ABORT is an error.*
plan c image (InDownloadSync before block number) GetStatus =
    if c.busy == 0 then write_and_report c before block (InDownloadIdle (before ++ block) number)
    else status_plan c (InDownloadBusy before block number 0)
plan c image (InDownloadSync before block number) GetState = state_plan (InDownloadSync before block number)
plan c image (InDownloadSync before block number) _ = error_plan ErrStalledPkt
-- In dfuDNLOAD-SYNC with a written block, GETSTATUS leads to dfuDNLOAD-IDLE. ABORT is an error.*
plan c image (InDownloadSyncWritten taken number) GetStatus = status_plan c (InDownloadIdle taken number)
plan c image (InDownloadSyncWritten taken number) GetState = state_plan (InDownloadSyncWritten taken number)
plan c image (InDownloadSyncWritten taken number) _ = error_plan ErrStalledPkt
-- In dfuDNBUSY, every request of the class is an error, even GETSTATUS, and the block is not written.*
plan c image (InDownloadBusy before block number passed) _ = error_plan ErrStalledPkt
-- In dfuDNLOAD-IDLE, DNLOAD sends the next block or closes the download, and ABORT cancels the download.
plan c image (InDownloadIdle taken number) (Dnload k body) = next_dnload_plan c taken number k body
plan c image (InDownloadIdle taken number) Abort = ack_plan InDfuIdle
plan c image (InDownloadIdle taken number) GetStatus = status_plan c (InDownloadIdle taken number)
plan c image (InDownloadIdle taken number) GetState = state_plan (InDownloadIdle taken number)
plan c image (InDownloadIdle taken number) _ = error_plan ErrStalledPkt
-- In dfuMANIFEST-SYNC before manifestation, the image becomes active on GETSTATUS if the manifestation time is 0. ABORT is an error.*
plan c image (InManifestSync taken) GetStatus =
    if c.manifest == 0 then commit_and_report c taken InDfuIdle
    else status_plan c (InManifest taken 0)
plan c image (InManifestSync taken) GetState = state_plan (InManifestSync taken)
plan c image (InManifestSync taken) _ = error_plan ErrStalledPkt
-- In dfuMANIFEST-SYNC after manifestation, GETSTATUS leads to dfuIDLE. ABORT is an error.*
plan c image InManifestSyncComplete GetStatus = status_plan c InDfuIdle
plan c image InManifestSyncComplete GetState = state_plan InManifestSyncComplete
plan c image InManifestSyncComplete _ = error_plan ErrStalledPkt
-- In dfuMANIFEST, every request of the class is an error, even GETSTATUS, and the image doesn't become active.*
plan c image (InManifest taken passed) _ = error_plan ErrStalledPkt
-- In dfuMANIFEST-WAIT-RESET, every request of the class is stalled, and the device stays in that state.*
plan c image InManifestWaitReset _ = stall_plan InManifestWaitReset
-- In dfuUPLOAD-IDLE, UPLOAD requests the next bytes of the image, and ABORT ends the upload.
plan c image (InUploadIdle place number) (Upload k size) = upload_plan c image place number k size
plan c image (InUploadIdle place number) Abort = ack_plan InDfuIdle
plan c image (InUploadIdle place number) GetStatus = status_plan c (InUploadIdle place number)
plan c image (InUploadIdle place number) GetState = state_plan (InUploadIdle place number)
plan c image (InUploadIdle place number) _ = error_plan ErrStalledPkt
-- In dfuERROR, CLRSTATUS leads to dfuIDLE. GETSTATUS and GETSTATE don't change the state. Any other request is stalled.
plan c image (InError code) ClrStatus = ack_plan InDfuIdle
plan c image (InError code) GetStatus = status_plan c (InError code)
plan c image (InError code) GetState = state_plan (InError code)
plan c image (InError code) _ = stall_plan (InError code)

-- Rows of the table for elapsed time, by state. A row has at most one transition, and the rest of the time is dropped. No answer is sent,
-- so the reply is Ack. A state that is not listed here doesn't change.
abbrev pub time_plan : Profile → Stage → ℕ → Plan
-- In appDETACH, a device with bitWillDetach enters dfuIDLE after 1 ms or more.* Others return to appIDLE after the timer; 0 counts as 1 ms.
time_plan c (InAppDetach timer passed) ms =
    if ms == 0 then ack_plan (InAppDetach timer passed)
    else if c.will_detach then ack_plan InDfuIdle
    else if nat_le (max 1 timer) (passed + ms) then ack_plan InAppIdle
    else ack_plan (InAppDetach timer (passed + ms))
-- In dfuDNBUSY, the block is written once the busy time has passed.
time_plan c (InDownloadBusy before block number passed) ms =
    if ms == 0 then ack_plan (InDownloadBusy before block number passed)
    else if nat_le (block_ms c.pace c.busy (length before) (length block)) (passed + ms)
    then Writes before block Ack (InDownloadSyncWritten (before ++ block) number) (λ fault. Ack)
    else ack_plan (InDownloadBusy before block number (passed + ms))
-- In dfuMANIFEST, the image becomes active once the manifestation time has passed. A device that is not tolerant of manifestation then
-- waits for a reset.
time_plan c (InManifest taken passed) ms =
    if ms == 0 then ack_plan (InManifest taken passed)
    else if nat_le (image_ms c.pace c.manifest (length taken)) (passed + ms)
    then Commits taken Ack (if c.tolerant then InManifestSyncComplete else InManifestWaitReset) (λ fault. Ack)
    else ack_plan (InManifest taken (passed + ms))
time_plan c stage ms = ack_plan stage

-- Row of a reset of the bus: appDETACH goes to dfuIDLE, and every other state to appIDLE.
abbrev pub reset_stage : Stage → Stage
reset_stage (InAppDetach timer passed) = InDfuIdle
reset_stage stage = InAppIdle

-- Status code with which a program refuses an image: errTARGET or errFILE.
abbrev pub objection_code : Objection → Code
objection_code Target = ErrTarget
objection_code File = ErrFile

-- True if a DNLOAD with wLength 0 closes the download: the stage is dfuDNLOAD-IDLE, and at least `least` bytes were accepted.
abbrev pub may_close : (least : ℕ) → Stage → Bool
may_close least (InDownloadIdle taken number) = nat_le least (length taken)
may_close least stage = false

-- Row of a refusal by the program after the close: dfuMANIFEST-SYNC, not complete, and dfuMANIFEST go to dfuERROR with the code, and the
-- image doesn't become active. Every other state stays.
abbrev pub refuse_stage : Objection → Stage → Stage
refuse_stage why (InManifestSync taken) = InError (objection_code why)
refuse_stage why (InManifest taken passed) = InError (objection_code why)
refuse_stage why stage = stage
