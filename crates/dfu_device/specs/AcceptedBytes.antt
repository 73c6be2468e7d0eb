-- The bytes that a device has accepted in a download: in a state, after a row, and after a whole history.
use Rattle.std.specs.Prelude.{ℕ, ◌==◌, ◌&&◌, Bool, true, false, if◌then◌else◌, List, [], ◌++◌, slice_index}
use Rattle.dfu_wire.specs.declared.states.State.{State}
use Rattle.dfu_wire.specs.declared.states.State.TheVariants.{DownloadSync, DownloadBusy, DownloadIdle, ManifestSync, Manifest}
use Rattle.dfu_device.specs.declared.answer.Answer.{Answer}
use Rattle.dfu_device.specs.declared.answer.Answer.TheVariants as answer
use Rattle.dfu_device.specs.Stage.{Request, Dnload, Reply, Ack, Stage, InDownloadSync, InDownloadSyncWritten, InDownloadBusy, InDownloadIdle, InManifestSync, InManifestSyncComplete, InManifest, state_of}
use Rattle.dfu_device.specs.Outcome.{Situation, Outcome}
use Rattle.dfu_device.specs.Rows.{Cause, Transfer}
use Rattle.dfu_device.specs.History.{HistoryStep, Gathered}

-- Definitions for the bytes accepted in a state.

-- True in the states of a download: dfuDNLOAD-SYNC, dfuDNBUSY, dfuDNLOAD-IDLE, dfuMANIFEST-SYNC and dfuMANIFEST.
abbrev pub is_downloading : State → Bool
is_downloading DownloadSync = true
is_downloading DownloadBusy = true
is_downloading DownloadIdle = true
is_downloading ManifestSync = true
is_downloading Manifest = true
is_downloading state = false

-- Bytes accepted so far in a stage. After manifestation, in dfuMANIFEST-SYNC, they are the active image; outside a download there are none.
abbrev pub accepted_in : List ℕ → Stage → List ℕ
accepted_in image (InDownloadSync before block number) = before ++ block
accepted_in image (InDownloadSyncWritten taken number) = taken
accepted_in image (InDownloadBusy before block number passed) = before ++ block
accepted_in image (InDownloadIdle taken number) = taken
accepted_in image (InManifestSync taken) = taken
accepted_in image InManifestSyncComplete = image
accepted_in image (InManifest taken passed) = taken
accepted_in image stage = []

abbrev pub accepted_of : Situation → List ℕ
accepted_of s = accepted_in s.image s.stage

-- Definitions for the bytes accepted by a row.

-- Bytes accepted after a reply: an acknowledged DNLOAD adds its body, and any other request or reply adds nothing.
abbrev pub accepted_after_reply : List ℕ → Request → Reply → List ℕ
accepted_after_reply taken (Dnload number body) Ack = taken ++ body
accepted_after_reply taken request reply = taken

-- Accepted bytes after a row that ends in a state: all of `taken` if a download is in progress there, otherwise none.
abbrev pub accepted_in_state : State → List ℕ → List ℕ
accepted_in_state state taken = if is_downloading state then taken else []

-- Bytes accepted after a row with this request and outcome.
abbrev pub accepted_after : List ℕ → Request → Outcome → List ℕ
accepted_after taken request o = accepted_in_state (state_of o.after.stage) (accepted_after_reply taken request o.reply)

-- Definitions for the bytes accepted by a history.

-- True if the setup packet is a DNLOAD: bmRequestType is 21h and bRequest is 1.
abbrev pub is_dnload : List ℕ → Bool
is_dnload setup = (slice_index setup 0 == 0x21) && (slice_index setup 1 == 1)

-- Body of an acknowledged DNLOAD; no bytes for any other cause or answer.
abbrev pub acknowledged_bytes : Cause → Answer → List ℕ
acknowledged_bytes (Transfer setup body) answer.Ack = if is_dnload setup then body else []
acknowledged_bytes cause a = []

-- True if a download is in progress after the step.
abbrev pub ends_in_download : HistoryStep → Bool
ends_in_download s = is_downloading (state_of s.after.stage)

-- Body of the DNLOAD that a step acknowledged; no bytes for any other step.
abbrev pub acknowledged_block : HistoryStep → List ℕ
acknowledged_block s = acknowledged_bytes s.cause s.answer

-- In the history the device accepted these bytes: the blocks acknowledged after the last step that ended outside a download.
abbrev pub AcceptedBytes : List HistoryStep → List ℕ → Type 0
AcceptedBytes h bytes = Gathered ends_in_download acknowledged_block h bytes
