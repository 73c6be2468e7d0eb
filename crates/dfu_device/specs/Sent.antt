-- The bytes that a device has sent in an upload: in a state, after a row, and after a whole history.
use Rattle.std.specs.Prelude.{◌≡◌, ℕ, ◌==◌, ◌&&◌, Bool, true, false, if◌then◌else◌, List, [], ◌++◌, take, slice_index}
use Rattle.dfu_wire.specs.declared.states.State.{State}
use Rattle.dfu_wire.specs.declared.states.State.TheVariants.{UploadIdle}
use Rattle.dfu_device.specs.declared.answer.Answer.{Answer}
use Rattle.dfu_device.specs.declared.answer.Answer.TheVariants as answer
use Rattle.dfu_device.specs.Stage.{Request, Upload, Reply, Data, Stage, InDfuIdle, InUploadIdle, state_of}
use Rattle.dfu_device.specs.Outcome.{Situation, Outcome}
use Rattle.dfu_device.specs.Rows.{Cause, Transfer}
use Rattle.dfu_device.specs.History.{HistoryStep, Gathered}

-- Definitions for the bytes sent in a state.

-- True in dfuUPLOAD-IDLE, the only state with an upload in progress.
abbrev pub is_uploading : State → Bool
is_uploading UploadIdle = true
is_uploading state = false

-- Bytes of the image sent so far in a stage; none outside dfuUPLOAD-IDLE.
abbrev pub sent_in : List ℕ → Stage → List ℕ
sent_in image (InUploadIdle place number) = take place image
sent_in image stage = []

abbrev pub sent_of : Situation → List ℕ
sent_of s = sent_in s.image s.stage

-- Definitions for the bytes sent by a row.

-- Bytes of the image that a reply sends: those that answer an UPLOAD. No other reply sends any.
abbrev pub piece_sent_by_reply : Request → Reply → List ℕ
piece_sent_by_reply (Upload number size) (Data bytes) = bytes
piece_sent_by_reply request reply = []

-- Sent bytes after a row that ends in a state: all of `sent` in dfuUPLOAD-IDLE, otherwise none.
abbrev pub sent_in_state : State → List ℕ → List ℕ
sent_in_state state sent = if is_uploading state then sent else []

-- Bytes sent after a row with this request and outcome.
abbrev pub sent_after : List ℕ → Request → Outcome → List ℕ
sent_after sent request o = sent_in_state (state_of o.after.stage) (sent ++ piece_sent_by_reply request o.reply)

-- Definitions for the bytes sent by a history.

-- True if the setup packet is an UPLOAD: bmRequestType is A1h and bRequest is 2.
abbrev pub is_upload : List ℕ → Bool
is_upload setup = (slice_index setup 0 == 0xa1) && (slice_index setup 1 == 2)

-- Bytes that answer an UPLOAD; no bytes for any other cause or answer.
abbrev pub sent_piece : Cause → Answer → List ℕ → List ℕ
sent_piece (Transfer setup body) answer.Bytes out = if is_upload setup then out else []
sent_piece cause a out = []

-- True if the step ends in dfuUPLOAD-IDLE.
abbrev pub ends_in_upload : HistoryStep → Bool
ends_in_upload s = is_uploading (state_of s.after.stage)

-- Bytes with which a step answered an UPLOAD; no bytes for any other step.
abbrev pub upload_piece : HistoryStep → List ℕ
upload_piece s = sent_piece s.cause s.answer s.out

-- In the history the device sent these bytes: the pieces after the last step that ended outside dfuUPLOAD-IDLE.
abbrev pub SentBytes : List HistoryStep → List ℕ → Type 0
SentBytes h bytes = Gathered ends_in_upload upload_piece h bytes

-- The step is the last one of an upload: an UPLOAD that is answered with bytes and ends in dfuIDLE.
pub record IsLastUploadStep (s : HistoryStep) : Type 0 where
  pub setup : List ℕ
  pub body : List ℕ
  pub cause : s.cause ≡ Transfer setup body
  pub upload : is_upload setup ≡ true
  pub answered : s.answer ≡ answer.Bytes
  pub ends : s.after.stage ≡ InDfuIdle
