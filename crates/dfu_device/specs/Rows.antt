-- Rows of a device: the answer in bytes, the calls of the slot store, and the device after the row.
use Rattle.std.specs.Prelude.{◌≡◌, ◌⊎◌, ℕ, ◌==◌, List, [], ◌∷◌, length, take, Bool, true, false, if◌then◌else◌, slice_index}
use Rattle.dfu_wire.specs.declared.setups.Setup.{Setup}
use Rattle.dfu_wire.specs.declared.requests.Request.{Request as Asked}
use Rattle.dfu_wire.specs.declared.requests.Request.TheVariants as asked
use Rattle.dfu_wire.specs.Setup.{IsSetup}
use Rattle.dfu_wire.specs.Request.{SetupAsksFor}
use Rattle.dfu_wire.specs.Status.{IsStatus}
use Rattle.dfu_wire.specs.State.{state_byte}
use Rattle.dfu_slots.specs.declared.fault.WriteFault.{WriteFault}
use Rattle.dfu_slots.specs.Medium.{CountRose}
use Rattle.dfu_slots.specs.StoreView.{SlotsState, store_on, image_of, room_of, StoreCall, Begin, Put, Commit, AllWorked, BrokenBy, CallsEnd}
use Rattle.dfu_device.specs.declared.objection.Objection.{Objection}
use Rattle.dfu_device.specs.declared.answer.Answer.{Answer}
use Rattle.dfu_device.specs.declared.answer.Answer.TheVariants as answer
use Rattle.dfu_device.specs.Stage.{Request, Detach, Dnload, Upload, GetStatus, ClrStatus, GetState, Abort, OtherRequest, Reply, Ack, StatusOf, StateOf, Data, Stall, Stage, InAppIdle, InError}
use Rattle.dfu_device.specs.Table.{Plan, Sure, Writes, Commits, write_code, commit_code, plan, time_plan, reset_stage, objection_code, may_close, refuse_stage}
use Rattle.dfu_device.specs.Setting.{Setting}
use Rattle.dfu_device.specs.DeviceView.{DeviceView, profile}

-- Definition of the bytes of an answer.

-- The answer and its bytes are those of a reply to a request with wLength `len`. A status of six bytes or a state of one byte is cut to
-- `len` bytes; a piece of the image is never cut.
abbrev pub ReplyAnswer : ℕ → Reply → Answer → List ℕ → Type 0
ReplyAnswer len Ack a out = (a ≡ answer.Ack) × (out ≡ [])
ReplyAnswer len Stall a out = (a ≡ answer.Stall) × (out ≡ [])
ReplyAnswer len (Data bytes) a out = (a ≡ answer.Bytes) × (out ≡ bytes)
ReplyAnswer len (StateOf state) a out = (a ≡ answer.Bytes) × (out ≡ take len (state_byte state ∷ []))
ReplyAnswer len (StatusOf code poll state) a out =
    (a ≡ answer.Bytes) × (bytes : List ℕ) × IsStatus (record { code = code; poll_ms = poll; state = state }) bytes
    × (slice_index bytes 5 ≡ 0) × (out ≡ take len bytes)

-- Definitions for the effects of a row on the device and its medium.

-- Calls of the slot store that write a block: a `begin` if it is the first block, and one `put` after the bytes written before.
abbrev pub block_calls : List ℕ → List ℕ → List StoreCall
block_calls before block = if length before == 0 then Begin ∷ Put 0 block ∷ [] else Put (length before) block ∷ []

-- The block was written: the image stays, and the device enters a stage.
pub record WroteBlock (before block : List ℕ) (config : Setting) (s : SlotsState) (stage : Stage) (w' : DeviceView) : Type 0 where
  pub config_is : w'.config ≡ config
  pub room : room_of w'.slots ≡ room_of s
  pub stage_is : w'.stage ≡ stage
  pub calls : CallsEnd s (block_calls before block) AllWorked w'.slots
  pub image : image_of w'.slots ≡ image_of s

-- A write of the block had a fault: the image stays, and the device enters dfuERROR with the fault's code.
pub record FailedBlock (fault : WriteFault) (before block : List ℕ) (config : Setting) (s : SlotsState) (w' : DeviceView) : Type 0 where
  pub config_is : w'.config ≡ config
  pub room : room_of w'.slots ≡ room_of s
  pub stage_is : w'.stage ≡ InError (write_code fault)
  pub calls : CallsEnd s (block_calls before block) (BrokenBy fault) w'.slots
  pub image : image_of w'.slots ≡ image_of s
  pub failed : CountRose s.medium.failures w'.slots.medium.failures

-- The commit worked: the accepted bytes are the active image, and the device enters a stage.
pub record Committed (taken : List ℕ) (config : Setting) (s : SlotsState) (stage : Stage) (w' : DeviceView) : Type 0 where
  pub config_is : w'.config ≡ config
  pub room : room_of w'.slots ≡ room_of s
  pub stage_is : w'.stage ≡ stage
  pub calls : CallsEnd s (Commit (length taken) ∷ []) AllWorked w'.slots
  pub image : image_of w'.slots ≡ taken

-- A write of the commit had a fault: the image is the old one or the accepted bytes, and the device enters dfuERROR with the fault's code.
pub record FailedCommit (fault : WriteFault) (taken : List ℕ) (config : Setting) (s : SlotsState) (w' : DeviceView) : Type 0 where
  pub config_is : w'.config ≡ config
  pub room : room_of w'.slots ≡ room_of s
  pub stage_is : w'.stage ≡ InError (commit_code fault)
  pub calls : CallsEnd s (Commit (length taken) ∷ []) (BrokenBy fault) w'.slots
  pub image : (image_of w'.slots ≡ image_of s) ⊎ (image_of w'.slots ≡ taken)
  pub failed : CountRose s.medium.failures w'.slots.medium.failures

-- A plan was performed: without a call of the slot store, or with the calls for a block or a commit, which worked or had a fault.
abbrev pub Done : Plan → ℕ → DeviceView → Answer → List ℕ → DeviceView → Type 0
Done (Sure reply stage) len w a out w' = ReplyAnswer len reply a out × (w' ≡ record w { stage = stage })
Done (Writes before block reply stage bad) len w a out w' =
    (ReplyAnswer len reply a out × WroteBlock before block w.config w.slots stage w')
    ⊎ ((fault : WriteFault) × ReplyAnswer len (bad fault) a out × FailedBlock fault before block w.config w.slots w')
Done (Commits taken reply stage bad) len w a out w' =
    (ReplyAnswer len reply a out × Committed taken w.config w.slots stage w')
    ⊎ ((fault : WriteFault) × ReplyAnswer len (bad fault) a out × FailedCommit fault taken w.config w.slots w')

-- Definitions for setup packets that have a row in the table.

-- Request of the table that corresponds to a request on the bus, with its body.
abbrev pub request_for_table : Asked → List ℕ → Request
request_for_table (asked.Detach timeout) body = Detach timeout
request_for_table (asked.Dnload block len) body = Dnload block body
request_for_table (asked.Upload block len) body = Upload block len
request_for_table (asked.GetStatus len) body = GetStatus
request_for_table asked.ClrStatus body = ClrStatus
request_for_table (asked.GetState len) body = GetState
request_for_table asked.Abort body = Abort
request_for_table asked.OtherClass body = OtherRequest
request_for_table asked.NotDfu body = OtherRequest

-- wLength of a GETSTATUS or GETSTATE; 0 for any other request.
abbrev pub asked_length : Asked → ℕ
asked_length (asked.GetStatus len) = len
asked_length (asked.GetState len) = len
asked_length q = 0

-- Number of bytes in the body of a setup packet: wLength if bmRequestType is 21h, because the host then sends, otherwise 0.
abbrev pub body_length : Setup → ℕ
body_length p = if p.kind == 0x21 then p.length else 0

-- True if the request has a row in the table: it is one of the DFU class, and its body has the length that the setup packet requires.
abbrev pub is_served : Setup → Asked → List ℕ → Bool
is_served p asked.NotDfu body = false
is_served p q body = length body == body_length p

-- Plan of a setup packet: that of its row in the table, or a stall that changes nothing if there is no row.
abbrev pub setup_plan : DeviceView → Setup → Asked → List ℕ → Plan
setup_plan w p q body =
    if is_served p q body then plan (profile w) (image_of w.slots) w.stage (request_for_table q body) else Sure Stall w.stage

-- Definitions of the rows of the device table.

-- The row of a setup packet with its body, for the request that its eight bytes encode.
pub data Handles (setup body : List ℕ) (w : DeviceView) (a : Answer) (out : List ℕ) (w' : DeviceView) : Type 0 where
  handled_by_reading : (p : Setup) (q : Asked) → IsSetup p setup → SetupAsksFor p q →
      Done (setup_plan w p q body) (asked_length q) w a out w'
      → Handles setup body w a out w'

-- Row of the table for `ms` elapsed milliseconds.
abbrev pub Elapses : ℕ → DeviceView → DeviceView → Type 0
Elapses ms w w' = Done (time_plan (profile w) w.stage ms) 0 w answer.Ack [] w'

-- True if the request is a DNLOAD with wLength 0.
abbrev pub is_close : Asked → Bool
is_close (asked.Dnload number len) = len == 0
is_close q = false

-- The eight bytes are the setup packet of a DNLOAD with wLength 0, which closes a download.
abbrev pub IsCloseSetup : List ℕ → Type 0
IsCloseSetup setup = (p : Setup) × (q : Asked) × IsSetup p setup × SetupAsksFor p q × (is_close q ≡ true)

-- The setup packet closes the download of the device: it is a DNLOAD with wLength 0, and may_close is true.
abbrev pub ClosesDownload : List ℕ → DeviceView → Type 0
ClosesDownload setup w = IsCloseSetup setup × (may_close w.config.least w.stage ≡ true)

-- Cause of a row: a setup packet with its body, elapsed milliseconds, a reset of the bus, a refusal of an image when the host closes its
-- download, a refusal after the close, or a power cycle.
pub data Cause : Type 0 where
  Transfer : (setup body : List ℕ) → Cause
  Passing : (ms : ℕ) → Cause
  BusReset : Cause
  RefusingClose : (setup : List ℕ) (why : Objection) → Cause
  Refusing : (why : Objection) → Cause
  PowerOn : Cause

-- Row of the device table: a cause leads from a device to an answer and the device afterwards. Only a setup packet is answered; the answer
-- of every other cause except RefusingClose is written as Ack. A refusal writes nothing, and a power cycle leaves the medium unchanged.
abbrev pub Row : DeviceView → Cause → Answer → List ℕ → DeviceView → Type 0
Row w (Transfer setup body) a out w' = Handles setup body w a out w'
Row w (Passing ms) a out w' = (a ≡ answer.Ack) × (out ≡ []) × Elapses ms w w'
Row w BusReset a out w' = (a ≡ answer.Ack) × (out ≡ []) × (w' ≡ record w { stage = reset_stage w.stage })
Row w (RefusingClose setup why) a out w' =
    (a ≡ answer.Stall) × (out ≡ []) × ClosesDownload setup w × (w' ≡ record w { stage = InError (objection_code why) })
Row w (Refusing why) a out w' = (a ≡ answer.Ack) × (out ≡ []) × (w' ≡ record w { stage = refuse_stage why w.stage })
Row w PowerOn a out w' = (a ≡ answer.Ack) × (out ≡ [])
    × (w' ≡ record { config = w.config; slots = store_on w.slots.medium; stage = InAppIdle })
