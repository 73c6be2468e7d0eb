-- The steps of a board are a history of the device table.
use Rattle.std.specs.Prelude.{◌≡◌, ◌⊎◌, ℕ, Bool, true, false, List, [], ◌∷◌, ◌++◌, Option, Some, None}
use Rattle.dfu_wire.specs.declared.setups.Setup.{Setup}
use Rattle.dfu_wire.specs.declared.requests.Request.TheVariants as request
use Rattle.dfu_wire.specs.Setup.{IsSetup}
use Rattle.dfu_wire.specs.Request.{SetupAsksFor as AsksFor}
use Rattle.dfu_slots.specs.Medium.{Torn}
use Rattle.dfu_slots.specs.Image.{Active, HasImage}
use Rattle.dfu_slots.specs.StoreView.{SlotsState, image_of}
use Rattle.dfu_device.specs.declared.answer.Answer.{Answer}
use Rattle.dfu_device.specs.declared.answer.Answer.TheVariants as answer
use Rattle.dfu_device.specs.Stage.{state_of}
use Rattle.dfu_device.specs.DeviceView.{DeviceView, situation}
use Rattle.dfu_device.specs.Rows.{Cause, Transfer, Passing, BusReset, RefusingClose, Refusing, PowerOn, Row}
use Rattle.dfu_device.specs.History.{IsHistory, HistoryStep as TableRow}
use Rattle.dfu_device.specs.AcceptedBytes.{accepted_of}
use Rattle.dfu_asks.specs.Steps.{Step}
use Rattle.dfu_asks.specs.Carried.{IsStepPiece}
use Rattle.dfu_asks.specs.Due.{HoldsOfDueRow}
use Rattle.dfu_asks.specs.Asks.{device_of, IsDevice, steps_in}
use Rattle.dfu_asks.specs.Calls.{WritesPending}
use Rattle.dfu_laws.specs.board.Board.{Board, lent_on, medium_on, device_on, state_on, Event, Handle, Elapse, UsbReset, RefuseClose, Refuse, Write, Took, Restart, BoardReply, Nothing, WritesDue, Answers, BoardStep}
use Rattle.dfu_laws.specs.board.Happens.{IsPoweredOn, IsRun}
use Rattle.dfu_laws.specs.board.ImageSurvival.{is_manifesting}

-- The list is one row, with this cause, this answer and these bytes.
pub record IsOneRow (cause : Cause) (a : Answer) (out : List ℕ) (rows : List TableRow) : Type 0 where
  pub row : TableRow
  pub rows_are : rows ≡ row ∷ []
  pub cause_is : row.cause ≡ cause
  pub answer_is : row.answer ≡ a
  pub out_is : row.out ≡ out

-- The cause is a DETACH.
pub record IsDetachCause (cause : Cause) : Type 0 where
  -- Bytes of the setup packet.
  pub setup : List ℕ
  -- The cause is a transfer with this setup and no bytes.
  pub cause_is : cause ≡ Transfer setup []
  -- Setup packet of these bytes.
  pub read : Setup
  -- The setup packet has these bytes.
  pub fields : IsSetup read setup
  -- Timeout of the DETACH.
  pub timeout : ℕ
  -- The setup packet requests this DETACH.
  pub asks : AsksFor read (request.Detach timeout)

-- The list is three rows: a power on, a DETACH, and a reset of the bus.
pub record AreBeginRows (rows : List TableRow) : Type 0 where
  pub power : TableRow
  pub detach : TableRow
  pub reset : TableRow
  pub rows_are : rows ≡ power ∷ detach ∷ reset ∷ []
  -- The cause of the first row is the power on.
  pub power_is : power.cause ≡ PowerOn
  -- The cause of the second row is a DETACH.
  pub detach_is : IsDetachCause detach.cause
  -- The cause of the third row is a reset of the bus.
  pub reset_is : reset.cause ≡ BusReset

-- Rows of a start: a power on, and if the device begins for a host, a DETACH and a reset too.
abbrev pub AreStartRows : Bool → List TableRow → Type 0
AreStartRows true rows = AreBeginRows rows
AreStartRows false rows = IsOneRow PowerOn answer.Ack [] rows

-- The first row has the cause. The host never received the answer of this row, because the power failed. The rows of a start follow.
pub record AreCutRows (cause : Cause) (begins : Bool) (rows : List TableRow) : Type 0 where
  -- Row of the call that the loss of power broke off.
  pub row : TableRow
  -- Rows of the start after the loss of power.
  pub rest : List TableRow
  pub rows_are : rows ≡ row ∷ rest
  pub cause_is : row.cause ≡ cause
  -- The remaining rows are those of a start.
  pub start : AreStartRows begins rest

-- Rows of a call for a cause, and cause of the row that is pending after the call. A refused call has no row and changes nothing. A call
-- that leaves writes pending has no row yet, and makes its own row pending. An answered call has one row.
abbrev pub CallRows : Cause → Option Cause → BoardReply → List TableRow → Option Cause → Type 0
CallRows cause due Nothing rows due' = (rows ≡ []) × (due' ≡ due)
CallRows cause due WritesDue rows due' = (rows ≡ []) × (due' ≡ Some cause)
CallRows cause due (Answers a out) rows due' = IsOneRow cause a out rows × (due' ≡ None)

-- Rows of an event, and cause of the row that is pending after it. The first argument is the cause of the row that is pending before it, or
-- None.
abbrev pub EventRows : Option Cause → Event → BoardReply → List TableRow → Option Cause → Type 0
EventRows due (Handle setup body) says rows due' = CallRows (Transfer setup body) due says rows due'
EventRows due (Elapse ms) says rows due' = CallRows (Passing ms) due says rows due'
EventRows due UsbReset says rows due' = CallRows BusReset due says rows due'
EventRows due (RefuseClose setup why) says rows due' = CallRows (RefusingClose setup why) due says rows due'
EventRows due (Refuse why) says rows due' = CallRows (Refusing why) due says rows due'
EventRows due Write says rows due' = (rows ≡ []) × (due' ≡ due)
EventRows (Some cause) (Took failed) says rows due' = CallRows cause (Some cause) says rows due'
EventRows None (Took failed) says rows due' = (rows ≡ []) × (due' ≡ None)
EventRows (Some cause) (Restart begins) says rows due' = AreCutRows cause begins rows × (due' ≡ None)
EventRows None (Restart begins) says rows due' = AreStartRows begins rows × (due' ≡ None)

-- Rows of the steps, in their order, and cause of the row that is pending after them.
abbrev pub StepRows : Option Cause → List BoardStep → List TableRow → Option Cause → Type 0
StepRows due [] rows due' = (rows ≡ []) × (due' ≡ due)
StepRows due (s ∷ rest) rows due' = (first later : List TableRow) × (mid : Option Cause) × (rows ≡ first ++ later)
    × EventRows due s.event s.says first mid × StepRows mid rest later due'

-- A board carries out the writes of the device's row for the cause. Some pieces are complete on the board's flash, and the range of the
-- next piece may hold any bytes.
pub record IsBoardAtWork (b : Board) (cause : Cause) (d : DeviceView) : Type 0 where
  -- Number of bytes that the request of the row may return.
  pub len : ℕ
  -- Slot store of the device before the writes.
  pub s : SlotsState
  -- Bytes of the flash before the writes.
  pub was : List ℕ
  -- Bytes of the flash before the next piece.
  pub stood : List ℕ
  -- Writes are pending, and those before the next piece are complete.
  pub asks : WritesPending (lent_on b) len s was stood
  -- `d` is the device of the board's record with the store `s`.
  pub device : device_of (lent_on b) s ≡ d
  -- The pending row has this cause.
  pub row : HoldsOfDueRow len d (λ x sent d'. Row d cause x sent d')
  -- The flash holds any bytes in the range of the next piece, and elsewhere the bytes that it held before the piece.
  pub torn : (p : Step) → IsStepPiece (steps_in (lent_on b) asks.work) asks.work.done p → Torn stood p.write.at p.write.bytes b.flash

-- A board without pending writes represents the device.
pub record IsIdleBoard (b : Board) (d : DeviceView) : Type 0 where
  -- No writes are pending.
  pub work : b.asking.work ≡ None
  -- The device is valid on the board's flash.
  pub is : IsDevice (lent_on b) b.flash
  pub device : device_on b ≡ d

-- A board represents a device: it has no pending writes, or it carries out the writes of the device's pending row.
abbrev pub RepresentsDevice : Board → Option Cause → DeviceView → Type 0
RepresentsDevice b None d = IsIdleBoard b d
RepresentsDevice b (Some cause) d = IsBoardAtWork b cause d

-- The steps of a board are rows of the device table. They lead from the device w to the device that the board represents now, and the board
-- is in the state of that device. The active image of the flash is that of the device; while writes are pending in dfuMANIFEST-SYNC or
-- dfuMANIFEST, it may also be the bytes of the download.
pub record RefinesDeviceTable (w : DeviceView) (steps : List BoardStep) (b : Board) : Type 0 where
  pub rows : List TableRow
  -- Cause of the row that is pending after the steps, or None.
  pub due : Option Cause
  -- Device that the board represents after the steps.
  pub device : DeviceView
  -- The rows lead from `w` to this device.
  pub history : IsHistory w rows device
  pub tells : StepRows None steps rows due
  -- The board represents the device.
  pub stands : RepresentsDevice b due device
  -- The board is in the state of the device.
  pub state : state_on b ≡ state_of device.stage
  -- The flash has an active image.
  pub has_image : HasImage (medium_on b)
  -- The active image is that of the device, or while writes are pending in manifestation the bytes of the download.
  pub image : (image : List ℕ) → Active (medium_on b) image
      → (image ≡ image_of device.slots)
      ⊎ ((due ≡ None → ⊥) × (is_manifesting (state_of device.stage) ≡ true) × (image ≡ accepted_of (situation device)))

-- All steps of a run that begins without pending writes are rows that begin at the board's device.
abbrev pub IdleRunsRefineTable : Type 0
IdleRunsRefineTable = (b b' : Board) (d : DeviceView) (steps : List BoardStep) → IsIdleBoard b d → IsRun b steps b' →
    RefinesDeviceTable d steps b'

-- All steps of a board from power on are rows of the device table.
abbrev pub RunsRefineDeviceTable : Type 0
RunsRefineDeviceTable = (b b' : Board) (steps : List BoardStep) → IsPoweredOn b → IsRun b steps b' →
    RefinesDeviceTable (device_on b) steps b'
