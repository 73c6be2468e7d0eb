-- Outcomes of a board's step, by the clauses of the call that the step makes, and changes that the board's flash may have.
use Rattle.std.specs.Prelude.{◌≡◌, ℕ, Bool, true, false, List, [], ◌∷◌, length, take, Some, None}
use Rattle.dfu_slots.specs.Medium.{Torn}
use Rattle.dfu_slots.specs.StoreView.{SlotsState}
use Rattle.dfu_device.specs.declared.answer.Answer.{Answer}
use Rattle.dfu_device.specs.declared.answer.Answer.TheVariants as answer
use Rattle.dfu_device.specs.Stage.{Stage, InAppIdle, InDfuIdle}
use Rattle.dfu_device.specs.Table.{reset_stage}
use Rattle.dfu_device.specs.DeviceView.{powered_on_device}
use Rattle.dfu_device.specs.Rows.{Cause, Transfer, Passing, RefusingClose, Refusing, Row}
use Rattle.dfu_asks.specs.declared.reply.Reply.{Reply}
use Rattle.dfu_asks.specs.declared.reply.Reply.TheVariants as reply
use Rattle.dfu_asks.specs.declared.pending_writes.PendingWrites.{PendingWrites}
use Rattle.dfu_asks.specs.Lent.{SameConfig}
use Rattle.dfu_asks.specs.Steps.{Step}
use Rattle.dfu_asks.specs.Carried.{IsStepPiece}
use Rattle.dfu_asks.specs.Asks.{device_of, IsDevice, steps_in}
use Rattle.dfu_asks.specs.Calls.{WritesPending, DeviceCalled, DevicePieceReported}
use Rattle.dfu_asks.specs.Refused.{RoomForBlocks, IsDeviceOn, HasRemainingWrites}
use Rattle.dfu_laws.specs.board.Board.{Board, lent_on, medium_on, device_on, Event, Handle, Elapse, UsbReset, RefuseClose, Refuse, Write, Took, Restart, BoardReply, Nothing, WritesDue, Answers, BoardStep}

-- Reply of a board for the reply of a call. The bytes of an answer are the first `count` bytes of the call's buffer.
abbrev pub reply_of_call : Reply → List ℕ → BoardReply
reply_of_call reply.Asks out = WritesDue
reply_of_call (reply.Answered a count) out = Answers a (take count out)

-- A call of `handle` or `elapse` is not refused (clauses `served` and `outcome`). It returns the answer of its cause's row in the device
-- table, or leaves the writes of that row pending.
pub record IsServedBy (b : Board) (cause : Cause) (says : BoardReply) (b' : Board) : Type 0 where
  -- No writes were pending before the call.
  pub idle : b.asking.work ≡ None
  -- The memory has room for a block.
  pub fits : RoomForBlocks b.asking (length b.block)
  -- The call does not change the flash.
  pub flash : b'.flash ≡ b.flash
  pub reply : Reply
  -- If the board is a valid device, the call returns the row's answer, or the row's writes are pending.
  pub outcome : IsDeviceOn b.asking b.block b.held b.flash → (out out' : List ℕ)
      × DeviceCalled (lent_on b) b.flash out (λ d x sent d'. Row d cause x sent d') (lent_on b') out' reply
      × (says ≡ reply_of_call reply out')

-- A call of `usb_reset` is not refused (clauses `served`, `row`, `stays_device` and `work`).
pub record ResetServed (b : Board) (says : BoardReply) (b' : Board) : Type 0 where
  -- No writes were pending before the call.
  pub idle : b.asking.work ≡ None
  -- The memory has room for a block.
  pub fits : RoomForBlocks b.asking (length b.block)
  -- The call does not change the flash.
  pub flash : b'.flash ≡ b.flash
  -- The stage becomes the one after a reset, and nothing else of the device changes.
  pub row : device_on b' ≡ record (device_on b) { stage = reset_stage (device_on b).stage }
  -- A board that is a valid device before the call is one after it.
  pub is : IsDeviceOn b.asking b.block b.held b.flash → IsDeviceOn b'.asking b'.block b'.held b'.flash
  -- No writes are pending after the call.
  pub work : b'.asking.work ≡ None
  -- The call is acknowledged.
  pub says_is : says ≡ Answers answer.Ack []

-- A call of `refuse_close` or `refuse` is not refused. The device changes by the row of this cause, with this answer.
pub record ObjectionServed (b : Board) (cause : Cause) (a : Answer) (says : BoardReply) (b' : Board) : Type 0 where
  pub idle : b.asking.work ≡ None
  pub flash : b'.flash ≡ b.flash
  pub row : IsDevice (lent_on b) b.flash → IsDevice (lent_on b') b'.flash × Row (device_on b) cause a [] (device_on b')
  pub work : b'.asking.work ≡ None
  pub says_is : says ≡ Answers a []

-- `next` returns the piece, by its clauses `due` and `piece`.
abbrev pub PieceHandedOut : Board → Step → Type 0
PieceHandedOut b p = (w : PendingWrites) × (b.asking.work ≡ Some w) × IsStepPiece (steps_in (lent_on b) w) w.done p

-- The flash changes in the range of the piece, and nowhere else. The range may hold any bytes afterwards, because the write may be done in
-- full or in part, may fail, or may report success without effect.
pub record FlashIsWritten (b : Board) (b' : Board) : Type 0 where
  pub piece : Step
  pub handed : PieceHandedOut b piece
  pub torn : Torn b.flash piece.write.at piece.write.bytes b'.flash
  pub asking : b'.asking ≡ b.asking
  pub block : b'.block ≡ b.block
  pub held : b'.held ≡ b.held

-- A call of `took` is not refused (clauses `taken` and `outcome`).
pub record TookResult (b : Board) (failed : Bool) (says : BoardReply) (b' : Board) : Type 0 where
  -- The call reports a piece of these pending writes.
  pub work : PendingWrites
  -- Some of these writes remain.
  pub left : HasRemainingWrites (lent_on b) work
  -- The call does not change the flash.
  pub flash : b'.flash ≡ b.flash
  pub reply : Reply
  -- Bytes in the buffer before the call.
  pub out : List ℕ
  -- Bytes in the buffer after the call.
  pub out' : List ℕ
  -- If the board carries out these writes, the call has the outcome that `DevicePieceReported` states for the report of this piece.
  pub outcome : (len : ℕ) (s : SlotsState) (was before : List ℕ) (asks : WritesPending (lent_on b) len s was before) (p : Step)
      → IsStepPiece (steps_in (lent_on b) asks.work) asks.work.done p → Torn before p.write.at p.write.bytes b.flash
      → DevicePieceReported (device_of (lent_on b) s) len s was p.write failed b.flash out (lent_on b') out' reply
  -- The reply of the board is that of the call.
  pub says_is : says ≡ reply_of_call reply out'

-- Stage in which a device starts: dfuIDLE for a host, else appIDLE.
abbrev pub start_stage : Bool → Stage
start_stage true = InDfuIdle
start_stage false = InAppIdle

-- A board was just powered on (clauses `device`, `is_device` and `work` of `power_on`). It is in appIDLE, or in dfuIDLE if it begins for a host.
pub record IsPoweredOn (b : Board) : Type 0 where
  -- True if the board begins for a host.
  pub begins : Bool
  -- The device is one that was just powered on, in the stage in which it starts.
  pub device : device_on b ≡ record (powered_on_device b.asking.config (medium_on b)) { stage = start_stage begins }
  -- The device is valid on the board's flash.
  pub is : IsDevice (lent_on b) b.flash
  -- No writes are pending.
  pub work : b.asking.work ≡ None

-- A board was just powered on, and begins for a host exactly if the first argument is true.
abbrev pub BoardStarts : Bool → Board → Type 0
BoardStarts begins b = (on : IsPoweredOn b) × (on.begins ≡ begins)

-- If there is no reply, the call was refused and the board is unchanged. After any reply, P holds.
abbrev pub IsRefusedOr : BoardReply → Board → Board → Type 0 → Type 0
IsRefusedOr Nothing b b' P = b' ≡ b
IsRefusedOr says b b' P = P

-- Outcome of an event: its call is refused or served, the flash is written, or the board was just powered on with its flash unchanged.
abbrev pub EventOutcome : Board → Event → BoardReply → Board → Type 0
EventOutcome b (Handle setup body) says b' = IsRefusedOr says b b' (IsServedBy b (Transfer setup body) says b')
EventOutcome b (Elapse ms) says b' = IsRefusedOr says b b' (IsServedBy b (Passing ms) says b')
EventOutcome b UsbReset says b' = IsRefusedOr says b b' (ResetServed b says b')
EventOutcome b (RefuseClose setup why) says b' = IsRefusedOr says b b' (ObjectionServed b (RefusingClose setup why) answer.Stall says b')
EventOutcome b (Refuse why) says b' = IsRefusedOr says b b' (ObjectionServed b (Refusing why) answer.Ack says b')
EventOutcome b Write says b' = (says ≡ Nothing) × FlashIsWritten b b'
EventOutcome b (Took failed) says b' = IsRefusedOr says b b' (TookResult b failed says b')
EventOutcome b (Restart begins) says b' = (says ≡ Nothing) × (b'.flash ≡ b.flash) × ((on : IsPoweredOn b') × (on.begins ≡ begins))

-- The steps lead from the first board to the last. Each begins where the previous one ended, and leaves the configuration of the board
-- unchanged.
abbrev pub IsRun : Board → List BoardStep → Board → Type 0
IsRun b [] b' = b' ≡ b
IsRun b (s ∷ rest) b' = (s.before ≡ b) × EventOutcome b s.event s.says s.after × SameConfig b.asking s.after.asking × IsRun s.after rest b'
