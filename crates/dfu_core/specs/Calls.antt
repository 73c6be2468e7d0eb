-- Results of calls from a program in C: the number returned, and the record after the call.
use Rattle.std.specs.Prelude.{◌≡◌, ◌≢◌, ◌⊎◌, ℕ, ℤ, Bool, ◌<◌, ◌≤◌, IsSome, List, length, replicate, None}
use Rattle.dfu_slots.specs.Medium.{Torn}
use Rattle.dfu_slots.specs.StoreView.{SlotsState}
use Rattle.dfu_device.specs.declared.answer.Answer.{Answer}
use Rattle.dfu_device.specs.DeviceView.{DeviceView}
use Rattle.dfu_asks.specs.declared.asking.Asking.{Asking}
use Rattle.dfu_asks.specs.declared.reply.Reply.{Reply}
use Rattle.dfu_asks.specs.declared.pending_writes.PendingWrites.{PendingWrites}
use Rattle.dfu_asks.specs.Carried.{IsStepPiece}
use Rattle.dfu_asks.specs.Steps.{Step}
use Rattle.dfu_asks.specs.Lent.{LentDevice}
use Rattle.dfu_asks.specs.Asks.{device_of, steps_in}
use Rattle.dfu_asks.specs.Calls.{DeviceCalled, WritesPending, DevicePieceReported}
use Rattle.dfu_asks.specs.Refused.{IsDeviceOn, NotedHeaderIsOnFlash, RoomForBlocks, HasRemainingWrites}
use Rattle.dfu_core.specs.declared.config.DfuConfig.{DfuConfig}
use Rattle.dfu_core.specs.declared.record.DfuRecord.{DfuRecord}
use Rattle.dfu_core.specs.declared.numbers.CoreRefusal.{CoreRefusal}
use Rattle.dfu_core.specs.declared.numbers.CoreRefusal.TheVariants as refusal
use Rattle.dfu_core.specs.Config.{transfer_of, block_memory_size, IsConfig}
use Rattle.dfu_core.specs.RecordMeaning.{IsRecordOf, block_in_memory, held_memory}
use Rattle.dfu_core.specs.Formatting.{FORMAT_WORK}
use Rattle.dfu_core.specs.Further.{PiecesAdvance}
use Rattle.dfu_core.specs.Numbers.{refusal_number, reply_number, time_reply_number, NO_ROOM_NUMBER}

-- The record represents no device with a block memory of the given size. The reasons are checked in this order: the record is that of a
-- format; the configuration is not allowed; the memory is smaller than the transfer size and a unit together; the record represents no
-- device whose block has at most the transfer size.
abbrev pub DeviceNotFound : CoreRefusal → DfuConfig → DfuRecord → ℕ → Type 0
DeviceNotFound refusal.Asked c r room = r.work ≡ FORMAT_WORK
DeviceNotFound refusal.NoConfig c r room = (r.work ≢ FORMAT_WORK) × ¬ IsConfig c
DeviceNotFound refusal.NoBlock c r room = (r.work ≢ FORMAT_WORK) × IsConfig c × (room < block_memory_size c)
DeviceNotFound refusal.NoDevice c r room = (r.work ≢ FORMAT_WORK) × IsConfig c × (block_memory_size c ≤ room)
    × ((a : Asking) → IsRecordOf c r a → transfer_of c < a.block_len)
DeviceNotFound e c r room = ⊥

-- The block memory and the flash agree with the device's record: they are as the last call left them.
abbrev pub IsIntactBlock : (memory flash : List ℕ) → Asking → Type 0
IsIntactBlock memory flash a = IsDeviceOn a (block_in_memory a memory) (held_memory a memory) flash

-- A call for a device is refused. The reasons are checked in this order: writes are pending; no open slot of the flash has the noted
-- header; the block memory or the flash is not as the last call left it.
abbrev pub IsCallRefused : CoreRefusal → (block flash : List ℕ) → Asking → Type 0
IsCallRefused refusal.Asked block flash a = IsSome a.work
IsCallRefused refusal.NoMedium block flash a = (a.work ≡ None) × ¬ NotedHeaderIsOnFlash a flash
IsCallRefused refusal.NoDevice block flash a = (a.work ≡ None) × NotedHeaderIsOnFlash a flash × ¬ IsIntactBlock block flash a
IsCallRefused e block flash a = ⊥

-- A call is refused because the record represents no device, or else because the call for the record's device is refused.
abbrev pub IsRefusedByCore : CoreRefusal → DfuConfig → DfuRecord → (block flash : List ℕ) → Type 0
IsRefusedByCore e c r block flash = DeviceNotFound e c r (length block)
    ⊎ ((a : Asking) × IsConfig c × IsRecordOf c r a × (block_memory_size c ≤ length block) × IsCallRefused e block flash a)

-- A refused call returned the number of its reason, and left the record and the block unchanged.
pub record CoreRefuses (c : DfuConfig) (r : DfuRecord) (block flash : List ℕ) (result : ℤ) (r' : DfuRecord) (block' : List ℕ) : Type 0 where
  pub why : CoreRefusal
  pub number_is : result ≡ refusal_number why
  pub cause : IsRefusedByCore why c r block flash
  pub unchanged : r' ≡ r
  pub block_is : block' ≡ block

-- A call with an allowed configuration and a large enough block memory changed the record of one device into that of another, and `Does`
-- relates the two devices. The block fits into its memory if it did before the call.
pub record RecordAfterCall (c : DfuConfig) (r : DfuRecord) (block : List ℕ) (r' : DfuRecord) (block' : List ℕ) (Does : Asking → Asking →
    Type 0)
    : Type 0 where
  pub config : IsConfig c
  pub room : block_memory_size c ≤ length block
  pub before : Asking
  pub after : Asking
  pub was : IsRecordOf c r before
  pub is : IsRecordOf c r' after
  pub fits : RoomForBlocks before (transfer_of c) → RoomForBlocks after (transfer_of c)
  pub does : Does before after

-- A call was made while no writes were pending, and the number that it returned encodes the reply. If `Whole` holds, the reply ends a row
-- of the device table, or requests the writes of a row.
pub record ReplyOutcome (Whole : Type 0) (a : LentDevice) (flash out : List ℕ) (Row : DeviceView → Answer → List ℕ → DeviceView → Type 0)
    (number : Reply → ℤ) (result : ℤ) (a' : LentDevice) (out' : List ℕ) : Type 0 where
  pub idle : a.work ≡ None
  pub reply : Reply
  pub number_is : result ≡ number reply
  pub called : Whole → DeviceCalled a flash out Row a' out' reply

-- Time passed while no writes were pending. If `Whole` holds, a row for this time ended, or its writes were requested. The number is 0 or
-- DFU_WRITE_PENDING.
pub record TimeOutcome (Whole : Type 0) (a : LentDevice) (flash : List ℕ) (Row : DeviceView → Answer → List ℕ → DeviceView → Type 0)
    (result : ℤ) (a' : LentDevice) : Type 0 where
  pub idle : a.work ≡ None
  pub reply : Reply
  pub number_is : result ≡ time_reply_number reply
  pub called : Whole → (out : List ℕ) × DeviceCalled a flash (replicate 6 0) Row a' out reply

-- Writes were pending, the program reported the outcome of a piece, and the number encodes the reply. If the piece was the next one, and
-- only its range of the flash changed, the new state of the device follows from the report and the flash.
pub record ReportOutcome (a : LentDevice) (flash : List ℕ) (failed : Bool) (out : List ℕ) (result : ℤ) (a' : LentDevice) (out' : List ℕ)
    : Type 0 where
  pub work : PendingWrites
  pub left : HasRemainingWrites a work
  pub reply : Reply
  pub number_is : result ≡ reply_number reply
  pub took : (len : ℕ) (s : SlotsState) (was before : List ℕ) (asks : WritesPending a len s was before) (p : Step)
      → IsStepPiece (steps_in a asks.work) asks.work.done p → Torn before p.write.at p.write.bytes flash
      → DevicePieceReported (device_of a s) len s was p.write failed flash out a' out' reply
  pub further : PiecesAdvance a reply a'

-- The buffer had fewer than `least` bytes, and the call changed nothing.
pub record BufferTooSmall (least : ℕ) (r : DfuRecord) (block out : List ℕ) (result : ℤ) (r' : DfuRecord)
    (block' out' : List ℕ) : Type 0 where
  pub number_is : result ≡ NO_ROOM_NUMBER
  pub short : length out < least
  pub unchanged : r' ≡ r
  pub block_is : block' ≡ block
  pub nothing_given : out' ≡ out
