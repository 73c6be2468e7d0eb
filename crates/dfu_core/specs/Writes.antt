-- Writes that a device requests from a program in C.
use Rattle.std.specs.Prelude.{◌≡◌, ◌⊎◌, ◌==◌, ◌^◌, ℕ, ℤ, pos, ◌<◌, ◌≤◌, List, length, take, replicate, Some, if◌then◌else◌}
use Rattle.dfu_slots.specs.Image.{Active}
use Rattle.dfu_slots.specs.StoreView.{SlotsState}
use Rattle.dfu_asks.specs.declared.asking.Asking.{Asking}
use Rattle.dfu_asks.specs.declared.pending_writes.PendingWrites.{PendingWrites}
use Rattle.dfu_asks.specs.Mapped.{grain_of, mapped_medium, RangeIsInSpare}
use Rattle.dfu_asks.specs.Steps.{Step}
use Rattle.dfu_asks.specs.Carried.{IsStepPiece, ErasesSectorOrPrograms}
use Rattle.dfu_asks.specs.Asks.{steps_in}
use Rattle.dfu_asks.specs.Lent.{LentDevice}
use Rattle.dfu_asks.specs.Calls.{WritesPending}
use Rattle.dfu_core.specs.declared.records.DfuAsk.{DfuAsk}
use Rattle.dfu_core.specs.declared.config.DfuConfig.{DfuConfig}
use Rattle.dfu_core.specs.declared.record.DfuRecord.{DfuRecord}
use Rattle.dfu_core.specs.declared.numbers.CoreRefusal.{CoreRefusal}
use Rattle.dfu_core.specs.Config.{block_memory_size, IsConfig}
use Rattle.dfu_core.specs.RecordMeaning.{IsRecordOf, with_memory}
use Rattle.dfu_core.specs.Calls.{DeviceNotFound}
use Rattle.dfu_core.specs.Numbers.{refusal_number, NO_DEVICE_NUMBER}

-- Step that corresponds to an operation: kind 1 erases `length` bytes at `at`, and any other kind programs the first `length` bytes of
-- `bytes` there.
abbrev pub ask_step : DfuAsk → Step
ask_step ask = record {
  erases = ask.kind == 1;
  write = record { at = ask.at; bytes = if ask.kind == 1 then replicate ask.length 255 else take ask.length ask.bytes };
}

-- The program received the next pending write. If the flash has an active image, the write lies in the spare slot.
pub record WriteHandedOut (c : DfuConfig) (r : DfuRecord) (block flash : List ℕ) (result : ℤ) (ask : DfuAsk) : Type 0 where
  pub number_is : result ≡ pos 0
  pub config : IsConfig c
  pub room : block_memory_size c ≤ length block
  pub asking : Asking
  pub is : IsRecordOf c r asking
  pub work : PendingWrites
  pub work_is : asking.work ≡ Some work
  pub kind : (ask.kind ≡ 1) ⊎ (ask.kind ≡ 2)
  pub piece : IsStepPiece (steps_in (with_memory block asking) work) work.done (ask_step ask)
  pub some : 0 < ask.length
  pub most : ask.kind ≡ 2 → ask.length ≤ 256
  pub sector : ErasesSectorOrPrograms c.sector (ask_step ask)
  pub spare : (image : List ℕ) → Active (mapped_medium (grain_of asking.unit asking.sector) flash) image
      → RangeIsInSpare (mapped_medium (grain_of asking.unit asking.sector) flash) ask.at ask.length

-- The writes of a row are pending, and all pieces before the next one are on the flash.
abbrev pub HasRowPending : LentDevice → List ℕ → Type 0
HasRowPending a flash = (len : ℕ) × (s : SlotsState) × (was : List ℕ) × WritesPending a len s was flash

-- There is no write to return: none is pending with this flash, or the flash has 2^32 bytes or more.
abbrev pub HasNoWriteToHandOut : LentDevice → List ℕ → Type 0
HasNoWriteToHandOut a flash = ¬ HasRowPending a flash ⊎ 2 ^ 32 ≤ length flash

-- On some flash the writes of a row are pending.
abbrev pub IsPendingOnSomeFlash : LentDevice → Type 0
IsPendingOnSomeFlash a = (flash : List ℕ) × HasRowPending a flash

-- A call for a piece is refused because the record represents no device, or else, with DFU_NO_DEVICE, because the record's device satisfies
-- `Why`.
pub data RefusesPiece (c : DfuConfig) (r : DfuRecord) (block : List ℕ) (Why : Asking → Type 0) (result : ℤ) : Type 0 where
  device_is_not_found : (e : CoreRefusal) → result ≡ refusal_number e → DeviceNotFound e c r (length block) → RefusesPiece c r block Why result
  piece_is_refused : (a : Asking) → result ≡ NO_DEVICE_NUMBER → IsConfig c → block_memory_size c ≤ length block → IsRecordOf c r a → Why a
      → RefusesPiece c r block Why result
