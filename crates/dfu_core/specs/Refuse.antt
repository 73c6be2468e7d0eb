-- Refusal of an image by a program in C.
use Rattle.std.specs.Prelude.{◌≡◌, ◌⊎◌, ◌==◌, if◌then◌else◌, ℕ, ℤ, pos, List, [], None}
use Rattle.dfu_wire.specs.Code.{code_byte}
use Rattle.dfu_device.specs.declared.answer.Answer.{Answer}
use Rattle.dfu_device.specs.declared.answer.Answer.TheVariants as answer
use Rattle.dfu_device.specs.declared.objection.Objection.{Objection}
use Rattle.dfu_device.specs.declared.objection.Objection.TheVariants.{Target, File}
use Rattle.dfu_device.specs.Table.{objection_code}
use Rattle.dfu_device.specs.Rows.{Cause, ClosesDownload, RefusingClose, Refusing, Row}
use Rattle.dfu_asks.specs.declared.asking.Asking.{Asking}
use Rattle.dfu_asks.specs.Asks.{device_in, IsDevice}
use Rattle.dfu_core.specs.declared.config.DfuConfig.{DfuConfig}
use Rattle.dfu_core.specs.declared.record.DfuRecord.{DfuRecord}
use Rattle.dfu_core.specs.Idle.{IsIdleRecord, RefusesUnlessIdle}
use Rattle.dfu_core.specs.RecordMeaning.{IsRecordOf, with_memory}
use Rattle.dfu_core.specs.Numbers.{STALL_NUMBER, NO_CLOSE_NUMBER, NO_STATUS_NUMBER}

-- Objection that a status reports: 1 is errTARGET, and any other number counts as errFILE.
abbrev pub objection_of_status : ℕ → Objection
objection_of_status status = if status == 1 then Target else File

-- The status is that of an objection: errTARGET or errFILE.
abbrev pub IsObjectionStatus : ℕ → Type 0
IsObjectionStatus status = code_byte (objection_code (objection_of_status status)) ≡ status

-- The record changes as in a row of the cause with this answer and no bytes. No writes are pending then, and the block keeps its length.
abbrev pub RecordTakesRow : DfuConfig → DfuRecord → Cause → Answer → DfuRecord → Type 0
RecordTakesRow c r cause x r' = (a : Asking) → IsRecordOf c r a → (a' : Asking) × IsRecordOf c r' a' × (a'.work ≡ None) × (a'.block_len
    ≡ a.block_len)
    × ((block flash : List ℕ) → IsDevice (with_memory block a) flash → IsDevice (with_memory block a') flash
    × Row (device_in (with_memory block a) flash) cause x [] (device_in (with_memory block a') flash))

-- The setup packet closes no download of the record's device, for any flash and block memory that agree with the device.
abbrev pub ClosesNoDownload : DfuConfig → DfuRecord → List ℕ → Type 0
ClosesNoDownload c r setup = (a : Asking) → IsRecordOf c r a → (block flash : List ℕ) → IsDevice (with_memory block a) flash
    → ¬ ClosesDownload setup (device_in (with_memory block a) flash)

-- A call with a status is refused for a reason of dfu_core_would_stall, or else because the status is not that of an objection.
abbrev pub RefusesStatus : DfuConfig → DfuRecord → ℕ → ℤ → Type 0
RefusesStatus c r status result =
    ((result ≡ NO_STATUS_NUMBER) × IsIdleRecord c r × ¬ IsObjectionStatus status) ⊎ RefusesUnlessIdle c r result

-- Outcome of dfu_core_refuse with a status: 0 and the row of the refusal, or a refused call, which leaves the record unchanged.
abbrev pub RefuseOutcome : DfuConfig → DfuRecord → ℕ → ℤ → DfuRecord → Type 0
RefuseOutcome c r status result r' =
    ((result ≡ pos 0) × IsIdleRecord c r × IsObjectionStatus status
    × RecordTakesRow c r (Refusing (objection_of_status status)) answer.Ack r')
    ⊎ ((r' ≡ r) × RefusesStatus c r status result)

-- Outcome of dfu_core_refuse_close with a status and an addressed setup packet: a stall and the row of the refusal, or a refused call,
-- which leaves the record unchanged.
abbrev pub RefuseCloseOutcome : DfuConfig → DfuRecord → List ℕ → ℕ → ℤ → DfuRecord → Type 0
RefuseCloseOutcome c r setup status result r' =
    ((result ≡ STALL_NUMBER) × IsIdleRecord c r × IsObjectionStatus status
    × RecordTakesRow c r (RefusingClose setup (objection_of_status status)) answer.Stall r')
    ⊎ ((r' ≡ r) × (((result ≡ NO_CLOSE_NUMBER) × IsIdleRecord c r × IsObjectionStatus status × ClosesNoDownload c r setup)
    ⊎ RefusesStatus c r status result))
