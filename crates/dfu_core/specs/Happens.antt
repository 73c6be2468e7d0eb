-- Outcomes of the events of a board in C: the result of each call, and the flash after a write.
use Rattle.std.specs.Prelude.{◌≡◌, ◌⊎◌, ◌==◌, ◌≤◌, not, ℕ, ℤ, Bool, true, false, pos, List, [], length, None}
use Rattle.dfu_slots.specs.Medium.{Torn}
use Rattle.dfu_device.specs.declared.device_state.DeviceState.{DeviceState}
use Rattle.dfu_device.specs.declared.device_state.DeviceState.TheVariants.{AppIdle, DfuIdle}
use Rattle.dfu_device.specs.declared.answer.Answer.TheVariants as answer
use Rattle.dfu_device.specs.Rows.{Handles, Elapses}
use Rattle.dfu_device.specs.Table.{reset_stage}
use Rattle.dfu_device.specs.Borrowed.{answer_room}
use Rattle.dfu_asks.specs.Asks.{device_in}
use Rattle.dfu_core.specs.declared.records.DfuAsk.{DfuAsk}
use Rattle.dfu_core.specs.Config.{config_setting, transfer_of}
use Rattle.dfu_asks.specs.Addressed.{addressed_setup}
use Rattle.dfu_core.specs.RecordMeaning.{with_memory}
use Rattle.dfu_core.specs.Numbers.{reply_number, STALL_NUMBER, NOT_LONG_NUMBER}
use Rattle.dfu_core.specs.Calls.{RecordAfterCall, ReplyOutcome, TimeOutcome, ReportOutcome, CoreRefuses, BufferTooSmall, IsIntactBlock}
use Rattle.dfu_core.specs.Writes.{ask_step, WriteHandedOut, RefusesPiece, IsPendingOnSomeFlash}
use Rattle.dfu_core.specs.Power.{PowerOutcome}
use Rattle.dfu_core.specs.Idle.{IsIdleRecord, RefusesUnlessIdle}
use Rattle.dfu_asks.specs.Verdict.{IsBodyOf}
use Rattle.dfu_asks.specs.AfterLong.{IsLongerThanBlock}
use Rattle.dfu_core.specs.Long.{RecordTakesTooLongRow}
use Rattle.dfu_core.specs.Refuse.{RefuseCloseOutcome, RefuseOutcome}
use Rattle.dfu_core.specs.Board.{CoreBoard, CoreEvent, CoreHandle, CoreElapse, CoreReset, CoreTooLong, CoreRefuseClose, CoreRefuse, CoreWrite, CoreTook, CoreRestart}

-- A call changes neither the configuration nor the flash.
pub record KeepsConfigAndFlash (b b' : CoreBoard) : Type 0 where
  pub config : b'.config ≡ b.config
  pub flash : b'.flash ≡ b.flash

-- Outcome of dfu_core_handle with a setup packet, a body and a buffer: the row of the packet, a refusal, or a buffer that is too small for
-- an answer.
abbrev pub HandleOutcome : CoreBoard → (setup body out : List ℕ) → ℤ → List ℕ → CoreBoard → Type 0
HandleOutcome b setup body out n out' b' =
    RecordAfterCall b.config b.kept b.block b'.kept b'.block (λ a a'. let before = with_memory b.block a in
    ReplyOutcome (IsIntactBlock b.block b.flash a) before b.flash out
    (λ d x sent d'. Handles (addressed_setup b.config.interface setup) body d x sent d') reply_number n
    (with_memory b'.block a') out')
    ⊎ (CoreRefuses b.config b.kept b.block b.flash n b'.kept b'.block × (out' ≡ out))
    ⊎ BufferTooSmall (answer_room (config_setting b.config)) b.kept b.block out n b'.kept b'.block out'

-- Outcome of dfu_core_elapse after `ms` milliseconds: the row of that time, or a refusal.
abbrev pub ElapseOutcome : CoreBoard → (ms : ℕ) → ℤ → CoreBoard → Type 0
ElapseOutcome b ms n b' =
    RecordAfterCall b.config b.kept b.block b'.kept b'.block (λ a a'. let before = with_memory b.block a in
    TimeOutcome (IsIntactBlock b.block b.flash a) before b.flash
    (λ d x sent d'. (x ≡ answer.Ack) × (sent ≡ []) × Elapses ms d d') n (with_memory b'.block a'))
    ⊎ CoreRefuses b.config b.kept b.block b.flash n b'.kept b'.block

-- Outcome of dfu_core_usb_reset: the row of a reset of the bus, or a refusal.
abbrev pub ResetOutcome : CoreBoard → ℤ → CoreBoard → Type 0
ResetOutcome b n b' =
    RecordAfterCall b.config b.kept b.block b'.kept b'.block (λ a a'. let before = device_in (with_memory b.block a) b.flash in
    (a.work ≡ None) × (n ≡ pos 0) × (a'.work ≡ None)
    × (device_in (with_memory b'.block a') b.flash ≡ record before { stage = reset_stage before.stage })
    × (IsIntactBlock b.block b.flash a → IsIntactBlock b'.block b.flash a'))
    ⊎ CoreRefuses b.config b.kept b.block b.flash n b'.kept b'.block

-- Outcome of dfu_core_too_long with a setup packet: a stall and the row of the packet, DFU_NOT_LONG, or a refusal.
abbrev pub TooLongOutcome : CoreBoard → (setup : List ℕ) → ℤ → CoreBoard → Type 0
TooLongOutcome b setup n b' =
    let own = addressed_setup b.config.interface setup in
    ((n ≡ STALL_NUMBER) × IsIdleRecord b.config b.kept × IsLongerThanBlock (config_setting b.config) own
    × RecordTakesTooLongRow b.config b.kept own b'.kept)
    ⊎ ((b'.kept ≡ b.kept) × (((n ≡ NOT_LONG_NUMBER) × IsIdleRecord b.config b.kept × ¬ IsLongerThanBlock (config_setting b.config) own)
    ⊎ RefusesUnlessIdle b.config b.kept n))

-- Outcome of dfu_core_took: the reply to the report, a refusal, or a buffer that is too small for a status. A `failed` other than 0 reports
-- a failure.
abbrev pub CoreTookOutcome : CoreBoard → (failed : ℕ) (out : List ℕ) → ℤ → List ℕ → CoreBoard → Type 0
CoreTookOutcome b failed out n out' b' =
    RecordAfterCall b.config b.kept b.block b'.kept b'.block
    (λ a a'. ReportOutcome (with_memory b.block a) b.flash (not (failed == 0)) out n (with_memory b'.block a') out')
    ⊎ (RefusesPiece b.config b.kept b.block (λ a. ¬ IsPendingOnSomeFlash (with_memory b.block a)) n
    × (b'.kept ≡ b.kept) × (b'.block ≡ b.block) × (out' ≡ out))
    ⊎ BufferTooSmall 6 b.kept b.block out n b'.kept b'.block out'

-- The flash changes only in the range of the write that dfu_core_next stored in `ask`. The range may hold any bytes afterwards, because the
-- write may be complete or partial, may fail, or may store other bytes.
pub record CoreFlashIsWritten (b : CoreBoard) (n : ℤ) (b' : CoreBoard) : Type 0 where
  pub ask : DfuAsk
  pub handed : WriteHandedOut b.config b.kept b.block b.flash n ask
  pub torn : Torn b.flash (ask_step ask).write.at (ask_step ask).write.bytes b'.flash
  pub config : b'.config ≡ b.config
  pub kept : b'.kept ≡ b.kept
  pub block : b'.block ≡ b.block

-- Mode of a device at power-on: dfuIDLE if the program calls dfu_core_begin, otherwise appIDLE.
abbrev pub start_mode : Bool → DeviceState
start_mode true = DfuIdle
start_mode false = AppIdle

-- Outcome of an event: the number that its call returns, the buffer and the board afterwards. A power cycle leaves the flash unchanged; the
-- block memory may hold any bytes afterwards.
abbrev pub CoreEventOutcome : CoreBoard → CoreEvent → ℤ → List ℕ → CoreBoard → Type 0
CoreEventOutcome b (CoreHandle setup body out) n out' b' = KeepsConfigAndFlash b b' × HandleOutcome b setup body out n out' b'
CoreEventOutcome b (CoreElapse ms) n out' b' = KeepsConfigAndFlash b b' × ElapseOutcome b ms n b'
CoreEventOutcome b CoreReset n out' b' = KeepsConfigAndFlash b b' × ResetOutcome b n b'
CoreEventOutcome b (CoreTooLong setup body) n out' b' = KeepsConfigAndFlash b b' × (b'.block ≡ b.block) × (transfer_of b.config
    ≤ length b.block)
    × IsBodyOf (addressed_setup b.config.interface setup) body × TooLongOutcome b setup n b'
CoreEventOutcome b (CoreRefuseClose setup status) n out' b' = KeepsConfigAndFlash b b' × (b'.block ≡ b.block)
    × RefuseCloseOutcome b.config b.kept (addressed_setup b.config.interface setup) status n b'.kept
CoreEventOutcome b (CoreRefuse status) n out' b' = KeepsConfigAndFlash b b' × (b'.block ≡ b.block)
    × RefuseOutcome b.config b.kept status n b'.kept
CoreEventOutcome b CoreWrite n out' b' = CoreFlashIsWritten b n b'
CoreEventOutcome b (CoreTook failed out) n out' b' = KeepsConfigAndFlash b b' × CoreTookOutcome b failed out n out' b'
CoreEventOutcome b (CoreRestart begins) n out' b' = KeepsConfigAndFlash b b' × PowerOutcome b.config (start_mode begins) b.flash n b'.kept

-- A board in C was just powered on: dfu_core_power_on, or dfu_core_begin if `begins` is true, made its record for the flash.
pub record IsCorePoweredOn (b : CoreBoard) : Type 0 where
  pub begins : Bool
  pub powers : PowerOutcome b.config (start_mode begins) b.flash (pos 0) b.kept
