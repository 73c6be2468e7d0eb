-- dfu_core_closes and dfu_core_refuse_close agree on the setups that close a download.
use Rattle.std.specs.Prelude.{◌≡◌, ◌⊎◌, ◌↔◌, ℕ, ℤ, pos, List}
use Rattle.dfu_asks.specs.declared.asking.Asking.{Asking}
use Rattle.dfu_asks.specs.Asks.{IsDevice}
use Rattle.dfu_core.specs.declared.config.DfuConfig.{DfuConfig}
use Rattle.dfu_core.specs.declared.record.DfuRecord.{DfuRecord}
use Rattle.dfu_core.specs.Closes.{CloseResult}
use Rattle.dfu_core.specs.Idle.{IsIdleRecord}
use Rattle.dfu_core.specs.RecordMeaning.{IsRecordOf, with_memory}
use Rattle.dfu_core.specs.Numbers.{STALL_NUMBER, NO_CLOSE_NUMBER}
use Rattle.dfu_core.specs.Refuse.{IsObjectionStatus, RefuseCloseOutcome}

-- dfu_core_closes returns 1 for a setup exactly if dfu_core_refuse_close returns DFU_STALL for it, with either status. It returns 0 exactly
-- if dfu_core_refuse_close returns DFU_NO_CLOSE.
abbrev pub ClosesIfRefused : Type 0
ClosesIfRefused = (c : DfuConfig) (r r' : DfuRecord) (setup : List ℕ) (status : ℕ) (n refused : ℤ) → IsIdleRecord c r →
    IsObjectionStatus status
    → CloseResult c r setup n → (n ≡ pos 0) ⊎ (n ≡ pos 1) → RefuseCloseOutcome c r setup status refused r'
    → (block flash : List ℕ) (a : Asking) → IsRecordOf c r a → IsDevice (with_memory block a) flash
    → ((n ≡ pos 1) ↔ (refused ≡ STALL_NUMBER)) × ((n ≡ pos 0) ↔ (refused ≡ NO_CLOSE_NUMBER))
