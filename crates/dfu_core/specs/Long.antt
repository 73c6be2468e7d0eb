-- Setup packets whose body is longer than the transfer size.
use Rattle.std.specs.Prelude.{◌≡◌, ℕ, List, [], None, length}
use Rattle.dfu_wire.specs.declared.setups.Setup.{Setup}
use Rattle.dfu_wire.specs.Setup.{IsSetup}
use Rattle.dfu_device.specs.declared.answer.Answer.TheVariants as answer
use Rattle.dfu_device.specs.Rows.{Handles, body_length}
use Rattle.dfu_asks.specs.declared.asking.Asking.{Asking}
use Rattle.dfu_asks.specs.Mapped.{UnseenState}
use Rattle.dfu_asks.specs.Asks.{device_with, IsDevice}
use Rattle.dfu_core.specs.declared.config.DfuConfig.{DfuConfig}
use Rattle.dfu_core.specs.declared.record.DfuRecord.{DfuRecord}
use Rattle.dfu_core.specs.RecordMeaning.{IsRecordOf, with_memory}

-- The record changes as in the row of a setup packet with a body that is too long: a stall. The record afterwards doesn't depend on the
-- bytes of the body, and the block keeps its length.
abbrev pub RecordTakesTooLongRow : DfuConfig → DfuRecord → List ℕ → DfuRecord → Type 0
RecordTakesTooLongRow c r setup r' = (a : Asking) → IsRecordOf c r a → (a' : Asking) × IsRecordOf c r' a' × (a'.work ≡ None)
    × (a'.block_len ≡ a.block_len)
    × ((block flash : List ℕ) → IsDevice (with_memory block a) flash
    → (body : List ℕ) → ((p : Setup) → IsSetup p setup → length body ≡ body_length p)
    → IsDevice (with_memory block a') flash
    × ((u : UnseenState) → Handles setup body (device_with u (with_memory block a) flash) answer.Stall []
    (device_with u (with_memory block a') flash)))
