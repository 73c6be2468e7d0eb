-- A lemma about records after a setup packet with a body that is longer than a block.
use Rattle.std.proofs.Common.{◌≡◌, ℕ, List, [], refl}
use Rattle.dfu_slots.specs.declared.layout.Unit.{Unit as WriteUnit}
use Rattle.dfu_device.specs.declared.answer.Answer.TheVariants as answer
use Rattle.dfu_device.specs.declared.device_state.DeviceState.{DeviceState}
use Rattle.dfu_device.specs.Rows.{Handles}
use Rattle.dfu_device.specs.Setting.{Setting}
use Rattle.dfu_asks.specs.declared.sector.Sector.{Sector}
use Rattle.dfu_asks.specs.Mapped.{UnseenState}
use Rattle.dfu_asks.specs.Asks.{device_with, IsDevice}
use Rattle.dfu_asks.specs.InMode.{IsDeviceIn}
use Rattle.dfu_asks.specs.Lent.{LentDevice}
use Rattle.dfu_asks.specs.Verdict.{IsBodyOf}
use Rattle.dfu_core.specs.declared.config.DfuConfig.{DfuConfig}
use Rattle.dfu_core.specs.declared.record.DfuRecord.{DfuRecord}
use Rattle.dfu_core.specs.RecordMeaning.{AreConfigParts, with_memory}
use Rattle.dfu_core.specs.Long.{RecordTakesTooLongRow}
use Rattle.dfu_core.specs.Mode.{HasMode}
use Rattle.dfu_device_c.proofs.ModeChanges.{zero_work_has_no_writes, moved_record_is_device}
use Rattle.dfu_device_c.proofs.RecordAnswers.{record_device_is_in_mode}

-- If the mode of a record changes as in the row of a setup packet whose body is too long, RecordTakesTooLongRow holds for the record.
pub record_takes_too_long_row : (c : DfuConfig) (r r' : DfuRecord) {config : Setting} {unit : WriteUnit} {sector : Sector} (setup : List ℕ)
    (m m' : DeviceState) → AreConfigParts c config unit sector → ((x : DeviceState) → HasMode r x → m ≡ x) → r.work ≡ 0 → HasMode r' m'
    → r' ≡ record r { version = r'.version; mode = r'.mode; first = r'.first; second = r'.second; number = r'.number }
    → ((l : LentDevice) (flash : List ℕ) → IsDeviceIn config m l flash → IsDevice (record l { mode = m' }) flash
    × ((body : List ℕ) → IsBodyOf setup body → (u : UnseenState)
    → Handles setup body (device_with u l flash) answer.Stall [] (device_with u (record l { mode = m' }) flash)))
    → RecordTakesTooLongRow c r setup r'
record_takes_too_long_row c r r' setup m m' set_up the_mode idle moved rest row a kept = (
  record a { mode = m' },
  moved_record_is_device c r r' m m' the_mode idle moved rest a kept,
  zero_work_has_no_writes r a.work idle kept.work,
  refl,
  λ block flash device body body_is.
      let led = row (with_memory block a) flash (record_device_is_in_mode c r m set_up the_mode block flash a kept device) in (
        led.0,
        led.1
            body body_is,
      ),
)
