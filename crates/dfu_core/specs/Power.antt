-- Results of dfu_core_power_on and dfu_core_begin.
use Rattle.std.specs.Prelude.{◌≡◌, ◌⊎◌, ◌≤◌, ◌^◌, ℕ, ℤ, pos, List, [], length, None}
use Rattle.dfu_slots.specs.Units.{Grain}
use Rattle.dfu_slots.specs.Image.{HasImage}
use Rattle.dfu_device.specs.declared.device_state.DeviceState.{DeviceState}
use Rattle.dfu_device.specs.Parts.{stage_of}
use Rattle.dfu_device.specs.DeviceView.{powered_on_device}
use Rattle.dfu_asks.specs.declared.asking.Asking.{Asking}
use Rattle.dfu_asks.specs.Mapped.{mapped_medium}
use Rattle.dfu_asks.specs.Asks.{device_in, IsDevice}
use Rattle.dfu_core.specs.declared.config.DfuConfig.{DfuConfig}
use Rattle.dfu_core.specs.declared.record.DfuRecord.{DfuRecord}
use Rattle.dfu_core.specs.Config.{config_setting, config_grain, IsConfig}
use Rattle.dfu_core.specs.Mode.{blank_record}
use Rattle.dfu_core.specs.RecordMeaning.{IsRecordOf, with_memory}
use Rattle.dfu_core.specs.Numbers.{NO_CONFIG_NUMBER, NO_MEDIUM_NUMBER}

-- The flash has no active image, or it has 2^32 bytes or more.
abbrev pub LacksUsableMedium : Grain → List ℕ → Type 0
LacksUsableMedium grain flash = ¬ HasImage (mapped_medium grain flash) ⊎ 2 ^ 32 ≤ length flash

-- A device was powered on with the flash, in the mode. With any block memory the record represents that device, and no writes are pending.
-- Fields that the device doesn't use are 0.
pub record PowerOutcome (c : DfuConfig) (mode : DeviceState) (flash : List ℕ) (result : ℤ) (r' : DfuRecord) : Type 0 where
  pub number_is : result ≡ pos 0
  pub config : IsConfig c
  pub after : Asking
  pub is : IsRecordOf c r' after
  pub mode_is : after.mode ≡ mode
  pub work : after.work ≡ None
  pub device : (block : List ℕ) → IsDevice (with_memory block after) flash
  pub shows : (block : List ℕ) → device_in (with_memory block after) flash
      ≡ record (powered_on_device (config_setting c) (mapped_medium (config_grain c) flash)) { stage = stage_of mode [] [] }
  pub rest : r' ≡ record blank_record { mode = r'.mode; slot = r'.slot; header = r'.header }

-- A power-on is refused for the first of these reasons: the configuration is not allowed; the flash has no active image, or it has 2^32
-- bytes or more.
abbrev pub RefusesPower : DfuConfig → List ℕ → ℤ → Type 0
RefusesPower c flash result = ((result ≡ NO_CONFIG_NUMBER) × ¬ IsConfig c)
    ⊎ ((result ≡ NO_MEDIUM_NUMBER) × IsConfig c × LacksUsableMedium (config_grain c) flash)
