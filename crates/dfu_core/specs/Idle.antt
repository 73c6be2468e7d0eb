-- Refusals of calls that need only the configuration and the record.
use Rattle.std.specs.Prelude.{◌≡◌, ◌≢◌, ◌⊎◌, ℤ}
use Rattle.dfu_device.specs.declared.device_state.DeviceState.{DeviceState}
use Rattle.dfu_core.specs.declared.config.DfuConfig.{DfuConfig}
use Rattle.dfu_core.specs.declared.record.DfuRecord.{DfuRecord}
use Rattle.dfu_core.specs.Config.{IsConfig}
use Rattle.dfu_core.specs.Mode.{HasMode}
use Rattle.dfu_core.specs.Numbers.{NO_CONFIG_NUMBER, NO_DEVICE_NUMBER, BUSY_NUMBER}

-- A call is refused for the first of these reasons: the configuration is not allowed; the record has no mode.
abbrev pub RefusesConfigOrRecord : DfuConfig → DfuRecord → ℤ → Type 0
RefusesConfigOrRecord c r result = ((result ≡ NO_CONFIG_NUMBER) × ¬ IsConfig c)
    ⊎ ((result ≡ NO_DEVICE_NUMBER) × IsConfig c × ((m : DeviceState) → ¬ HasMode r m))

-- The configuration is allowed, the record has a mode, and no writes are pending.
pub record IsIdleRecord (c : DfuConfig) (r : DfuRecord) : Type 0 where
  pub config : IsConfig c
  pub mode : DeviceState
  pub has_mode : HasMode r mode
  pub idle : r.work ≡ 0

-- A call is refused for the first of these reasons: the configuration is not allowed; the record has no mode; writes of a device or of a
-- format are pending.
abbrev pub RefusesUnlessIdle : DfuConfig → DfuRecord → ℤ → Type 0
RefusesUnlessIdle c r result = RefusesConfigOrRecord c r result
    ⊎ ((result ≡ BUSY_NUMBER) × IsConfig c × ((m : DeviceState) × HasMode r m) × (r.work ≢ 0))
