-- Devices of one setting in one mode.
use Rattle.std.specs.Prelude.{◌≡◌, ℕ, List}
use Rattle.dfu_device.specs.declared.device_state.DeviceState.{DeviceState}
use Rattle.dfu_device.specs.Setting.{Setting}
use Rattle.dfu_asks.specs.Lent.{LentDevice}
use Rattle.dfu_asks.specs.Asks.{IsDevice}

-- The device `a` is valid on this flash, and has this setting and this mode.
pub record IsDeviceIn (config : Setting) (mode : DeviceState) (a : LentDevice) (flash : List ℕ) : Type 0 where
  pub config_is : a.config ≡ config
  pub mode_is : a.mode ≡ mode
  pub device : IsDevice a flash
