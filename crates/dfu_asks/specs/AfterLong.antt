-- Setups whose body is longer than the transfer size.
use Rattle.std.specs.Prelude.{◌<◌, ℕ, List}
use Rattle.dfu_wire.specs.declared.setups.Setup.{Setup}
use Rattle.dfu_wire.specs.declared.codes.Code.TheVariants.{StalledPkt}
use Rattle.dfu_wire.specs.Setup.{IsSetup}
use Rattle.dfu_device.specs.declared.device_state.DeviceState.{DeviceState}
use Rattle.dfu_device.specs.declared.device_state.DeviceState.TheVariants as device_state
use Rattle.dfu_device.specs.Rows.{body_length}
use Rattle.dfu_device.specs.Setting.{Setting}

-- Mode of a device after a setup whose body is too long. It equals the mode after an unknown request.
abbrev pub after_long : DeviceState → DeviceState
after_long device_state.AppIdle = device_state.AppIdle
after_long (device_state.AppDetach timer passed) = device_state.AppIdle
after_long device_state.ManifestWaitReset = device_state.ManifestWaitReset
after_long (device_state.Error code) = device_state.Error code
after_long m = device_state.Error StalledPkt

-- The setup announces a body that is longer than the transfer size.
abbrev pub IsLongerThanBlock : Setting → List ℕ → Type 0
IsLongerThanBlock c setup = (p : Setup) → IsSetup p setup → c.functional.transfer < body_length p
