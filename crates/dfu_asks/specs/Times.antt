-- Times after which the state of a device changes without a request.
use Rattle.std.specs.Prelude.{◌≡◌, ◌≢◌, ◌-◌, ◌<◌, ◌≤◌, max, ℕ, if◌then◌else◌}
use Rattle.dfu_device.specs.declared.device_state.DeviceState.{DeviceState}
use Rattle.dfu_device.specs.declared.device_state.DeviceState.TheVariants as device_state
use Rattle.dfu_device.specs.Stage.{state_of}
use Rattle.dfu_device.specs.Pace.{block_ms, image_ms}
use Rattle.dfu_device.specs.Setting.{Setting}
use Rattle.dfu_device.specs.DeviceView.{DeviceView}

-- Milliseconds, at least 1, until the state of a mode changes without a request, with a block of n bytes; 0 if no time changes it.
abbrev pub due_of : Setting → DeviceState → (n : ℕ) → ℕ
due_of s (device_state.AppDetach timer passed) n = if s.functional.will_detach then 1 else max 1 (timer - passed)
due_of s (device_state.DownloadBusy written number passed) n = max 1 (block_ms s.pace s.busy_ms written n - passed)
due_of s (device_state.Manifest written passed) n = max 1 (image_ms s.pace s.manifest_ms written - passed)
due_of s m n = 0

-- If `due` is 0, the device is unchanged. Else, `ms` milliseconds change the state exactly if `ms` is at least `due`.
pub record ChangesOnceDue (due ms : ℕ) (d d' : DeviceView) : Type 0 where
  pub none : due ≡ 0 → d' ≡ d
  pub before : ms < due → state_of d'.stage ≡ state_of d.stage
  pub from : 0 < due → due ≤ ms → state_of d'.stage ≢ state_of d.stage
