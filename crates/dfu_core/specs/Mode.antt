-- Mode that a record encodes.
use Rattle.std.specs.Prelude.{◌≡◌, replicate}
use Rattle.dfu_wire.specs.Code.{code_byte}
use Rattle.dfu_device.specs.declared.device_state.DeviceState.{DeviceState}
use Rattle.dfu_device.specs.declared.device_state.DeviceState.TheVariants as device_state
use Rattle.dfu_core.specs.declared.record.DfuRecord.{DfuRecord}
use Rattle.dfu_core.specs.Config.{version}

-- The record holds the number of the mode and the values that the mode keeps. Fields that the mode doesn't keep may hold any number.
abbrev pub HasModeNumbers : DfuRecord → DeviceState → Type 0
HasModeNumbers r device_state.AppIdle = r.mode ≡ 0
HasModeNumbers r (device_state.AppDetach timer passed) = (r.mode ≡ 1) × (timer ≡ r.first) × (passed ≡ r.second)
HasModeNumbers r device_state.DfuIdle = r.mode ≡ 2
HasModeNumbers r (device_state.DownloadSync written number) = (r.mode ≡ 3) × (written ≡ r.first) × (number ≡ r.number)
HasModeNumbers r (device_state.DownloadSyncWritten written number) = (r.mode ≡ 4) × (written ≡ r.first) × (number ≡ r.number)
HasModeNumbers r (device_state.DownloadBusy written number passed) =
    (r.mode ≡ 5) × (written ≡ r.first) × (number ≡ r.number) × (passed ≡ r.second)
HasModeNumbers r (device_state.DownloadIdle written number) = (r.mode ≡ 6) × (written ≡ r.first) × (number ≡ r.number)
HasModeNumbers r (device_state.ManifestSync written) = (r.mode ≡ 7) × (written ≡ r.first)
HasModeNumbers r device_state.ManifestSyncComplete = r.mode ≡ 8
HasModeNumbers r (device_state.Manifest written passed) = (r.mode ≡ 9) × (written ≡ r.first) × (passed ≡ r.second)
HasModeNumbers r device_state.ManifestWaitReset = r.mode ≡ 10
HasModeNumbers r (device_state.UploadIdle place number) = (r.mode ≡ 11) × (place ≡ r.first) × (number ≡ r.number)
HasModeNumbers r (device_state.Error code) = (r.mode ≡ 12) × (code_byte code ≡ r.number)

-- The record has the library's version and the mode m.
pub record HasMode (r : DfuRecord) (m : DeviceState) : Type 0 where
  pub version_is : r.version ≡ version
  pub numbers : HasModeNumbers r m

-- The two records differ only in the version, the mode and the values that a mode keeps.
abbrev pub ChangesOnlyMode : DfuRecord → DfuRecord → Type 0
ChangesOnlyMode r r' = r' ≡ record r { version = r'.version; mode = r'.mode; first = r'.first; second = r'.second; number = r'.number }

-- Record with the library's version in which every other field is 0.
abbrev pub blank_record : DfuRecord
blank_record = record {
  version = version;
  mode = 0;
  first = 0;
  second = 0;
  put_end = 0;
  slot = 0;
  number = 0;
  length = 0;
  header = replicate 16 0;
  work = 0;
  spare = 0;
  sum = 0;
  done = 0;
  asked = 0;
  generation = 0;
  close = 0;
  held_length = 0;
}
