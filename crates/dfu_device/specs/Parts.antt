-- Parts of a device: its slot store, its mode (DeviceState), and the block that is not written yet.
use Rattle.std.specs.Prelude.{ℕ, ◌+◌, Bool, true, nat_le, nat_lt, ◌&&◌, ◌||◌, ◌==◌, List, take}
use Rattle.dfu_slots.specs.StoreView.{SlotsState, spare_of, is_begun, room_of, is_shaped}
use Rattle.dfu_device.specs.declared.device_state.DeviceState.{DeviceState}
use Rattle.dfu_device.specs.declared.device_state.DeviceState.TheVariants as device_state
use Rattle.dfu_device.specs.Stage.{Stage, InAppIdle, InAppDetach, InDfuIdle, InDownloadSync, InDownloadSyncWritten, InDownloadBusy, InDownloadIdle, InManifestSync, InManifestSyncComplete, InManifest, InManifestWaitReset, InUploadIdle, InError}
use Rattle.dfu_device.specs.Pace.{block_ms, image_ms}
use Rattle.dfu_device.specs.Setting.{Setting}
use Rattle.dfu_device.specs.DeviceView.{DeviceView}

-- Stage that corresponds to a mode. The first `written` bytes of `spare` are the bytes that were put, and `block` is the block that is not
-- written yet.
abbrev pub stage_of : DeviceState → List ℕ → List ℕ → Stage
stage_of device_state.AppIdle spare block = InAppIdle
stage_of (device_state.AppDetach timer passed) spare block = InAppDetach timer passed
stage_of device_state.DfuIdle spare block = InDfuIdle
stage_of (device_state.DownloadSync written number) spare block = InDownloadSync (take written spare) block number
stage_of (device_state.DownloadSyncWritten written number) spare block = InDownloadSyncWritten (take written spare) number
stage_of (device_state.DownloadBusy written number passed) spare block = InDownloadBusy (take written spare) block number passed
stage_of (device_state.DownloadIdle written number) spare block = InDownloadIdle (take written spare) number
stage_of (device_state.ManifestSync written) spare block = InManifestSync (take written spare)
stage_of device_state.ManifestSyncComplete spare block = InManifestSyncComplete
stage_of (device_state.Manifest written passed) spare block = InManifest (take written spare) passed
stage_of device_state.ManifestWaitReset spare block = InManifestWaitReset
stage_of (device_state.UploadIdle place number) spare block = InUploadIdle place number
stage_of (device_state.Error code) spare block = InError code

-- State of a device that consists of these parts.
abbrev pub view_of_parts : Setting → SlotsState → DeviceState → List ℕ → DeviceView
view_of_parts config slots m block = record { config = config; slots = slots; stage = stage_of m (spare_of slots) block }

-- True if the spare slot is closed and exactly `written` bytes were put into it.
abbrev pub is_put : ℕ → SlotsState → Bool
is_put written s = is_begun s && (s.put_end == written)

-- True if the store agrees with a mode. In a mode with an unwritten block, the block is not empty and fits after the written bytes, which
-- were put into the spare slot. In other modes of a download 1 byte or more were put, and all fit. True in every other mode.
abbrev pub is_filled : DeviceState → ℕ → SlotsState → Bool
is_filled (device_state.DownloadSync written number) block s =
    nat_lt 0 block && (nat_le (written + block) (room_of s) && ((written == 0) || is_put written s))
is_filled (device_state.DownloadBusy written number passed) block s =
    nat_lt 0 block && (nat_le (written + block) (room_of s) && ((written == 0) || is_put written s))
is_filled (device_state.DownloadSyncWritten written number) block s = nat_lt 0 written && (nat_le written (room_of s) && is_put written s)
is_filled (device_state.DownloadIdle written number) block s = nat_lt 0 written && (nat_le written (room_of s) && is_put written s)
is_filled (device_state.ManifestSync written) block s = nat_lt 0 written && (nat_le written (room_of s) && is_put written s)
is_filled (device_state.Manifest written passed) block s = nat_lt 0 written && (nat_le written (room_of s) && is_put written s)
is_filled m block s = true

-- True if the store satisfies is_shaped and agrees with the mode and a block of `block` bytes.
abbrev pub are_device_parts : DeviceState → ℕ → SlotsState → Bool
are_device_parts m block s = is_shaped s && is_filled m block s

-- Milliseconds that a host must wait in a mode with a block of n bytes: 0 except in dfuDNBUSY and dfuMANIFEST.
abbrev pub wait_ms_of_mode : Setting → DeviceState → (n : ℕ) → ℕ
wait_ms_of_mode s (device_state.DownloadBusy written number passed) n = block_ms s.pace s.busy_ms written n
wait_ms_of_mode s (device_state.Manifest written passed) n = image_ms s.pace s.manifest_ms written
wait_ms_of_mode s m n = 0
