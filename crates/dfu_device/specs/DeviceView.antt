-- State of a device, in the form that contracts use.
use Rattle.std.specs.Prelude.{◌≡◌, ℕ, List, [], length, take}
use Rattle.dfu_wire.specs.declared.functionals.Functional.{Functional}
use Rattle.dfu_slots.specs.Medium.{MediumState}
use Rattle.dfu_slots.specs.StoreView.{SlotsState, store_on, image_of, spare_of, room_of}
use Rattle.dfu_device.specs.Stage.{Profile, Stage, InAppIdle, InDownloadSync, InDownloadSyncWritten, InDownloadBusy, InDownloadIdle, InManifestSync, InManifest}
use Rattle.dfu_device.specs.declared.config.Pace.{Pace}
use Rattle.dfu_device.specs.Setting.{Setting}
use Rattle.dfu_device.specs.Outcome.{Situation}

-- State of a device: its settings, its slot store with the medium, and its stage.
pub record DeviceView : Type 0 where
  pub config : Setting
  pub slots : SlotsState
  pub stage : Stage

-- A device directly after power-on: in appIDLE, with no bytes put into its spare slot.
abbrev pub powered_on_device : Setting → MediumState → DeviceView
powered_on_device config m = record { config = config; slots = store_on m; stage = InAppIdle }

-- Profile of a device with this functional descriptor, these other settings and this capacity.
abbrev pub profile_of_values : Functional → (least busy manifest : ℕ) → Pace → (capacity : ℕ) → Profile
profile_of_values f least busy manifest pace capacity = record {
  can_download = f.can_download;
  can_upload = f.can_upload;
  tolerant = f.tolerant;
  will_detach = f.will_detach;
  detach_ms = f.detach_ms;
  transfer = f.transfer;
  least = least;
  busy = busy;
  manifest = manifest;
  pace = pace;
  capacity = capacity;
}

-- Profile of a device with these settings whose slots hold images of up to `room` bytes.
abbrev pub profile_of : Setting → ℕ → Profile
profile_of s room = profile_of_values s.functional s.least s.busy_ms s.manifest_ms s.pace room

-- Profile of a device, with the capacity of its slot store.
abbrev pub profile : DeviceView → Profile
profile w = profile_of w.config (room_of w.slots)

-- Situation of a device: its active image and its stage.
abbrev pub situation : DeviceView → Situation
situation w = record { image = image_of w.slots; stage = w.stage }

-- Accepted bytes that are already written to the spare slot; none before a download and after manifestation.
abbrev pub written_bytes_in : Stage → List ℕ
written_bytes_in (InDownloadSync before block number) = before
written_bytes_in (InDownloadSyncWritten taken number) = taken
written_bytes_in (InDownloadBusy before block number passed) = before
written_bytes_in (InDownloadIdle taken number) = taken
written_bytes_in (InManifestSync taken) = taken
written_bytes_in (InManifest taken passed) = taken
written_bytes_in stage = []

-- The spare slot's data begins with the written bytes.
abbrev pub HasWrittenBytesInSpare : DeviceView → Type 0
HasWrittenBytesInSpare w = take (length (written_bytes_in w.stage)) (spare_of w.slots) ≡ written_bytes_in w.stage
