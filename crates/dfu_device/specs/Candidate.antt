-- An image that was received and is not active yet. The program of a device may check it in the spare slot.
use Rattle.std.specs.Prelude.{◌≡◌, ℕ, ◌+◌, ◌≤◌, List, ◌++◌, length, slice_range, Option, Some, None}
use Rattle.dfu_slots.specs.StoreView.{data_place}
use Rattle.dfu_device.specs.declared.candidate.Candidate.{Candidate}
use Rattle.dfu_device.specs.declared.device_state.DeviceState.{DeviceState}
use Rattle.dfu_device.specs.declared.device_state.DeviceState.TheVariants as device_state
use Rattle.dfu_device.specs.Stage.{Stage, InDownloadIdle, InManifestSync, InManifest}
use Rattle.dfu_device.specs.DeviceView.{DeviceView}

-- Bytes of the received image: in dfuDNLOAD-IDLE, in dfuMANIFEST-SYNC before manifestation is complete, and in dfuMANIFEST all accepted
-- bytes; None in other stages.
abbrev pub candidate_in : Stage → Option (List ℕ)
candidate_in (InDownloadIdle taken number) = Some taken
candidate_in (InManifestSync taken) = Some taken
candidate_in (InManifest taken passed) = Some taken
candidate_in stage = None

-- Length of the received image in a mode; None in a mode without one.
abbrev pub candidate_length : DeviceState → Option ℕ
candidate_length (device_state.DownloadIdle written number) = Some written
candidate_length (device_state.ManifestSync written) = Some written
candidate_length (device_state.Manifest written passed) = Some written
candidate_length m = None

-- The candidate describes the received image: `stored` bytes of the medium from the beginning of the spare slot's data, followed by the
-- bytes held back.
pub record IsCandidate (w : DeviceView) (c : Candidate) : Type 0 where
  pub taken : List ℕ
  pub is : candidate_in w.stage ≡ Some taken
  pub place : c.at ≡ data_place w.slots 0
  pub within : c.at + c.stored ≤ length w.slots.medium.bytes
  pub bytes : slice_range w.slots.medium.bytes c.at (c.at + c.stored) ++ w.slots.held ≡ taken
