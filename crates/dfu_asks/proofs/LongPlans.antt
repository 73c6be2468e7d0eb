-- The plan of a DNLOAD whose body is longer than the transfer size leads to the same stage as the plan of an unknown request.
use Rattle.std.proofs.Common.{◌≡◌, nat_lt, Bool, true, false, not, ℕ, List, [], ◌∷◌, length, refl, arith, if◌then◌else◌}
use Rattle.std.proofs.lemmas.Bool.{leb-true}
use Rattle.dfu_wire.specs.declared.codes.Code.TheVariants.{StalledPkt}
use Rattle.dfu_device.specs.declared.device_state.DeviceState.{DeviceState}
use Rattle.dfu_device.specs.declared.device_state.DeviceState.TheVariants as device_state
use Rattle.dfu_device.specs.Stage.{Profile, Dnload, OtherRequest, Stall}
use Rattle.dfu_device.specs.Table.{Sure, plan, error_plan, block_plan}
use Rattle.dfu_device.specs.Parts.{stage_of}
use Rattle.dfu_asks.specs.AfterLong.{after_long}

-- The plan of an unknown request stalls the request and enters the mode `after_long`.
pub other_request_plan_is_stall : (c : Profile) (image : List ℕ) (m : DeviceState) (spare block : List ℕ)
    → plan c image (stage_of m spare block) OtherRequest ≡ Sure Stall (stage_of (after_long m) spare block)
other_request_plan_is_stall c image device_state.AppIdle spare block = refl
other_request_plan_is_stall c image (device_state.AppDetach timer passed) spare block = refl
other_request_plan_is_stall c image device_state.DfuIdle spare block = refl
other_request_plan_is_stall c image (device_state.DownloadSync written number) spare block = refl
other_request_plan_is_stall c image (device_state.DownloadSyncWritten written number) spare block = refl
other_request_plan_is_stall c image (device_state.DownloadBusy written number passed) spare block = refl
other_request_plan_is_stall c image (device_state.DownloadIdle written number) spare block = refl
other_request_plan_is_stall c image (device_state.ManifestSync written) spare block = refl
other_request_plan_is_stall c image device_state.ManifestSyncComplete spare block = refl
other_request_plan_is_stall c image (device_state.Manifest written passed) spare block = refl
other_request_plan_is_stall c image device_state.ManifestWaitReset spare block = refl
other_request_plan_is_stall c image (device_state.UploadIdle place number) spare block = refl
other_request_plan_is_stall c image (device_state.Error code) spare block = refl

-- The plan of a DNLOAD block that is too long stalls the request and enters dfuERROR with errSTALLEDPKT.
long_block_is_stalled : (c : Profile) (before : List ℕ) (expected number : ℕ) (body : List ℕ) → nat_lt c.transfer (length body) ≡ true
    → block_plan c before expected number body ≡ error_plan StalledPkt
long_block_is_stalled c before expected number body long = rw long refl

-- A body of 0 bytes is not too long.
no_bytes_are_not_long : (n : ℕ) → nat_lt n 0 ≡ true → ⊥
no_bytes_are_not_long n long = omega (arith, leb-true _ 0 long)

-- The plan of a DNLOAD whose body is too long stalls the request and enters the mode `after_long`.
pub long_dnload_stalls : (c : Profile) (image : List ℕ) (m : DeviceState) (spare block : List ℕ) (number : ℕ) (body : List ℕ)
    → nat_lt c.transfer (length body) ≡ true
    → plan c image (stage_of m spare block) (Dnload number body) ≡ Sure Stall (stage_of (after_long m) spare block)
long_dnload_stalls c image device_state.AppIdle spare block number body long = refl
long_dnload_stalls c image (device_state.AppDetach timer passed) spare block number body long = refl
long_dnload_stalls c image device_state.DfuIdle spare block number [] long = rest c.can_download
  where
    rest : (b : Bool) → (if not b then error_plan StalledPkt else error_plan StalledPkt) ≡ error_plan StalledPkt
    rest true = refl
    rest false = refl
long_dnload_stalls c image device_state.DfuIdle spare block number (x ∷ xs) long = rest c.can_download
  where
    rest : (b : Bool) → (if not b then error_plan StalledPkt else block_plan c [] 0 number (x ∷ xs)) ≡ error_plan StalledPkt
    rest true = long_block_is_stalled c [] 0 number (x ∷ xs) long
    rest false = refl
long_dnload_stalls c image (device_state.DownloadSync written due) spare block number body long = refl
long_dnload_stalls c image (device_state.DownloadSyncWritten written due) spare block number body long = refl
long_dnload_stalls c image (device_state.DownloadBusy written due passed) spare block number body long = refl
long_dnload_stalls c image (device_state.DownloadIdle written due) spare block number [] long = absurd (no_bytes_are_not_long c.transfer
    long)
long_dnload_stalls c image (device_state.DownloadIdle written due) spare block number (x ∷ xs) long = long_block_is_stalled c _ due number
    (x ∷ xs) long
long_dnload_stalls c image (device_state.ManifestSync written) spare block number body long = refl
long_dnload_stalls c image device_state.ManifestSyncComplete spare block number body long = refl
long_dnload_stalls c image (device_state.Manifest written passed) spare block number body long = refl
long_dnload_stalls c image device_state.ManifestWaitReset spare block number body long = refl
long_dnload_stalls c image (device_state.UploadIdle place due) spare block number body long = refl
long_dnload_stalls c image (device_state.Error code) spare block number body long = refl
