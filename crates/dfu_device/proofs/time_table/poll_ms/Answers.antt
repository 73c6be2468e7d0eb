use Rattle.std.proofs.Common.{◌≡◌, ℕ, List, refl, arith}
use Rattle.dfu_device.specs.declared.device_state.DeviceState.{DeviceState}
use Rattle.dfu_device.specs.declared.device_state.DeviceState.TheVariants as device_state
use Rattle.dfu_device.specs.Stage.{Profile, poll_of_stage}
use Rattle.dfu_device.specs.Setting.{Setting}
use Rattle.dfu_device.specs.DeviceView.{profile_of}
use Rattle.dfu_device.specs.Parts.{stage_of, wait_ms_of_mode}
use Rattle.dfu_device.proofs.time_table.poll_ms.Goals as goal

-- The poll time is 0 except in dfuDNBUSY and dfuMANIFEST.
no_poll_unless_busy : (c : Profile) (m : DeviceState) (spare block : List ℕ)
    → ((written number passed : ℕ) → m ≡ device_state.DownloadBusy written number passed → ⊥)
    → ((written passed : ℕ) → m ≡ device_state.Manifest written passed → ⊥) → 0 ≡ poll_of_stage c (stage_of m spare block)
no_poll_unless_busy c (device_state.DownloadBusy written number passed) spare block busy manifest = absurd (busy written number passed refl)
no_poll_unless_busy c (device_state.Manifest written passed) spare block busy manifest = absurd (manifest written passed refl)
no_poll_unless_busy c m spare block busy manifest = refl

no_time : (s : Setting) (m : DeviceState) (n : ℕ) → ((written number passed : ℕ) → m ≡ device_state.DownloadBusy written number passed → ⊥)
    → ((written passed : ℕ) → m ≡ device_state.Manifest written passed → ⊥) → 0 ≡ wait_ms_of_mode s m n
no_time s (device_state.DownloadBusy written number passed) n busy manifest = absurd (busy written number passed refl)
no_time s (device_state.Manifest written passed) n busy manifest = absurd (manifest written passed refl)
no_time s m n busy manifest = refl

pub returns-in_default : goal.returns-in_default
returns-in_default c = record {
  value = λ room spare block holds.
      no_poll_unless_busy (profile_of c.args.config.now room) c.args.mode spare block c.in_default.not-DownloadBusy
      c.in_default.not-Manifest;
  time = no_time c.args.config.now c.args.mode c.args.block_len c.in_default.not-DownloadBusy c.in_default.not-Manifest;
  in_24_bits = omega arith;
}
