-- Settings of a device, and the reasons for which settings are refused.
use Rattle.std.specs.Prelude.{◌≡◌, ◌⊎◌, ℕ, ◌≤◌, ◌<◌, ◌^◌, false}
use Rattle.dfu_wire.specs.declared.functionals.Functional.{Functional}
use Rattle.dfu_wire.specs.declared.ids.Ids.{Ids}
use Rattle.dfu_device.specs.declared.config.Pace.{Pace}
use Rattle.dfu_device.specs.declared.config.ConfigFault.{ConfigFault}
use Rattle.dfu_device.specs.declared.config.ConfigFault.TheVariants as fault

-- Settings of a device: its identifiers, its functional descriptor, the smallest length of an image, the milliseconds for a block and for
-- an image without the erases and programs of the flash, and the pace of the flash.
pub record Setting : Type 0 where
  pub ids : Ids
  pub functional : Functional
  pub least : ℕ
  pub busy_ms : ℕ
  pub manifest_ms : ℕ
  pub pace : Pace

abbrev pub setting_of : Ids → Functional → (least busy_ms manifest_ms : ℕ) → Pace → Setting
setting_of ids functional least busy_ms manifest_ms pace =
    record { ids = ids; functional = functional; least = least; busy_ms = busy_ms; manifest_ms = manifest_ms; pace = pace }

-- The transfer size is 1 to 4,096 bytes.
pub record HasTransferSize (s : Setting) : Type 0 where
  pub some : 1 ≤ s.functional.transfer
  pub most : s.functional.transfer ≤ 4096

-- The poll times fit in 24 bits, and a device that is not tolerant of manifestation takes at least 1 ms to make an image active.
pub record HasPollTimes (s : Setting) : Type 0 where
  pub busy : s.busy_ms < 2 ^ 24
  pub manifest : s.manifest_ms < 2 ^ 24
  pub manifest_takes_time : s.functional.tolerant ≡ false → 1 ≤ s.manifest_ms

-- The smallest length of an image is 1 to 2^24 bytes.
pub record HasLeastLength (s : Setting) : Type 0 where
  pub some : 1 ≤ s.least
  pub most : s.least ≤ 2 ^ 24

-- The settings are allowed: the transfer size, the poll times and the smallest length of an image are in their ranges.
pub record IsAllowedSetting (s : Setting) : Type 0 where
  pub transfer : HasTransferSize s
  pub poll : HasPollTimes s
  pub least : HasLeastLength s

-- The fault is the first one of the settings; the transfer size is checked first, then the poll times, then the smallest image length.
abbrev pub IsFirstFault : ConfigFault → Setting → Type 0
IsFirstFault fault.BadTransfer s = (s.functional.transfer ≡ 0) ⊎ (4096 < s.functional.transfer)
IsFirstFault fault.BadPoll s =
    HasTransferSize s × ((2 ^ 24 ≤ s.busy_ms) ⊎ (2 ^ 24 ≤ s.manifest_ms) ⊎ ((s.functional.tolerant ≡ false) × (s.manifest_ms ≡ 0)))
IsFirstFault fault.BadLeast s = HasTransferSize s × HasPollTimes s × ((s.least ≡ 0) ⊎ (2 ^ 24 < s.least))

-- The functional descriptor with version 0110h, that of USB DFU 1.1.
abbrev pub functional_of_this_version : Functional → Functional
functional_of_this_version f = record f { version = 0x0110 }
