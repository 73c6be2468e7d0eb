-- A medium formatted with an image.
use Rattle.std.specs.Prelude.{◌≡◌, ◌≢◌, ℕ, ◌%◌, ◌≤◌, ◌<◌, List, length}
use Rattle.dfu_slots.specs.Units.{Grain, IsMultiple, IsWhole}
use Rattle.dfu_slots.specs.Medium.{AllWrites}
use Rattle.dfu_slots.specs.Medium.Fuse.{Whole}
use Rattle.dfu_slots.specs.Image.{Active}
use Rattle.dfu_slots.specs.StoreView.{SlotsState, image_of, format_series}
use Rattle.dfu_link.specs.ScriptRun.{blank_slots}
use Rattle.dfu_link.specs.declared.scripting.fault.ScriptFault.{ScriptFault}
use Rattle.dfu_link.specs.declared.scripting.fault.ScriptFault.TheVariants.{BadConfig, NoMemory}

-- A blank medium of this grain, with room for images of `capacity` bytes, was formatted with the image. The image is active, and the medium
-- is not armed.
pub record FormattedStore (grain : Grain) (capacity : ℕ) (image : List ℕ) (s : SlotsState) : Type 0 where
  pub whole : IsWhole grain capacity
  pub fits : length image ≤ capacity
  pub formatted : AllWrites (blank_slots grain capacity) (format_series (blank_slots grain capacity) image) s.medium
  pub active : Active s.medium image
  pub image_is : image_of s ≡ image
  pub unarmed : s.medium.fuse ≡ Whole

-- No medium can be formatted: the capacity is not a multiple of the unit or of the sector, or the image is longer than the capacity.
pub data IsUnformattable (grain : Grain) (capacity : ℕ) (image : List ℕ) : Type 0 where
  capacity_cuts_unit : ¬ IsMultiple grain.unit capacity → IsUnformattable grain capacity image
  cuts_sector : 0 < grain.sector → capacity % grain.sector ≢ 0 → IsUnformattable grain capacity image
  too_long : capacity < length image → IsUnformattable grain capacity image

-- Fault of formatting a medium: BadConfig if the medium can't be formatted with the image, NoMemory if there is no memory.
abbrev pub FormatFails : Grain → ℕ → List ℕ → ScriptFault → Type 0
FormatFails grain capacity image BadConfig = IsUnformattable grain capacity image
FormatFails grain capacity image NoMemory = Unit {0}
FormatFails grain capacity image fault = ⊥
