-- Location of the active image, for a program in C that runs it.
use Rattle.std.specs.Prelude.{◌≡◌, ℕ, ℤ, pos, List}
use Rattle.dfu_core.specs.declared.records.DfuPlace.{DfuPlace}
use Rattle.dfu_asks.specs.declared.image.ImagePlace.{ImagePlace}
use Rattle.dfu_asks.specs.ActiveImage.{ImageIsAt}
use Rattle.dfu_core.specs.declared.config.DfuConfig.{DfuConfig}
use Rattle.dfu_core.specs.Config.{config_grain, IsConfig}

-- The location of an image as an `ImagePlace` of dfu_asks.
abbrev pub image_place_of : DfuPlace → ImagePlace
image_place_of place = record { at = place.at; len = place.length }

-- The number is 0, and the location is that of the active image of the flash.
pub record ImageResult (c : DfuConfig) (flash : List ℕ) (result : ℤ) (place : DfuPlace) : Type 0 where
  pub number_is : result ≡ pos 0
  pub config : IsConfig c
  pub there : ImageIsAt (config_grain c) flash (image_place_of place)
