-- Result of dfu_core_is_blank, which detects a flash that reads as if it was never written.
use Rattle.std.specs.Prelude.{◌≡◌, ◌⊎◌, ◌≤◌, ◌^◌, ℕ, ℤ, pos, List, length}
use Rattle.dfu_slots.specs.Image.{IsSizedMedium, HasImage}
use Rattle.dfu_asks.specs.Blank.{AreSlotFrontsErased}
use Rattle.dfu_asks.specs.Mapped.{mapped_medium}
use Rattle.dfu_core.specs.declared.config.DfuConfig.{DfuConfig}
use Rattle.dfu_core.specs.Config.{config_grain, IsConfig}
use Rattle.dfu_core.specs.Numbers.{NO_CONFIG_NUMBER, NO_MEDIUM_NUMBER, WRONG_SIZE_NUMBER}

-- The result is 1 if the gates and the headers of both slots are erased, so that the flash has no image, and 0 if they are not.
pub data BlankResult (c : DfuConfig) (flash : List ℕ) (result : ℤ) : Type 0 where
  result_is_blank : result ≡ pos 1 → AreSlotFrontsErased (config_grain c) flash → ¬ HasImage (mapped_medium (config_grain c) flash)
      → BlankResult c flash result
  result_is_written : result ≡ pos 0 → ¬ AreSlotFrontsErased (config_grain c) flash → BlankResult c flash result

-- dfu_core_is_blank is refused for the first of these reasons: the configuration is not allowed; the flash has 2^32 bytes or more; the size
-- of the flash doesn't allow two slots.
abbrev pub RefusesBlank : DfuConfig → List ℕ → ℤ → Type 0
RefusesBlank c flash result = ((result ≡ NO_CONFIG_NUMBER) × ¬ IsConfig c)
    ⊎ (IsConfig c × (((result ≡ NO_MEDIUM_NUMBER) × (2 ^ 32 ≤ length flash))
    ⊎ ((result ≡ WRONG_SIZE_NUMBER) × ¬ IsSizedMedium (mapped_medium (config_grain c) flash))))
