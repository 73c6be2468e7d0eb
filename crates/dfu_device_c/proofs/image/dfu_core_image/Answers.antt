use Rattle.std.proofs.Common.{◌≡◌, inl, refl, subst}
use Rattle.dfu_slots.specs.Units.{Grain}
use Rattle.dfu_asks.specs.ActiveImage.{ImageIsAt}
use Rattle.dfu_asks.specs.Mapped.{grain_of}
use Rattle.dfu_core.specs.Config.{config_grain}
use Rattle.dfu_device_c.proofs.image.dfu_core_image.Goals as goal

pub returns-in-Some-find : goal.returns-in-Some-find
returns-in-Some-find c =
    let set = c.in-Some.ensures in
    let grain : grain_of c.in-Some.settings.unit c.in-Some.settings.sector ≡ config_grain c.args.config.now =
    λ i. record { unit = set.unit i; sector = set.sector i } in
    record {
      outcome = inl (record {
        number_is = refl;
        config = set.allowed;
        there = subst (λ (g : Grain). ImageIsAt g c.args.flash.now c.in-Some-find.found) grain c.in-Some-find.ensures.some;
      });
    }
