use Rattle.std.proofs.Common.{◌≡◌, ◌↔◌, Bool, true, false, IsTrue, ℕ, ℤ, List, inl, refl, ◌∙◌, subst, w32, arith}
use Rattle.std.proofs.lemmas.Bool.{false≢true}
use Rattle.std.proofs.lemmas.Int.{to_z-of_z}
use Rattle.dfu_slots.specs.Image.{HasImage}
use Rattle.dfu_slots.specs.Medium.{MediumState}
use Rattle.dfu_asks.specs.Blank.{AreSlotFrontsErased}
use Rattle.dfu_asks.specs.Mapped.{mapped_medium}
use Rattle.dfu_core.specs.declared.config.DfuConfig.{DfuConfig}
use Rattle.dfu_core.specs.Blank.{BlankResult, result_is_blank, result_is_written}
use Rattle.dfu_core.specs.Config.{config_grain}
use Rattle.dfu_core.specs.Numbers.{yes_no_number}
use Rattle.dfu_device_c.proofs.blank.dfu_core_is_blank.Goals as goal

-- The result is 1 if the gates and the headers of both slots are erased, and 0 if they are not.
number_says_if_blank : (c : DfuConfig) (flash : List ℕ) (m : MediumState) (said : Bool) (n : ℤ) → m ≡ mapped_medium (config_grain c) flash
    → n ≡ yes_no_number said
    → (IsTrue said ↔ AreSlotFrontsErased m.grain m.bytes) → (IsTrue said → ¬ HasImage m) → BlankResult c flash n
number_says_if_blank c flash m true n medium is blank none = result_is_blank is
    (subst (λ (x : MediumState). AreSlotFrontsErased x.grain x.bytes) medium (blank.0 refl))
    (subst (λ (x : MediumState). ¬ HasImage x) medium (none refl))
number_says_if_blank c flash m false n medium is blank none = result_is_written is
    (subst (λ (x : MediumState). ¬ AreSlotFrontsErased x.grain x.bytes) medium (λ w. false≢true (blank.1 w)))

pub returns-in-Some-is_blank : goal.returns-in-Some-is_blank
returns-in-Some-is_blank c =
    let set = c.in-Some.ensures in
    let blank = c.in-Some-is_blank.ensures in
    let medium = c.in-Some-with_sectors.ensures.some
    ∙ (λ i. mapped_medium (record { unit = set.unit i; sector = (c.size-sector.ensures.value ∙ set.sector) i }) c.args.flash.now) in
    record {
      outcome = inl (number_says_if_blank c.args.config.now c.args.flash.now _ c.in-Some-is_blank.said _ medium
          (to_z-of_z w32 c.yes_no_number_of.result (omega (arith, c.yes_no_number_of.type_inv)) ∙ c.yes_no_number_of.ensures) blank.blank
          blank.no_image);
    }
