use Rattle.std.proofs.Common.{◌≡◌, sym, ◌∙◌, ap, subst}
use Rattle.dfu_slots.specs.Medium.{MediumState}
use Rattle.dfu_boot.specs.trial.Again.{ImagesAreWhole}
use Rattle.dfu_boot_c.specs.declared.trial.told.DfuStanding.{DfuStanding}
use Rattle.dfu_boot_c.specs.trial.Tries.{trial_medium_state}
use Rattle.dfu_boot_c.specs.trial.TrialRecords.{standing_told}
use Rattle.dfu_boot_c.specs.trial.Again.{base_of_trial}
use Rattle.dfu_boot_c.proofs.WholeImages.{recorded_images_are_whole}
use Rattle.dfu_boot_c.proofs.trial.calls.dfu_core_trial_look.Goals as goal

pub returns-in-Ok-clause-whole : goal.returns-in-Ok-clause-whole
returns-in-Ok-clause-whole c e =
    let t = c.args.tries.now in
    let s = c.in-Ok.looked.standing in
    let m = trial_medium_state t c.args.flash.now in
    let told : c.standing_told.result ≡ standing_told m t.tries s =
    c.standing_told.ensures ∙ ap (λ (x : MediumState). standing_told x t.tries s) c.in-Ok.ensures.state in
    subst (λ (d : DfuStanding). ImagesAreWhole m d.active.at (base_of_trial d)) (sym told) (recorded_images_are_whole m t.tries s
    c.in-Ok.ensures.ok.stands)
