-- The images that the record of a standing names are whole.
use Rattle.std.proofs.Common.{ℕ}
use Rattle.dfu_slots.specs.Medium.{MediumState}
use Rattle.dfu_boot.specs.trial.Calls.{IsStanding}
use Rattle.dfu_boot.specs.trial.Again.{ImagesAreWhole}
use Rattle.dfu_boot.specs.declared.trial.standing.Standing.{Standing}
use Rattle.dfu_boot.specs.declared.trial.standing.Standing.TheVariants as standing
use Rattle.dfu_boot.proofs.Fitting.{settled_slot_is_filled, image_is_whole_at_place}
use Rattle.dfu_boot_c.specs.trial.TrialRecords.{standing_told}
use Rattle.dfu_boot_c.specs.trial.Again.{base_of_trial}

-- If the images of the medium have a standing, the images that its record names are whole.
pub recorded_images_are_whole : (m : MediumState) (tries : ℕ) (s : Standing) → IsStanding m tries s
    → ImagesAreWhole m (standing_told m tries s).active.at (base_of_trial (standing_told m tries s))
recorded_images_are_whole m tries (standing.Settled s) stands = image_is_whole_at_place m s.slot (settled_slot_is_filled m s stands)
recorded_images_are_whole m tries (standing.OnTrial t) stands = (
  image_is_whole_at_place m t.slot stands.0.mine,
  image_is_whole_at_place m t.base
      stands.0.other,
)
