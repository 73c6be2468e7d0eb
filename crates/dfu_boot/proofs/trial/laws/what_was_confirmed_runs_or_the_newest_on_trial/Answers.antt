use Rattle.dfu_boot.proofs.Unique.{trial_images_are_trusted}
use Rattle.dfu_boot.proofs.Lists.{confirmed_image_is_trusted, trace_keeps_trusted_images, trusted_medium_has_image}
use Rattle.dfu_boot.proofs.trial.laws.what_was_confirmed_runs_or_the_newest_on_trial.Goals as goal

pub returns-clause-confirmed : goal.returns-clause-confirmed
returns-clause-confirmed c m tries s stands confirmed = confirmed_image_is_trusted m tries s stands confirmed

pub returns-clause-tried : goal.returns-clause-tried
returns-clause-tried c m tries t image stands active = trial_images_are_trusted m tries t image stands active

pub returns-clause-list : goal.returns-clause-list
returns-clause-list c m tries trust steps are has came = trace_keeps_trusted_images m tries trust steps are has came

pub returns-clause-image : goal.returns-clause-image
returns-clause-image c m tries trust has = trusted_medium_has_image m tries trust has
