use Rattle.dfu_sim.proofs.Accepting.{link_images_were_accepted, offered_images_are_accepted}
use Rattle.dfu_sim.proofs.laws.worlds_take_what_is_accepted.Goals as goal

pub returns-clause-image : goal.returns-clause-image
returns-clause-image c = link_images_were_accepted

pub returns-clause-offered : goal.returns-clause-offered
returns-clause-offered c = offered_images_are_accepted c.active_image_is_one.ensures.only
