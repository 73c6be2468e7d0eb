use Rattle.dfu_sim.proofs.laws.image_shown.Goals as goal

pub returns : goal.returns
returns c = λ b. (c.active_image_is_one.ensures.shown b.device.slots, c.active_image_is_one.ensures.only b.device.slots)
