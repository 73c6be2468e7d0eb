use Rattle.dfu_sim.proofs.EventFacts.{uploads_are_active, rest_is_steady}
use Rattle.dfu_sim.proofs.laws.uploads_give_the_image.Goals as goal

pub returns : goal.returns
returns g = record { gives = uploads_are_active; rest = rest_is_steady }
