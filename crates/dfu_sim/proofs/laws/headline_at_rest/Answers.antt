use Rattle.dfu_sim.proofs.HeadlineKept.{headline_at_start}
use Rattle.dfu_sim.proofs.laws.headline_at_rest.Goals as goal

pub returns : goal.returns
returns g = headline_at_start
