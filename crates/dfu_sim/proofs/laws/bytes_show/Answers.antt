use Rattle.dfu_sim.proofs.Projected.{bytes_show}
use Rattle.dfu_sim.proofs.laws.bytes_show.Goals as goal

pub returns : goal.returns
returns g = bytes_show
