use Rattle.dfu_sim.proofs.EachEvent.{follows}
use Rattle.dfu_sim.proofs.laws.simulation.Goals as goal

pub returns : goal.returns
returns g = λ c w w' up m event answer sized f a p. follows c sized w w' up m event answer f a p
