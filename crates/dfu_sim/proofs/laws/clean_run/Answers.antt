use Rattle.dfu_sim.proofs.Clean.{clean_run}
use Rattle.dfu_sim.proofs.laws.clean_run.Goals as goal

pub returns : goal.returns
returns g = clean_run
