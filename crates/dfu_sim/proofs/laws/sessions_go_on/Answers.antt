use Rattle.dfu_sim.proofs.AgreeingMachines.{sessions_go_on}
use Rattle.dfu_sim.proofs.laws.sessions_go_on.Goals as goal

pub returns : goal.returns
returns g = sessions_go_on
