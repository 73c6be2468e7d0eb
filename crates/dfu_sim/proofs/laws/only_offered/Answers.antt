use Rattle.dfu_sim.proofs.MachineReports.{only_offered}
use Rattle.dfu_sim.proofs.laws.only_offered.Goals as goal

pub returns : goal.returns
returns g = only_offered
