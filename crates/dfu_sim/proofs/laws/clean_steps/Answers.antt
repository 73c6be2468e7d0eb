use Rattle.dfu_sim.proofs.CleanRuns.{steps_install_cleanly}
use Rattle.dfu_sim.proofs.CleanStops.{clean_steps_succeed}
use Rattle.dfu_sim.proofs.laws.clean_steps.Goals as goal

pub returns : goal.returns
returns g = record { install = steps_install_cleanly; stand = clean_steps_succeed }
