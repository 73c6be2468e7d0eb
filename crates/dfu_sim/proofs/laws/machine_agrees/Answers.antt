use Rattle.dfu_sim.proofs.AgreeingMachines.{some_machine_agrees, fresh_machine_agrees, bench_agrees_as_link}
use Rattle.dfu_sim.proofs.laws.machine_agrees.Goals as goal

pub returns : goal.returns
returns g = record { machine_exists = some_machine_agrees; fresh = fresh_machine_agrees; over_device = bench_agrees_as_link }
