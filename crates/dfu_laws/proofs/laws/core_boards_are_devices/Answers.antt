use Rattle.dfu_laws.proofs.in_c.Runs.{core_runs_refine_table}
use Rattle.dfu_laws.proofs.laws.core_boards_are_devices.Goals as goal

pub returns : goal.returns
returns c = core_runs_refine_table c.boards_are_devices.ensures.power
