use Rattle.dfu_laws.proofs.board.SeriesLimits.{run_operations_bounded}
use Rattle.dfu_laws.proofs.laws.boards_ask_few_times.Goals as goal

pub returns : goal.returns
returns c =
    run_operations_bounded c.steps_are_the_writes.ensures c.boards_are_devices.ensures.power c.boards_are_devices.ensures.idle
