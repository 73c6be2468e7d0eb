use Rattle.dfu_laws.proofs.in_c.Counts.{core_operations_bounded}
use Rattle.dfu_laws.proofs.laws.core_boards_ask_few_times.Goals as goal

pub returns : goal.returns
returns c = core_operations_bounded c.boards_ask_few_times.ensures
