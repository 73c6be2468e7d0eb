use Rattle.dfu_conformance.proofs.ForCallers.{two_moves_are_one, move_begins_run}
use Rattle.dfu_conformance.proofs.laws.moves_are_closed.Goals as goal

pub returns-clause-twice : goal.returns-clause-twice
returns-clause-twice c = two_moves_are_one

pub returns-clause-moved_run : goal.returns-clause-moved_run
returns-clause-moved_run c = move_begins_run
