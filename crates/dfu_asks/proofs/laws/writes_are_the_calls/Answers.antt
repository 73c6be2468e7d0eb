use Rattle.dfu_asks.proofs.Rows.{made_series_writes_block, fault_breaks_off_block, commit_series_completes, fault_breaks_off_commit}
use Rattle.dfu_asks.proofs.laws.writes_are_the_calls.Goals as goal

pub returns-clause-block : goal.returns-clause-block
returns-clause-block c s n block now store shape before fits all = made_series_writes_block s store shape n block before fits now all

pub returns-clause-block_broken : goal.returns-clause-block_broken
returns-clause-block_broken c fault s n block now store shape before fits all = fault_breaks_off_block s store shape n block before fits now
    fault all

pub returns-clause-commit : goal.returns-clause-commit
returns-clause-commit c s n now store shape put fits all = commit_series_completes s store shape n put fits now all

pub returns-clause-commit_broken : goal.returns-clause-commit_broken
returns-clause-commit_broken c fault s n now store shape put fits all = fault_breaks_off_commit s store shape n put fits now fault all
