use Rattle.dfu_host.specs.Budget.{remaining_results}
use Rattle.dfu_examples.proofs.flasher.flash.Given as goal

abbrev pub decreases-loop-report : goal.decreases-loop-report
decreases-loop-report g l = remaining_results l.host
