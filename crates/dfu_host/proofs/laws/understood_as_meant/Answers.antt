use Rattle.dfu_host.specs.WireLaws.{status_understood, state_understood, result_has_one_meaning}
use Rattle.dfu_host.proofs.laws.understood_as_meant.Goals as goal

pub returns : goal.returns
returns c = record { status = status_understood; state = state_understood; one = result_has_one_meaning }
