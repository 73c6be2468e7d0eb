use Rattle.dfu_wire.specs.OneRequest.{setup_asks_for_one_request}
use Rattle.dfu_wire.proofs.laws.one_setup.Goals as goal

pub returns-clause-request : goal.returns-clause-request
returns-clause-request c = setup_asks_for_one_request
