use Rattle.dfu_laws.proofs.in_c.Closing.{closes_if_refused}
use Rattle.dfu_laws.proofs.laws.core_closes_if_refused.Goals as goal

pub returns : goal.returns
returns c = closes_if_refused
