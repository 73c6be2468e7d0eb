use Rattle.dfu_suffix.proofs.LawProofs.{last_four}
use Rattle.dfu_suffix.proofs.laws.last_four.Goals as goal

pub returns : goal.returns
returns c = last_four
