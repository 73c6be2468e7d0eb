use Rattle.dfu_home.proofs.Allowing.{writes_the_first_slot}
use Rattle.dfu_home.proofs.laws.writes_the_first_slot.Goals as goal

pub returns : goal.returns
returns c = writes_the_first_slot
