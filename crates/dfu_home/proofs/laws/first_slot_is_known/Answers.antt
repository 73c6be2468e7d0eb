use Rattle.dfu_home.proofs.Known.{first_slot_is_known}
use Rattle.dfu_home.proofs.laws.first_slot_is_known.Goals as goal

pub returns : goal.returns
returns c = first_slot_is_known
