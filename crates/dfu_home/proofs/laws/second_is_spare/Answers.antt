use Rattle.dfu_home.proofs.SecondSlotImage.{second_is_spare}
use Rattle.dfu_home.proofs.laws.second_is_spare.Goals as goal

pub returns : goal.returns
returns c = second_is_spare
