use Rattle.dfu_home.proofs.Allowing.{image_stays}
use Rattle.dfu_home.proofs.laws.image_stays.Goals as goal

pub returns : goal.returns
returns c = image_stays
