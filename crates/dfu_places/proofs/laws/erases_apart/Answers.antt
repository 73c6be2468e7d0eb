use Rattle.dfu_places.proofs.Erasing.{erases_apart}
use Rattle.dfu_places.proofs.laws.erases_apart.Goals as goal

pub returns : goal.returns
returns c = erases_apart
