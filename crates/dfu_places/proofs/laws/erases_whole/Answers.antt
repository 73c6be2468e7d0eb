use Rattle.dfu_places.proofs.WholeErases.{erases_whole}
use Rattle.dfu_places.proofs.laws.erases_whole.Goals as goal

pub returns : goal.returns
returns c = erases_whole
