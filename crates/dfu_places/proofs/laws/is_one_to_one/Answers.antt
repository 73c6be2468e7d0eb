use Rattle.dfu_places.proofs.OneToOne.{addresses_are_one_to_one}
use Rattle.dfu_places.proofs.laws.is_one_to_one.Goals as goal

pub returns : goal.returns
returns c = addresses_are_one_to_one
