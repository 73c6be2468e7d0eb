use Rattle.dfu_places.proofs.Used.{used_bytes_are_found}
use Rattle.dfu_places.proofs.laws.used_are_there.Goals as goal

pub returns : goal.returns
returns c = used_bytes_are_found
