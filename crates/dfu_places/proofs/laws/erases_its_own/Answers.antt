use Rattle.dfu_places.proofs.VirtualErases.{erase_keeps_other_bytes}
use Rattle.dfu_places.proofs.laws.erases_its_own.Goals as goal

pub returns : goal.returns
returns c = erase_keeps_other_bytes
