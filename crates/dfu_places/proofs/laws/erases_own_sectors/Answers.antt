use Rattle.dfu_places.proofs.Sectors.{erases_own_sectors}
use Rattle.dfu_places.proofs.laws.erases_own_sectors.Goals as goal

pub returns : goal.returns
returns c = erases_own_sectors
