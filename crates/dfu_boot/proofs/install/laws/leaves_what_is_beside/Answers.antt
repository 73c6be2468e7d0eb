use Rattle.dfu_boot.proofs.BytesBesideImage.{leaves_what_is_beside}
use Rattle.dfu_boot.proofs.install.laws.leaves_what_is_beside.Goals as goal

pub returns : goal.returns
returns c = leaves_what_is_beside
