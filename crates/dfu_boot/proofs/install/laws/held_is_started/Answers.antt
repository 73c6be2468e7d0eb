use Rattle.dfu_boot.proofs.RunAreas.{held_is_started}
use Rattle.dfu_boot.proofs.install.laws.held_is_started.Goals as goal

pub returns : goal.returns
returns c = held_is_started
