use Rattle.dfu_boot.proofs.FreshPieces.{programs_only_fresh}
use Rattle.dfu_boot.proofs.install.laws.programs_only_fresh.Goals as goal

pub returns : goal.returns
returns c = programs_only_fresh
