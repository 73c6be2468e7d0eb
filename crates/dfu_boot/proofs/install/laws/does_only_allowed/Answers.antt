use Rattle.dfu_boot.proofs.Allowing.{does_only_allowed}
use Rattle.dfu_boot.proofs.install.laws.does_only_allowed.Goals as goal

pub returns : goal.returns
returns c = does_only_allowed
