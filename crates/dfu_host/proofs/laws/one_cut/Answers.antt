use Rattle.dfu_host.specs.BlockLaws.{one_cut}
use Rattle.dfu_host.proofs.laws.one_cut.Goals as goal

pub returns : goal.returns
returns c = one_cut
