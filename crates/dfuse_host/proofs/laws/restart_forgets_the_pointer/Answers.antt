use Rattle.dfuse_host.proofs.ForgetLaws.{restart_loses_pointer}
use Rattle.dfuse_host.proofs.laws.restart_forgets_the_pointer.Goals as goal

pub returns : goal.returns
returns c = restart_loses_pointer
