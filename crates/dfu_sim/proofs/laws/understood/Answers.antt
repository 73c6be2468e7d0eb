use Rattle.dfu_sim.proofs.Replies.{understood}
use Rattle.dfu_sim.proofs.laws.understood.Goals as goal

pub returns : goal.returns
returns g = understood
