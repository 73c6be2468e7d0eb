use Rattle.dfu_asks.proofs.Steps.{job_steps_are_writes}
use Rattle.dfu_asks.proofs.laws.steps_are_the_writes.Goals as goal

pub returns : goal.returns
returns c j w end held block = job_steps_are_writes j w end held block
