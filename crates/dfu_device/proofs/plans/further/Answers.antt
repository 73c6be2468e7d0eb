use Rattle.std.proofs.Common.{inr}
use Rattle.dfu_device.proofs.PlanRows.{idle_download_has_put}
use Rattle.dfu_device.proofs.plans.further.Goals as goal

pub returns-then-size-gt0-clause-possible : goal.returns-then-size-gt0-clause-possible
returns-then-size-gt0-clause-possible c = λ block s room filled. c.block.ensures.possible block s room c.if-size-gt0.true
    (inr (idle_download_has_put c.args.written s filled))
