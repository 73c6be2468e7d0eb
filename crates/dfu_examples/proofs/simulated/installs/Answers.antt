use Rattle.std.proofs.Common.{refl, arith}
use Rattle.dfu_examples.proofs.simulated.installs.Goals as goal

pub returns-in-Ok : goal.returns-in-Ok
returns-in-Ok g c = λ purpose file payload limits can is ok.
    (c.in-Ok.ensures.clean purpose file limits payload _ can is (omega arith)).installed refl
