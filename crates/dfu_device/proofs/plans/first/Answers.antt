use Rattle.std.proofs.Common.{inl, refl, arith}
use Rattle.dfu_device.proofs.plans.first.Goals as goal

pub returns-clause-possible : goal.returns-clause-possible
returns-clause-possible c = λ block s room filled. c.block.ensures.possible block s room (omega (arith, c.if-size-eq0.false)) (inl refl)
