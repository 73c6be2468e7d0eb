use Rattle.std.proofs.Common.{arith}
use Rattle.dfu_core.proofs.keeping.found.Goals as goal

pub asking_of-requires : goal.asking_of-requires
asking_of-requires c = omega (arith, c.if-kept-config.false, c.in-Some.ensures.allowed.allowed.transfer.most)
