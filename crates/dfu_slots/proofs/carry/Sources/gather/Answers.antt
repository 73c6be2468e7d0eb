use Rattle.std.proofs.Common.{arith}
use Rattle.dfu_slots.specs.Operations.{source_content}
use Rattle.dfu_slots.proofs.Ranges.{gathered_is_a_range}
use Rattle.dfu_slots.proofs.carry.Sources.gather.Goals as goal

pub returns : goal.returns
returns c =
    let (size, each) = c.loop-i.invariant in
    let from = c.args.self in
    gathered_is_a_range (source_content c.args.source from.held.now from.block.now from.header.now) c.args.skip c.args.len c.loop-i.out size
    c.requires.few c.requires.front (λ k lt. each k (omega (arith, lt, c.loop-i-test.false)))
