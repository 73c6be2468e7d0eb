use Rattle.std.proofs.Common.{arith}
use Rattle.dfu_conformance.specs.inside.Stepped.{drift_leads}
use Rattle.dfu_conformance.proofs.DfusePasses.{next_row_extends_test}
use Rattle.dfu_conformance.proofs.held.drift.Goals as goal

pub loop-one-preserved : goal.loop-one-preserved
loop-one-preserved c n a r below within =
    next_row_extends_test (drift_leads c.args.before.now n a r) c.args.moves.now c.loop-one.one-index _ _ _ _ (omega arith)
    (c.loop-one.invariant n a r below within) (c.slide.ensures n a r below within)
