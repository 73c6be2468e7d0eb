use Rattle.std.proofs.Common.{arith}
use Rattle.dfu_conformance.specs.inside.DfuseStep.{drift_leads_to}
use Rattle.dfu_conformance.proofs.DfusePasses.{next_row_extends_test}
use Rattle.dfu_conformance.proofs.dfuse.stands.drift.Goals as goal

pub loop-one-preserved : goal.loop-one-preserved
loop-one-preserved c n =
    next_row_extends_test (drift_leads_to c.args.before.now n) c.args.moves.now c.loop-one.one-index _ _ _ _ (omega arith)
    (c.loop-one.invariant n)
    (c.lead.ensures n)
