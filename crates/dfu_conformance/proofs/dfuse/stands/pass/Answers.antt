use Rattle.std.proofs.Common.{arith}
use Rattle.dfu_conformance.specs.inside.DfuseStep.{row_leads_to}
use Rattle.dfu_conformance.proofs.DfusePasses.{next_row_extends_test}
use Rattle.dfu_conformance.proofs.dfuse.stands.pass.Goals as goal

pub loop-row-preserved : goal.loop-row-preserved
loop-row-preserved c n =
    next_row_extends_test (row_leads_to c.args.before.now c.args.event.now n) c.args.rows.now c.loop-row.row-index _ _ _ _ (omega arith)
    (c.loop-row.invariant n) (c.go.ensures n)
