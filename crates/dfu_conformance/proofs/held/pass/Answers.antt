use Rattle.std.proofs.Common.{arith}
use Rattle.dfu_conformance.specs.inside.Stepped.{row_leads}
use Rattle.dfu_conformance.proofs.DfusePasses.{next_row_extends_test}
use Rattle.dfu_conformance.proofs.held.pass.Goals as goal

pub loop-row-preserved : goal.loop-row-preserved
loop-row-preserved c n a r below within =
    next_row_extends_test (row_leads c.args.before.now c.args.event.now n a r) c.args.rows.now c.loop-row.row-index _ _ _ _ (omega arith)
    (c.loop-row.invariant n a r below within) (c.go.ensures n a r below within)
