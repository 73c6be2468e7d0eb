use Rattle.std.proofs.Common.{rules}
use Rattle.dfu_args.proofs.Tables.{next_row_extends_command}
use Rattle.dfu_args.proofs.command_line.with_rows.Goals as goal

pub loop-row-preserved : goal.loop-row-preserved
loop-row-preserved c = record {
  app = next_row_extends_command _ _ _ _ c.args.rows.now c.loop-row.row-index _ c.loop-row-test.true c.loop-row.invariant.app
      (c.in_ok-command.ensures.shape c.arg_of.ensures.local) c.arg_of.ensures.rule;
  local = search rules;
}
