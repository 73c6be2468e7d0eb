use Rattle.std.proofs.Common.{rules}
use Rattle.dfu_args.proofs.Tables.{next_listed_extends_command}
use Rattle.dfu_args.proofs.command_line.with_commands.Goals as goal

pub loop-it-preserved : goal.loop-it-preserved
loop-it-preserved c = record {
  app = next_listed_extends_command _ _ _ c.args.listed.now c.loop-it.it-index _ c.loop-it-test.true c.loop-it.invariant.app
      c.in_ok-command.ensures.app;
  local = search rules;
}
