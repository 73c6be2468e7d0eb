use Rattle.std.specs.Prelude.{◌≡◌, false, take}
use Rattle.std.specs.List.{fold}
use Rattle.clap.specs.Words.{app_of}
use Rattle.clap.specs.declared.builder.Command.TheViews.{out-Command}
use Rattle.dfu_args.specs.Tables.{with_row}
use Rattle.dfu_args.proofs.command_line.with_rows.Given as goal

abbrev pub invariant-loop-row : goal.invariant-loop-row
invariant-loop-row l = record {
  app : app_of l.command ≡ fold with_row (app_of l.initial.command) (take l.row-index l.rows);
  local : (out-Command l.command).has_globals ≡ false;
}
