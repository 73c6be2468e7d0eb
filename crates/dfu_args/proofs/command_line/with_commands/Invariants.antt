use Rattle.std.specs.Prelude.{◌≡◌, false, take}
use Rattle.std.specs.List.{fold}
use Rattle.clap.specs.Words.{app_of}
use Rattle.clap.specs.declared.builder.Command.TheViews.{out-Command}
use Rattle.dfu_args.specs.Tables.{with_listed_command}
use Rattle.dfu_args.proofs.command_line.with_commands.Given as goal

abbrev pub invariant-loop-it : goal.invariant-loop-it
invariant-loop-it l = record {
  app : app_of l.command ≡ fold with_listed_command (app_of l.initial.command) (take l.it-index l.listed);
  local : (out-Command l.command).has_globals ≡ false;
}
