-- If the first argument is the name of a subcommand, the command `dfu` with this subcommand alone parses the command line as the whole
-- command does.
use Rattle.std.specs.Prelude.{◌≡◌, ◌∷◌, true, List}
use Rattle.clap.specs.Words.{App, Text, fault_of, is_simple, is_simple_and_free, matches_of, subcommand_of}
use Rattle.dfu_args.specs.CommandLine.{dfu_app, top_app}
use Rattle.dfu_args.specs.Refusals.{parse_fault_kinds}
use Rattle.dfu_args.specs.Tables.{with_listed_command}
use Rattle.dfu_args.specs.declared.commands.ListedCommand.{ListedCommand}

-- The command `app` is simple and free, requires a subcommand, and parses the words as the whole command `dfu` does, with the same matches,
-- rows and faults.
pub record ParsesAsWhole (words : List Text) (app : App) : Type 0 where
  pub simple : is_simple app ≡ true
  pub free : is_simple_and_free app ≡ true
  pub required : app.top.subcommand_required ≡ true
  pub top : matches_of app words ≡ matches_of dfu_app words
  pub rows : subcommand_of app words ≡ subcommand_of dfu_app words
  pub faults : fault_of app words ≡ parse_fault_kinds words

-- The command with this subcommand alone parses a command line as the whole command does, if the subcommand's name follows the program's
-- name.
abbrev pub AloneParsesAsWhole : ListedCommand → Type 0
AloneParsesAsWhole l = (program : Text) (words : List Text) → ParsesAsWhole (program ∷ l.name.now ∷ words) (with_listed_command top_app l)
