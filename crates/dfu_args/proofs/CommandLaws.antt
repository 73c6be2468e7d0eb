-- Results of clap's parser for the command line.
use Rattle.std.proofs.Common.{◌≡◌, List, [], IfSome, Option, false, true, subst, sym, ◌∙◌}
use Rattle.clap.specs.Words.{App, HasKind, HasMatchesOf, IsParsedFrom, Row, Text, app_of, fault_of, found_of, has_subcommand, is_simple_and_free, matches_of, rows_of, subcommand_of, subcommand_rows_of}
use Rattle.clap.specs.declared.builder.Command.{Command}
use Rattle.clap.specs.declared.builder.Command.TheViews.{out-Command}
use Rattle.clap.specs.declared.parser.matches.ArgMatches.{ArgMatches}
use Rattle.clap.proofs.CallerLemmas.{subcommand_required}
use Rattle.clap.specs.declared.error.Error.{Error}
use Rattle.dfu_args.specs.Alone.{ParsesAsWhole}
use Rattle.dfu_args.specs.CommandLine.{dfu_app}
use Rattle.dfu_args.specs.Complete.{IsComplete}
use Rattle.dfu_args.specs.Refusals.{parse_fault_kinds}
use Rattle.dfu_args.proofs.Complete.{faultless_words_are_complete}

-- For a command that satisfies ParsesAsWhole, the parsed rows of the subcommand are those of the whole command.
pub parsed_rows_are_stated : (app : App) (words : List Text) (m : ArgMatches) → ParsesAsWhole words app → HasMatchesOf app words m →
    subcommand_rows_of m ≡ subcommand_of dfu_app words
parsed_rows_are_stated app words m all h = (h all.simple).1 ∙ all.rows

-- For a command that satisfies ParsesAsWhole, the parsed rows of the command itself are those of the whole command.
pub parsed_own_rows_are_stated : (app : App) (words : List Text) (m : ArgMatches) → ParsesAsWhole words app → HasMatchesOf app words m →
    rows_of (found_of m) ≡ matches_of dfu_app words
parsed_own_rows_are_stated app words m all h = (h all.simple).0 ∙ all.top

-- If a command that satisfies ParsesAsWhole was parsed successfully, the matches contain a subcommand.
pub successful_parse_has_subcommand : (command : Command) (words : List Text) (m : ArgMatches) → ParsesAsWhole words (app_of command)
    → (out-Command command).has_globals ≡ false → IsParsedFrom command m → has_subcommand m ≡ true
successful_parse_has_subcommand command words m all globals parsed = subcommand_required command m parsed globals all.required

-- If a command that satisfies ParsesAsWhole parses a command line successfully, the whole command has no fault on this command line.
pub successful_parse_is_faultless : (app : App) (words : List Text) → ParsesAsWhole words app → (is_simple_and_free app ≡ true →
    fault_of app words ≡ []) →
    parse_fault_kinds words ≡ []
successful_parse_is_faultless app words all free = sym all.faults ∙ free all.free

-- If a command that satisfies ParsesAsWhole fails to parse, the error has a kind that the whole command allows, or reports that memory ran
-- out.
pub failed_parse_has_stated_kind : (app : App) (words : List Text) (error : Error) → ParsesAsWhole words app →
    (is_simple_and_free app ≡ true → HasKind (fault_of app words) error) → HasKind (parse_fault_kinds words) error
failed_parse_has_stated_kind app words error all free = subst (λ kinds. HasKind kinds error) all.faults (free all.free)

-- If a command line has no fault, its subcommand is complete.
pub stated_subcommand_is_complete : (words : List Text) (o : Option (Text × List Row)) → o ≡ subcommand_of dfu_app words →
    parse_fault_kinds words ≡ []
    → IfSome o (λ p. IsComplete p.0 p.1)
unfolding parse_fault_kinds
stated_subcommand_is_complete words o e none = faultless_words_are_complete words o none e
