use Rattle.std.proofs.Common.{map}
use Rattle.std.specs.String.{string_bytes}
use Rattle.dfu_args.proofs.CommandLaws.{stated_subcommand_is_complete, successful_parse_is_faultless, failed_parse_has_stated_kind, successful_parse_has_subcommand, parsed_rows_are_stated, parsed_own_rows_are_stated}
use Rattle.dfu_args.proofs.command_line.matches_of.Goals as goal

pub returns-in-Ok-try_get_matches_from : goal.returns-in-Ok-try_get_matches_from
returns-in-Ok-try_get_matches_from c = record {
  top = parsed_own_rows_are_stated _ (map string_bytes c.args.words.now) _ c.in-Ok.ensures.app c.in-Ok-try_get_matches_from.ensures.matches;
  rows = parsed_rows_are_stated _ (map string_bytes c.args.words.now) _ c.in-Ok.ensures.app c.in-Ok-try_get_matches_from.ensures.matches;
  named =
      successful_parse_has_subcommand _ (map string_bytes c.args.words.now) _ c.in-Ok.ensures.app c.in-Ok.ensures.local
      c.in-Ok-try_get_matches_from.ensures.parsed;
  complete = stated_subcommand_is_complete (map string_bytes c.args.words.now) _
      (parsed_rows_are_stated _ (map string_bytes c.args.words.now) _ c.in-Ok.ensures.app c.in-Ok-try_get_matches_from.ensures.matches)
      (successful_parse_is_faultless _ (map string_bytes c.args.words.now) c.in-Ok.ensures.app c.in-Ok-try_get_matches_from.ensures.kinds);
  faults = successful_parse_is_faultless _ (map string_bytes c.args.words.now) c.in-Ok.ensures.app
      c.in-Ok-try_get_matches_from.ensures.kinds;
}

pub returns-in-Err-try_get_matches_from-clause-faults : goal.returns-in-Err-try_get_matches_from-clause-faults
returns-in-Err-try_get_matches_from-clause-faults c = c.fault_of.ensures _
    (failed_parse_has_stated_kind _ (map string_bytes c.args.words.now) c.before.in-Err-try_get_matches_from.error c.in-Ok.ensures.app
    c.in-Err-try_get_matches_from.ensures.kinds)
