-- Rows of the tables, in terms of the specification of clap.
use Rattle.std.specs.List.{fold}
use Rattle.clap.specs.Words.{App, Rule, Text, new_app, with_rule, with_subcommand}
use Rattle.dfu_args.specs.CommandLine.{flag_rule, required_rule, option_rule, optional_rule, repeated_rule, unset_option_rule, required_option_rule}
use Rattle.dfu_args.specs.declared.commands.ListedCommand.{ListedCommand}
use Rattle.dfu_args.specs.declared.commands.Row.{Row}
use Rattle.dfu_args.specs.declared.commands.Kind.{Kind}
use Rattle.dfu_args.specs.declared.commands.Kind.TheVariants as kind

-- Rule of an argument with this id and this kind.
abbrev pub rule_of_kind : Text → Kind → Rule
rule_of_kind id (kind.Needed name) = required_rule id
rule_of_kind id (kind.Repeated name) = repeated_rule id
rule_of_kind id (kind.Optional name default) = optional_rule id default.now
rule_of_kind id (kind.Option default) = option_rule id default.now
rule_of_kind id kind.Unset = unset_option_rule id
rule_of_kind id kind.Wanted = required_option_rule id
rule_of_kind id kind.Flag = flag_rule id

-- Rule of the argument in a row.
abbrev pub rule_of_row : Row → Rule
rule_of_row row = rule_of_kind row.0.now row.1

-- Command with one more argument, which a row describes.
abbrev pub with_row : App → Row → App
with_row app row = with_rule app (rule_of_row row)

-- Clap command of a listed subcommand, with an argument for each of its rows.
abbrev pub app_of_listed : ListedCommand → App
app_of_listed l = fold with_row (new_app l.name.now) l.rows.now

-- Command with one more listed subcommand.
abbrev pub with_listed_command : App → ListedCommand → App
with_listed_command app l = with_subcommand app (app_of_listed l).top
