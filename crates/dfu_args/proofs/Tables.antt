-- The loops over the tables add one argument or one subcommand at a time.
use Rattle.std.proofs.Common.{◌≡◌, ℕ, ◌+◌, ◌<◌, List, length, get_or, take, ap, sym, ◌∙◌}
use Rattle.std.specs.List.{fold}
use Rattle.std.proofs.lemmas.List.Sums.{fold_more}
use Rattle.clap.specs.Words.{App, Rule, with_rule}
use Rattle.dfu_args.specs.Tables.{rule_of_row, with_listed_command, with_row}
use Rattle.dfu_args.specs.declared.commands.ListedCommand.{ListedCommand}
use Rattle.dfu_args.specs.declared.commands.Row.{Row}

-- Adding the argument of the next row to a command with the first `i` arguments gives the command with the first `i + 1`.
pub next_row_extends_command : (first a b : App) (r : Rule) (rows : List Row) (i : ℕ) (d : Row) → i < length rows → a
    ≡ fold with_row first (take i rows)
    → b ≡ with_rule a r → r ≡ rule_of_row (get_or rows i d) → b ≡ fold with_row first (take (i + 1) rows)
next_row_extends_command first a b r rows i d within before added by = added ∙ (ap (λ (r : Rule). with_rule a r) by
    ∙ (ap (λ (a : App). with_row a (get_or rows i d)) before ∙ sym (fold_more with_row first rows i d within)))

-- Adding the next subcommand to a command with the first `i` listed subcommands gives the command with the first `i + 1`.
pub next_listed_extends_command : (first a b : App) (all : List ListedCommand) (i : ℕ) (d : ListedCommand) → i < length all
    → a ≡ fold with_listed_command first (take i all) → b ≡ with_listed_command a (get_or all i d)
    → b ≡ fold with_listed_command first (take (i + 1) all)
next_listed_extends_command first a b all i d within before added =
    added ∙ (ap (λ (a : App). with_listed_command a (get_or all i d)) before ∙ sym (fold_more with_listed_command first all i d within))
