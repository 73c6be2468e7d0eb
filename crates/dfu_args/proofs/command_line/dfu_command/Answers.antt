use Rattle.std.proofs.Common.{rules, ◌∙◌}
use Rattle.std.specs.String.{string_bytes}
use Rattle.clap.specs.Words.{app_of}
use Rattle.dfu_args.proofs.Alone.{second_word_parses_as_whole, made_command_parses_as_whole}
use Rattle.dfu_args.proofs.command_line.dfu_command.Goals as goal

pub returns-in-Some-clause-app : goal.returns-in-Some-clause-app
returns-in-Some-clause-app c =
    made_command_parses_as_whole app_of c.with_command.result _ c.in-Some.listed.now _ c.with_command.ensures.app
    c.in_ok-command.ensures.app
    (second_word_parses_as_whole string_bytes _ c.in-Some.listed.now.name.now c.in-Some.ensures.alone c.args.words.now c.name-item.result
    c.in-len2-up.len_at_least c.name-item.is (c.in-Some.ensures.named ∙ search rules))
