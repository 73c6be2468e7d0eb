use Rattle.std.proofs.Common.{ap, is_some, sym, true≢false, ◌∙◌}
use Rattle.std.specs.String.{string_bytes}
use Rattle.clap.specs.Words.{found_of}
use Rattle.clap.proofs.WalkLemmas.{first_value-rows}
use Rattle.dfu_args.proofs.Texts.{copied_text_is_value}
use Rattle.dfu_args.proofs.words.text_of.Goals as goal

pub returns : goal.returns
returns c = copied_text_is_value string_bytes c.from_str.result _ _ c.from_str.ensures.ok
    (sym (first_value-rows (found_of c.args.found.now) c.args.id.now) ∙ sym c.in-Some.ensures)

pub unreachable-requires : goal.unreachable-requires
unreachable-requires c = true≢false (sym c.requires.there
    ∙ ap is_some (sym (first_value-rows (found_of c.args.found.now) c.args.id.now) ∙ sym c.in_default.ensures))
