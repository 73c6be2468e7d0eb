use Rattle.std.proofs.Common.{Some, ap, sym, ◌∙◌}
use Rattle.clap.specs.Words.{found_of}
use Rattle.clap.proofs.WalkLemmas.{first_value-rows}
use Rattle.dfu_args.proofs.words.text_if.Goals as goal

pub returns-in_default : goal.returns-in_default
returns-in_default c = sym (first_value-rows (found_of c.args.found.now) c.args.id.now) ∙ sym c.in_default.ensures

pub returns-in-Ok : goal.returns-in-Ok
returns-in-Ok c = sym (first_value-rows (found_of c.args.found.now) c.args.id.now)
    ∙ (sym c.in-Some.ensures ∙ ap Some (sym c.in-Ok.ensures.ok))
