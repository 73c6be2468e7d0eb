use Rattle.std.proofs.Common.{ap, is_some, map, sym, true≢false, Some, arith, ◌∙◌}
use Rattle.std.proofs.lemmas.List.{take_all}
use Rattle.clap.specs.Words.{found_of, rows_of}
use Rattle.clap.proofs.WalkLemmas.{raw_values-rows}
use Rattle.dfu_args.proofs.Texts.{argument_without_row_has_no_text}
use Rattle.dfu_args.proofs.words.texts_of.Goals as goal

pub unreachable-requires : goal.unreachable-requires
unreachable-requires c =
    let f = found_of c.args.found.now in
    true≢false (sym c.requires.there ∙ ap is_some (argument_without_row_has_no_text c.args.id.now (rows_of f)
    (sym (raw_values-rows f c.args.id.now) ∙ sym (c.in_default.ensures))))

pub returns : goal.returns
returns c = sym (raw_values-rows (found_of c.args.found.now) c.args.id.now)
    ∙ (sym c.in-Some.ensures ∙ ap Some (sym (c.loop-value.invariant
    ∙ ap (λ l. map (λ v. v.now) l) (take_all c.loop-value.value-index c.in-Some.values.now (omega (arith, c.loop-value-test.false))))))
