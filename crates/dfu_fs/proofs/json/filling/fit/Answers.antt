use Rattle.std.proofs.Common.{arith, rules, sym, ◌∙◌}
use Rattle.dfu_fs.proofs.Fits.{line_of_all_parts_has_form, unfit_part_unfits_form, fit_part_passes, left_words_unfit_form}
use Rattle.dfu_fs.proofs.json.filling.fit.Goals as goal

pub loop-part-preserved : goal.loop-part-preserved
loop-part-preserved c =
    sym (fit_part_passes _ c.loop-part.part-index _ _ _ _ _ (omega (arith, c.loop-part-test.true)) (rw c.in-Some.is at c.in_ok-now.ensures))
    ∙ c.loop-part.invariant

pub returns-in-None : goal.returns-in-None
returns-in-None c = sym c.loop-part.invariant
    ∙ unfit_part_unfits_form _ c.loop-part.part-index _ _ _ (omega (arith, c.loop-part-test.true)) (rw c.in-None.is at c.in_ok-now.ensures)

pub returns-then-is_empty : goal.returns-then-is_empty
returns-then-is_empty c = sym c.loop-part.invariant
    ∙ line_of_all_parts_has_form c.args.form.now c.loop-part.part-index c.loop-part.out.items c.loop-part.rest.now
    (omega (arith, c.loop-part-test.false)) (search rules)

pub returns : goal.returns
returns c = sym c.loop-part.invariant
    ∙ left_words_unfit_form c.args.form.now c.loop-part.part-index c.loop-part.out.items c.loop-part.rest.now
    (omega (arith, c.loop-part-test.false)) (search rules)
