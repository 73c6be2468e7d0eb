use Rattle.std.proofs.Common.{arith, sym, ◌∙◌}
use Rattle.dfu_fs.proofs.Fits.{fit_form_gives_members, nothing_fits_without_forms, unfit_form_is_skipped}
use Rattle.dfu_fs.proofs.json.filling.first_fit.Goals as goal

pub loop-form-preserved : goal.loop-form-preserved
loop-form-preserved c =
    sym (unfit_form_is_skipped _ c.loop-form.form-index _ _ (omega (arith, c.loop-form-test.true)) (rw c.in-None.is at c.in_ok-out.ensures))
    ∙ c.loop-form.invariant

pub returns-in-Some : goal.returns-in-Some
returns-in-Some c = sym c.loop-form.invariant
    ∙ fit_form_gives_members _ c.loop-form.form-index _ _ _ (omega (arith, c.loop-form-test.true)) (rw c.in-Some.is at c.in_ok-out.ensures)

pub returns : goal.returns
returns c = sym c.loop-form.invariant
    ∙ nothing_fits_without_forms c.args.forms.now c.loop-form.form-index c.args.line.now (omega (arith, c.loop-form-test.false))
