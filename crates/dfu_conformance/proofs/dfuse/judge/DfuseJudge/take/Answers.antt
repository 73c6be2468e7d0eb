use Rattle.std.proofs.Common.{refl, sym, ◌∙◌}
use Rattle.dfu_conformance.proofs.DfuseVerdicts.{dfuse_device_left_can_answer, dfuse_event_departs}
use Rattle.dfu_conformance.proofs.dfuse.judge.DfuseJudge.take.Goals as goal

pub returns-then-is_anywhere-clause-kept : goal.returns-then-is_anywhere-clause-kept
returns-then-is_anywhere-clause-kept c is_none events so =
    dfuse_device_left_can_answer c.args.self.now.at c.step-after.result events c.args.event.now c.step-after.ensures so
    (sym c.is_anywhere.ensures
    ∙ c.if-is_anywhere.true)

pub returns-clause-departs : goal.returns-clause-departs
returns-clause-departs c = (
  refl,
  λ events so.
      dfuse_event_departs c.args.self.now.at c.step-after.result events c.args.event.now c.step-after.ensures so (sym c.is_anywhere.ensures
      ∙ c.if-is_anywhere.false),
)
