use Rattle.std.proofs.Common.{◌∙◌, ◌++◌, ◌∷◌, [], Some, None, ap, sym, subst, arith}
use Rattle.dfu_conformance.specs.declared.log.Line.TheVariants as line
use Rattle.dfu_output.specs.judge.Course.{course_after_line, line_is_for_another, line_says_nothing}
use Rattle.dfu_output.specs.judge.Lines.{LinesState}
use Rattle.dfu_output.specs.judge.inside.JudgeState.{JudgingState, IsStateAfter}
use Rattle.dfu_output.proofs.LogSteps.{state_follows_line_end, unread_byte_is_unjudged, byte_in_line_is_judged, equal_meaning_accepts, line_end_judges_event, eventless_line_is_judged}
use Rattle.dfu_output.proofs.judge.judging.Judging.take.Goals as goal

pub returns-in-Err-clause-err : goal.returns-in-Err-clause-err
returns-in-Err-clause-err c text course is tail =
    let at = subst (λ (s : JudgingState). IsStateAfter s text course) (sym c.self.view_is) is in
    unread_byte_is_unjudged c.args.interface _ text course (c.args.byte ∷ tail) c.in-Err.fault at (c.in-Err.ensures.err tail)

pub returns-in-Ok-None-clause-ok : goal.returns-in-Ok-None-clause-ok
returns-in-Ok-None-clause-ok c text course is judged =
    let at = subst (λ (s : JudgingState). IsStateAfter s text course) (sym c.self.view_is) is in
    byte_in_line_is_judged c.args.interface c.args.byte _ _ text course at judged
    (equal_meaning_accepts c.args.interface _ _ c.args.byte _ None c.in-Ok-None.field-0-is c.in-Ok-None.ensures.ok)

pub returns-in-Came-clause-ok : goal.returns-in-Came-clause-ok
returns-in-Came-clause-ok c text course is judged =
    let at = subst (λ (s : JudgingState). IsStateAfter s text course) (sym c.self.view_is) is in
    let end = equal_meaning_accepts c.args.interface _ _ c.args.byte _ (Some (line.Came c.in-Came.event))
    (c.in-Ok-Some.field-0-is ∙ ap Some c.in-Came.is) c.in-Ok-Some.ensures.ok in
    line_end_judges_event c.args.interface c.args.byte _ _ _ text course c.in-Came.event _ at judged end
    (c.come.ensures.came (text ++ 10 ∷ []) (course_after_line course)
    (state_follows_line_end c.args.interface c.args.byte _ _ text course _ at end))

pub returns-in-Blank-clause-ok : goal.returns-in-Blank-clause-ok
returns-in-Blank-clause-ok c text course is judged =
    eventless_line_is_judged c.args.interface c.args.byte _ _ text course line.Blank _ line_says_nothing
    (subst (λ (s : JudgingState). IsStateAfter s text course) (sym c.self.view_is) is) judged
    (c.in-Ok-Some.field-0-is ∙ ap Some c.in-Blank.is) c.in-Ok-Some.ensures.ok

pub returns-in-Elsewhere-clause-ok : goal.returns-in-Elsewhere-clause-ok
returns-in-Elsewhere-clause-ok c text course is judged =
    eventless_line_is_judged c.args.interface c.args.byte _ _ text course line.Elsewhere _ line_is_for_another
    (subst (λ (s : JudgingState). IsStateAfter s text course) (sym c.self.view_is) is) judged
    (c.in-Ok-Some.field-0-is ∙ ap Some c.in-Elsewhere.is) c.in-Ok-Some.ensures.ok

pub invariant_of-self : goal.invariant_of-self
invariant_of-self c = (
  omega (arith, c.self.invariant.0, ap (λ (s : LinesState). s.room) c.in-Err.ensures.stays),
  c.self.invariant.1,
)
