use Rattle.std.proofs.Common.{sym, subst}
use Rattle.dfu_output.specs.judge.inside.JudgeState.{JudgingState, IsStateAfter}
use Rattle.dfu_output.proofs.LogSteps.{bytes_in_line_are_judged}
use Rattle.dfu_output.proofs.judge.judging.Judging.take_inner.Goals as goal

pub returns-clause-state_after_text : goal.returns-clause-state_after_text
returns-clause-state_after_text c interface text course at judged =
    bytes_in_line_are_judged interface _ _ _ text course (subst (λ (s : JudgingState). IsStateAfter s text course) (sym c.self.view_is) at)
    judged
    c.take_inner.ensures.bytes_in_line
