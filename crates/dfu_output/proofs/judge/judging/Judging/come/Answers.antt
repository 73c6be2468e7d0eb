use Rattle.std.proofs.Common.{◌∙◌, ◌+◌, ℕ, refl, sym, ap, subst, arith, cond}
use Rattle.dfu_output.specs.judge.inside.JudgeState.{JudgingState, IsStateAfter}
use Rattle.dfu_output.proofs.LogSteps.{event_continues_course, event_departs}
use Rattle.dfu_output.proofs.judge.judging.Judging.come.Goals as goal

pub returns-in-Some-clause-came : goal.returns-in-Some-clause-came
returns-in-Some-clause-came c text course is =
    let at = subst (λ (s : JudgingState). IsStateAfter s text course) (sym c.self.view_is) is in
    event_departs _ _ _ text course c.args.event.now c.in-Some.departure at (c.in-Some.ensures.whole course.events at.whole)
    c.in-Some.ensures.departs.0 (c.in-Some.ensures.departs.1 course.since at.since)

pub returns-then-is_single-clause-came : goal.returns-then-is_single-clause-came
returns-then-is_single-clause-came c text course is =
    let at = subst (λ (s : JudgingState). IsStateAfter s text course) (sym c.self.view_is) is in
    let plain = c.in-None.ensures.kept refl course.since at.since in
    event_continues_course _ _ _ _ text course c.args.event.now c.standing.result at (c.in-None.ensures.whole course.events at.whole) plain
    (c.standing.ensures _ plain.1) (ap (λ b. c.self.inside.single + cond b 1 0) (sym c.if-is_single.true ∙ c.is_single.ensures))

pub returns-else-is_single-clause-came : goal.returns-else-is_single-clause-came
returns-else-is_single-clause-came c text course is =
    let at = subst (λ (s : JudgingState). IsStateAfter s text course) (sym c.self.view_is) is in
    let plain = c.in-None.ensures.kept refl course.since at.since in
    event_continues_course _ _ _ c.self.inside.single text course c.args.event.now c.standing.result at
    (c.in-None.ensures.whole course.events at.whole)
    plain (c.standing.ensures _ plain.1) (omega (arith, ap {B = ℕ} (λ b. cond b 1 0) (sym c.if-is_single.false ∙ c.is_single.ensures)))
