use Rattle.std.proofs.Common.{sym, subst}
use Rattle.dfu_conformance.specs.declared.verdict.Verdict.{Verdict}
use Rattle.dfu_conformance.specs.Verdict.{ArePlacesAfter, HasSixBits, IsVerdict}
use Rattle.dfu_output.specs.judge.Judging.{readings_of}
use Rattle.dfu_output.specs.judge.inside.JudgeState.{JudgingState, IsStateAfter}
use Rattle.dfu_output.proofs.judge.judging.Judging.verdict.Goals as goal

pub places-requires-in-KeptBy : goal.places-requires-in-KeptBy
places-requires-in-KeptBy c = subst HasSixBits c.in-KeptBy.is c.verdict-verdict.ensures.bits

pub returns-in-Kept : goal.returns-in-Kept
returns-in-Kept c text course is =
    let at = subst (λ (s : JudgingState). IsStateAfter s text course) (sym c.self.view_is) is in (
      c.verdict-verdict.ensures.verdict course.events at.whole,
      subst (λ (v : Verdict). ArePlacesAfter (readings_of v) course.events c.places.result) (sym c.in-Kept.is)
          (c.places.ensures course.events at.whole),
    )

pub returns-in-KeptBy : goal.returns-in-KeptBy
returns-in-KeptBy c text course is =
    let at = subst (λ (s : JudgingState). IsStateAfter s text course) (sym c.self.view_is) is in (
      subst (λ (v : Verdict). IsVerdict v course.events) c.in-KeptBy.is (c.verdict-verdict.ensures.verdict course.events at.whole),
      c.places-in-KeptBy.ensures course.events at.whole,
    )

pub returns-in-NotKept : goal.returns-in-NotKept
returns-in-NotKept c text course is =
    let at = subst (λ (s : JudgingState). IsStateAfter s text course) (sym c.self.view_is) is in (
      c.verdict-verdict.ensures.verdict course.events at.whole,
      subst (λ (v : Verdict). ArePlacesAfter (readings_of v) course.events c.places-in-NotKept.result) (sym c.in-NotKept.is)
          (c.places-in-NotKept.ensures course.events at.whole),
    )
