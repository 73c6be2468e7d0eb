use Rattle.std.proofs.Common.{◌≡◌, ◌∙◌, ◌⊎◌, subst, inl, inr, Bool, Option, List, ℕ, length}
use Rattle.dfu_conformance.specs.declared.verdict.Verdict.{Verdict}
use Rattle.dfu_conformance.specs.Verdict.{IsVerdict, ArePlacesAfter}
use Rattle.dfu_suffix.specs.declared.fault.SuffixFault.TheVariants as suffix
use Rattle.dfu_output.specs.AnswerLines.{fault_line}
use Rattle.dfu_output.specs.Output.{TextIsOut}
use Rattle.dfu_output.specs.declared.exit.Exit.{Exit}
use Rattle.dfu_output.specs.declared.exit.Exit.TheVariants.{Refused}
use Rattle.dfu_output.specs.judge.Judging.{WritesVerdict, exit_of, readings_of}
use Rattle.dfu_output.specs.judge.inside.JudgeState.{JudgedSoFar, JudgingState}
use Rattle.dfu_output.specs.judge.Texts.{verdict_text}
use Rattle.dfu_output.proofs.judge.reading.verdict_out.Goals as goal

told : (old new : Option (List ℕ)) (bytes text : List ℕ) (x y r : Exit) → bytes ≡ text → x ≡ y → TextIsOut old new bytes x r
    → TextIsOut old new text y r
told old new bytes text x y r same exit wrote =
    subst (λ (e : Exit). TextIsOut old new text e r) exit (subst (λ (xs : List ℕ). TextIsOut old new xs x r) same wrote)

-- After the lines of the departures, the command writes the line of the verdict or `refused NoMemory`.
written : (interface : ℕ) (old mid new : Option (List ℕ)) (text : List ℕ) (s : JudgingState) (going : JudgedSoFar interface old mid text s)
    (verdict : Verdict) (at : List Bool) (result : Exit)
    → IsVerdict verdict going.course.events × ArePlacesAfter (readings_of verdict) going.course.events at
    → TextIsOut mid new (verdict_text verdict at (length going.course.events) going.course.single) (exit_of verdict) result
    ⊎ TextIsOut mid new (fault_line suffix.NoMemory) Refused result
    → WritesVerdict going.course old new result
written interface old mid new text s going verdict at result v wrote =
    record { verdict = verdict; is = v.0; at = at; places = v.1; mid = mid; told = going.out; wrote = wrote }

pub returns-in-Ok : goal.returns-in-Ok
returns-in-Ok g c interface old text going =
    written interface old (g.W.Write.contents c.args.writer.now) _ text _ going c.verdict-verdict.result.0 c.verdict-verdict.result.1 _
    (c.verdict-verdict.ensures text going.course going.at)
    (inl (told (g.W.Write.contents c.args.writer.now) (g.W.Write.contents c.write_out.new.writer) _ _ _ _ _
    (c.as_bytes.ensures.value ∙ c.in-Ok.ensures
    ∙ (λ i. verdict_text c.verdict-verdict.result.0 c.verdict-verdict.result.1 ((c.counts-events.ensures.events ∙ going.at.events) i)
    ((c.counts-events.ensures.single ∙ going.at.single) i))) c.exit_of.ensures c.write_out.ensures))

pub returns-in-Err : goal.returns-in-Err
returns-in-Err g c interface old text going =
    written interface old (g.W.Write.contents c.args.writer.now) _ text _ going c.verdict-verdict.result.0 c.verdict-verdict.result.1 _
    (c.verdict-verdict.ensures text going.course going.at) (inr c.fault_text.ensures)
