use Rattle.std.proofs.Common.{◌++◌, ◌∷◌, [], List, ℕ, refl}
use Rattle.std.proofs.lemmas.Option.{IfSome_then}
use Rattle.dfu_output.specs.declared.judge.fault.LogFault.TheVariants.{NoMemory}
use Rattle.dfu_output.specs.judge.Course.{LogCourse, CourseOfText}
use Rattle.dfu_output.specs.judge.Judging.{WritesVerdict, judged_to_stop, judged_to_end}
use Rattle.dfu_output.proofs.LogPieces.{no_memory_stops_log, nothing_is_judged_at_first, fact_of_all_holds_if_some}
use Rattle.dfu_output.proofs.judge.reading.judge_with_fault.Goals as goal

pub returns-in_default : goal.returns-in_default
returns-in_default g c =
    judged_to_stop (g.W.Write.contents c.args.writer.now) NoMemory
    (fact_of_all_holds_if_some _ _ (λ (text : List ℕ). no_memory_stops_log c.args.interface (g.W.Write.contents c.args.writer.now) (text ++
    10 ∷ [])))
    c.stop_text.ensures refl

pub returns-in-Ok : goal.returns-in-Ok
returns-in-Ok g c =
    judged_to_end (IfSome_then _ {Q = λ (text : List ℕ). (x : LogCourse) × CourseOfText c.args.interface (text ++ 10 ∷ []) x
    × WritesVerdict x (g.W.Write.contents c.args.writer.now) (g.W.Write.contents c.verdict_out.new.writer) c.verdict_out.result}
    (c.in-Ok.ensures.ok (g.W.Write.contents c.args.writer.now) (nothing_is_judged_at_first c.args.interface _ _ c.in-Some.ensures))
    (λ (text : List ℕ) going. (going.course, going.judged, c.verdict_out.ensures _ _ (text ++ 10 ∷ []) going))) refl

pub returns : goal.returns
returns g c =
    judged_to_stop _ c.in-Err.fault (c.in-Err.ensures.err (g.W.Write.contents c.args.writer.now)
    (nothing_is_judged_at_first c.args.interface _ _ c.in-Some.ensures)) c.stop_text-in-Err.ensures refl
