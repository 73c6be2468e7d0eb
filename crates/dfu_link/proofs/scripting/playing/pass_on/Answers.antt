use Rattle.std.proofs.Common.{refl}
use Rattle.dfu_link.specs.inside.Expected.{expectation_of}
use Rattle.dfu_link.proofs.Spending.{silent_action_leaves_fewer}
use Rattle.dfu_link.proofs.ReportPasses.{no_passes_are_silent, silent_pass_is_added, until_report_ends_as_text}
use Rattle.dfu_link.proofs.scripting.playing.pass_on.Goals as goal

pub passes-init : goal.passes-init
passes-init g c = no_passes_are_silent c.args.check.now c.args.world.now.bench (expectation_of c.args.next.now) (g.W.Write.contents
    c.args.writer.now)

pub passes-smaller : goal.passes-smaller
passes-smaller g c = silent_action_leaves_fewer c.take-answer.result c.take-answer.ensures.play (c.if-not-is_silent.ensures.silent refl)

pub passes-preserved : goal.passes-preserved
passes-preserved g c = silent_pass_is_added c.take-answer.result c.passes.invariant c.take-answer.ensures.play c.take-answer.ensures.active
    (c.if-not-is_silent.ensures.silent refl)

pub returns-then-not-is_silent : goal.returns-then-not-is_silent
returns-then-not-is_silent g c = λ given limits. until_report_ends_as_text given c.args.check.now limits c.take-answer.result
    c.say_next.result
    c.passes.invariant c.take-answer.ensures.play c.take-answer.ensures.active (c.if-not-is_silent.ensures.told refl)
    (rw c.uploaded.ensures at c.say_next.ensures)
