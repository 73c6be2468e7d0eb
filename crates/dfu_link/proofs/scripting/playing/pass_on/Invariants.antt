use Rattle.dfu_link.specs.inside.Expected.{expectation_of}
use Rattle.dfu_link.specs.inside.Moving.{SilentPasses}
use Rattle.dfu_link.proofs.Spending.{actions_left_of_session}
use Rattle.dfu_link.proofs.scripting.playing.pass_on.Given as goal

abbrev pub invariant-passes : goal.invariant-passes
invariant-passes g l =
    SilentPasses l.check l.fn.world.bench (expectation_of l.fn.next) (g.W.Write.contents l.fn.writer) l.world.bench (expectation_of l.next)
    (g.W.Write.contents l.writer)

abbrev pub decreases-passes : goal.decreases-passes
decreases-passes g l = actions_left_of_session l.world.bench.session
