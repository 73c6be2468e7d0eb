use Rattle.std.specs.Prelude.{replicate}
use Rattle.dfu_sim.specs.Happening.{Goes, fate_of, harm_of_fate}
use Rattle.dfu_link.specs.inside.Expected.{expectation_of}
use Rattle.dfu_link.specs.inside.Moving.{PlayIsDone}
use Rattle.dfu_link.proofs.scripting.playing.play_actions.Given as goal

abbrev pub invariant-loop-turn : goal.invariant-loop-turn
invariant-loop-turn g l = PlayIsDone l.check l.fn.world.bench (expectation_of l.fn.next) (replicate l.turn (Goes (fate_of l.fate)
    (harm_of_fate l.fate)))
    (g.W.Write.contents l.fn.writer) l.world.bench (expectation_of l.next) (g.W.Write.contents l.writer)
