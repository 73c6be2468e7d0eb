use Rattle.dfu_sim.specs.Happening.{happening}
use Rattle.dfu_link.specs.inside.Expected.{expectation_of}
use Rattle.dfu_link.proofs.PlayLaws.{no_event_is_played, next_print_ends_play}
use Rattle.dfu_link.proofs.scripting.playing.play.Goals as goal

pub returns : goal.returns
returns g c = λ check same. next_print_ends_play (happening c.args.event) {c = c.args.world.now} c.step-answer.result
    (no_event_is_played check c.args.world.now.bench (expectation_of c.args.next.now) (g.W.Write.contents c.args.writer.now))
    (rw same c.step-answer.ensures.play) c.step-answer.ensures.active (rw c.uploaded.ensures at c.say_next.ensures)
