use Rattle.std.proofs.lemmas.Result.{err_from_is_err_and}
use Rattle.dfu_sim.specs.Happening.{Goes, fate_of, harm_of_fate}
use Rattle.dfu_link.specs.inside.Expected.{expectation_of}
use Rattle.dfu_link.proofs.PlayLaws.{one_more_copy_is_at_end, no_event_is_played, next_print_ends_play, silent_event_is_played, stop_at_turn_stops_all}
use Rattle.dfu_link.proofs.scripting.playing.play_actions.Goals as goal

pub loop-turn-init : goal.loop-turn-init
loop-turn-init g c = no_event_is_played c.args.check.now c.args.world.now.bench (expectation_of c.args.next.now) (g.W.Write.contents
    c.args.writer.now)

pub loop-turn-preserved-then-is_silent : goal.loop-turn-preserved-then-is_silent
loop-turn-preserved-then-is_silent g c =
    let more = silent_event_is_played (Goes (fate_of c.args.fate) (harm_of_fate c.args.fate)) {c = c.loop-turn.world} c.take-answer.result
    c.loop-turn.invariant c.take-answer.ensures.play c.take-answer.ensures.active
    (c.is_silent.ensures.silent c.if-is_silent.true) in
    rw (one_more_copy_is_at_end c.loop-turn.turn (Goes (fate_of c.args.fate) (harm_of_fate c.args.fate))) more

pub loop-turn-preserved : goal.loop-turn-preserved
loop-turn-preserved g c =
    let more = next_print_ends_play (Goes (fate_of c.args.fate) (harm_of_fate c.args.fate)) {c = c.loop-turn.world} c.take-answer.result
    c.loop-turn.invariant c.take-answer.ensures.play c.take-answer.ensures.active
    (rw c.uploaded.ensures at c.in_ok-say_next.ensures) in
    rw (one_more_copy_is_at_end c.loop-turn.turn (Goes (fate_of c.args.fate) (harm_of_fate c.args.fate))) more.ok

pub returns-in_err-say_next : goal.returns-in_err-say_next
returns-in_err-say_next g c =
    let failed = err_from_is_err_and c.from_residual.result c.from_residual.ensures.1 in
    let stopped = next_print_ends_play (Goes (fate_of c.args.fate) (harm_of_fate c.args.fate)) {c = c.loop-turn.world}
    c.take-answer.result c.loop-turn.invariant c.take-answer.ensures.play c.take-answer.ensures.active
    (rw c.uploaded.ensures at c.in_err-say_next.ensures) in
    rw (failed.1, failed.2) (record {
      ok = tt;
      fault =
          stop_at_turn_stops_all c.loop-turn.turn c.args.times
          (Goes (fate_of c.args.fate) (harm_of_fate c.args.fate)) c.loop-turn-test.true stopped.fault;
    })
