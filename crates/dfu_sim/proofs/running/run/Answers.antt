use Rattle.std.proofs.Common.{arith}
use Rattle.dfu_sim.proofs.Choices.{result_without_error_has_fact}
use Rattle.dfu_sim.proofs.Chains.{empty_chain, chain_is_run, chain_is_followed_run, next_event_extends_run, run_stops_without_memory, run_stops_at_refusal, all_events_form_chain}
use Rattle.dfu_sim.proofs.HeadlineKept.{chain_keeps_headline, stopped_run_keeps_headline}
use Rattle.dfu_sim.proofs.CleanRuns.{chain_runs_cleanly}
use Rattle.dfu_sim.proofs.CleanStops.{stopped_clean_run_lacked_memory}
use Rattle.dfu_sim.proofs.running.run.Goals as goal

pub loop-i-init : goal.loop-i-init
loop-i-init g c = rw c.new-reports.ensures.items empty_chain

pub returns-then-is_err : goal.returns-then-is_err
returns-then-is_err g c =
    let s = run_stops_without_memory c.args.events.now c.loop-i.i c.loop-i-test.true c.loop-i.invariant in
    rw c.reserve.ensures.items
    (record {
      runs = s.runs;
      legal = chain_is_followed_run s.chain;
      headline = stopped_run_keeps_headline _ _ s.chain;
      clean =
          stopped_clean_run_lacked_memory s;
    })

pub returns-in-Err : goal.returns-in-Err
returns-in-Err g c =
    let s = run_stops_at_refusal c.args.events.now c.loop-i.i _ c.loop-i-test.true c.loop-i.invariant c.in-Err.ensures.play in
    rw c.reserve.ensures.items
    (record {
      runs = s.runs;
      legal = chain_is_followed_run s.chain;
      headline = stopped_run_keeps_headline _ _ s.chain;
      clean =
          stopped_clean_run_lacked_memory s;
    })

pub loop-i-preserved : goal.loop-i-preserved
loop-i-preserved g c =
    rw (c.note.ensures, c.reserve.ensures.items)
    (next_event_extends_run c.args.events.now c.loop-i.i _ c.loop-i-test.true c.loop-i.invariant
    (record { play = c.in-Ok.ensures.play; legal = c.in-Ok.ensures.legal; sure = c.in-Ok.ensures.sure; gives = c.in-Ok.ensures.gives }))

pub returns : goal.returns
returns g c =
    let chain = all_events_form_chain c.args.events.now c.loop-i.i c.loop-i-test.false c.loop-i.invariant in
    record {
      runs = chain_is_run chain;
      legal = chain_is_followed_run chain;
      headline = chain_keeps_headline _ chain;
      clean =
          chain_runs_cleanly chain;
    }

pub note-requires : goal.note-requires
note-requires g c = omega (arith, result_without_error_has_fact c.reserve.result c.if-is_err.ensures.value c.reserve.ensures.ok)
