use Rattle.std.proofs.Common.{sym}
use Rattle.std.proofs.lemmas.Result.{err_from_is_err_and}
use Rattle.dfu_link.specs.LineContent.{content_of_event}
use Rattle.dfu_link.proofs.RestLaws.{plain_line_is_done, plain_line_says_events, line_ends}
use Rattle.dfu_link.proofs.scripting.run_events.first_line.Goals as goal

pub returns-in_err-plain_line : goal.returns-in_err-plain_line
returns-in_err-plain_line g c =
    let failed = err_from_is_err_and c.from_residual.result c.from_residual.ensures.1 in
    rw (failed.1, failed.2) (record {
      ok = tt;
      fault = c.in_err-plain_line.ensures.fault c.args.world.now.bench (sym c.device.ensures.device);
    })

pub returns-in-None : goal.returns-in-None
returns-in-None g c = record {
  ok = plain_line_is_done (rw c.in-None.is at c.in_ok-plain_line.ensures.ok) c.args.world.now.bench (sym c.device.ensures.device);
  fault = tt;
}

pub play_events-requires : goal.play_events-requires
play_events-requires g c =
    c.requires (content_of_event c.in-Some.events) (plain_line_says_events (rw c.in-Some.is at c.in_ok-plain_line.ensures.ok))

pub returns-in-Some : goal.returns-in-Some
returns-in-Some g c = line_ends c.play_events.result (rw c.in-Some.is at c.in_ok-plain_line.ensures.ok) c.play_events.ensures
