use Rattle.std.proofs.Common.{sym, ap}
use Rattle.std.proofs.lemmas.Result.{err_from_is_err_and}
use Rattle.dfu_link.specs.LineContent.{content_of_event, offered_bytes}
use Rattle.dfu_link.specs.inside.Moving.{is_done}
use Rattle.dfu_link.proofs.RestLaws.{plain_line_is_done, plain_line_is_deferred, line_ends, plain_line_ends_by_events}
use Rattle.dfu_link.proofs.scripting.run_events.later_line.Goals as goal

pub returns-in_err-plain-clause-fault : goal.returns-in_err-plain-clause-fault
returns-in_err-plain-clause-fault g c =
    let failed = err_from_is_err_and c.from_residual.result c.from_residual.ensures.1 in
    rw (failed.1, failed.2) (c.in_err-plain.ensures.fault c.args.world.now.bench (sym c.device.ensures.device))

pub returns-in_default-clause-ok : goal.returns-in_default-clause-ok
returns-in_default-clause-ok g c =
    is_done (plain_line_is_done (rw c.in_default.is at c.in_ok-plain.ensures.ok) c.args.world.now.bench (sym c.device.ensures.device))

pub returns-then-not-is_live-clause-ok : goal.returns-then-not-is_live-clause-ok
returns-then-not-is_live-clause-ok g c =
    plain_line_is_deferred (rw c.in-Some.is at c.in_ok-plain.ensures.ok) (c.is_live.ensures.none c.if-not-is_live.true)

pub returns-in_err-refuse_offer-in-Offer-clause-fault : goal.returns-in_err-refuse_offer-in-Offer-clause-fault
returns-in_err-refuse_offer-in-Offer-clause-fault g c =
    let failed = err_from_is_err_and c.from_residual-in_err-refuse_offer-in-Offer.result
    c.from_residual-in_err-refuse_offer-in-Offer.ensures.1 in
    let line = plain_line_ends_by_events _ (rw c.in-Some.is at c.in_ok-plain.ensures.ok) (ap content_of_event c.in-Offer.is)
    (c.in_err-refuse_offer-in-Offer.ensures c.in-Offer.purpose (offered_bytes c.in-Offer.file)) in
    rw (failed.1, failed.2) line.fault

pub returns-in_ok-refuse_offer-in-Offer-clause-ok : goal.returns-in_ok-refuse_offer-in-Offer-clause-ok
returns-in_ok-refuse_offer-in-Offer-clause-ok g c =
    let line = plain_line_ends_by_events _ (rw c.in-Some.is at c.in_ok-plain.ensures.ok) (ap content_of_event c.in-Offer.is)
    (c.in_ok-refuse_offer-in-Offer.ensures c.in-Offer.purpose (offered_bytes c.in-Offer.file)) in
    is_done line.ok

pub returns-in_err-play_events-in_default-events : goal.returns-in_err-play_events-in_default-events
returns-in_err-play_events-in_default-events g c =
    let failed = err_from_is_err_and c.from_residual-in_err-play_events-in_default-events.result
    c.from_residual-in_err-play_events-in_default-events.ensures.1 in
    let line = line_ends _ (rw c.in-Some.is at c.in_ok-plain.ensures.ok) c.in_err-play_events-in_default-events.ensures in
    rw (failed.1, failed.2) (record { ok = tt; fault = line.fault })

pub returns-in_ok-play_events-in_default-events : goal.returns-in_ok-play_events-in_default-events
returns-in_ok-play_events-in_default-events g c =
    let line = line_ends _ (rw c.in-Some.is at c.in_ok-plain.ensures.ok) c.in_ok-play_events-in_default-events.ensures in
    record { ok = is_done line.ok; fault = tt }
