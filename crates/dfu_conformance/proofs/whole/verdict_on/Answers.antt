use Rattle.std.specs.Prelude.{◌≡◌, ◌<◌, List, take, length}
use Rattle.std.proofs.Common.{sym, subst, arith}
use Rattle.std.proofs.lemmas.List.{take_more, take_all}
use Rattle.dfu_conformance.specs.declared.event.LogEvent.{LogEvent}
use Rattle.dfu_conformance.specs.MayAnswer.{CandidatesExact}
use Rattle.dfu_conformance.proofs.whole.verdict_on.Goals as goal

pub loop-event-preserved : goal.loop-event-preserved
loop-event-preserved c =
    let below : c.loop-event.event-index < length c.args.events.now = omega arith in
    subst (λ (es : List LogEvent). CandidatesExact c.take.new.self.whole es) (sym (take_more c.args.events.now c.loop-event.event-index _ below))
    (c.take.ensures.whole (take c.loop-event.event-index c.args.events.now) c.loop-event.invariant)

pub returns : goal.returns
returns c =
    let all : length c.args.events.now ≡ c.loop-event.event-index = omega arith in
    c.verdict.ensures.verdict c.args.events.now
    (subst (λ (es : List LogEvent). CandidatesExact c.loop-event.judge.whole es) (take_all c.loop-event.event-index c.args.events.now (omega arith))
    c.loop-event.invariant)
