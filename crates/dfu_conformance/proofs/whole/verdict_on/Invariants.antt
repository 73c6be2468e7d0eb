use Rattle.std.specs.Prelude.{take}
use Rattle.dfu_conformance.specs.MayAnswer.{CandidatesExact}
use Rattle.dfu_conformance.proofs.whole.verdict_on.Given as goal

-- The judge's candidates are exact for the events before the next one.
abbrev pub invariant-loop-event : goal.invariant-loop-event
invariant-loop-event l = CandidatesExact l.judge.whole (take l.event-index l.events)
