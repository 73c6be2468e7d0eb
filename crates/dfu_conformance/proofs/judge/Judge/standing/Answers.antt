use Rattle.std.specs.Prelude.{Bool}
use Rattle.std.proofs.Common.{sym, subst}
use Rattle.dfu_conformance.specs.Candidates.{JudgedDevices, devices_since}
use Rattle.dfu_conformance.specs.MayAnswer.{PlainCandidatesExact}
use Rattle.dfu_conformance.proofs.Verdicts.{held_places_are_possible}
use Rattle.dfu_conformance.proofs.judge.Judge.standing.Goals as goal

pub returns-then-self : goal.returns-then-self
returns-then-self c events so =
    held_places_are_possible c.self.inside.since c.places_of.result events
    (subst (λ (b : Bool). PlainCandidatesExact (devices_since b c.self.inside.since c.self.inside.whole) events) c.if-self.true
    (subst (λ (w : JudgedDevices). PlainCandidatesExact w.since events) (sym c.self.view_is) so)) c.places_of.ensures

pub returns-else-self : goal.returns-else-self
returns-else-self c events so =
    held_places_are_possible c.self.inside.whole c.places_of-else-self.result events
    (subst (λ (b : Bool). PlainCandidatesExact (devices_since b c.self.inside.since c.self.inside.whole) events) c.if-self.false
    (subst (λ (w : JudgedDevices). PlainCandidatesExact w.since events) (sym c.self.view_is) so)) c.places_of-else-self.ensures
