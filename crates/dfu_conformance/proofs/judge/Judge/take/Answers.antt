use Rattle.std.specs.Prelude.{Bool, [], ◌∷◌, ◌++◌}
use Rattle.std.proofs.Common.{sym, subst}
use Rattle.dfu_conformance.specs.declared.judge.TheConstants.{EVERY}
use Rattle.dfu_conformance.specs.Candidates.{JudgedDevices, devices_since}
use Rattle.dfu_conformance.specs.MayAnswer.{CandidatesExact, PlainCandidatesExact}
use Rattle.dfu_conformance.specs.Verdict.{EventDeparts}
use Rattle.dfu_conformance.proofs.FirstPlaces.{plain_devices_are_exact_at_first}
use Rattle.dfu_conformance.proofs.Verdicts.{candidates_stay_exact, plain_device_can_answer, event_without_devices_departs}
use Rattle.dfu_conformance.proofs.judge.Judge.take.Goals as goal

pub returns-in-Some-clause-whole : goal.returns-in-Some-clause-whole
returns-in-Some-clause-whole c events so =
    candidates_stay_exact c.self.inside.whole c.step-whole.result events c.args.event.now c.step-whole.ensures
    (subst (λ (w : JudgedDevices). CandidatesExact w.whole events) (sym c.self.view_is) so)

pub returns-in-Some-clause-departs : goal.returns-in-Some-clause-departs
returns-in-Some-clause-departs c = (
  c.in-Some.ensures.some.0,
  λ events so.
      let held = subst (λ (b : Bool). PlainCandidatesExact (devices_since b c.self.inside.since c.self.inside.whole) events) c.if-self.true
      (subst (λ (w : JudgedDevices). PlainCandidatesExact w.since events) (sym c.self.view_is) so) in
      subst (λ (b : Bool). EventDeparts events c.in-Some.departure (devices_since b EVERY c.step-whole.result)) (sym c.if-self.true)
      (event_without_devices_departs c.self.inside.since c.step-since.result EVERY events c.args.event.now c.in-Some.departure
      c.step-since.ensures held
      plain_devices_are_exact_at_first c.in-Some.ensures.some),
)

pub returns-in-None-clause-whole : goal.returns-in-None-clause-whole
returns-in-None-clause-whole c events so =
    candidates_stay_exact c.self.inside.whole c.step-whole.result events c.args.event.now c.step-whole.ensures
    (subst (λ (w : JudgedDevices). CandidatesExact w.whole events) (sym c.self.view_is) so)

pub returns-in-None-clause-kept : goal.returns-in-None-clause-kept
returns-in-None-clause-kept c is_none events so =
    let held = subst (λ (b : Bool). PlainCandidatesExact (devices_since b c.self.inside.since c.self.inside.whole) events) c.if-self.true
    (subst (λ (w : JudgedDevices). PlainCandidatesExact w.since events) (sym c.self.view_is) so) in
    let next = plain_device_can_answer c.self.inside.since c.step-since.result events c.args.event.now c.step-since.ensures held
    (c.in-None.ensures.none is_none) in (
      next.0,
      subst (λ (b : Bool). PlainCandidatesExact (devices_since b c.step-since.result c.step-whole.result) (events ++ c.args.event.now ∷ []))
          (sym c.if-self.true) next.1,
    )

pub returns-in-Some-departure-clause-whole : goal.returns-in-Some-departure-clause-whole
returns-in-Some-departure-clause-whole c events so =
    candidates_stay_exact c.self.inside.whole c.step-whole.result events c.args.event.now c.step-whole.ensures
    (subst (λ (w : JudgedDevices). CandidatesExact w.whole events) (sym c.self.view_is) so)

pub returns-in-Some-departure-clause-departs : goal.returns-in-Some-departure-clause-departs
returns-in-Some-departure-clause-departs c = (
  c.in-Some-departure.ensures.some.0,
  λ events so.
      let held = subst (λ (b : Bool). PlainCandidatesExact (devices_since b c.self.inside.since c.self.inside.whole) events) c.if-self.false
      (subst (λ (w : JudgedDevices). PlainCandidatesExact w.since events) (sym c.self.view_is) so) in
      event_without_devices_departs c.self.inside.whole c.step-whole.result EVERY events c.args.event.now c.in-Some-departure.departure
      c.step-whole.ensures
      held plain_devices_are_exact_at_first c.in-Some-departure.ensures.some,
)

pub returns-in-None-departure-clause-whole : goal.returns-in-None-departure-clause-whole
returns-in-None-departure-clause-whole c events so =
    candidates_stay_exact c.self.inside.whole c.step-whole.result events c.args.event.now c.step-whole.ensures
    (subst (λ (w : JudgedDevices). CandidatesExact w.whole events) (sym c.self.view_is) so)

pub returns-in-None-departure-clause-kept : goal.returns-in-None-departure-clause-kept
returns-in-None-departure-clause-kept c is_none events so =
    let held = subst (λ (b : Bool). PlainCandidatesExact (devices_since b c.self.inside.since c.self.inside.whole) events) c.if-self.false
    (subst (λ (w : JudgedDevices). PlainCandidatesExact w.since events) (sym c.self.view_is) so) in
    let next = plain_device_can_answer c.self.inside.whole c.step-whole.result events c.args.event.now c.step-whole.ensures held
    (c.in-None-departure.ensures.none is_none) in (
      next.0,
      subst (λ (b : Bool). PlainCandidatesExact (devices_since b c.self.inside.since c.step-whole.result) (events ++ c.args.event.now ∷ []))
          (sym c.if-self.false) next.1,
    )
