use Rattle.std.proofs.Common.{sym, subst, ◌∙◌}
use Rattle.dfu_conformance.specs.Candidates.{JudgedDevices}
use Rattle.dfu_conformance.specs.MayAnswer.{CandidatesExact}
use Rattle.dfu_conformance.proofs.Verdicts.{least_set_has_six_bits, plain_device_gives_kept, least_readings_give_kept_by, no_device_gives_not_kept}
use Rattle.dfu_conformance.proofs.judge.Judge.verdict.Goals as goal

pub returns-then-is_any_held-clause-verdict : goal.returns-then-is_any_held-clause-verdict
returns-then-is_any_held-clause-verdict c events so =
    plain_device_gives_kept c.self.inside.whole events
    (subst (λ (w : JudgedDevices). CandidatesExact w.whole events) (sym c.self.view_is) so)
    (sym c.is_any_held.ensures ∙ c.if-is_any_held.true)

pub returns-in-Some-clause-verdict : goal.returns-in-Some-clause-verdict
returns-in-Some-clause-verdict c events so =
    least_readings_give_kept_by c.self.inside.whole events c.in-Some.readings
    (subst (λ (w : JudgedDevices). CandidatesExact w.whole events) (sym c.self.view_is) so)
    (sym c.is_any_held.ensures ∙ c.if-is_any_held.false) (sym c.in-Some.is ∙ c.least_held.ensures)

pub returns-in-Some-clause-bits : goal.returns-in-Some-clause-bits
returns-in-Some-clause-bits c = least_set_has_six_bits c.self.inside.whole c.in-Some.readings (sym c.in-Some.is ∙ c.least_held.ensures)

pub returns-in-None-clause-verdict : goal.returns-in-None-clause-verdict
returns-in-None-clause-verdict c events so =
    no_device_gives_not_kept c.self.inside.whole events
    (subst (λ (w : JudgedDevices). CandidatesExact w.whole events) (sym c.self.view_is) so)
    (sym c.in-None.is ∙ c.least_held.ensures)
