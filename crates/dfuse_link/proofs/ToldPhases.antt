-- A fact holds for the phase after a result, if it holds for the phase of the table's row, for the phase that a restart resumes, and for
-- every session that is over.
use Rattle.std.proofs.Common.{ℕ, zero, suc, pred}
use Rattle.dfuse_host.specs.declared.phase.Phase.{Phase}
use Rattle.dfuse_host.specs.declared.phase.Phase.TheVariants.{On, Over}
use Rattle.dfuse_host.specs.declared.work.Work.{Work}
use Rattle.dfuse_host.specs.declared.work.Work.TheVariants as work
use Rattle.dfuse_host.specs.declared.place.Place.{Place}
use Rattle.dfuse_host.specs.declared.step.Step.{Step}
use Rattle.dfuse_host.specs.declared.step.Step.TheVariants as step
use Rattle.dfuse_host.specs.declared.session.Session.{Session}
use Rattle.dfuse_host.specs.declared.report.Report.{Report}
use Rattle.dfuse_host.specs.declared.report.Report.TheVariants as report
use Rattle.dfuse_host.specs.declared.report.Leaving.TheVariants as leaving
use Rattle.dfuse_host.specs.Table.{row}
use Rattle.dfuse_host.specs.Sessions.{phase_within_budget, phase_without_actions, phase_resumed, session_with_restart_taken, restarted_leaving, session_after_restart, session_after_step_heard}
use Rattle.dfuse_host.proofs.ForCallers.{AnyHeard, heards_have_fact}

module _ (P : Phase → Type 0) (over : (r : Report) → P (Over r)) where
  fact_holds_of_spent_phase : (w : Work) (s : Step) → P (phase_without_actions w s)
  fact_holds_of_spent_phase work.Leave s = over _
  fact_holds_of_spent_phase w s = over _

  -- A fact about a phase stays true when an action is counted, because the fact holds for every session that is over.
  fact_holds_in_budget : (n : ℕ) (p : Phase) → P p → P (phase_within_budget n p)
  fact_holds_in_budget n (Over r) h = over r
  fact_holds_in_budget zero (On s) h = fact_holds_of_spent_phase s.work s.step
  fact_holds_in_budget (suc n) (On s) h = h

  module _ (s : Session) where
    fact_holds_of_restarted_phase : (p : Phase) (n : ℕ) → P p → P (session_with_restart_taken s p n).phase
    fact_holds_of_restarted_phase p zero h = fact_holds_in_budget (pred s.actions) (Over report.RestartsSpent) (over report.RestartsSpent)
    fact_holds_of_restarted_phase p (suc n) h = fact_holds_in_budget (pred s.actions) p h

    fact_holds_of_leaving_restart : (p : Place) (at : Step) → P (phase_resumed s.plan work.Leave p at) → P (restarted_leaving s p at).phase
    fact_holds_of_leaving_restart p step.Close h = fact_holds_in_budget (pred s.actions) (Over (report.Verified leaving.Unknown)) (over _)
    fact_holds_of_leaving_restart p step.CloseProbe h = fact_holds_in_budget (pred s.actions) (Over (report.Verified leaving.Unknown))
        (over _)
    fact_holds_of_leaving_restart p step.ClosePoll h = fact_holds_in_budget (pred s.actions) (Over (report.Verified leaving.Unknown))
        (over _)
    fact_holds_of_leaving_restart p at h = fact_holds_of_restarted_phase (phase_resumed s.plan work.Leave p at) s.restarts h

    -- A fact holds after the device restarts if it holds for the phase that the restart resumes.
    pub fact_holds_after_restart : (w : Work) (p : Place) (at : Step) → P (phase_resumed s.plan w p at) →
        P (session_after_restart s w p at).phase
    fact_holds_after_restart work.Leave p at h = fact_holds_of_leaving_restart p at h
    fact_holds_after_restart w p at h = fact_holds_of_restarted_phase (phase_resumed s.plan w p at) s.restarts h

    -- A fact holds after a result if it holds for the phase of the table's row and for the phase that a restart resumes.
    pub fact_holds_after_heard : (w : Work) (p : Place) (at : Step) (h : AnyHeard) → P (phase_resumed s.plan w p at) →
        P (row s.plan w p at h)
        → P (session_after_step_heard s w p at h).phase
    fact_holds_after_heard w p at h resumes =
        heards_have_fact (λ x. P (row s.plan w p at x) → P (session_after_step_heard s w p at x).phase)
        (λ k. fact_holds_in_budget (pred s.actions) _ k) (λ t k. fact_holds_in_budget (pred s.actions) _ k)
        (λ t k. fact_holds_in_budget (pred s.actions) _ k) (λ b k. fact_holds_in_budget (pred s.actions) _ k)
        (λ k. fact_holds_in_budget (pred s.actions) _ k) (λ k. fact_holds_in_budget (pred s.actions) _ k)
        (λ k. fact_holds_in_budget (pred s.actions) _ k) (λ k. fact_holds_after_restart w p at resumes) h
