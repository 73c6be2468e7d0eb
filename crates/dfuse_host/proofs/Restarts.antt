-- A fact holds after a restart and after the check for remaining actions, if it holds for every session that is over and for every phase in
-- which a session resumes.
use Rattle.std.proofs.Common.{ℕ, zero, suc, pred}
use Rattle.dfuse_host.specs.declared.plan.Plan.{Plan}
use Rattle.dfuse_host.specs.declared.phase.Phase.{Phase}
use Rattle.dfuse_host.specs.declared.phase.Phase.TheVariants.{On, Over}
use Rattle.dfuse_host.specs.declared.work.Work.{Work}
use Rattle.dfuse_host.specs.declared.work.Work.TheVariants as work
use Rattle.dfuse_host.specs.declared.place.Place.{Place}
use Rattle.dfuse_host.specs.declared.step.Step.{Step}
use Rattle.dfuse_host.specs.declared.step.Step.TheVariants as step
use Rattle.dfuse_host.specs.declared.report.Report.{Report}
use Rattle.dfuse_host.specs.declared.report.Report.TheVariants as report
use Rattle.dfuse_host.specs.declared.report.Leaving.TheVariants as leaving
use Rattle.dfuse_host.specs.declared.session.Session.{Session}
use Rattle.dfuse_host.specs.Sessions.{phase_within_budget, phase_without_actions, phase_resumed, session_with_restart_taken, restarted_leaving, session_after_restart}

module _ (P : Phase → Type 0) (over : (r : Report) → P (Over r)) where
  spent_phase_has_fact : (w : Work) (s : Step) → P (phase_without_actions w s)
  spent_phase_has_fact work.Leave s = over _
  spent_phase_has_fact w s = over _

  -- A fact about a phase stays true after the check for remaining actions, if it holds for every session that is over.
  pub budget_keeps_fact : (n : ℕ) (p : Phase) → P p → P (phase_within_budget n p)
  budget_keeps_fact n (Over r) h = over r
  budget_keeps_fact zero (On s) h = spent_phase_has_fact s.work s.step
  budget_keeps_fact (suc n) (On s) h = h

  restarted_phase_keeps_fact : (s : Session) (p : Phase) (n : ℕ) → P p → P (session_with_restart_taken s p n).phase
  restarted_phase_keeps_fact s p zero h = budget_keeps_fact (pred s.actions) (Over report.RestartsSpent) (over _)
  restarted_phase_keeps_fact s p (suc n) h = budget_keeps_fact (pred s.actions) p h

  module _ (at_resumed : (plan : Plan) (w : Work) (p : Place) (s : Step) → P (phase_resumed plan w p s)) where
    leaving_restart_keeps_fact : (s : Session) (p : Place) (at : Step) → P (restarted_leaving s p at).phase
    leaving_restart_keeps_fact s p step.Close = budget_keeps_fact (pred s.actions) (Over (report.Verified leaving.Unknown)) (over _)
    leaving_restart_keeps_fact s p step.CloseProbe = budget_keeps_fact (pred s.actions) (Over (report.Verified leaving.Unknown)) (over
        _)
    leaving_restart_keeps_fact s p step.ClosePoll = budget_keeps_fact (pred s.actions) (Over (report.Verified leaving.Unknown)) (over
        _)
    leaving_restart_keeps_fact s p at = restarted_phase_keeps_fact s (phase_resumed s.plan work.Leave p at) s.restarts (at_resumed s.plan
        work.Leave p at)

    -- A fact holds after a restart if it holds for every session that is over and for every phase in which a session resumes.
    pub restart_keeps_fact : (s : Session) (w : Work) (p : Place) (at : Step) → P (session_after_restart s w p at).phase
    restart_keeps_fact s work.Leave p at = leaving_restart_keeps_fact s p at
    restart_keeps_fact s w p at = restarted_phase_keeps_fact s (phase_resumed s.plan w p at) s.restarts (at_resumed s.plan w p at)
