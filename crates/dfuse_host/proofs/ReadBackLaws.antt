-- After any result, a byte counts as read back only if it did before or if the session read it back with this result.
use Rattle.std.proofs.Common.{◌≡◌, ℕ, zero, suc, pred, ◌⊎◌, inl, true, refl, subst}
use Rattle.dfuse_host.specs.declared.phase.Phase.{Phase}
use Rattle.dfuse_host.specs.declared.phase.Phase.TheVariants.{On, Over}
use Rattle.dfuse_host.specs.declared.work.Work.{Work}
use Rattle.dfuse_host.specs.declared.work.Work.TheVariants as work
use Rattle.dfuse_host.specs.declared.place.Place.{Place}
use Rattle.dfuse_host.specs.declared.step.Step.{Step}
use Rattle.dfuse_host.specs.declared.heard.Heard.{Heard}
use Rattle.dfuse_host.specs.declared.heard.Heard.TheVariants as heard
use Rattle.dfuse_host.specs.declared.report.Report.TheVariants as report
use Rattle.dfuse_host.specs.declared.session.Session.{Session}
use Rattle.dfuse_host.specs.Refusing.{apart_from}
use Rattle.dfuse_host.specs.Table.{row}
use Rattle.dfuse_host.specs.Sessions.{session_after_action, phase_resumed, session_with_restart_taken, session_after_restart, session_after_step_heard, session_after_phase_heard}
use Rattle.dfuse_host.specs.ReadBack.{HasByte, WasReadInWork, WasReadInPhase, ReadsBack, PhaseReadsBack, ClosesAfterCompare, PhaseClosesAfterCompare, OnlyReadBack}
use Rattle.dfuse_host.proofs.RowLaws.{row_adds_only_read_byte, budget_reads_no_byte, resuming_reads_no_byte}

module _ (s : Session) (a : ℕ) (apart : apart_from 0 s.plan.image.now ≡ true) (b : HasByte a s.plan.image.now) where
  action_reads_no_byte : (phase : Phase) (n : ℕ) → WasReadInPhase s.plan (session_after_action s phase n).phase a →
      WasReadInPhase s.plan phase a
  action_reads_no_byte phase n h = budget_reads_no_byte s.plan a apart b (pred s.actions) phase h

  taken_restart_reads_no_byte : (w : Work) (p : Place) (at : Step) (n : ℕ) →
      WasReadInPhase s.plan (session_with_restart_taken s (phase_resumed s.plan w p at) n).phase a →
      WasReadInWork s.plan w a
  taken_restart_reads_no_byte w p at zero h = absurd (action_reads_no_byte (Over report.RestartsSpent) zero h)
  taken_restart_reads_no_byte w p at (suc n) h = resuming_reads_no_byte s.plan a apart b w p at (action_reads_no_byte (phase_resumed
      s.plan w p at) n h)

  restart_reads_no_byte : (w : Work) (p : Place) (at : Step) → WasReadInPhase s.plan (session_after_restart s w p at).phase a →
      WasReadInWork s.plan w a
  restart_reads_no_byte work.Leave p at h = tt
  restart_reads_no_byte w p at h = taken_restart_reads_no_byte w p at s.restarts h

  step_adds_only_read_byte : (w : Work) (p : Place) (at : Step) (x : Heard) → ClosesAfterCompare w at
      → WasReadInPhase s.plan (session_after_step_heard s w p at x).phase a →
      WasReadInWork s.plan w a ⊎ ReadsBack s.plan w at x a
  step_adds_only_read_byte w p at heard.Restarted c h = inl (restart_reads_no_byte w p at h)
  step_adds_only_read_byte w p at x c h = row_adds_only_read_byte s.plan a apart b w p at x c (action_reads_no_byte (row s.plan w p at
      x) s.restarts h)

  phase_adds_only_read_byte : (p : Phase) (x : Heard) → s.phase ≡ p → PhaseClosesAfterCompare p →
      WasReadInPhase s.plan (session_after_phase_heard s p x).phase a →
      WasReadInPhase s.plan p a ⊎ PhaseReadsBack s.plan p x a
  phase_adds_only_read_byte (Over r) x e c h = inl (subst (λ (q : Phase). WasReadInPhase s.plan q a) e h)
  phase_adds_only_read_byte (On at) x e c h = step_adds_only_read_byte at.work at.place at.step x c h

pub only_read_back : OnlyReadBack
only_read_back s x a apart b c h = phase_adds_only_read_byte s a apart b s.phase x refl c h
