-- The device fits the phase of its session after each turn.
use Rattle.std.proofs.Common.{◌≡◌, sym, subst}
use Rattle.dfuse_host.specs.declared.work.Work.{Work}
use Rattle.dfuse_host.specs.declared.place.Place.{Place}
use Rattle.dfuse_host.specs.declared.step.Step.{Step}
use Rattle.dfuse_host.specs.declared.step.Step.TheVariants as step
use Rattle.dfuse_host.specs.declared.session.Session.{Session}
use Rattle.dfuse_host.specs.Commands.{command_of}
use Rattle.dfuse_host.specs.Table.{row}
use Rattle.dfuse_host.specs.Sessions.{phase_resumed, session_after_restart, session_after_step_heard}
use Rattle.dfuse_host.proofs.ForCallers.{AnyHeard}
use Rattle.dfuse_link.specs.Chips.{Chip, Device}
use Rattle.dfuse_link.proofs.Claims.{DeviceFitsPhase}
use Rattle.dfuse_link.proofs.SettlingClaims.{device_fits_unsure_phase}
use Rattle.dfuse_link.proofs.ToldPhases.{fact_holds_after_restart, fact_holds_after_heard}

module _ (chip : Chip) (s : Session) (d : Device) where
  device_fits_resumed_phase : (w : Work) (p : Place) (at : Step) → DeviceFitsPhase chip s.plan (phase_resumed s.plan w p at) d
  device_fits_resumed_phase w p (step.Poll last) = device_fits_unsure_phase chip s.plan d w (command_of s.plan w p)
  device_fits_resumed_phase w p (step.PollWait ms) = device_fits_unsure_phase chip s.plan d w (command_of s.plan w p)
  device_fits_resumed_phase w p at = tt

  pub device_fits_restart_phase : (w : Work) (p : Place) (at : Step) → DeviceFitsPhase chip s.plan (session_after_restart s w p at).phase d
  device_fits_restart_phase w p at = fact_holds_after_restart (λ x. DeviceFitsPhase chip s.plan x d) (λ r. tt) s w p at
      (device_fits_resumed_phase w p at)

  -- After a result the device fits the phase of the session, if it fits the phase of the table's row.
  pub device_fits_after_heard : (w : Work) (p : Place) (at : Step) (h : AnyHeard) → DeviceFitsPhase chip s.plan (row s.plan w p at h) d →
      DeviceFitsPhase chip s.plan (session_after_step_heard s w p at h).phase d
  device_fits_after_heard w p at h = fact_holds_after_heard (λ x. DeviceFitsPhase chip s.plan x d) (λ r. tt) s w p at h
      (device_fits_resumed_phase w p at)

  pub device_fits_after_restart : (w : Work) (p : Place) (at : Step) (h x : AnyHeard) → h ≡ x →
      DeviceFitsPhase chip s.plan (session_after_step_heard s w p at x).phase d →
      DeviceFitsPhase chip s.plan (session_after_step_heard s w p at h).phase d
  device_fits_after_restart w p at h x e k = subst (λ y. DeviceFitsPhase chip s.plan (session_after_step_heard s w p at y).phase d) (sym e)
      k
