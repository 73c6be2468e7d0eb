-- If no order that is carried out may change a byte, the byte is safe in the phase after a restart or after the last action, as defined by
-- IsSafeInPhase.
use Rattle.std.proofs.Common.{ℕ}
use Rattle.dfuse_host.specs.declared.plan.Plan.{Plan}
use Rattle.dfuse_host.specs.declared.work.Work.{Work}
use Rattle.dfuse_host.specs.declared.place.Place.{Place}
use Rattle.dfuse_host.specs.declared.step.Step.{Step}
use Rattle.dfuse_host.specs.declared.step.Step.TheVariants as step
use Rattle.dfuse_host.specs.declared.session.Session.{Session}
use Rattle.dfuse_host.specs.Commands.{command_of, phase_if_unsure}
use Rattle.dfuse_host.specs.Table.{row}
use Rattle.dfuse_host.specs.Sessions.{phase_resumed, session_after_step_heard}
use Rattle.dfuse_host.proofs.ForCallers.{AnyCommand, commands_have_fact, AnyHeard}
use Rattle.dfuse_link.specs.Chips.{Chip, DeviceWork}
use Rattle.dfuse_link.proofs.Changes.{IsSafeBeforeStart}
use Rattle.dfuse_link.proofs.UntouchedBytes.{IsSafeInPhase}
use Rattle.dfuse_link.proofs.ToldPhases.{fact_holds_after_heard}

module _ (chip : Chip) (a : ℕ) (device_work : DeviceWork) (now : IsSafeBeforeStart chip a device_work) where
  unsure_phase_keeps_byte_safe : (plan : Plan) (w : Work) (c : AnyCommand) → IsSafeInPhase chip a (phase_if_unsure plan w c) device_work
  unsure_phase_keeps_byte_safe plan w c = commands_have_fact (λ v. IsSafeInPhase chip a (phase_if_unsure plan w v) device_work) (λ at.
      now) (λ at. now) (λ at. now) c

  resumed_phase_keeps_byte_safe : (plan : Plan) (w : Work) (p : Place) (s : Step) →
      IsSafeInPhase chip a (phase_resumed plan w p s) device_work
  resumed_phase_keeps_byte_safe plan w p (step.Poll last) = unsure_phase_keeps_byte_safe plan w (command_of plan w p)
  resumed_phase_keeps_byte_safe plan w p (step.PollWait ms) = unsure_phase_keeps_byte_safe plan w (command_of plan w p)
  resumed_phase_keeps_byte_safe plan w p s = now

  pub heard_step_keeps_byte_safe : (s : Session) (w : Work) (p : Place) (at : Step) (h : AnyHeard) →
      IsSafeInPhase chip a (row s.plan w p at h) device_work →
      IsSafeInPhase chip a (session_after_step_heard s w p at h).phase device_work
  heard_step_keeps_byte_safe s w p at h = fact_holds_after_heard (λ x. IsSafeInPhase chip a x device_work) (λ r. now) s w p at h
      (resumed_phase_keeps_byte_safe s.plan w p at)
