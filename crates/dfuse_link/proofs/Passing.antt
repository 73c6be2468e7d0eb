-- The facts about a device and its session stay true while the device continues its work by itself.
use Rattle.std.proofs.Common.{◌≡◌, subst}
use Rattle.dfuse_host.specs.declared.plan.Plan.{Plan}
use Rattle.dfuse_host.specs.declared.phase.Phase.{Phase}
use Rattle.dfuse_host.specs.declared.phase.Phase.TheVariants.{On, Over}
use Rattle.dfuse_host.specs.declared.work.Work.{Work}
use Rattle.dfuse_host.specs.declared.place.Place.{Place}
use Rattle.dfuse_host.specs.declared.step.Step.{Step}
use Rattle.dfuse_host.specs.declared.step.Step.TheVariants as step
use Rattle.dfuse_host.specs.Commands.{command_of}
use Rattle.dfuse_host.proofs.ForCallers.{AnyCommand}
use Rattle.dfuse_link.specs.Chips.{Chip, Order, CarriesOut, Device, DeviceAdvances, goes_on, ends, fails}
use Rattle.dfuse_link.proofs.Claims.{IsQuiet, MayHaveCommand, DeviceFitsStep, DeviceFitsPhase}
use Rattle.dfuse_link.proofs.RequestEffects.{quiet_work_is_not_busy, advance_keeps_command}
use Rattle.dfuse_link.proofs.Safe.{advance_keeps_byte}
use Rattle.dfuse_link.proofs.SessionTurns.{SessionFactsHold, kept_byte_is_right}
use Rattle.dfuse_link.proofs.Pairs.{DeviceAndSession}

pub advancing_device_is_busy : (chip : Chip) (d d' : Device) → DeviceAdvances chip d d' → (order : Order) × (d.device_work
    ≡ CarriesOut order)
advancing_device_is_busy chip d d' (goes_on order e e' changed) = (order, e)
advancing_device_is_busy chip d d' (ends order s e e' end changed set_address_order) = (order, e)
advancing_device_is_busy chip d d' (fails order e e' changed) = (order, e)

advancing_device_is_not_quiet : (chip : Chip) (d d' : Device) → DeviceAdvances chip d d' → IsQuiet d.device_work → ⊥
advancing_device_is_not_quiet chip d d' x h = let b = advancing_device_is_busy chip d d' x in quiet_work_is_not_busy d.device_work b.0 b.1 h

advancing_device_was_started : (chip : Chip) (c : AnyCommand) (d d' : Device) → DeviceAdvances chip d d' →
    MayHaveCommand c d.device_work → ⊥
advancing_device_was_started chip c d d' x h = let b = advancing_device_is_busy chip d d' x in subst (MayHaveCommand c) b.1 h

advance_keeps_step_fit : (chip : Chip) (plan : Plan) (w : Work) (p : Place) (s : Step) (d d' : Device) → DeviceAdvances chip d d' →
    DeviceFitsStep chip plan w p s d →
    DeviceFitsStep chip plan w p s d'
advance_keeps_step_fit chip plan w p step.Send d d' x k = absurd (advancing_device_was_started chip (command_of plan w p) d d' x k.0)
advance_keeps_step_fit chip plan w p step.Probe d d' x k = absurd (advancing_device_was_started chip (command_of plan w p) d d' x k.0)
advance_keeps_step_fit chip plan w p (step.Poll last) d d' x k = advance_keeps_command chip (command_of plan w p) p d d' x k
advance_keeps_step_fit chip plan w p (step.PollWait ms) d d' x k = advance_keeps_command chip (command_of plan w p) p d d' x k
advance_keeps_step_fit chip plan w p step.BeginReading d d' x k = absurd (advancing_device_is_not_quiet chip d d' x k.0)
advance_keeps_step_fit chip plan w p step.EndReading d d' x k = absurd (advancing_device_is_not_quiet chip d d' x k.0)
advance_keeps_step_fit chip plan w p step.Read d d' x k = absurd (advancing_device_is_not_quiet chip d d' x k.0)
advance_keeps_step_fit chip plan w p s d d' x k = tt

advance_keeps_phase_fit : (chip : Chip) (plan : Plan) (p : Phase) (d d' : Device) → DeviceAdvances chip d d' →
    DeviceFitsPhase chip plan p d →
    DeviceFitsPhase chip plan p d'
advance_keeps_phase_fit chip plan (On at) d d' x k = advance_keeps_step_fit chip plan at.work at.place at.step d d' x k
advance_keeps_phase_fit chip plan (Over r) d d' x k = tt

pub advance_keeps_session_facts : (chip : Chip) (l : DeviceAndSession) (d : Device) → DeviceAdvances chip l.device d →
    SessionFactsHold chip l →
    SessionFactsHold chip (record { device = d; session = l.session })
advance_keeps_session_facts chip l d x so = record {
  for = so.for;
  closes = so.closes;
  stands = advance_keeps_phase_fit chip l.session.plan l.session.phase l.device d x so.stands;
  right = λ a b was.
      kept_byte_is_right chip l.session.plan l.device d a (advance_keeps_byte chip a l.device d x (so.right a b was).1) (so.right
      a b was);
}
