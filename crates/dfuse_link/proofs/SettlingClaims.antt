-- A quiet device whose pointer the session knows fits the next phase of each work.
use Rattle.std.proofs.Common.{◌≡◌, ℕ, Bool, true, false, cond, eqb, Option, Some, None, refl}
use Rattle.dfuse_host.specs.declared.plan.Plan.{Plan}
use Rattle.dfuse_host.specs.declared.phase.Phase.{Phase}
use Rattle.dfuse_host.specs.declared.work.Work.{Work}
use Rattle.dfuse_host.specs.declared.work.Work.TheVariants as work
use Rattle.dfuse_host.specs.declared.place.Place.{Place}
use Rattle.dfuse_host.specs.declared.place.Place.TheVariants as place
use Rattle.dfuse_host.specs.declared.step.Step.TheVariants as step
use Rattle.dfuse_host.specs.Images.{image_start, image_end}
use Rattle.dfuse_host.specs.Plans.{front_end, page_end, write_end}
use Rattle.dfuse_host.specs.Settling.{phase_with_step, byte_in, can_read, sending_step, comparing_step, phase_to_set_start, phase_when_compared, to_leave, compare_front_phase_for, to_compare_front, write_front_phase_for, to_write_front, compare_phase_for, to_compare, write_phase_for, to_write, erase_phase_for, to_erase, settled_phase}
use Rattle.dfuse_host.specs.Commands.{command_of, phase_after_command, phase_after_erase, phase_after_write, phase_if_unsure}
use Rattle.dfuse_host.specs.Deeds.{stands_at}
use Rattle.dfuse_host.proofs.ForCallers.{AnyCommand, commands_have_fact}
use Rattle.dfuse_link.specs.Chips.{Chip, Device}
use Rattle.dfuse_link.proofs.Claims.{IsQuiet, KnowsPointer, IsCommandDone, DeviceFitsStep, DeviceFitsPhase}
use Rattle.dfuse_link.proofs.RequestEffects.{quiet_work_may_have_command}

module _ (chip : Chip) (plan : Plan) (d : Device) (quiet : IsQuiet d.device_work) where
  device_fits_send_step : (w : Work) (p : Place) → KnowsPointer p d.pointer → DeviceFitsStep chip plan w p step.Send d
  device_fits_send_step w p k = (quiet_work_may_have_command (command_of plan w p) d.device_work quiet, k)

  device_fits_sending_step : (w : Work) (p : Place) → KnowsPointer p d.pointer → DeviceFitsStep chip plan w p (sending_step p) d
  device_fits_sending_step w place.Lost k = device_fits_send_step w place.Lost k
  device_fits_sending_step w (place.At p) k = device_fits_send_step w (place.At p) k
  device_fits_sending_step w (place.Reading p) k = (quiet, k)

  device_fits_reading_step : (w : Work) (base : ℕ) (t : Bool) → can_read plan base (stands_at w) ≡ t →
      KnowsPointer (place.Reading base) d.pointer →
      DeviceFitsStep chip plan w (place.Reading base) (cond t step.Read step.EndReading) d
  device_fits_reading_step w base true e k = (quiet, k, e)
  device_fits_reading_step w base false e k = (quiet, k)

  device_fits_comparing_step : (w : Work) (p : Place) → KnowsPointer p d.pointer →
      DeviceFitsStep chip plan w p (comparing_step plan (stands_at w) p) d
  device_fits_comparing_step w place.Lost k = device_fits_send_step w place.Lost k
  device_fits_comparing_step w (place.At p) k =
      elim (eqb p (stands_at w)) as (λ t. DeviceFitsStep chip plan w (place.At p) (cond t step.BeginReading step.Send) d) [
        | true ↦ (quiet, k)
        | false ↦ device_fits_send_step w (place.At p) k
      ]
  device_fits_comparing_step w (place.Reading base) k = device_fits_reading_step w base (can_read plan base (stands_at w)) refl k

  device_fits_leaving : (p : Place) → KnowsPointer p d.pointer → DeviceFitsPhase chip plan (phase_to_set_start plan p) d
  device_fits_leaving place.Lost k = device_fits_send_step work.Leave place.Lost k
  device_fits_leaving (place.At p) k =
      elim (eqb p plan.start) as (λ t. DeviceFitsPhase chip plan (cond t (phase_with_step work.Leave (place.At p) step.Close)
      (phase_with_step work.Leave (place.At p) step.Send)) d) [
        | true ↦ tt
        | false ↦ device_fits_send_step work.Leave (place.At p) k
      ]
  device_fits_leaving (place.Reading p) k = (quiet, k)

  device_fits_staying : (p : Place) → KnowsPointer p d.pointer → DeviceFitsPhase chip plan (phase_when_compared p) d
  device_fits_staying place.Lost k = tt
  device_fits_staying (place.At p) k = tt
  device_fits_staying (place.Reading p) k = (quiet, k)

  device_fits_to_leave : (p : Place) → KnowsPointer p d.pointer → DeviceFitsPhase chip plan (to_leave plan p) d
  unfolding to_leave
  device_fits_to_leave p k = elim plan.leaves as (λ t. DeviceFitsPhase chip plan (cond t (phase_to_set_start plan p) (phase_when_compared
      p)) d)
      [ true ↦ device_fits_leaving p k | false ↦ device_fits_staying p k ]

  -- The device fits the phase `F o` for each next byte `o`, if it fits `F None` and fits `F (Some at)` for each address `at`.
  device_fits_by_next_byte : (F : Option ℕ → Phase) → DeviceFitsPhase chip plan (F None) d → ((at : ℕ) →
      DeviceFitsPhase chip plan (F (Some at)) d) → (o : Option ℕ) →
      DeviceFitsPhase chip plan (F o) d
  device_fits_by_next_byte F none some None = none
  device_fits_by_next_byte F none some (Some at) = some at

  device_fits_to_compare_front : (p : Place) (at : ℕ) → KnowsPointer p d.pointer → DeviceFitsPhase chip plan (to_compare_front plan p at) d
  unfolding to_compare_front
  device_fits_to_compare_front p at k =
      device_fits_by_next_byte (compare_front_phase_for plan p) (device_fits_to_leave p k) (λ b. device_fits_comparing_step
      (work.CompareFront b) p k)
      (byte_in plan at (front_end plan))

  device_fits_to_write_front : (p : Place) (at : ℕ) → KnowsPointer p d.pointer → DeviceFitsPhase chip plan (to_write_front plan p at) d
  unfolding to_write_front
  device_fits_to_write_front p at k =
      device_fits_by_next_byte (write_front_phase_for plan p) (device_fits_to_compare_front p (image_start plan.image.now) k) (λ b.
      device_fits_sending_step (work.WriteFront b) p k)
      (byte_in plan at (front_end plan))

  device_fits_to_compare : (p : Place) (at : ℕ) → KnowsPointer p d.pointer → DeviceFitsPhase chip plan (to_compare plan p at) d
  unfolding to_compare
  device_fits_to_compare p at k =
      device_fits_by_next_byte (compare_phase_for plan p) (device_fits_to_write_front p (image_start plan.image.now) k) (λ b.
      device_fits_comparing_step (work.Compare b) p k)
      (byte_in plan at (image_end plan.image.now))

  device_fits_to_write : (p : Place) (at end : ℕ) → KnowsPointer p d.pointer → DeviceFitsPhase chip plan (to_write plan p at end) d
  unfolding to_write
  device_fits_to_write p at end k =
      device_fits_by_next_byte (write_phase_for plan p end) (device_fits_to_compare p (front_end plan) k) (λ b. device_fits_sending_step
      (work.Write b end) p k)
      (byte_in plan at end)

  device_fits_to_erase : (p : Place) (at : ℕ) → KnowsPointer p d.pointer → DeviceFitsPhase chip plan (to_erase plan p at) d
  unfolding to_erase
  device_fits_to_erase p at k =
      device_fits_by_next_byte (erase_phase_for plan p) (device_fits_to_write p (front_end plan) (image_end plan.image.now) k) (λ b.
      device_fits_sending_step (work.Erase b) p k)
      (byte_in plan at (image_end plan.image.now))

  pub device_fits_settled_phase : (w : Work) (p : Place) → KnowsPointer p d.pointer → DeviceFitsPhase chip plan (settled_phase plan w p) d
  unfolding settled_phase
  device_fits_settled_phase (work.Erase at) p k = device_fits_to_erase p at k
  device_fits_settled_phase (work.EraseAgain page end) p k = device_fits_sending_step (work.EraseAgain page end) p k
  device_fits_settled_phase (work.Write at end) p k = device_fits_to_write p at end k
  device_fits_settled_phase (work.Compare at) p k = device_fits_to_compare p at k
  device_fits_settled_phase (work.WriteFront at) p k = device_fits_to_write_front p at k
  device_fits_settled_phase (work.CompareFront at) p k = device_fits_to_compare_front p at k
  device_fits_settled_phase work.Leave p k = device_fits_to_leave p k

  device_fits_after_erase : (w : Work) (at : ℕ) → DeviceFitsPhase chip plan (phase_after_erase plan w at) d
  device_fits_after_erase (work.EraseAgain page end) at = device_fits_to_write place.Lost _ end tt
  device_fits_after_erase w at = device_fits_to_erase place.Lost (page_end plan at) tt

  device_fits_after_write : (w : Work) (at : ℕ) → DeviceFitsPhase chip plan (phase_after_write plan w at) d
  device_fits_after_write (work.Write from end) at = device_fits_to_write place.Lost _ end tt
  device_fits_after_write w at = device_fits_to_write_front place.Lost (write_end plan at (front_end plan)) tt

  pub device_fits_after_command : (w : Work) (c : AnyCommand) → IsCommandDone chip c d.pointer d.memory →
      DeviceFitsPhase chip plan (phase_after_command plan w c) d
  device_fits_after_command w c = commands_have_fact (λ v. IsCommandDone chip v d.pointer d.memory →
      DeviceFitsPhase chip plan (phase_after_command plan w v) d)
      (λ at k. device_fits_settled_phase w (place.At at) k) (λ at k. device_fits_after_erase w at) (λ at k. device_fits_after_write w at) c

-- After a command with an unknown outcome, any device fits the next phase.
pub device_fits_unsure_phase : (chip : Chip) (plan : Plan) (d : Device) (w : Work) (c : AnyCommand) →
    DeviceFitsPhase chip plan (phase_if_unsure plan w c) d
device_fits_unsure_phase chip plan d w c = commands_have_fact (λ v. DeviceFitsPhase chip plan (phase_if_unsure plan w v) d) (λ at. tt) (λ
    at. tt) (λ at. tt) c
