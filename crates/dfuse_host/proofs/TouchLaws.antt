-- After each row of the table, the work of the phase touches the image.
use Rattle.std.proofs.Common.{◌≡◌, ℕ, ◌≤◌, max, true, false, cond, eqb, Option, Some, None, refl, arith}
use Rattle.dfuse_host.specs.declared.plan.Plan.{Plan}
use Rattle.dfuse_host.specs.declared.phase.Phase.{Phase}
use Rattle.dfuse_host.specs.declared.phase.Phase.TheVariants.{On}
use Rattle.dfuse_host.specs.declared.work.Work.{Work}
use Rattle.dfuse_host.specs.declared.work.Work.TheVariants as work
use Rattle.dfuse_host.specs.declared.place.Place.{Place}
use Rattle.dfuse_host.specs.declared.place.Place.TheVariants as place
use Rattle.dfuse_host.specs.declared.step.Step.{Step}
use Rattle.dfuse_host.specs.declared.step.Step.TheVariants as step
use Rattle.dfuse_host.specs.declared.heard.Heard.{Heard}
use Rattle.dfuse_host.specs.declared.command.Command.{Command}
use Rattle.dfuse_host.specs.declared.command.Command.TheVariants as command
use Rattle.dfuse_host.specs.Images.{next_byte, image_start, image_end}
use Rattle.dfuse_host.specs.Plans.{page_end, front_end, write_end}
use Rattle.dfuse_host.specs.Refusing.{is_empty}
use Rattle.dfuse_host.specs.Settling.{byte_in, phase_to_set_start, phase_when_compared, to_leave, compare_front_phase_for, to_compare_front, write_front_phase_for, to_write_front, compare_phase_for, to_compare, write_phase_for, to_write, erase_phase_for, to_erase, settled_phase}
use Rattle.dfuse_host.specs.Commands.{command_of, phase_after_command, phase_after_erase, phase_after_write, work_after_unsure_write, phase_if_unsure}
use Rattle.dfuse_host.specs.Table.{read_on}
use Rattle.dfuse_host.specs.ReadBack.{HasByte}
use Rattle.dfuse_host.specs.Touching.{WorkTouchesImage, PhaseTouchesImage}
use Rattle.dfuse_host.proofs.RowForms.{RowForm, stays, settles, reads, does, doubts, fails, leaves}
use Rattle.dfuse_host.proofs.TouchedBytes.{next_byte_of_image, address_if_before_is_same, nonempty_image_is_filled, byte_in_not_before}

module _ (plan : Plan) (some : is_empty plan.image.now ≡ false) where
  byte_in_is_of_image : (at end c : ℕ) → byte_in plan at end ≡ Some c → HasByte c plan.image.now
  unfolding byte_in
  byte_in_is_of_image at end c h =
      next_byte_of_image at c plan.image.now (nonempty_image_is_filled plan.image.now some) (address_if_before_is_same end c (next_byte at
      plan.image.now) h)

  leaving_touches_image : (p : Place) → PhaseTouchesImage plan (phase_to_set_start plan p)
  leaving_touches_image place.Lost = tt
  leaving_touches_image (place.At p) =
      elim (eqb p plan.start) as (λ t. PhaseTouchesImage plan
      (cond t (On (record { work = work.Leave; place = place.At p; step = step.Close }))
      (On (record { work = work.Leave; place = place.At p; step = step.Send })))) [ true ↦ tt | false ↦ tt ]
  leaving_touches_image (place.Reading p) = tt

  staying_touches_image : (p : Place) → PhaseTouchesImage plan (phase_when_compared p)
  staying_touches_image place.Lost = tt
  staying_touches_image (place.At p) = tt
  staying_touches_image (place.Reading p) = tt

  to_leave_touches_image : (p : Place) → PhaseTouchesImage plan (to_leave plan p)
  unfolding to_leave
  to_leave_touches_image p =
      elim plan.leaves as (λ t. PhaseTouchesImage plan (cond t (phase_to_set_start plan p) (phase_when_compared p)))
      [ true ↦ leaving_touches_image p | false ↦ staying_touches_image p ]

  compare_front_touches_image : (p : Place) (o : Option ℕ) → PhaseTouchesImage plan (compare_front_phase_for plan p o)
  compare_front_touches_image p None = to_leave_touches_image p
  compare_front_touches_image p (Some at) = tt

  to_compare_front_touches_image : (p : Place) (at : ℕ) → PhaseTouchesImage plan (to_compare_front plan p at)
  unfolding to_compare_front
  to_compare_front_touches_image p at = compare_front_touches_image p (byte_in plan at (front_end plan))

  write_front_touches_image : (p : Place) (o : Option ℕ) → ((c : ℕ) → o ≡ Some c → HasByte c plan.image.now)
      → PhaseTouchesImage plan (write_front_phase_for plan p o)
  write_front_touches_image p None f = to_compare_front_touches_image p (image_start plan.image.now)
  write_front_touches_image p (Some at) f = f at refl

  to_write_front_touches_image : (p : Place) (at : ℕ) → PhaseTouchesImage plan (to_write_front plan p at)
  unfolding to_write_front
  to_write_front_touches_image p at = write_front_touches_image p (byte_in plan at (front_end plan)) (byte_in_is_of_image at (front_end
      plan))

  compare_touches_image : (p : Place) (o : Option ℕ) → PhaseTouchesImage plan (compare_phase_for plan p o)
  compare_touches_image p None = to_write_front_touches_image p (image_start plan.image.now)
  compare_touches_image p (Some at) = tt

  to_compare_touches_image : (p : Place) (at : ℕ) → PhaseTouchesImage plan (to_compare plan p at)
  unfolding to_compare
  to_compare_touches_image p at = compare_touches_image p (byte_in plan at (image_end plan.image.now))

  write_touches_image : (p : Place) (end : ℕ) (o : Option ℕ) → ((c : ℕ) → o ≡ Some c → HasByte c plan.image.now × (front_end plan ≤ c)) →
      PhaseTouchesImage plan (write_phase_for plan p end o)
  write_touches_image p end None f = to_compare_touches_image p (front_end plan)
  write_touches_image p end (Some at) f = f at refl

  to_write_touches_image : (p : Place) (at end : ℕ) → front_end plan ≤ at → PhaseTouchesImage plan (to_write plan p at end)
  unfolding to_write
  to_write_touches_image p at end f = write_touches_image p end (byte_in plan at end) (λ c e. (
    byte_in_is_of_image at end c e,
    omega
        (arith, f, byte_in_not_before plan at end c e),
  ))

  erase_touches_image : (p : Place) (o : Option ℕ) → ((c : ℕ) → o ≡ Some c → HasByte c plan.image.now) →
      PhaseTouchesImage plan (erase_phase_for plan p o)
  erase_touches_image p None f = to_write_touches_image p (front_end plan) (image_end plan.image.now) (omega arith)
  erase_touches_image p (Some at) f = f at refl

  to_erase_touches_image : (p : Place) (at : ℕ) → PhaseTouchesImage plan (to_erase plan p at)
  unfolding to_erase
  to_erase_touches_image p at = erase_touches_image p (byte_in plan at (image_end plan.image.now)) (byte_in_is_of_image at (image_end
      plan.image.now))

  settled_phase_touches_image : (w : Work) (p : Place) → WorkTouchesImage plan w → PhaseTouchesImage plan (settled_phase plan w p)
  unfolding settled_phase
  settled_phase_touches_image (work.Erase at) p h = to_erase_touches_image p at
  settled_phase_touches_image (work.EraseAgain page end) p h = h
  settled_phase_touches_image (work.Write at end) p h = to_write_touches_image p at end h.1
  settled_phase_touches_image (work.Compare at) p h = to_compare_touches_image p at
  settled_phase_touches_image (work.WriteFront at) p h = to_write_front_touches_image p at
  settled_phase_touches_image (work.CompareFront at) p h = to_compare_front_touches_image p at
  settled_phase_touches_image work.Leave p h = to_leave_touches_image p

  repeated_work_touches_image : (w : Work) → WorkTouchesImage plan w → WorkTouchesImage plan (work_after_unsure_write plan w)
  repeated_work_touches_image (work.Erase at) h = h
  repeated_work_touches_image (work.EraseAgain page end) h = h
  repeated_work_touches_image (work.Write at end) h = record { byte = at; has = h.0; is = refl }
  repeated_work_touches_image (work.Compare at) h = h
  repeated_work_touches_image (work.WriteFront at) h = record { byte = at; has = h; is = refl }
  repeated_work_touches_image (work.CompareFront at) h = h
  repeated_work_touches_image work.Leave h = h

  pub unsure_phase_touches_image : (w : Work) (c : Command) → WorkTouchesImage plan w → PhaseTouchesImage plan (phase_if_unsure plan w c)
  unsure_phase_touches_image w (command.SetAddress at) h = h
  unsure_phase_touches_image w (command.ErasePage at) h = h
  unsure_phase_touches_image w (command.Write at) h = repeated_work_touches_image w h

  after_erase_touches_image : (w : Work) (at : ℕ) → PhaseTouchesImage plan (phase_after_erase plan w at)
  after_erase_touches_image (work.EraseAgain page end) at = to_write_touches_image place.Lost (max page (front_end plan)) end (omega arith)
  after_erase_touches_image w at = to_erase_touches_image place.Lost (page_end plan at)

  after_write_touches_image : (w : Work) (at : ℕ) → WorkTouchesImage plan w → PhaseTouchesImage plan (phase_after_write plan w at)
  after_write_touches_image (work.Write from end) at h =
      to_write_touches_image place.Lost (max from (write_end plan at end)) end (omega (arith, h.1))
  after_write_touches_image w at h = to_write_front_touches_image place.Lost (write_end plan at (front_end plan))

  after_command_touches_image : (w : Work) (c : Command) → WorkTouchesImage plan w → PhaseTouchesImage plan (phase_after_command plan w c)
  after_command_touches_image w (command.SetAddress at) h = settled_phase_touches_image w (place.At at) h
  after_command_touches_image w (command.ErasePage at) h = after_erase_touches_image w at
  after_command_touches_image w (command.Write at) h = after_write_touches_image w at h

  work_after_read_touches_image : (w : Work) → WorkTouchesImage plan w → WorkTouchesImage plan (read_on plan w)
  work_after_read_touches_image (work.Erase at) h = h
  work_after_read_touches_image (work.EraseAgain page end) h = h
  work_after_read_touches_image (work.Write at end) h = h
  work_after_read_touches_image (work.Compare at) h = tt
  work_after_read_touches_image (work.WriteFront at) h = h
  work_after_read_touches_image (work.CompareFront at) h = tt
  work_after_read_touches_image work.Leave h = tt

  pub row_form_touches_image : (w : Work) (p : Place) (s : Step) (x : Heard) (next : Phase) → RowForm plan w p s x next →
      WorkTouchesImage plan w
      → PhaseTouchesImage plan next
  row_form_touches_image w p s x next (stays p' s' c) h = h
  row_form_touches_image w p s x next (settles p') h = settled_phase_touches_image w p' h
  row_form_touches_image w p s x next reads h = settled_phase_touches_image (read_on plan w) p (work_after_read_touches_image w h)
  row_form_touches_image w p s x next does h = after_command_touches_image w (command_of plan w p) h
  row_form_touches_image w p s x next doubts h = unsure_phase_touches_image w (command_of plan w p) h
  row_form_touches_image w p s x next (fails r no_success) h = tt
  row_form_touches_image w p s x next (leaves e) h = tt
