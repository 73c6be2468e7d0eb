-- A session sends the leave request (a DNLOAD without bytes) only after it has compared the whole image.
use Rattle.std.proofs.Common.{◌≡◌, ℕ, pred, true, false, cond, eqb, Option, Some, None, refl, sym, subst}
use Rattle.dfuse_host.specs.declared.plan.Plan.{Plan}
use Rattle.dfuse_host.specs.declared.phase.Phase.{Phase}
use Rattle.dfuse_host.specs.declared.phase.Phase.TheVariants.{On, Over}
use Rattle.dfuse_host.specs.declared.work.Work.{Work}
use Rattle.dfuse_host.specs.declared.work.Work.TheVariants as work
use Rattle.dfuse_host.specs.declared.place.Place.{Place}
use Rattle.dfuse_host.specs.declared.place.Place.TheVariants as place
use Rattle.dfuse_host.specs.declared.step.Step.{Step}
use Rattle.dfuse_host.specs.declared.step.Step.TheVariants as step
use Rattle.dfuse_host.specs.declared.heard.Heard.{Heard}
use Rattle.dfuse_host.specs.declared.heard.Heard.TheVariants as heard
use Rattle.dfuse_host.specs.declared.command.Command.{Command}
use Rattle.dfuse_host.specs.declared.command.Command.TheVariants as command
use Rattle.dfuse_host.specs.declared.session.Session.{Session}
use Rattle.dfuse_host.specs.Images.{image_start, image_end}
use Rattle.dfuse_host.specs.Plans.{front_end, page_end, write_end}
use Rattle.dfuse_host.specs.Settling.{phase_with_step, byte_in, can_read, sending_step, comparing_step, phase_to_set_start, phase_when_compared, to_leave, compare_front_phase_for, to_compare_front, write_front_phase_for, to_write_front, compare_phase_for, to_compare, write_phase_for, to_write, erase_phase_for, to_erase, settled_phase}
use Rattle.dfuse_host.specs.Commands.{command_of, phase_after_command, phase_after_erase, phase_after_write, phase_if_unsure}
use Rattle.dfuse_host.specs.Table.{read_on, row}
use Rattle.dfuse_host.specs.Sessions.{phase_resumed, session_after_step_heard, session_after_phase_heard}
use Rattle.dfuse_host.proofs.RowForms.{RowForm, stays, settles, reads, does, doubts, fails, leaves, each_row_has_form}
use Rattle.dfuse_host.proofs.Restarts.{budget_keeps_fact, restart_keeps_fact}
use Rattle.dfuse_host.specs.ReadBack.{ClosesAfterCompare, PhaseClosesAfterCompare, AlwaysClosesAfterCompare}

module _ (plan : Plan) where
  sending_step_closes_late : (w : Work) (p : Place) → ClosesAfterCompare w (sending_step p)
  sending_step_closes_late w place.Lost = tt
  sending_step_closes_late w (place.At p) = tt
  sending_step_closes_late w (place.Reading p) = tt

  comparing_step_closes_late : (w : Work) (at : ℕ) (p : Place) → ClosesAfterCompare w (comparing_step plan at p)
  comparing_step_closes_late w at place.Lost = tt
  comparing_step_closes_late w at (place.At p) =
      elim (eqb p at) as (λ t. ClosesAfterCompare w (cond t step.BeginReading step.Send)) [ true ↦ tt | false ↦ tt ]
  comparing_step_closes_late w at (place.Reading base) =
      elim (can_read plan base at) as (λ t. ClosesAfterCompare w (cond t step.Read step.EndReading)) [ true ↦ tt | false ↦ tt ]

  leaving_closes_late : (p : Place) → PhaseClosesAfterCompare (phase_to_set_start plan p)
  leaving_closes_late place.Lost = tt
  leaving_closes_late (place.At p) =
      elim (eqb p plan.start) as (λ t. PhaseClosesAfterCompare (cond t (phase_with_step work.Leave (place.At p) step.Close)
      (phase_with_step work.Leave (place.At p) step.Send))) [
        | true ↦ refl
        | false ↦ tt
      ]
  leaving_closes_late (place.Reading p) = tt

  staying_closes_late : (p : Place) → PhaseClosesAfterCompare (phase_when_compared p)
  staying_closes_late place.Lost = tt
  staying_closes_late (place.At p) = tt
  staying_closes_late (place.Reading p) = tt

  to_leave_closes_late : (p : Place) → PhaseClosesAfterCompare (to_leave plan p)
  unfolding to_leave
  to_leave_closes_late p =
      elim plan.leaves as (λ t. PhaseClosesAfterCompare (cond t (phase_to_set_start plan p) (phase_when_compared p)))
      [ true ↦ leaving_closes_late p | false ↦ staying_closes_late p ]

  compare_front_phase_closes_late : (p : Place) (o : Option ℕ) → PhaseClosesAfterCompare (compare_front_phase_for plan p o)
  compare_front_phase_closes_late p None = to_leave_closes_late p
  compare_front_phase_closes_late p (Some at) = comparing_step_closes_late (work.CompareFront at) at p

  to_compare_front_closes_late : (p : Place) (at : ℕ) → PhaseClosesAfterCompare (to_compare_front plan p at)
  unfolding to_compare_front
  to_compare_front_closes_late p at = compare_front_phase_closes_late p (byte_in plan at (front_end plan))

  write_front_phase_closes_late : (p : Place) (o : Option ℕ) → PhaseClosesAfterCompare (write_front_phase_for plan p o)
  write_front_phase_closes_late p None = to_compare_front_closes_late p (image_start plan.image.now)
  write_front_phase_closes_late p (Some at) = sending_step_closes_late (work.WriteFront at) p

  to_write_front_closes_late : (p : Place) (at : ℕ) → PhaseClosesAfterCompare (to_write_front plan p at)
  unfolding to_write_front
  to_write_front_closes_late p at = write_front_phase_closes_late p (byte_in plan at (front_end plan))

  compare_phase_closes_late : (p : Place) (o : Option ℕ) → PhaseClosesAfterCompare (compare_phase_for plan p o)
  compare_phase_closes_late p None = to_write_front_closes_late p (image_start plan.image.now)
  compare_phase_closes_late p (Some at) = comparing_step_closes_late (work.Compare at) at p

  to_compare_closes_late : (p : Place) (at : ℕ) → PhaseClosesAfterCompare (to_compare plan p at)
  unfolding to_compare
  to_compare_closes_late p at = compare_phase_closes_late p (byte_in plan at (image_end plan.image.now))

  write_phase_closes_late : (p : Place) (end : ℕ) (o : Option ℕ) → PhaseClosesAfterCompare (write_phase_for plan p end o)
  write_phase_closes_late p end None = to_compare_closes_late p (front_end plan)
  write_phase_closes_late p end (Some at) = sending_step_closes_late (work.Write at end) p

  to_write_closes_late : (p : Place) (at end : ℕ) → PhaseClosesAfterCompare (to_write plan p at end)
  unfolding to_write
  to_write_closes_late p at end = write_phase_closes_late p end (byte_in plan at end)

  erase_phase_closes_late : (p : Place) (o : Option ℕ) → PhaseClosesAfterCompare (erase_phase_for plan p o)
  erase_phase_closes_late p None = to_write_closes_late p (front_end plan) (image_end plan.image.now)
  erase_phase_closes_late p (Some at) = sending_step_closes_late (work.Erase at) p

  to_erase_closes_late : (p : Place) (at : ℕ) → PhaseClosesAfterCompare (to_erase plan p at)
  unfolding to_erase
  to_erase_closes_late p at = erase_phase_closes_late p (byte_in plan at (image_end plan.image.now))

  settled_phase_closes_late : (w : Work) (p : Place) → PhaseClosesAfterCompare (settled_phase plan w p)
  unfolding settled_phase
  settled_phase_closes_late (work.Erase at) p = to_erase_closes_late p at
  settled_phase_closes_late (work.EraseAgain page end) p = sending_step_closes_late (work.EraseAgain page end) p
  settled_phase_closes_late (work.Write at end) p = to_write_closes_late p at end
  settled_phase_closes_late (work.Compare at) p = to_compare_closes_late p at
  settled_phase_closes_late (work.WriteFront at) p = to_write_front_closes_late p at
  settled_phase_closes_late (work.CompareFront at) p = to_compare_front_closes_late p at
  settled_phase_closes_late work.Leave p = to_leave_closes_late p

  unsure_phase_closes_late : (w : Work) (c : Command) → PhaseClosesAfterCompare (phase_if_unsure plan w c)
  unsure_phase_closes_late w (command.SetAddress at) = tt
  unsure_phase_closes_late w (command.ErasePage at) = tt
  unsure_phase_closes_late w (command.Write at) = tt

  after_erase_closes_late : (w : Work) (at : ℕ) → PhaseClosesAfterCompare (phase_after_erase plan w at)
  after_erase_closes_late (work.EraseAgain page end) at = to_write_closes_late place.Lost _ end
  after_erase_closes_late w at = to_erase_closes_late place.Lost (page_end plan at)

  after_write_closes_late : (w : Work) (at : ℕ) → PhaseClosesAfterCompare (phase_after_write plan w at)
  after_write_closes_late (work.Write from end) at = to_write_closes_late place.Lost _ end
  after_write_closes_late w at = to_write_front_closes_late place.Lost (write_end plan at (front_end plan))

  after_command_closes_late : (w : Work) (c : Command) → PhaseClosesAfterCompare (phase_after_command plan w c)
  after_command_closes_late w (command.SetAddress at) = settled_phase_closes_late w (place.At at)
  after_command_closes_late w (command.ErasePage at) = after_erase_closes_late w at
  after_command_closes_late w (command.Write at) = after_write_closes_late w at

  row_form_closes_late : (w : Work) (p : Place) (s : Step) (x : Heard) (next : Phase) → RowForm plan w p s x next →
      PhaseClosesAfterCompare next
  row_form_closes_late w p s x next (stays p' s' c) = c
  row_form_closes_late w p s x next (settles p') = settled_phase_closes_late w p'
  row_form_closes_late w p s x next reads = settled_phase_closes_late (read_on plan w) p
  row_form_closes_late w p s x next does = after_command_closes_late w (command_of plan w p)
  row_form_closes_late w p s x next doubts = unsure_phase_closes_late w (command_of plan w p)
  row_form_closes_late w p s x next (fails r no_success) = tt
  row_form_closes_late w p s x next (leaves e) = tt

  row_closes_late : (w : Work) (p : Place) (s : Step) (x : Heard) → ClosesAfterCompare w s → PhaseClosesAfterCompare (row plan w p s x)
  row_closes_late w p s x c = row_form_closes_late w p s x (row plan w p s x) (each_row_has_form plan w p s x c)

  resumed_phase_closes_late : (w : Work) (p : Place) (s : Step) → PhaseClosesAfterCompare (phase_resumed plan w p s)
  resumed_phase_closes_late w p (step.Poll last) = unsure_phase_closes_late w (command_of plan w p)
  resumed_phase_closes_late w p (step.PollWait ms) = unsure_phase_closes_late w (command_of plan w p)
  resumed_phase_closes_late w p s = tt

heard_step_closes_late : (s : Session) (w : Work) (p : Place) (at : Step) (x : Heard) → ClosesAfterCompare w at
    → PhaseClosesAfterCompare (session_after_step_heard s w p at x).phase
heard_step_closes_late s w p at heard.Restarted c = restart_keeps_fact PhaseClosesAfterCompare (λ r. tt) resumed_phase_closes_late s w
    p at
heard_step_closes_late s w p at x c = budget_keeps_fact PhaseClosesAfterCompare (λ r. tt) (pred s.actions) (row s.plan w p at x)
    (row_closes_late s.plan w p at x c)

next_phase_closes_late : (s : Session) (p : Phase) (x : Heard) → s.phase ≡ p → PhaseClosesAfterCompare p →
    PhaseClosesAfterCompare (session_after_phase_heard s p x).phase
next_phase_closes_late s (Over r) x e c = subst PhaseClosesAfterCompare (sym e) tt
next_phase_closes_late s (On at) x e c = heard_step_closes_late s at.work at.place at.step x c

pub session_closes_after_compare : AlwaysClosesAfterCompare
session_closes_after_compare s x c = next_phase_closes_late s s.phase x refl c
