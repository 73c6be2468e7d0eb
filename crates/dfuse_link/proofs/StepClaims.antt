-- The device fits the phase of the session after each action.
use Rattle.std.proofs.Common.{◌≡◌, ℕ, Option}
use Rattle.dfuse_host.specs.declared.plan.Plan.{Plan}
use Rattle.dfuse_host.specs.declared.work.Work.{Work}
use Rattle.dfuse_host.specs.declared.place.Place.{Place}
use Rattle.dfuse_host.specs.declared.step.Step.{Step}
use Rattle.dfuse_host.specs.declared.step.Step.TheVariants as step
use Rattle.dfuse_host.specs.declared.seen.Seen.{Seen}
use Rattle.dfuse_host.specs.Wire.{DfuseSeenMeaning}
use Rattle.dfuse_host.specs.Commands.{command_of}
use Rattle.dfuse_host.specs.Deeds.{Wait, command_deed, deed_of_step}
use Rattle.dfuse_host.specs.Table.{row}
use Rattle.dfuse_host.proofs.ForCallers.{AnyCommand, commands_have_fact, AnyHeard}
use Rattle.dfuse_link.specs.Chips.{Chip, Device}
use Rattle.dfuse_link.specs.Reactions.{Reaction}
use Rattle.dfuse_link.specs.Histories.{SeenOfReaction}
use Rattle.dfuse_link.proofs.Claims.{DeviceFitsStep, DeviceFitsPhase}
use Rattle.dfuse_link.proofs.RequestEffects.{arriving_aborts_keep_quiet, arriving_uploads_keep_quiet, arriving_get_states_keep_command, arriving_statuses_keep_command}
use Rattle.dfuse_link.proofs.HeardStates.{arrived_request_answers_state, arrived_request_answers_status, get_state_says_state, get_status_says_state}
use Rattle.dfuse_link.proofs.SentClaims.{DeedArrives, sent_command_may_arrive, heard_ack_means_has_command}
use Rattle.dfuse_link.proofs.RowClaims.{device_fits_after_abort, device_fits_after_ask_state, device_fits_after_ask_status, device_fits_after_clear_wait, device_fits_after_send, device_fits_after_probe, device_fits_after_poll, device_fits_after_poll_wait, device_fits_begun_reading, device_fits_ended_reading, device_fits_after_read, device_fits_after_close, device_fits_after_close_probe, device_fits_after_close_poll}

module _ (chip : Chip) (plan : Plan) (w : Work) (p : Place) (d d' : Device) (h : AnyHeard) where
  -- If the device fits the step, it fits the phase of the table's row after the request.
  pub device_fits_after_request : (s : Step) (r : Option Reaction) (x : Seen) → DeviceFitsStep chip plan w p s d →
      DeedArrives chip (deed_of_step plan w p s) d r d' →
      SeenOfReaction r x →
      DfuseSeenMeaning plan w s x h → DeviceFitsPhase chip plan (row plan w p s h) d'
  device_fits_after_request step.Abort r x k comes is hears = device_fits_after_abort chip plan w p d' h
  device_fits_after_request step.AskState r x k comes is hears =
      device_fits_after_ask_state chip plan w p d' h (get_state_says_state plan w step.AskState h d' (λ bytes e. e) r x is
      (arrived_request_answers_state chip d 1 _ r d' comes) hears)
  device_fits_after_request step.AskStatus r x k comes is hears = device_fits_after_ask_status chip plan w p d' h
  device_fits_after_request (step.ClearWait ms) r x k comes is hears = absurd comes
  device_fits_after_request step.ClearStatus r x k comes is hears = tt
  device_fits_after_request step.Send r x k comes is hears =
      device_fits_after_send chip plan w p d' h (heard_ack_means_has_command chip plan w p d d' h r x (command_of plan w p) is comes k
      hears)
      (sent_command_may_arrive chip plan w p d d' r (command_of plan w p) comes k)
  device_fits_after_request step.Probe r x k comes is hears =
      device_fits_after_probe chip plan w p d' h (get_state_says_state plan w step.Probe h d' (λ bytes e. e) r x is
      (arrived_request_answers_state chip d 1 _ r d' comes) hears)
      (arriving_get_states_keep_command chip (command_of plan w p) p d d' 1 _ r comes k)
  device_fits_after_request (step.Poll last) r x k comes is hears =
      device_fits_after_poll chip plan w p d' last h (get_status_says_state plan w (step.Poll last) h d' (λ bytes e. e) r x is
      (arrived_request_answers_status chip d 6 _ r d' comes) hears)
      (arriving_statuses_keep_command chip (command_of plan w p) p d d' 6 _ r comes k)
  device_fits_after_request (step.PollWait ms) r x k comes is hears = absurd comes
  device_fits_after_request step.BeginReading r x k comes is hears = device_fits_begun_reading chip plan w p d' h
      (arriving_aborts_keep_quiet chip p d d' _ r comes k)
  device_fits_after_request step.EndReading r x k comes is hears = device_fits_ended_reading chip plan w p d' h (arriving_aborts_keep_quiet
      chip p d d' _ r comes k)
  device_fits_after_request step.Read r x k comes is hears =
      let kept = arriving_uploads_keep_quiet chip p d d' _ _ _ r comes (k.0, k.1) in
      device_fits_after_read chip plan w p d' h (kept.0, kept.1, k.2)
  device_fits_after_request step.Close r x k comes is hears = device_fits_after_close chip plan w p d' h
  device_fits_after_request step.CloseProbe r x k comes is hears = device_fits_after_close_probe chip plan w p d' h
  device_fits_after_request step.ClosePoll r x k comes is hears = device_fits_after_close_poll chip plan w p d' h

command_deed_is_no_wait : (plan : Plan) (w : Work) (c : AnyCommand) (ms : ℕ) → command_deed plan w c ≡ Wait ms → ⊥
command_deed_is_no_wait plan w c ms = commands_have_fact (λ v. command_deed plan w v ≡ Wait ms →
    ⊥) (λ at e. cc) (λ at e. cc) (λ at e. cc) c

-- If the device fits the step, it fits the phase of the table's row after the wait.
pub device_fits_after_wait : (chip : Chip) (plan : Plan) (w : Work) (p : Place) (d : Device) (h : AnyHeard) (s : Step) (ms : ℕ) →
    DeviceFitsStep chip plan w p s d →
    deed_of_step plan w p s ≡ Wait ms → DeviceFitsPhase chip plan (row plan w p s h) d
device_fits_after_wait chip plan w p d h (step.ClearWait m) ms k e = device_fits_after_clear_wait chip plan w p d m h
device_fits_after_wait chip plan w p d h (step.PollWait m) ms k e = device_fits_after_poll_wait chip plan w p d m h k
device_fits_after_wait chip plan w p d h step.Send ms k e = absurd (command_deed_is_no_wait plan w (command_of plan w p) ms e)
device_fits_after_wait chip plan w p d h s ms k e = cc
