-- Unless a command is done, each row of the table keeps the session's work in its group, or ends the session.
use Rattle.std.proofs.Common.{◌≡◌, ℕ, ◌⊎◌, inl, Bool, true, false}
use Rattle.dfu_wire.specs.declared.codes.Code.{Code}
use Rattle.dfu_wire.specs.declared.codes.Code.TheVariants as code
use Rattle.dfu_wire.specs.declared.states.State.{State}
use Rattle.dfu_wire.specs.declared.states.State.TheVariants as state
use Rattle.dfuse_host.specs.declared.plan.Plan.{Plan}
use Rattle.dfuse_host.specs.declared.phase.Phase.{Phase}
use Rattle.dfuse_host.specs.declared.phase.Phase.TheVariants.{On, Over}
use Rattle.dfuse_host.specs.declared.work.Work.{Work}
use Rattle.dfuse_host.specs.declared.work.Work.TheVariants as work
use Rattle.dfuse_host.specs.declared.place.Place.{Place}
use Rattle.dfuse_host.specs.declared.place.Place.TheVariants as place
use Rattle.dfuse_host.specs.declared.step.Step.{Step}
use Rattle.dfuse_host.specs.declared.step.Step.TheVariants as step
use Rattle.dfuse_host.specs.Commands.{command_of, phase_after_command, phase_if_unsure}
use Rattle.dfuse_host.specs.Settling.{settled_phase}
use Rattle.dfuse_host.specs.Table.{state_found, phase_after_comparing_fault, phase_after_fault, status_found, on_abort, on_ask_state, on_ask_status, on_clear_wait, on_send, probed, on_probe, phase_if_refused, phase_after_poll, on_poll, on_poll_wait, place_with_reading_begun, place_with_reading_ended, on_begin_reading, on_end_reading, read_on, on_read, on_close, close_probed, on_close_probe, close_polled, on_close_poll, row}
use Rattle.dfuse_host.proofs.ForCallers.{AnyCommand, AnyHeard, heards_have_fact, heard_comparison}
use Rattle.dfuse_link.proofs.Claims.{HeardSaysState}

-- The work of the phase is in the group `G`, or the fact `B` holds, or the session is over.
abbrev pub StaysInGroup : (G : Work → Type 0) (B : Type 0) → Phase → Type 0
StaysInGroup G B (On s) = G s.work ⊎ B
StaysInGroup G B (Over r) = Unit {0}

-- Until a command is done, a work of the group `G` leads only to works of `G`, unless the fact `B` becomes true.
pub record IsWorkGroup (plan : Plan) (G : Work → Type 0) (B : Type 0) : Type 0 where
  -- When the device is ready for a command, a work of the group is still in the group.
  pub settles : (w : Work) (p : Place) → G w → StaysInGroup G B (settled_phase plan w p)
  -- After a block is read, the work is still in the group.
  pub reads : (w : Work) → G w → G (read_on plan w)
  -- After a command with an unknown outcome, the work is still in the group.
  pub doubts : (w : Work) (c : AnyCommand) → G w → StaysInGroup G B (phase_if_unsure plan w c)

module _ (plan : Plan) (G : Work → Type 0) (B : Type 0) (r : IsWorkGroup plan G B) (w : Work) (p : Place) (g : G w) where
  abort_stays_in_group : (h : AnyHeard) → StaysInGroup G B (on_abort w h)
  abort_stays_in_group h =
      heards_have_fact (λ x. StaysInGroup G B (on_abort w x)) (inl g) (λ s. inl g) (λ s. inl g) (λ b. inl g) (inl g) (inl g) (inl g) (inl
      g) h

  found_state_stays_in_group : (t : State) → StaysInGroup G B (state_found plan w t)
  found_state_stays_in_group state.AppIdle = tt
  found_state_stays_in_group state.AppDetach = tt
  found_state_stays_in_group state.DfuIdle = r.settles w place.Lost g
  found_state_stays_in_group t = inl g

  ask_state_stays_in_group : (h : AnyHeard) → StaysInGroup G B (on_ask_state plan w h)
  ask_state_stays_in_group h =
      heards_have_fact (λ x. StaysInGroup G B (on_ask_state plan w x)) (inl g) (λ s. inl g) (λ s. found_state_stays_in_group s) (λ b. inl
      g) (inl g) (inl g) (inl g)
      (inl g) h

  ended_comparison_stays_in_group : (v : Work) → G v → (c : Code) → StaysInGroup G B (phase_after_comparing_fault v c)
  ended_comparison_stays_in_group v k code.StalledPkt = inl k
  ended_comparison_stays_in_group v k c = tt

  fault_found_stays_in_group : (v : Work) → G v → (c : Code) → StaysInGroup G B (phase_after_fault v c)
  fault_found_stays_in_group (work.Erase at) k c = inl k
  fault_found_stays_in_group v k code.Vendor = tt
  fault_found_stays_in_group (work.Compare at) k c = ended_comparison_stays_in_group (work.Compare at) k c
  fault_found_stays_in_group (work.CompareFront at) k c = ended_comparison_stays_in_group (work.CompareFront at) k c
  fault_found_stays_in_group v k c = inl k

  found_status_stays_in_group : (c : Code) (poll : ℕ) (t : State) → StaysInGroup G B (status_found w c poll t)
  found_status_stays_in_group c poll state.AppIdle = tt
  found_status_stays_in_group c poll state.AppDetach = tt
  found_status_stays_in_group c poll state.Error = fault_found_stays_in_group w g c
  found_status_stays_in_group c poll t = inl g

  ask_status_stays_in_group : (h : AnyHeard) → StaysInGroup G B (on_ask_status w h)
  ask_status_stays_in_group h =
      heards_have_fact (λ x. StaysInGroup G B (on_ask_status w x)) (inl g) (λ s. found_status_stays_in_group s.code s.poll_ms s.state) (λ
      s. inl g) (λ b. inl g) (inl g)
      (inl g) (inl g) (inl g) h

  clear_wait_stays_in_group : (ms : ℕ) (h : AnyHeard) → StaysInGroup G B (on_clear_wait w ms h)
  clear_wait_stays_in_group ms h =
      heards_have_fact (λ x. StaysInGroup G B (on_clear_wait w ms x)) (inl g) (λ s. inl g) (λ s. inl g) (λ b. inl g) (inl g) (inl g) (inl
      g) (inl g) h

  send_stays_in_group : (h : AnyHeard) → StaysInGroup G B (on_send w p h)
  send_stays_in_group h =
      heards_have_fact (λ x. StaysInGroup G B (on_send w p x)) (inl g) (λ s. inl g) (λ s. inl g) (λ b. inl g) (inl g) (inl g) (inl g)
      (inl g) h

  probed_state_stays_in_group : (t : State) → StaysInGroup G B (probed plan w p t)
  probed_state_stays_in_group state.DownloadSync = inl g
  probed_state_stays_in_group state.DfuIdle = inl g
  probed_state_stays_in_group state.DownloadIdle = inl g
  probed_state_stays_in_group state.Error = inl g
  probed_state_stays_in_group t = r.doubts w (command_of plan w p) g

  probe_stays_in_group : (h : AnyHeard) → StaysInGroup G B (on_probe plan w p h)
  probe_stays_in_group h =
      heards_have_fact (λ x. StaysInGroup G B (on_probe plan w p x)) (inl g) (λ s. inl g) (λ s. probed_state_stays_in_group s) (λ b. inl
      g)
      (r.doubts w (command_of plan w p) g) (inl g) (inl g) (inl g) h

  refusal_stays_in_group : (c : Code) → StaysInGroup G B (phase_if_refused plan w p c)
  refusal_stays_in_group code.StalledPkt = r.doubts w (command_of plan w p) g
  refusal_stays_in_group code.Vendor = tt
  refusal_stays_in_group c = tt

  -- After a status the phase is in the group, if the phase after the completed command is in the group.
  polled_status_stays_in_group : (u : State) → (u ≡ state.DownloadIdle →
      StaysInGroup G B (phase_after_command plan w (command_of plan w p))) →
      (c : Code) (poll : ℕ) (t : State) →
      u ≡ t → StaysInGroup G B (phase_after_poll plan w p c poll t)
  polled_status_stays_in_group u ok c poll state.DownloadSync e = inl g
  polled_status_stays_in_group u ok c poll state.DownloadBusy e = inl g
  polled_status_stays_in_group u ok c poll state.DownloadIdle e = ok e
  polled_status_stays_in_group u ok c poll state.Error e = refusal_stays_in_group c
  polled_status_stays_in_group u ok c poll t e = r.doubts w (command_of plan w p) g

  pub poll_stays_in_group : (u : State) → (u ≡ state.DownloadIdle → StaysInGroup G B (phase_after_command plan w (command_of plan w p)))
      → (last : ℕ) (h : AnyHeard) →
      HeardSaysState h u → StaysInGroup G B (on_poll plan w p last h)
  poll_stays_in_group u ok last h f =
      heards_have_fact (λ x. HeardSaysState x u → StaysInGroup G B (on_poll plan w p last x)) (λ k. inl g)
      (λ s k. polled_status_stays_in_group u ok s.code s.poll_ms s.state k) (λ s k. inl g) (λ b k. inl g) (λ k. inl g) (λ k. inl g) (λ k.
      inl g)
      (λ k. inl g) h f

  poll_wait_stays_in_group : (ms : ℕ) (h : AnyHeard) → StaysInGroup G B (on_poll_wait w p ms h)
  poll_wait_stays_in_group ms h =
      heards_have_fact (λ x. StaysInGroup G B (on_poll_wait w p ms x)) (inl g) (λ s. inl g) (λ s. inl g) (λ b. inl g) (inl g) (inl g)
      (inl g) (inl g) h

  begin_reading_stays_in_group : (h : AnyHeard) → StaysInGroup G B (on_begin_reading plan w p h)
  begin_reading_stays_in_group h =
      heards_have_fact (λ x. StaysInGroup G B (on_begin_reading plan w p x)) (r.settles w (place_with_reading_begun p) g) (λ s. inl g) (λ
      s. inl g)
      (λ b. inl g) (inl g)
      (inl g) (inl g) (inl g) h

  end_reading_stays_in_group : (h : AnyHeard) → StaysInGroup G B (on_end_reading plan w p h)
  end_reading_stays_in_group h =
      heards_have_fact (λ x. StaysInGroup G B (on_end_reading plan w p x)) (r.settles w (place_with_reading_ended p) g) (λ s. inl g) (λ
      s. inl g)
      (λ b. inl g) (inl g)
      (inl g) (inl g) (inl g) h

  comparison_stays_in_group : (b : Bool) → StaysInGroup G B (on_read plan w p (heard_comparison b))
  comparison_stays_in_group true = r.settles (read_on plan w) p (r.reads w g)
  comparison_stays_in_group false = tt

  read_stays_in_group : (h : AnyHeard) → StaysInGroup G B (on_read plan w p h)
  read_stays_in_group h =
      heards_have_fact (λ x. StaysInGroup G B (on_read plan w p x)) (inl g) (λ s. inl g) (λ s. inl g) (λ b. comparison_stays_in_group b)
      (inl g) (inl g) (inl g)
      (inl g) h

  close_stays_in_group : (h : AnyHeard) → StaysInGroup G B (on_close w p h)
  close_stays_in_group h =
      heards_have_fact (λ x. StaysInGroup G B (on_close w p x)) (inl g) (λ s. inl g) (λ s. inl g) (λ b. inl g) (inl g) (inl g) (inl g)
      (inl g) h

  close_probed_stays_in_group : (t : State) → StaysInGroup G B (close_probed w p t)
  close_probed_stays_in_group state.DfuIdle = inl g
  close_probed_stays_in_group state.DownloadIdle = inl g
  close_probed_stays_in_group state.Error = inl g
  close_probed_stays_in_group t = inl g

  close_probe_stays_in_group : (h : AnyHeard) → StaysInGroup G B (on_close_probe w p h)
  close_probe_stays_in_group h =
      heards_have_fact (λ x. StaysInGroup G B (on_close_probe w p x)) (inl g) (λ s. inl g) (λ s. close_probed_stays_in_group s) (λ b. inl
      g) (inl g) (inl g) (inl g)
      (inl g) h

  close_polled_stays_in_group : (c : Code) (t : State) → StaysInGroup G B (close_polled w p c t)
  close_polled_stays_in_group c state.DfuIdle = inl g
  close_polled_stays_in_group c state.DownloadIdle = inl g
  close_polled_stays_in_group c state.Error = inl g
  close_polled_stays_in_group code.Ok state.Manifest = tt
  close_polled_stays_in_group code.Ok state.ManifestWaitReset = tt
  close_polled_stays_in_group c t = inl g

  close_poll_stays_in_group : (h : AnyHeard) → StaysInGroup G B (on_close_poll w p h)
  close_poll_stays_in_group h =
      heards_have_fact (λ x. StaysInGroup G B (on_close_poll w p x)) (inl g) (λ s. close_polled_stays_in_group s.code s.state) (λ s. inl
      g) (λ b. inl g) (inl g)
      (inl g) (inl g) (inl g) h

  -- At Poll, the phase after the result is in the group. At other steps there is no condition.
  abbrev pub PollStaysInGroup : Step → AnyHeard → Type 0
  PollStaysInGroup (step.Poll last) h = StaysInGroup G B (on_poll plan w p last h)
  PollStaysInGroup s h = Unit {0}

  pub row_stays_in_group : (s : Step) (h : AnyHeard) → PollStaysInGroup s h → StaysInGroup G B (row plan w p s h)
  row_stays_in_group step.Abort h a = abort_stays_in_group h
  row_stays_in_group step.AskState h a = ask_state_stays_in_group h
  row_stays_in_group step.AskStatus h a = ask_status_stays_in_group h
  row_stays_in_group (step.ClearWait ms) h a = clear_wait_stays_in_group ms h
  row_stays_in_group step.ClearStatus h a = inl g
  row_stays_in_group step.Send h a = send_stays_in_group h
  row_stays_in_group step.Probe h a = probe_stays_in_group h
  row_stays_in_group (step.Poll last) h a = a
  row_stays_in_group (step.PollWait ms) h a = poll_wait_stays_in_group ms h
  row_stays_in_group step.BeginReading h a = begin_reading_stays_in_group h
  row_stays_in_group step.EndReading h a = end_reading_stays_in_group h
  row_stays_in_group step.Read h a = read_stays_in_group h
  row_stays_in_group step.Close h a = close_stays_in_group h
  row_stays_in_group step.CloseProbe h a = close_probe_stays_in_group h
  row_stays_in_group step.ClosePoll h a = close_poll_stays_in_group h
