-- Forms of the rows of the table.
use Rattle.std.proofs.Common.{◌≡◌, ℕ, true, false, refl, sym, subst}
use Rattle.dfu_wire.specs.declared.codes.Code.{Code}
use Rattle.dfu_wire.specs.declared.codes.Code.TheVariants as code
use Rattle.dfu_wire.specs.declared.states.State.{State}
use Rattle.dfu_wire.specs.declared.states.State.TheVariants as state
use Rattle.dfuse_host.specs.declared.plan.Plan.{Plan}
use Rattle.dfuse_host.specs.declared.phase.Phase.{Phase}
use Rattle.dfuse_host.specs.declared.phase.Phase.TheVariants.{Over}
use Rattle.dfuse_host.specs.declared.work.Work.{Work}
use Rattle.dfuse_host.specs.declared.work.Work.TheVariants as work
use Rattle.dfuse_host.specs.declared.place.Place.{Place}
use Rattle.dfuse_host.specs.declared.place.Place.TheVariants as place
use Rattle.dfuse_host.specs.declared.step.Step.{Step}
use Rattle.dfuse_host.specs.declared.step.Step.TheVariants as step
use Rattle.dfuse_host.specs.declared.heard.Heard.{Heard}
use Rattle.dfuse_host.specs.declared.heard.Heard.TheVariants as heard
use Rattle.dfuse_host.specs.declared.report.Report.{Report}
use Rattle.dfuse_host.specs.declared.report.Report.TheVariants as report
use Rattle.dfuse_host.specs.declared.report.Leaving.TheVariants as leaving
use Rattle.dfuse_host.specs.Settling.{phase_with_step, settled_phase}
use Rattle.dfuse_host.specs.Commands.{command_of, phase_after_command, phase_if_unsure}
use Rattle.dfuse_host.specs.Table.{state_found, phase_after_comparing_fault, phase_after_fault, status_found, on_abort, on_ask_state, on_ask_status, on_clear_wait, on_send, probed, on_probe, phase_if_refused, phase_after_poll, stalled_ms, on_poll, on_poll_wait, place_with_reading_begun, place_with_reading_ended, on_begin_reading, on_end_reading, read_on, on_read, on_close, close_probed, on_close_probe, close_polled, on_close_poll, row}
use Rattle.dfuse_host.specs.ReadBack.{IsReadBackReport, ClosesAfterCompare}

-- Forms of a row. The work stays the same, goes on because the device is ready, or goes on after bytes that were read back and equal those
-- of the image. Or the command of the work is done or has an unknown outcome. Or the session is over.
pub data RowForm (plan : Plan) (w : Work) (p : Place) : Step → Heard → Phase → Type 0 where
  -- The work stays the same, and its place and step may change.
  stays : {s : Step} {h : Heard} (p' : Place) (s' : Step) → ClosesAfterCompare w s' → RowForm plan w p s h (phase_with_step w p' s')
  -- The device is ready for a command, so the work goes on with its next phase.
  settles : {s : Step} {h : Heard} (p' : Place) → RowForm plan w p s h (settled_phase plan w p')
  -- The bytes that the device returned equal those of the image, and the work goes on after them.
  reads : RowForm plan w p step.Read (heard.Compared true) (settled_phase plan (read_on plan w) p)
  -- The command of the work is done.
  does : {s : Step} {h : Heard} → RowForm plan w p s h (phase_after_command plan w (command_of plan w p))
  -- The command of the work has an unknown outcome.
  doubts : {s : Step} {h : Heard} → RowForm plan w p s h (phase_if_unsure plan w (command_of plan w p))
  -- The session is over, with a report other than Verified.
  fails : {s : Step} {h : Heard} (r : Report) → (IsReadBackReport r → ⊥) → RowForm plan w p s h (Over r)
  -- The device leaves, and the session is over as Verified.
  leaves : {s : Step} {h : Heard} → w ≡ work.Leave → RowForm plan w p s h (Over (report.Verified leaving.Left))

module _ (plan : Plan) (w : Work) (p : Place) (s : Step) (h : Heard) where
  compare_fault_has_row_form : (v : Work) (c : Code) → v ≡ w → RowForm plan w p s h (phase_after_comparing_fault v c)
  compare_fault_has_row_form v code.StalledPkt e =
      subst (λ (u : Work). RowForm plan w p s h (phase_with_step u place.Lost step.ClearStatus)) (sym e)
      (stays place.Lost step.ClearStatus tt)
  compare_fault_has_row_form v c e = fails (report.Refused c) (λ x. x)

  found_fault_has_row_form : (v : Work) (c : Code) → v ≡ w → RowForm plan w p s h (phase_after_fault v c)
  found_fault_has_row_form (work.Erase at) c e =
      subst (λ (u : Work). RowForm plan w p s h (phase_with_step u place.Lost step.ClearStatus)) (sym e)
      (stays place.Lost step.ClearStatus tt)
  found_fault_has_row_form v code.Vendor e = fails report.ReadProtected (λ x. x)
  found_fault_has_row_form (work.Compare at) c e = compare_fault_has_row_form (work.Compare at) c e
  found_fault_has_row_form (work.CompareFront at) c e = compare_fault_has_row_form (work.CompareFront at) c e
  found_fault_has_row_form v c e =
      subst (λ (u : Work). RowForm plan w p s h (phase_with_step u place.Lost step.ClearStatus)) (sym e)
      (stays place.Lost step.ClearStatus tt)

  found_status_has_row_form : (c : Code) (poll : ℕ) (t : State) → RowForm plan w p s h (status_found w c poll t)
  found_status_has_row_form c poll state.AppIdle = fails report.NotDfu (λ x. x)
  found_status_has_row_form c poll state.AppDetach = fails report.NotDfu (λ x. x)
  found_status_has_row_form c poll state.DfuIdle = stays place.Lost step.AskState tt
  found_status_has_row_form c poll state.DownloadIdle = stays place.Lost step.Abort tt
  found_status_has_row_form c poll state.UploadIdle = stays place.Lost step.Abort tt
  found_status_has_row_form c poll state.Error = found_fault_has_row_form w c refl
  found_status_has_row_form c poll t = stays place.Lost (step.ClearWait poll) tt

  found_state_has_row_form : (t : State) → RowForm plan w p s h (state_found plan w t)
  found_state_has_row_form state.AppIdle = fails report.NotDfu (λ x. x)
  found_state_has_row_form state.AppDetach = fails report.NotDfu (λ x. x)
  found_state_has_row_form state.DfuIdle = settles place.Lost
  found_state_has_row_form state.DownloadBusy = stays place.Lost step.AskStatus tt
  found_state_has_row_form state.Manifest = stays place.Lost step.AskStatus tt
  found_state_has_row_form state.ManifestWaitReset = stays place.Lost step.AskStatus tt
  found_state_has_row_form state.Error = stays place.Lost step.AskStatus tt
  found_state_has_row_form t = stays place.Lost step.Abort tt

  probed_state_has_row_form : (t : State) → RowForm plan w p s h (probed plan w p t)
  probed_state_has_row_form state.DownloadSync = stays p (step.Poll 0) tt
  probed_state_has_row_form state.DfuIdle = stays p step.Send tt
  probed_state_has_row_form state.DownloadIdle = stays p step.Send tt
  probed_state_has_row_form state.Error = stays place.Lost step.Abort tt
  probed_state_has_row_form t = doubts

  refusal_has_row_form : (c : Code) → RowForm plan w p s h (phase_if_refused plan w p c)
  refusal_has_row_form code.StalledPkt = doubts
  refusal_has_row_form code.Vendor = fails report.ReadProtected (λ x. x)
  refusal_has_row_form c = fails (report.Refused c) (λ x. x)

  polled_status_has_row_form : (c : Code) (poll : ℕ) (t : State) → RowForm plan w p s h (phase_after_poll plan w p c poll t)
  polled_status_has_row_form c poll state.DownloadSync = stays p (step.PollWait poll) tt
  polled_status_has_row_form c poll state.DownloadBusy = stays p (step.PollWait poll) tt
  polled_status_has_row_form c poll state.DownloadIdle = does
  polled_status_has_row_form c poll state.Error = refusal_has_row_form c
  polled_status_has_row_form c poll t = doubts

  probed_close_has_row_form : (t : State) → w ≡ work.Leave → RowForm plan w p s h (close_probed w p t)
  probed_close_has_row_form state.DfuIdle e = stays p step.Close e
  probed_close_has_row_form state.DownloadIdle e = stays p step.Close e
  probed_close_has_row_form state.Error e = stays place.Lost step.Abort tt
  probed_close_has_row_form t e = stays p step.ClosePoll e

  polled_close_has_row_form : (c : Code) (t : State) → w ≡ work.Leave → RowForm plan w p s h (close_polled w p c t)
  polled_close_has_row_form c state.DfuIdle e = stays p step.Close e
  polled_close_has_row_form c state.DownloadIdle e = stays p step.Close e
  polled_close_has_row_form c state.Error e = stays place.Lost step.Abort tt
  polled_close_has_row_form code.Ok state.Manifest e = leaves e
  polled_close_has_row_form code.Ok state.ManifestWaitReset e = leaves e
  polled_close_has_row_form c t e = stays p step.ClosePoll e

module _ (plan : Plan) (w : Work) (p : Place) where
  abort_has_row_form : (h : Heard) → RowForm plan w p step.Abort h (on_abort w h)
  abort_has_row_form heard.Acked = stays place.Lost step.AskState tt
  abort_has_row_form heard.Stalled = stays place.Lost step.AskState tt
  abort_has_row_form h = stays place.Lost step.Abort tt

  ask_state_has_row_form : (h : Heard) → RowForm plan w p step.AskState h (on_ask_state plan w h)
  ask_state_has_row_form (heard.StateIs t) = found_state_has_row_form plan w p step.AskState (heard.StateIs t) t
  ask_state_has_row_form heard.Stalled = stays place.Lost step.AskStatus tt
  ask_state_has_row_form h = stays place.Lost step.AskState tt

  ask_status_has_row_form : (h : Heard) → RowForm plan w p step.AskStatus h (on_ask_status w h)
  ask_status_has_row_form (heard.Told t) = found_status_has_row_form plan w p step.AskStatus (heard.Told t) t.code t.poll_ms t.state
  ask_status_has_row_form heard.Stalled = stays place.Lost (step.ClearWait 100) tt
  ask_status_has_row_form h = stays place.Lost step.AskStatus tt

  clear_wait_has_row_form : (ms : ℕ) (h : Heard) → RowForm plan w p (step.ClearWait ms) h (on_clear_wait w ms h)
  clear_wait_has_row_form ms heard.Waited = stays place.Lost step.AskState tt
  clear_wait_has_row_form ms h = stays place.Lost (step.ClearWait ms) tt

  send_has_row_form : (h : Heard) → RowForm plan w p step.Send h (on_send w p h)
  send_has_row_form heard.Acked = stays p (step.Poll 0) tt
  send_has_row_form h = stays p step.Probe tt

  probe_has_row_form : (h : Heard) → RowForm plan w p step.Probe h (on_probe plan w p h)
  probe_has_row_form (heard.StateIs t) = probed_state_has_row_form plan w p step.Probe (heard.StateIs t) t
  probe_has_row_form heard.Stalled = doubts
  probe_has_row_form h = stays p step.Probe tt

  poll_has_row_form : (last : ℕ) (h : Heard) → RowForm plan w p (step.Poll last) h (on_poll plan w p last h)
  poll_has_row_form last (heard.Told t) = polled_status_has_row_form plan w p (step.Poll last) (heard.Told t) t.code t.poll_ms t.state
  poll_has_row_form last heard.Stalled = stays p (step.PollWait (stalled_ms last)) tt
  poll_has_row_form last h = stays p (step.Poll last) tt

  poll_wait_has_row_form : (ms : ℕ) (h : Heard) → RowForm plan w p (step.PollWait ms) h (on_poll_wait w p ms h)
  poll_wait_has_row_form ms heard.Waited = stays p (step.Poll ms) tt
  poll_wait_has_row_form ms h = stays p (step.PollWait ms) tt

  begin_reading_has_row_form : (h : Heard) → RowForm plan w p step.BeginReading h (on_begin_reading plan w p h)
  begin_reading_has_row_form heard.Acked = settles (place_with_reading_begun p)
  begin_reading_has_row_form heard.Stalled = stays place.Lost step.Abort tt
  begin_reading_has_row_form h = stays p step.BeginReading tt

  end_reading_has_row_form : (h : Heard) → RowForm plan w p step.EndReading h (on_end_reading plan w p h)
  end_reading_has_row_form heard.Acked = settles (place_with_reading_ended p)
  end_reading_has_row_form heard.Stalled = stays place.Lost step.Abort tt
  end_reading_has_row_form h = stays p step.EndReading tt

  read_has_row_form : (h : Heard) → RowForm plan w p step.Read h (on_read plan w p h)
  read_has_row_form (heard.Compared true) = reads
  read_has_row_form (heard.Compared false) = fails report.Different (λ x. x)
  read_has_row_form heard.Stalled = stays place.Lost step.Abort tt
  read_has_row_form h = stays p step.Read tt

  close_has_row_form : (h : Heard) → w ≡ work.Leave → RowForm plan w p step.Close h (on_close w p h)
  close_has_row_form heard.Acked e = stays p step.ClosePoll e
  close_has_row_form h e = stays p step.CloseProbe e

  close_probe_has_row_form : (h : Heard) → w ≡ work.Leave → RowForm plan w p step.CloseProbe h (on_close_probe w p h)
  close_probe_has_row_form (heard.StateIs t) e = probed_close_has_row_form plan w p step.CloseProbe (heard.StateIs t) t e
  close_probe_has_row_form heard.Stalled e = stays p step.ClosePoll e
  close_probe_has_row_form h e = stays p step.CloseProbe e

  close_poll_has_row_form : (h : Heard) → w ≡ work.Leave → RowForm plan w p step.ClosePoll h (on_close_poll w p h)
  close_poll_has_row_form (heard.Told t) e = polled_close_has_row_form plan w p step.ClosePoll (heard.Told t) t.code t.state e
  close_poll_has_row_form h e = stays p step.ClosePoll e

-- Every row of the table has one of the forms.
pub each_row_has_form : (plan : Plan) (w : Work) (p : Place) (s : Step) (h : Heard) → ClosesAfterCompare w s
    → RowForm plan w p s h (row plan w p s h)
each_row_has_form plan w p step.Abort h c = abort_has_row_form plan w p h
each_row_has_form plan w p step.AskState h c = ask_state_has_row_form plan w p h
each_row_has_form plan w p step.AskStatus h c = ask_status_has_row_form plan w p h
each_row_has_form plan w p (step.ClearWait ms) h c = clear_wait_has_row_form plan w p ms h
each_row_has_form plan w p step.ClearStatus h c = stays place.Lost step.Abort tt
each_row_has_form plan w p step.Send h c = send_has_row_form plan w p h
each_row_has_form plan w p step.Probe h c = probe_has_row_form plan w p h
each_row_has_form plan w p (step.Poll last) h c = poll_has_row_form plan w p last h
each_row_has_form plan w p (step.PollWait ms) h c = poll_wait_has_row_form plan w p ms h
each_row_has_form plan w p step.BeginReading h c = begin_reading_has_row_form plan w p h
each_row_has_form plan w p step.EndReading h c = end_reading_has_row_form plan w p h
each_row_has_form plan w p step.Read h c = read_has_row_form plan w p h
each_row_has_form plan w p step.Close h c = close_has_row_form plan w p h c
each_row_has_form plan w p step.CloseProbe h c = close_probe_has_row_form plan w p h c
each_row_has_form plan w p step.ClosePoll h c = close_poll_has_row_form plan w p h c
