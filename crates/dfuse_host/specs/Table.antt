-- The table: the next phase after each result, except restarts of the device and the limit of actions.
use Rattle.std.specs.Prelude.{ℕ, ◌==◌, true, false, if◌then◌else◌}
use Rattle.dfu_wire.specs.declared.codes.Code.{Code}
use Rattle.dfu_wire.specs.declared.codes.Code.TheVariants as code
use Rattle.dfu_wire.specs.declared.states.State.{State}
use Rattle.dfu_wire.specs.declared.states.State.TheVariants as state
use Rattle.dfuse_host.specs.declared.plan.Plan.{Plan}
use Rattle.dfuse_host.specs.declared.phase.Phase.{Phase}
use Rattle.dfuse_host.specs.declared.phase.Phase.TheVariants.{Over}
use Rattle.dfuse_host.specs.declared.work.Work.{Work}
use Rattle.dfuse_host.specs.declared.work.Work.TheVariants as work
use Rattle.dfuse_host.specs.declared.place.Place.{Place}
use Rattle.dfuse_host.specs.declared.place.Place.TheVariants as place
use Rattle.dfuse_host.specs.declared.step.Step.{Step}
use Rattle.dfuse_host.specs.declared.step.Step.TheVariants as step
use Rattle.dfuse_host.specs.declared.heard.Heard.{Heard}
use Rattle.dfuse_host.specs.declared.heard.Heard.TheVariants as heard
use Rattle.dfuse_host.specs.declared.report.Report.TheVariants as report
use Rattle.dfuse_host.specs.declared.report.Leaving.TheVariants as leaving
use Rattle.dfuse_host.specs.Plans.{read_end}
use Rattle.dfuse_host.specs.Settling.{phase_with_step, settled_phase}
use Rattle.dfuse_host.specs.Commands.{command_of, end_of_work, phase_to_clear, phase_after_command, phase_if_unsure}

-- ---- clearing: the session drops or waits for a command of an earlier session, but never starts it

-- Phase after the state that GETSTATE returns after ABORT. From dfuIDLE the work goes on, with an unknown pointer.
abbrev pub state_found : Plan → Work → State → Phase
state_found plan w state.AppIdle = Over report.NotDfu
state_found plan w state.AppDetach = Over report.NotDfu
state_found plan w state.DfuIdle = settled_phase plan w place.Lost
state_found plan w state.DownloadSync = phase_to_clear w
state_found plan w state.DownloadBusy = phase_with_step w place.Lost step.AskStatus
state_found plan w state.DownloadIdle = phase_to_clear w
state_found plan w state.ManifestSync = phase_to_clear w
state_found plan w state.Manifest = phase_with_step w place.Lost step.AskStatus
state_found plan w state.ManifestWaitReset = phase_with_step w place.Lost step.AskStatus
state_found plan w state.UploadIdle = phase_to_clear w
state_found plan w state.Error = phase_with_step w place.Lost step.AskStatus

-- Phase after dfuERROR during a comparison. Any code ends the session, except errSTALLEDPKT, which reports an unexpected request.
abbrev pub phase_after_comparing_fault : Work → Code → Phase
phase_after_comparing_fault w code.StalledPkt = phase_with_step w place.Lost step.ClearStatus
phase_after_comparing_fault w c = Over (report.Refused c)

-- Phase after dfuERROR while the session clears the device. The work Erase clears any error, because it may come from an earlier session.
-- During any other work, errVENDOR ends the session, because it reports that the memory is protected. During a comparison, every other code
-- except errSTALLEDPKT also ends the session.
abbrev pub phase_after_fault : Work → Code → Phase
phase_after_fault (work.Erase at) c = phase_with_step (work.Erase at) place.Lost step.ClearStatus
phase_after_fault w code.Vendor = Over report.ReadProtected
phase_after_fault (work.Compare at) c = phase_after_comparing_fault (work.Compare at) c
phase_after_fault (work.CompareFront at) c = phase_after_comparing_fault (work.CompareFront at) c
phase_after_fault w c = phase_with_step w place.Lost step.ClearStatus

-- Phase after a status while the session clears the device.
abbrev pub status_found : Work → Code → (poll : ℕ) → State → Phase
status_found w c poll state.AppIdle = Over report.NotDfu
status_found w c poll state.AppDetach = Over report.NotDfu
status_found w c poll state.DfuIdle = phase_with_step w place.Lost step.AskState
status_found w c poll state.DownloadIdle = phase_to_clear w
status_found w c poll state.UploadIdle = phase_to_clear w
status_found w c poll state.Error = phase_after_fault w c
status_found w c poll s = phase_with_step w place.Lost (step.ClearWait poll)

-- Phase after ABORT while the session clears the device. Without an acknowledgement or a stall, the session sends ABORT again.
abbrev pub on_abort : Work → Heard → Phase
on_abort w heard.Acked = phase_with_step w place.Lost step.AskState
on_abort w heard.Stalled = phase_with_step w place.Lost step.AskState
on_abort w h = phase_to_clear w

-- Phase after GETSTATE while the session clears the device. After a stall the session requests the status.
abbrev pub on_ask_state : Plan → Work → Heard → Phase
on_ask_state plan w (heard.StateIs s) = state_found plan w s
on_ask_state plan w heard.Stalled = phase_with_step w place.Lost step.AskStatus
on_ask_state plan w h = phase_with_step w place.Lost step.AskState

-- Phase after GETSTATUS while the session clears the device. A stall means that the session requested the status too early.
abbrev pub on_ask_status : Work → Heard → Phase
on_ask_status w (heard.Told status) = status_found w status.code status.poll_ms status.state
on_ask_status w heard.Stalled = phase_with_step w place.Lost (step.ClearWait 100)
on_ask_status w h = phase_with_step w place.Lost step.AskStatus

-- Phase after a wait while the session clears the device. The session requests the state again.
abbrev pub on_clear_wait : Work → (ms : ℕ) → Heard → Phase
on_clear_wait w ms heard.Waited = phase_with_step w place.Lost step.AskState
on_clear_wait w ms h = phase_with_step w place.Lost (step.ClearWait ms)

-- ---- commands: a DNLOAD carries the command, and the next GETSTATUS starts it

-- Phase after the DNLOAD of a command. Without an acknowledgement, the session sends GETSTATE to find out if the command arrived.
abbrev pub on_send : Work → Place → Heard → Phase
on_send w p heard.Acked = phase_with_step w p (step.Poll 0)
on_send w p h = phase_with_step w p step.Probe

-- Phase after an unacknowledged command, if GETSTATE then returns this state. GETSTATE starts no command. A command that didn't arrive is
-- sent again.
abbrev pub probed : Plan → Work → Place → State → Phase
probed plan w p state.DownloadSync = phase_with_step w p (step.Poll 0)
probed plan w p state.DfuIdle = phase_with_step w p step.Send
probed plan w p state.DownloadIdle = phase_with_step w p step.Send
probed plan w p state.Error = phase_to_clear w
probed plan w p s = phase_if_unsure plan w (command_of plan w p)

-- Phase after GETSTATE, with which the session finds out if a command arrived. After a stall, the outcome of the command is unknown.
abbrev pub on_probe : Plan → Work → Place → Heard → Phase
on_probe plan w p (heard.StateIs s) = probed plan w p s
on_probe plan w p heard.Stalled = phase_if_unsure plan w (command_of plan w p)
on_probe plan w p h = phase_with_step w p step.Probe

-- Phase after a command that ended in dfuERROR. Most codes, even OK, end the session as Refused. errSTALLEDPKT reports an unexpected
-- request, so the outcome of the command is unknown. errVENDOR reports that the memory is protected.
abbrev pub phase_if_refused : Plan → Work → Place → Code → Phase
phase_if_refused plan w p code.StalledPkt = phase_if_unsure plan w (command_of plan w p)
phase_if_refused plan w p code.Vendor = Over report.ReadProtected
phase_if_refused plan w p c = Over (report.Refused c)

-- Phase after the status that follows a command. The command goes on, is done, is refused, or has an unknown outcome.
abbrev pub phase_after_poll : Plan → Work → Place → Code → (poll : ℕ) → State → Phase
phase_after_poll plan w p c poll state.DownloadSync = phase_with_step w p (step.PollWait poll)
phase_after_poll plan w p c poll state.DownloadBusy = phase_with_step w p (step.PollWait poll)
phase_after_poll plan w p c poll state.DownloadIdle = phase_after_command plan w (command_of plan w p)
phase_after_poll plan w p c poll state.Error = phase_if_refused plan w p c
phase_after_poll plan w p c poll s = phase_if_unsure plan w (command_of plan w p)

-- Milliseconds to wait after a stalled GETSTATUS: the length of the last wait for the command, or 100 before any wait.
abbrev pub stalled_ms : ℕ → ℕ
stalled_ms last = if last == 0 then 100 else last

-- Phase after GETSTATUS, with which the session starts a command or checks if it is done. After a stall the session waits.
abbrev pub on_poll : Plan → Work → Place → (last : ℕ) → Heard → Phase
on_poll plan w p last (heard.Told status) = phase_after_poll plan w p status.code status.poll_ms status.state
on_poll plan w p last heard.Stalled = phase_with_step w p (step.PollWait (stalled_ms last))
on_poll plan w p last h = phase_with_step w p (step.Poll last)

-- Phase after a wait for a command. The session requests the status again.
abbrev pub on_poll_wait : Work → Place → (ms : ℕ) → Heard → Phase
on_poll_wait w p ms heard.Waited = phase_with_step w p (step.Poll ms)
on_poll_wait w p ms h = phase_with_step w p (step.PollWait ms)

-- ---- reading back: UPLOAD returns bytes of the memory, and the session compares them with the image

-- Place after the device goes to dfuIDLE for reading. The pointer keeps its address.
abbrev pub place_with_reading_begun : Place → Place
place_with_reading_begun (place.At p) = place.Reading p
place_with_reading_begun p = p

-- Place after the device leaves dfuUPLOAD-IDLE. The pointer keeps its address.
abbrev pub place_with_reading_ended : Place → Place
place_with_reading_ended (place.Reading p) = place.At p
place_with_reading_ended p = p

-- Place after a step. An ABORT that begins or ends reading leaves the pointer at its address.
abbrev pub place_after_reading_abort : Step → Place → Place
place_after_reading_abort step.BeginReading p = place_with_reading_begun p
place_after_reading_abort step.EndReading p = place_with_reading_ended p
place_after_reading_abort s p = p

-- Phase after an ABORT that begins or ends reading. If the device acknowledges it, the work goes on at the next place.
abbrev pub on_reading_abort : Plan → Work → (p next : Place) → Step → Heard → Phase
on_reading_abort plan w p next s heard.Acked = settled_phase plan w next
on_reading_abort plan w p next s heard.Stalled = phase_to_clear w
on_reading_abort plan w p next s h = phase_with_step w p s

-- Phase after the ABORT that begins reading.
abbrev pub on_begin_reading : Plan → Work → Place → Heard → Phase
on_begin_reading plan w p h = on_reading_abort plan w p (place_with_reading_begun p) step.BeginReading h

-- Phase after the ABORT that ends reading.
abbrev pub on_end_reading : Plan → Work → Place → Heard → Phase
on_end_reading plan w p h = on_reading_abort plan w p (place_with_reading_ended p) step.EndReading h

-- Work after its next bytes were read back. A comparison goes on after these bytes, and other works stay unchanged.
abbrev pub read_on : Plan → Work → Work
read_on plan (work.Compare at) = work.Compare (read_end plan at (end_of_work plan (work.Compare at)))
read_on plan (work.CompareFront at) = work.CompareFront (read_end plan at (end_of_work plan (work.CompareFront at)))
read_on plan w = w

-- Phase after UPLOAD. If the bytes equal those of the image, the work goes on. If they differ, the session ends as Different.
abbrev pub on_read : Plan → Work → Place → Heard → Phase
on_read plan w p (heard.Compared true) = settled_phase plan (read_on plan w) p
on_read plan w p (heard.Compared false) = Over report.Different
on_read plan w p heard.Stalled = phase_to_clear w
on_read plan w p h = phase_with_step w p step.Read

-- ---- leaving: the leave request, a DNLOAD without bytes, makes the device start its application

-- Phase after the leave request.
abbrev pub on_close : Work → Place → Heard → Phase
on_close w p heard.Acked = phase_with_step w p step.ClosePoll
on_close w p h = phase_with_step w p step.CloseProbe

-- Phase after an unacknowledged leave request, if GETSTATE then returns this state.
abbrev pub close_probed : Work → Place → State → Phase
close_probed w p state.DfuIdle = phase_with_step w p step.Close
close_probed w p state.DownloadIdle = phase_with_step w p step.Close
close_probed w p state.Error = phase_to_clear w
close_probed w p s = phase_with_step w p step.ClosePoll

-- Phase after GETSTATE, with which the session finds out if the leave request arrived.
abbrev pub on_close_probe : Work → Place → Heard → Phase
on_close_probe w p (heard.StateIs s) = close_probed w p s
on_close_probe w p heard.Stalled = phase_with_step w p step.ClosePoll
on_close_probe w p h = phase_with_step w p step.CloseProbe

-- Phase after a leave request, if GETSTATUS then returns this code and state. With the code OK, dfuMANIFEST and dfuMANIFEST-WAIT-RESET mean
-- that the device leaves.
abbrev pub close_polled : Work → Place → Code → State → Phase
close_polled w p c state.DfuIdle = phase_with_step w p step.Close
close_polled w p c state.DownloadIdle = phase_with_step w p step.Close
close_polled w p c state.Error = phase_to_clear w
close_polled w p code.Ok state.Manifest = Over (report.Verified leaving.Left)
close_polled w p code.Ok state.ManifestWaitReset = Over (report.Verified leaving.Left)
close_polled w p c s = phase_with_step w p step.ClosePoll

-- Phase after GETSTATUS, with which the session finds out if the device leaves.
abbrev pub on_close_poll : Work → Place → Heard → Phase
on_close_poll w p (heard.Told status) = close_polled w p status.code status.state
on_close_poll w p h = phase_with_step w p step.ClosePoll

-- ---- the table: the row of each step

-- Phase after a result at a step of a work.
abbrev pub row : Plan → Work → Place → Step → Heard → Phase
row plan w p step.Abort h = on_abort w h
row plan w p step.AskState h = on_ask_state plan w h
row plan w p step.AskStatus h = on_ask_status w h
row plan w p (step.ClearWait ms) h = on_clear_wait w ms h
row plan w p step.ClearStatus h = phase_to_clear w
row plan w p step.Send h = on_send w p h
row plan w p step.Probe h = on_probe plan w p h
row plan w p (step.Poll last) h = on_poll plan w p last h
row plan w p (step.PollWait ms) h = on_poll_wait w p ms h
row plan w p step.BeginReading h = on_begin_reading plan w p h
row plan w p step.EndReading h = on_end_reading plan w p h
row plan w p step.Read h = on_read plan w p h
row plan w p step.Close h = on_close w p h
row plan w p step.CloseProbe h = on_close_probe w p h
row plan w p step.ClosePoll h = on_close_poll w p h
