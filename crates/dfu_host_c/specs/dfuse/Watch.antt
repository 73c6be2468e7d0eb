-- Watch over a DfuSe device that doesn't answer, leaves, or returns as another device. Actions and results have the numbers of a DFU
-- session: action 0 is a request, result 3 means no answer, and result 7 a device that left by itself.
use Rattle.std.specs.Prelude.{ℕ, ◌==◌, ◌&&◌, ◌||◌, not, nat_lt, nat_le, Bool, slice_index, if◌then◌else◌}
use Rattle.dfu_host_c.specs.Watch.{c_number_of_bool, capped_count, is_c_true}
use Rattle.dfu_host_c.specs.declared.watch.DfuFacts.{DfuFacts}
use Rattle.dfu_host_c.specs.declared.dfuse.action.DfuseAction.{DfuseAction}
use Rattle.dfu_host_c.specs.declared.dfuse.session.DfuseSession.{DfuseSession}
use Rattle.dfu_host_c.specs.declared.dfuse.watch.DfuseWatch.{DfuseWatch}

-- True if the session sends, or has sent, the DNLOAD of 0 bytes that makes the device leave and start the application. Work 6 is Leave,
-- with the last steps 12 Close, 13 CloseProbe and 14 ClosePoll.
abbrev pub is_closing : DfuseSession → Bool
is_closing session = (session.work == 6) && nat_le 12 session.step

-- True if the action is a request that reached the device.
abbrev pub is_dfuse_request_out : DfuseAction → DfuFacts → Bool
is_dfuse_request_out action facts = (action.what == 0) && is_c_true facts.reached

-- True if the action's setup packet is GETSTATUS: bRequest 3, from the device.
abbrev pub is_status : DfuseAction → Bool
is_status action = (slice_index action.setup 0 == 161) && (slice_index action.setup 1 == 3)

-- True if the action is a DNLOAD of at least one byte that may change the memory. It does so if its block number isn't 0, because it is
-- data then, or if its first byte is command 41h, which erases.
abbrev pub may_change_memory : DfuseAction → (command : ℕ) → Bool
may_change_memory action command = (action.what == 0) && ((slice_index action.setup 0 == 33) && ((slice_index action.setup 1 == 1)
    && (nat_lt 0 action.length
    && (not (slice_index action.setup 2 == 0) || (not (slice_index action.setup 3 == 0) || (command == 65))))))

-- Number of requests in a row that reached the device and had no answer, after an action, counted up to 24. An action that is not a
-- request, or didn't reach the device, neither counts nor resets the number to 0.
abbrev pub dfuse_silent_after : DfuseWatch → DfuseAction → (seen : ℕ) → DfuFacts → ℕ
dfuse_silent_after watch action seen facts =
    if not (is_dfuse_request_out action facts) then watch.silent
    else if seen == 3 then capped_count watch.silent 24
    else 0

-- Record of the watch after an action. Any request that reached the device, except GETSTATUS, resets the number of waits to 0. The memory
-- counts as changed once an action could change it, even if the action didn't reach the device.
abbrev pub dfuse_watch_after_action : DfuseWatch → DfuseAction → (command seen : ℕ) → DfuFacts → DfuseWatch
dfuse_watch_after_action watch action command seen facts = record {
  silent = dfuse_silent_after watch action seen facts;
  waits = if is_dfuse_request_out action facts && not (is_status action) then 0 else watch.waits;
  sent = c_number_of_bool (is_c_true watch.sent || may_change_memory action command);
}

-- True if a device that must leave counts as gone after a request: another device is open, the device is gone, it left by itself, or at
-- least three requests in a row had no answer. It never counts as gone after a wait.
abbrev pub is_gone_while_closing : DfuseWatch → DfuseAction → (seen : ℕ) → DfuFacts → Bool
is_gone_while_closing watch action seen facts = (action.what == 0)
    && ((is_c_true facts.open && (facts.again == 0)) || (is_c_true facts.gone || ((seen == 7) || nat_le 3 watch.silent)))

-- Course of the program, by the first case that holds:
-- - A device that must leave counts as gone: 8, to report a restart.
-- - The device is gone: 9, to report nothing, if the user has stopped the session; else 3 if it returned with several settings, else 2.
-- - The device need not leave, and 24 requests in a row had no answer: 4.
-- - The device need not leave, and another device is open: 5.
-- - Else 0.
abbrev pub dfuse_course : DfuseWatch → DfuseSession → DfuseAction → (seen : ℕ) → DfuFacts → ℕ
dfuse_course watch session action seen facts =
    if is_closing session && is_gone_while_closing watch action seen facts then 8
    else if is_c_true facts.gone then (if is_c_true facts.stopped then 9 else if is_c_true facts.many then 3 else 2)
    else if not (is_closing session) && nat_le 24 watch.silent then 4
    else if not (is_closing session) && (is_c_true facts.open && (facts.again == 0)) then 5
    else 0

-- Number of waits of 0 ms in a row, after a wait of `ms` milliseconds, counted up to 4.
abbrev pub dfuse_waits_after_wait : DfuseWatch → (ms : ℕ) → ℕ
dfuse_waits_after_wait watch ms = if ms == 0 then capped_count watch.waits 4 else 0

-- Milliseconds that the program waits if the session requests `ms`: 5 from the fourth wait of 0 ms in a row on, else `ms`.
abbrev pub dfuse_wait_length : DfuseWatch → (ms : ℕ) → ℕ
dfuse_wait_length watch ms = if nat_lt 3 watch.waits then 5 else ms
