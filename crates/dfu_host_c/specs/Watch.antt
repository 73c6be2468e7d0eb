-- Watch over a device that stalls, doesn't answer, leaves, or returns as another device. A course is the number of a decision: to continue,
-- to begin another session, or to end the session for a reason. The numbers are those of dfu_host.h and dfu_watch.h. Actions: 0 a request,
-- 1 a wait, 2 a reset of the bus, 3 none, because the session is over. Results: 0 the device acknowledged the request, 1 it answered with
-- bytes, 2 it stalled, 3 the action was not finished, 4 the wait is over, 5 the bus was reset, 6 the device was restarted, 7 the device
-- left by itself.
use Rattle.std.specs.Prelude.{ℕ, suc, ◌==◌, ◌&&◌, ◌||◌, not, nat_lt, nat_le, Bool, slice_index, if◌then◌else◌}
use Rattle.dfu_host_core.specs.declared.action.DfuAction.{DfuAction}
use Rattle.dfu_host_c.specs.declared.watch.DfuWatch.{DfuWatch}
use Rattle.dfu_host_c.specs.declared.watch.DfuFacts.{DfuFacts}

-- True for every number from C other than 0.
abbrev pub is_c_true : ℕ → Bool
is_c_true number = not (number == 0)

abbrev pub c_number_of_bool : Bool → ℕ
c_number_of_bool answer = if answer then 1 else 0

-- The action is a request with the bmRequestType `kind` (33 to the device, 161 from it) and the bRequest `request`.
abbrev pub is_request : (kind request : ℕ) → DfuAction → Bool
is_request kind request action = (action.what == 0) && ((slice_index action.setup 0 == kind) && (slice_index action.setup 1 == request))

-- True for a DNLOAD (bRequest 1), which sends a block or closes a download.
abbrev pub is_download : DfuAction → Bool
is_download action = is_request 33 1 action

-- True for a DNLOAD or an UPLOAD (bRequest 2).
abbrev pub is_image_transfer : DfuAction → Bool
is_image_transfer action = is_download action || is_request 161 2 action

-- The count plus one if it is below `most`, else the count.
abbrev pub capped_count : (number most : ℕ) → ℕ
capped_count number most = if nat_lt number most then suc number else number

-- Course before the session's next action: 7 for a DNLOAD or an UPLOAD if the session uses another descriptor than the device's own; 6 for
-- the fourth reset in a row that follows only stalls; else 0.
abbrev pub course_before : DfuWatch → DfuAction → (by_another : ℕ) → ℕ
course_before watch action by_another =
    if is_c_true by_another && is_image_transfer action then 7
    else if (action.what == 2) && (is_c_true watch.stalled && nat_le 3 watch.resets) then 6
    else 0

-- 1 if the program must send a DETACH before the next reset, because the device stalled the last request in run-time mode and no reset
-- followed a stall yet; else 0.
abbrev pub detach_number : DfuWatch → ℕ
detach_number watch = c_number_of_bool (is_c_true watch.stalled && (watch.resets == 0))

-- True if the action is a request that reached the device.
abbrev pub is_request_out : DfuAction → DfuFacts → Bool
is_request_out action facts = (action.what == 0) && is_c_true facts.reached

-- Number of requests and resets in a row that were not finished, after an action, counted up to 24. Any other action neither counts nor
-- resets the number to 0.
abbrev pub silent_after : DfuWatch → DfuAction → (seen : ℕ) → ℕ
silent_after watch action seen =
    if not (action.what == 0) && not (action.what == 2) then watch.silent
    else if seen == 3 then capped_count watch.silent 24
    else 0

-- Number of resets in a row that follow only stalls, after an action, counted up to 3. A reset that was done counts if the request before
-- it was stalled in run-time mode. A request that reached the device sets the number to 0 if the device is in DFU mode, or acknowledged the
-- request, or answered it with bytes.
abbrev pub resets_after : DfuWatch → DfuAction → (seen : ℕ) → DfuFacts → ℕ
resets_after watch action seen facts =
    if is_request_out action facts && (is_c_true facts.upgrade || ((seen == 0) || (seen == 1))) then 0
    else if (action.what == 2) && (is_c_true watch.stalled && (seen == 5)) then capped_count watch.resets 3
    else watch.resets

-- True if the device stalled, in run-time mode, the last request that reached it.
abbrev pub stalled_after : DfuWatch → DfuAction → (seen : ℕ) → DfuFacts → Bool
stalled_after watch action seen facts =
    if is_request_out action facts then (seen == 2) && not (is_c_true facts.upgrade) else is_c_true watch.stalled

-- Record of the watch after an action. A DNLOAD counts as sent if it reached the device.
abbrev pub watch_after_action : DfuWatch → DfuAction → (seen : ℕ) → DfuFacts → DfuWatch
watch_after_action watch action seen facts = record {
  silent = silent_after watch action seen;
  resets = resets_after watch action seen facts;
  stalled = c_number_of_bool (stalled_after watch action seen facts);
  sent = c_number_of_bool (is_c_true watch.sent || (is_request_out action facts && is_download action));
  anew = watch.anew;
}

-- True if the open device is not the session's. Once a DNLOAD was sent, a device in run-time mode may run another image, so its identity is
-- not compared.
abbrev pub is_other_device : DfuWatch → DfuFacts → Bool
is_other_device watch facts = is_c_true facts.open && ((facts.again == 0) && (is_c_true facts.upgrade || (watch.sent == 0)))

-- Course of the program, by the first case that holds. If the device is gone and the user hasn't stopped the session: 3 if it returned with
-- several settings, else 2. If 24 requests and resets in a row were not finished: 4. If another device is open: 5. If the device is open in
-- DFU mode with another functional descriptor than the session began with: 1, to begin another session, or 5 if a DNLOAD was sent or
-- another session was begun already. Else 0.
abbrev pub course_after : DfuWatch → DfuFacts → ℕ
course_after watch facts =
    if is_c_true facts.gone && (facts.stopped == 0) then (if is_c_true facts.many then 3 else 2)
    else if nat_le 24 watch.silent then 4
    else if is_other_device watch facts then 5
    else if is_c_true facts.open && (is_c_true facts.upgrade && (facts.same == 0)) then (if is_c_true watch.sent || is_c_true watch.anew
    then 5 else 1)
    else 0

-- Record of the watch after a course. Course 1 records that another session was begun; any other course changes nothing.
abbrev pub watch_after_course : (result : ℕ) → DfuWatch → DfuWatch
watch_after_course result watch = if result == 1 then record {
  silent = watch.silent;
  resets = watch.resets;
  stalled = watch.stalled;
  sent = watch.sent;
  anew = 1;
} else watch
