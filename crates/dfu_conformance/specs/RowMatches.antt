-- Tests that a row of a table fits an event.
use Rattle.std.specs.Prelude.{ℕ, ◌==◌, ◌&&◌, ◌||◌, nat_lt, min, Bool, true, false, not}
use Rattle.dfu_conformance.specs.declared.row.StandardState.{StandardState}
use Rattle.dfu_conformance.specs.declared.row.StandardState.TheVariants.{AppIdle, AppDetach, DfuIdle, DownloadSync, DownloadBusy, DownloadIdle, ManifestSync, Manifest, ManifestWaitReset, UploadIdle, Error, Fresh}
use Rattle.dfu_conformance.specs.declared.row.EventKind.{EventKind}
use Rattle.dfu_conformance.specs.declared.row.EventKind.TheVariants.{Detach, Block, Close, Upload, GetStatus, ClrStatus, GetState, Abort, Other, Reset, Power}
use Rattle.dfu_conformance.specs.declared.row.Gives.{Gives}
use Rattle.dfu_conformance.specs.declared.row.Gives.TheVariants as gives
use Rattle.dfu_conformance.specs.declared.row.Row.{Row}
use Rattle.dfu_conformance.specs.declared.event.Response.{Response}
use Rattle.dfu_conformance.specs.declared.event.Response.TheVariants as answer
use Rattle.dfu_conformance.specs.declared.event.LogEvent.{LogEvent}

-- Index of a state in the list of all twelve.
abbrev pub place_number : StandardState → ℕ
place_number AppIdle = 0
place_number AppDetach = 1
place_number DfuIdle = 2
place_number DownloadSync = 3
place_number DownloadBusy = 4
place_number DownloadIdle = 5
place_number ManifestSync = 6
place_number Manifest = 7
place_number ManifestWaitReset = 8
place_number UploadIdle = 9
place_number Error = 10
place_number Fresh = 11

-- bState that a device reports in a state. In `Fresh`, a device reports dfuIDLE, which is 2.
abbrev pub bstate_of_place : StandardState → ℕ
bstate_of_place Fresh = 2
bstate_of_place p = place_number p

-- Index of a kind of event in the list of all eleven.
abbrev pub event_kind_number : EventKind → ℕ
event_kind_number Detach = 0
event_kind_number Block = 1
event_kind_number Close = 2
event_kind_number Upload = 3
event_kind_number GetStatus = 4
event_kind_number ClrStatus = 5
event_kind_number GetState = 6
event_kind_number Abort = 7
event_kind_number Other = 8
event_kind_number Reset = 9
event_kind_number Power = 10

-- A row for `asked` applies to the event. A device may also treat a request that is not well-formed by section 3 as `Other`.
abbrev pub asks : EventKind → LogEvent → Bool
asks asked e = (event_kind_number asked == event_kind_number e.asked)
    || (not e.is_plain && (event_kind_number asked == event_kind_number Other))

-- A device that enters the state may report this status code: OK outside dfuERROR, and 1 to 15 in dfuERROR.
abbrev pub has_code : StandardState → ℕ → Bool
has_code Error code = nat_lt 0 code && nat_lt code 16
has_code p code = code == 0

-- A row from `from` to `next` with this answer allows bytes with this count, first byte and fifth byte, if `len` bytes were requested.
abbrev pub answer_allows_bytes : Gives → (from next : StandardState) → (len count first fifth : ℕ) → Bool
answer_allows_bytes gives.Silent from next len count first fifth = true
answer_allows_bytes gives.Stall from next len count first fifth = false
answer_allows_bytes gives.Ack from next len count first fifth = count == 0
answer_allows_bytes gives.Full from next len count first fifth = count == len
answer_allows_bytes gives.Short from next len count first fifth = nat_lt count len || ((count == 0) && (len == 0))
answer_allows_bytes gives.State from next len count first fifth = (count == min len 1) && ((count == 0) || (first == bstate_of_place from))
answer_allows_bytes gives.Status from next len count first fifth =
    (count == min len 6) && (((count == 0) || has_code next first) && (nat_lt count 5 || (fifth == bstate_of_place next)))
answer_allows_bytes gives.NoCode from next len count first fifth =
    (count == min len 6) && (((count == 0) || (first == 0)) && (nat_lt count 5 || (fifth == bstate_of_place next)))

-- A row with this answer allows a stall.
abbrev pub answer_allows_stall : Gives → Bool
answer_allows_stall gives.Stall = true
answer_allows_stall gives.Silent = true
answer_allows_stall g = false

-- The logged answer is one that a row with answer `g` allows. If the log has no answer, the device may have given any.
abbrev pub answer_matches : Gives → (from next : StandardState) → ℕ → Response → Bool
answer_matches g from next len answer.Nothing = true
answer_matches g from next len answer.Stall = answer_allows_stall g
answer_matches g from next len (answer.Bytes count first fifth) = answer_allows_bytes g from next len count first fifth

-- The row fits the event: it is for this kind of event, and allows the logged answer.
abbrev pub row_fits : Row → LogEvent → Bool
row_fits row e = asks row.asked e && answer_matches row.gives row.from row.next e.length e.answer

-- A device may stay in its state if the log has no answer, or if it stalled a request that it may stall (`plain` is false).
abbrev pub may_stay_by_answer : Bool → Response → Bool
may_stay_by_answer plain answer.Nothing = true
may_stay_by_answer plain answer.Stall = not plain
may_stay_by_answer plain (answer.Bytes count first fifth) = false

-- A device may stay in its state if the log has no answer, because the request may not have arrived, or if it stalled a request that is not
-- well-formed by section 3.
abbrev pub may_stay_at_event : LogEvent → Bool
may_stay_at_event e = may_stay_by_answer e.is_plain e.answer
