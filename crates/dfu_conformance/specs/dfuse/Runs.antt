-- Answers that a DfuSe device may give, by the rows of USB DFU 1.1, of the habits and of `src/dfuse/rows.rt`.
use Rattle.std.specs.Prelude.{◌≡◌, ◌⊎◌, ℕ, ◌&&◌, Bool, true, false, List, [], ◌∷◌}
use Rattle.dfu_conformance.specs.declared.row.StandardState.{StandardState}
use Rattle.dfu_conformance.specs.declared.row.EventKind.{EventKind}
use Rattle.dfu_conformance.specs.declared.row.EventKind.TheVariants.{GetStatus, GetState}
use Rattle.dfu_conformance.specs.declared.event.LogEvent.{LogEvent}
use Rattle.dfu_conformance.specs.declared.standard.TheConstants.{STANDARD}
use Rattle.dfu_conformance.specs.declared.marks.TheConstants.{MARKS}
use Rattle.dfu_conformance.specs.declared.habits.TheConstants.{HABITS}
use Rattle.dfu_conformance.specs.declared.row.Row.{Row}
use Rattle.dfu_conformance.specs.declared.row.When.{When}
use Rattle.dfu_conformance.specs.RowMatches.{may_stay_by_answer}
use Rattle.dfu_conformance.specs.Candidates.{applies_to}
use Rattle.dfu_conformance.specs.MayAnswer.{RowStep, MayMove}
use Rattle.dfu_conformance.specs.declared.dfuse.rows.TheConstants.{DFUSE}

-- bmAttributes of a DfuSe device: it can download and upload, isn't manifestation tolerant, and detaches by itself.
abbrev pub dfuse_attributes : ℕ
dfuse_attributes = 0x0b

-- The habits that a DfuSe device may have: Bootloader, RuntimeMute, SelfReset and DetachAtOnce.
abbrev pub dfuse_habits : ℕ
dfuse_habits = 0x0f

-- A row or a move with this `when` applies to a DfuSe device.
abbrev pub of_dfuse : When → Bool
of_dfuse when = applies_to when dfuse_attributes dfuse_habits

-- At the event, a row of the list leads a DfuSe device from state `from` to state `next`.
abbrev pub DfuseRowStep : List Row → StandardState → LogEvent → StandardState → Type 0
DfuseRowStep rows from e next = RowStep rows dfuse_attributes dfuse_habits from e next

-- Between two events, a DfuSe device stays in its state or makes one move by itself.
abbrev pub DfuseMayMove : StandardState → StandardState → Type 0
DfuseMayMove from next = MayMove dfuse_attributes dfuse_habits from next

-- The request reports the state of the device: GETSTATUS or GETSTATE.
abbrev pub reports_place : EventKind → Bool
reports_place GetStatus = true
reports_place GetState = true
reports_place asked = false

-- A device must answer the request: a GETSTATUS or GETSTATE that is well-formed by section 3 of USB DFU 1.1.
abbrev pub must_be_answered : LogEvent → Bool
must_be_answered e = e.is_plain && reports_place e.asked

-- A device may stay in its state if the log has no answer, because the request may not have arrived, or if it stalled a request that it
-- need not answer.
abbrev pub dfuse_may_stay_at_event : LogEvent → Bool
dfuse_may_stay_at_event e = may_stay_by_answer (must_be_answered e) e.answer

-- The event may lead a DfuSe device from state `from` to state `next` by a row of USB DFU 1.1, of a habit or of DfuSe, or the device may
-- stay.
abbrev pub DfuseMayAnswer : StandardState → LogEvent → StandardState → Type 0
DfuseMayAnswer from e next =
    DfuseRowStep STANDARD from e next ⊎ DfuseRowStep MARKS from e next ⊎ DfuseRowStep HABITS from e next ⊎ DfuseRowStep DFUSE from e next
    ⊎ ((next ≡ from) × (dfuse_may_stay_at_event e ≡ true))

-- A run of a DfuSe device through the events, from state `from` to state `last`. Before each event, and at the end, the device stays or
-- moves by itself. At each event, the device goes to a state to which the event may lead it.
abbrev pub DfuseRun : StandardState → List LogEvent → StandardState → Type 0
DfuseRun from [] last = DfuseMayMove from last
DfuseRun from (e ∷ events) last =
    (here : StandardState) × (next : StandardState) × DfuseMayMove from here × DfuseMayAnswer here e next × DfuseRun next events last

-- A DfuSe device that began in some state may be in this state after the events.
abbrev pub DfuseMayBeAt : List LogEvent → StandardState → Type 0
DfuseMayBeAt events last = (from : StandardState) × DfuseRun from events last

-- A DfuSe device may have given the answers of the events.
abbrev pub DfuseCanAnswer : List LogEvent → Type 0
DfuseCanAnswer events = (last : StandardState) × DfuseMayBeAt events last
