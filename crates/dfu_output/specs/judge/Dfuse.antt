-- Lines about a departure from DfuSe. Each line ends with 0Ah.
use Rattle.std.specs.Prelude.{ℕ, List, [], ◌∷◌, ◌++◌, codes, if◌then◌else◌}
use Rattle.dfu_conformance.specs.declared.row.Row.{Row}
use Rattle.dfu_conformance.specs.declared.event.LogEvent.{LogEvent}
use Rattle.dfu_conformance.specs.declared.verdict.Departure.{Departure}
use Rattle.dfu_conformance.specs.declared.standard.TheConstants.{STANDARD}
use Rattle.dfu_conformance.specs.declared.habits.TheConstants.{HABITS}
use Rattle.dfu_conformance.specs.declared.dfuse.rows.TheConstants.{DFUSE}
use Rattle.dfu_conformance.specs.dfuse.Runs.{must_be_answered, of_dfuse}
use Rattle.dfu_output.specs.judge.Names.{event_kind_name}
use Rattle.dfu_output.specs.judge.Texts.{allowed_text, departure_first_line, texts_of_each}

-- Line of a row that applies to a DfuSe device and gives an allowed answer; empty for other rows.
abbrev pub dfuse_allowed_text : Departure → Row → List ℕ
dfuse_allowed_text d row = if of_dfuse row.when then allowed_text d row else []

-- Name of an event's request, or `other` if the request deviates from section 3 of USB DFU 1.1.
abbrev pub event_request_name : LogEvent → List ℕ
event_request_name e = if e.is_plain then event_kind_name e.asked else codes "other"

-- Line that allows the device to stall a request and keep its state.
abbrev pub may_stall_text : LogEvent → List ℕ
may_stall_text e = (codes "allowed any " ++ event_request_name e) ++ (codes " stall unchanged open" ++ 10 ∷ [])

-- Line that allows the device to stall a request and keep its state; empty if the device must answer the request.
abbrev pub stall_text_if_allowed : LogEvent → List ℕ
stall_text_if_allowed e = if must_be_answered e then [] else may_stall_text e

-- Lines about a departure from DfuSe. After the first line, there is a line for each row of the standard, of the habits and of DfuSe that
-- applies to a DfuSe device and gives an allowed answer. The last line allows a stall, unless the device must answer the request.
unfoldable pub dfuse_departure_text : (number : ℕ) → Departure → List ℕ
dfuse_departure_text n d =
    departure_first_line n d ++ texts_of_each (dfuse_allowed_text d) STANDARD ++ texts_of_each (dfuse_allowed_text d) HABITS
    ++ texts_of_each
    (dfuse_allowed_text d) DFUSE
    ++ stall_text_if_allowed d.event
