-- The lines that `dfu judge` prints. Each line ends with 0Ah.
use Rattle.std.specs.Prelude.{ℕ, ◌==◌, ◌&&◌, ◌||◌, Bool, false, List, [], ◌∷◌, ◌++◌, length, slice_index_or, codes, if◌then◌else◌}
use Rattle.std.specs.Fmt.{decimal}
use Rattle.std.specs.Int.{bit_at}
use Rattle.std.specs.List.{filter}
use Rattle.dfu_conformance.specs.declared.row.StandardState.{StandardState}
use Rattle.dfu_conformance.specs.declared.row.StandardState.TheVariants.{DfuIdle, Fresh}
use Rattle.dfu_conformance.specs.declared.row.Reading.{Reading}
use Rattle.dfu_conformance.specs.declared.row.Row.{Row}
use Rattle.dfu_conformance.specs.declared.event.LogEvent.{LogEvent}
use Rattle.dfu_conformance.specs.declared.verdict.Departure.{Departure}
use Rattle.dfu_conformance.specs.declared.verdict.Verdict.{Verdict}
use Rattle.dfu_conformance.specs.declared.verdict.Verdict.TheVariants.{Kept, KeptBy, NotKept}
use Rattle.dfu_conformance.specs.declared.standard.TheConstants.{STANDARD}
use Rattle.dfu_conformance.specs.RowMatches.{place_number, asks}
use Rattle.dfu_conformance.specs.Candidates.{reading_bit}
use Rattle.dfu_output.specs.declared.judge.names.TheConstants.{STATES, READINGS}
use Rattle.dfu_output.specs.judge.Names.{answer_name, event_kind_name, place_name, reading_name, source_name, when_name}

-- Texts of all elements of a list, joined in their order.
unfoldable pub texts_of_each : {X : Type 0} → (X → List ℕ) → List X → List ℕ
texts_of_each text [] = []
texts_of_each text (x ∷ xs) = text x ++ texts_of_each text xs

-- True if the device may be in this state. The state Fresh is dfuIDLE in the standard.
abbrev pub may_be_in_state : List Bool → StandardState → Bool
may_be_in_state at DfuIdle = slice_index_or at (place_number DfuIdle) false || slice_index_or at (place_number Fresh) false
may_be_in_state at p = slice_index_or at (place_number p) false

-- Name of a state in which the device may be, with a space before it; empty for other states.
abbrev pub spaced_state : List Bool → StandardState → List ℕ
spaced_state at p = if may_be_in_state at p then codes " " ++ place_name p else []

-- Names of the states in which a device may be, in the order of their numbers.
abbrev pub states_text : List Bool → List ℕ
states_text at = texts_of_each (spaced_state at) STATES

-- True if the device may be in exactly one state.
unfoldable pub is_single : List Bool → Bool
is_single at = length (filter (may_be_in_state at) STATES) == 1

-- Name of a habit in the set, with a space before it; empty for other habits.
abbrev pub reading_text : (readings : ℕ) → Reading → List ℕ
reading_text r reading = if bit_at r (reading_bit reading) == 1 then codes " " ++ reading_name reading else []

-- Names of the habits in a set, in the order of their numbers.
abbrev pub readings_text : (readings : ℕ) → List ℕ
readings_text r = texts_of_each (reading_text r) READINGS

-- Line of a row: `allowed STATE REQUEST ANSWER STATE SOURCE`, and a word at the end if the row doesn't apply to every device.
unfoldable pub row_line : Row → List ℕ
row_line row =
    codes "allowed " ++ place_name row.from ++ (codes " " ++ event_kind_name row.asked) ++ (codes " " ++ answer_name row.gives)
    ++ (codes " " ++ place_name row.next) ++ (codes " " ++ source_name row.source) ++ when_name row.when ++ 10 ∷ []

-- True if the row gives an answer that was allowed at the departure: it begins in a state in which the device might be, and applies to the
-- event.
abbrev pub gives_allowed_answer : Departure → Row → Bool
gives_allowed_answer d row = slice_index_or d.before (place_number row.from) false && asks row.asked d.event

-- Line of a row that gives an allowed answer; empty for other rows.
abbrev pub allowed_text : Departure → Row → List ℕ
allowed_text d row = if gives_allowed_answer d row then row_line row else []

-- Line that allows a device to stall a request that deviates from section 3 of USB DFU 1.1, and to keep its state; empty for other
-- requests.
abbrev pub stall_unchanged_text : LogEvent → List ℕ
stall_unchanged_text e = if e.is_plain then [] else codes "allowed any other stall unchanged open" ++ 10 ∷ []

-- First line of a departure: `departs LINE REQUEST in STATE..`, with the number of the log's line and the states in which the device might
-- be.
unfoldable pub departure_first_line : (number : ℕ) → Departure → List ℕ
departure_first_line n d =
    codes "departs " ++ decimal n ++ (codes " " ++ event_kind_name d.event.asked) ++ codes " in" ++ states_text d.before ++ 10 ∷ []

-- Lines of a departure: the first line, a line for each row that gives an allowed answer, and `stall_unchanged_text` for the event.
unfoldable pub departure_text : (number : ℕ) → Departure → List ℕ
departure_text n d = departure_first_line n d ++ texts_of_each (allowed_text d) STANDARD ++ stall_unchanged_text d.event

-- Text with the number of events and the number of events after which a single state was possible.
abbrev pub counts_text : (events single : ℕ) → List ℕ
counts_text events single = codes " events " ++ decimal events ++ (codes " single " ++ decimal single)

-- Line of a verdict: `kept events N single N states STATE..`, `kept by HABIT.. events N single N states STATE..`, or `not kept events N
-- single N`.
unfoldable pub verdict_text : Verdict → (at : List Bool) → (events single : ℕ) → List ℕ
verdict_text Kept at events single = codes "kept" ++ counts_text events single ++ (codes " states" ++ states_text at) ++ 10 ∷ []
verdict_text (KeptBy r) at events single =
    codes "kept by" ++ readings_text r ++ counts_text events single ++ (codes " states" ++ states_text at) ++ 10 ∷ []
verdict_text NotKept at events single = codes "not kept" ++ counts_text events single ++ 10 ∷ []
