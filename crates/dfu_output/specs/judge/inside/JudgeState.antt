-- State of judging a log, as the program keeps it in memory.
use Rattle.std.specs.Prelude.{◌≡◌, ℕ, ◌+◌, List, [], ◌++◌, length, Option, Some, None}
use Rattle.std.specs.Io.KnownBytes.{Appends}
use Rattle.dfu_conformance.specs.declared.event.LogEvent.{LogEvent}
use Rattle.dfu_conformance.specs.declared.verdict.Departure.{Departure}
use Rattle.dfu_conformance.specs.MayAnswer.{CandidatesExact, PlainCandidatesExact}
use Rattle.dfu_output.specs.judge.Course.{LogCourse, EventLeadsTo, CourseOfText}
use Rattle.dfu_output.specs.judge.Lines.{LinesState}
use Rattle.dfu_output.specs.judge.Texts.{departure_text}

-- State of judging: the candidate devices for all events and for those since the last departure, the reader of lines, and the counts of
-- events.
pub record JudgingState : Type 0 where
  -- Candidate devices that may have answered all events.
  pub whole : List (List ℕ)
  -- Candidate devices without habits that may have answered the events since the last departure.
  pub since : List (List ℕ)
  -- State of the reader of lines.
  pub lines : LinesState
  -- Number of events.
  pub events : ℕ
  -- Number of events after which a single state was possible.
  pub single : ℕ

-- `s` is the state after judging `text`, whose course is `c`.
pub record IsStateAfter (s : JudgingState) (text : List ℕ) (c : LogCourse) : Type 0 where
  -- The candidates for all events are exact.
  pub whole : CandidatesExact s.whole c.events
  -- The candidates without habits for the events since the last departure are exact.
  pub since : PlainCandidatesExact s.since c.since
  -- State and course have the same open line.
  pub line : s.lines.line ≡ c.line
  -- The log's remaining room and the length of the text add up to the limit of a log.
  pub room : s.lines.room + length text ≡ 1099511627776
  -- State and course have the same number of lines that have ended.
  pub number : s.lines.number ≡ c.number
  -- The state counts all events of the course.
  pub events : s.events ≡ length c.events
  -- State and course have the same number of events with a single state.
  pub single : s.single ≡ c.single

-- Lines of a departure; empty if there is none.
abbrev pub departure_text_if_any : (number : ℕ) → Option Departure → List ℕ
departure_text_if_any n None = []
departure_text_if_any n (Some d) = departure_text n d

-- The event leads from the course `c` to the next course, and `s` is the state after it. If the event is a departure, its lines are added
-- to the printed text.
pub record LogEventResult (text : List ℕ) (c : LogCourse) (event : LogEvent) (departure : Option Departure) (s : JudgingState) : Type 0 where
  -- Course after the event.
  pub next : LogCourse
  -- The event leads to this course.
  pub comes : EventLeadsTo c event next
  -- `s` is the state after the event.
  pub at : IsStateAfter s text next
  -- The lines of the departure, if there is one, are added to the printed text.
  pub out : next.out ≡ c.out ++ departure_text_if_any s.lines.number departure

-- A text was judged, and `s` is the state after it. The printed text is that of the course `c`, followed by the lines of the departure if
-- there is one.
pub record JudgedText (interface : ℕ) (text : List ℕ) (c : LogCourse) (departure : Option Departure) (s : JudgingState) : Type 0 where
  -- Course after the text.
  pub next : LogCourse
  -- Judging the text leads to this course.
  pub judged : CourseOfText interface text next
  -- `s` is the state after the text.
  pub at : IsStateAfter s text next
  -- The printed text is that of `c`, followed by the lines of the departure if there is one.
  pub out : next.out ≡ c.out ++ departure_text_if_any s.lines.number departure

-- A text was judged, `s` is the state after it, and its departures are written.
pub record JudgedSoFar (interface : ℕ) (old new : Option (List ℕ)) (text : List ℕ) (s : JudgingState) : Type 0 where
  -- Course after the text.
  pub course : LogCourse
  -- Judging the text leads to this course.
  pub judged : CourseOfText interface text course
  -- `s` is the state after the text.
  pub at : IsStateAfter s text course
  -- The printed text is written.
  pub out : Appends old new course.out
