-- Judging a log one byte at a time.
use Rattle.std.specs.Prelude.{◌≡◌, ◌≢◌, ℕ, ◌+◌, ◌<◌, List, [], ◌∷◌, ◌++◌, length, Bool, Some, cond}
use Rattle.dfu_conformance.specs.declared.event.LogEvent.{LogEvent}
use Rattle.dfu_conformance.specs.declared.verdict.Departure.{Departure}
use Rattle.dfu_conformance.specs.declared.log.Line.TheVariants.{Blank, Elsewhere, Came}
use Rattle.dfu_conformance.specs.Line.{LineMeaning}
use Rattle.dfu_conformance.specs.MayAnswer.{CanAnswer}
use Rattle.dfu_conformance.specs.Verdict.{ArePlacesAfter}
use Rattle.dfu_output.specs.judge.Texts.{departure_text, is_single}

-- Course of judging a log up to a byte: the lines that have ended, the bytes of the open line, the events, and the text printed so far.
pub record LogCourse : Type 0 where
  -- Number of lines that have ended.
  pub number : ℕ
  -- Bytes of the open line.
  pub line : List ℕ
  -- All events.
  pub events : List LogEvent
  -- Events since the last departure, or since the start if no departure has occurred.
  pub since : List LogEvent
  -- Number of events after which the device could be in a single state only.
  pub single : ℕ
  -- Text printed so far, which consists of the lines of the departures.
  pub out : List ℕ

-- Course before the first byte.
abbrev pub course_at_start : LogCourse
course_at_start = record { number = 0; line = []; events = []; since = []; single = 0; out = [] }

-- Course after the open line has ended. The line is counted, and the next line is empty. Its event is handled later.
abbrev pub course_after_line : LogCourse → LogCourse
course_after_line c = record c { number = c.number + 1; line = [] }

-- Course after an event that a device without habits may have answered, like all events since the last departure. `single` counts the event
-- if the device can be in a single state only.
abbrev pub course_after_event : LogCourse → LogEvent → List Bool → LogCourse
course_after_event c e at = record c { events = c.events ++ e ∷ []; since = c.since ++ e ∷ []; single = c.single + cond (is_single at) 1 0 }

-- Course after a departure. Its lines are printed, and its event is added to all events. The list of events since the last departure is
-- emptied, because the device's state is no longer known.
abbrev pub course_after_departure : LogCourse → Departure → LogCourse
course_after_departure c d = record c { events = c.events ++ d.event ∷ []; since = []; out = c.out ++ departure_text c.number d }

-- The event `e` of the line that has just ended leads from the course `c` to the next one. Either a device without habits may have answered
-- all events since the last departure including this one, or the event is a departure.
pub data EventLeadsTo (c : LogCourse) (e : LogEvent) : LogCourse → Type 0 where
  -- A device without habits may have answered the event. `at` lists the states in which such a device may be afterwards.
  goes_on : (at : List Bool) → CanAnswer 0 (c.since ++ e ∷ []) → ArePlacesAfter 0 (c.since ++ e ∷ []) at
      → EventLeadsTo c e (course_after_event c e at)
  -- No device without habits may have answered all events since the last departure including this one, so the event is a departure.
  departs : (d : Departure) → d.event ≡ e → (CanAnswer 0 (c.since ++ e ∷ []) → ⊥) → ArePlacesAfter 0 c.since d.before
      → EventLeadsTo c e (course_after_departure c d)

-- The end of the open line leads from the course `c` to the next one. The line is blank, concerns another interface or class, or contains
-- an event.
pub data LineEndLeadsTo (interface : ℕ) (c : LogCourse) : LogCourse → Type 0 where
  -- The line is empty or holds a comment.
  line_says_nothing : LineMeaning interface c.line (Some Blank) → LineEndLeadsTo interface c (course_after_line c)
  -- The line contains a request to another interface, or a request that isn't a class request.
  line_is_for_another : LineMeaning interface c.line (Some Elsewhere) → LineEndLeadsTo interface c (course_after_line c)
  -- The line contains an event, which determines the next course.
  line_says_event : {d : LogCourse} (e : LogEvent) → LineMeaning interface c.line (Some (Came e)) → EventLeadsTo (course_after_line c) e d →
      LineEndLeadsTo interface c d

-- Course of judging a text. Each byte is added to the open line, which has at most 262,158 bytes, and each 0Ah ends the line.
pub data CourseOfText (interface : ℕ) : List ℕ → LogCourse → Type 0 where
  -- Before the first byte, nothing is judged.
  begins : CourseOfText interface [] course_at_start
  -- A byte other than 0Ah is added to the open line, which still has room.
  goes : {text : List ℕ} {c : LogCourse} (byte : ℕ) → CourseOfText interface text c → byte ≢ 10 → length c.line < 262158
      → CourseOfText interface (text ++ byte ∷ []) (record c { line = c.line ++ byte ∷ [] })
  -- 0Ah ends the open line.
  ends : {text : List ℕ} {c d : LogCourse} → CourseOfText interface text c → LineEndLeadsTo interface c d
      → CourseOfText interface (text ++ 10 ∷ []) d
