-- Judging one more byte of a log: if the byte ends a line with an event, the event continues the course or is a departure.
use Rattle.std.specs.Prelude.{◌≡◌, ℕ, ◌+◌, ◌<◌, ◌≤◌, ◌||◌, List, [], ◌∷◌, ◌++◌, length, Bool, true, false, Option, Some, None, cond}
use Rattle.std.proofs.Common.{sym, ap, ◌∙◌, subst, arith, refl, append_assoc, length-append}
use Rattle.std.specs.List.{list_any}
use Rattle.std.proofs.lemmas.Bool.{eqb-false}
use Rattle.std.proofs.lemmas.List.{append-nil}
use Rattle.dfu_conformance.specs.declared.event.LogEvent.{LogEvent}
use Rattle.dfu_conformance.specs.declared.verdict.Departure.{Departure}
use Rattle.dfu_conformance.specs.declared.log.Line.{Line}
use Rattle.dfu_conformance.specs.declared.log.Line.TheVariants as line
use Rattle.dfu_conformance.specs.Line.{LineMeaning}
use Rattle.dfu_conformance.specs.MayAnswer.{CanAnswer, CandidatesExact, PlainCandidatesExact}
use Rattle.dfu_conformance.specs.Verdict.{ArePlacesAfter, EventDeparts}
use Rattle.dfu_output.specs.judge.Course.{LogCourse, goes_on, departs, LineEndLeadsTo, line_says_event, CourseOfText, goes, ends, course_after_line, course_after_departure, course_after_event}
use Rattle.dfu_output.specs.judge.Texts.{is_single}
use Rattle.dfu_conformance.specs.declared.log.LineFault.{LineFault}
use Rattle.dfu_output.specs.declared.judge.fault.LogFault.{LogFault}
use Rattle.dfu_output.specs.declared.judge.fault.LogFault.TheVariants.{BadLine, TooLarge, NoMemory, Read, Write}
use Rattle.dfu_output.specs.judge.Lines.{LinesState, BytesInLine, ByteInLine, is_end, ByteEndsLine, ByteAccepted, IsBadLine, ByteRefused}
use Rattle.dfu_output.specs.judge.Judging.{CannotJudgeByte}
use Rattle.dfu_output.specs.judge.inside.JudgeState.{JudgingState, IsStateAfter, LogEventResult, JudgedText}

neither_of_two_holds : (x y : Bool) → (x || y) ≡ false → (x ≡ false) × (y ≡ false)
neither_of_two_holds false y none = (refl, none)
neither_of_two_holds true y none = absurd cc

next_event_is_counted : (events : List LogEvent) (e : LogEvent) (n : ℕ) → n ≡ length events → n + 1 ≡ length (events ++ e ∷ [])
next_event_is_counted events e n is = omega (arith, is, length-append events (e ∷ []))

-- If a device without habits may have answered all events since the last departure including this one, the event continues the course.
pub event_continues_course : (s : JudgingState) (w v : List (List ℕ)) (n : ℕ) (text : List ℕ) (c : LogCourse) (e : LogEvent)
    (at : List Bool)
    → IsStateAfter s text c
    → CandidatesExact w (c.events ++ e ∷ []) → CanAnswer 0 (c.since ++ e ∷ []) × PlainCandidatesExact v (c.since ++ e ∷ [])
    → ArePlacesAfter 0 (c.since ++ e ∷ []) at → n ≡ s.single + cond (is_single at) 1 0
    → LogEventResult text c e None (record s { whole = w; since = v; events = s.events + 1; single = n })
event_continues_course s w v n text c e at is held plain places single = record {
  next = course_after_event c e at;
  comes = goes_on at plain.0 places;
  at = record {
    whole = held;
    since = plain.1;
    line = is.line;
    room = is.room;
    number = is.number;
    events = next_event_is_counted c.events e s.events is.events;
    single = single ∙ ap (λ (k : ℕ). k + cond (is_single at) 1 0) is.single;
  };
  out = sym (append-nil c.out);
}

-- If no device without habits may have answered all events since the last departure including this one, the event is a departure.
pub event_departs : (s : JudgingState) (w v : List (List ℕ)) (text : List ℕ) (c : LogCourse) (e : LogEvent) (d : Departure)
    → IsStateAfter s text c
    → CandidatesExact w (c.events ++ e ∷ []) → d.event ≡ e → EventDeparts c.since d v
    → LogEventResult text c e (Some d) (record s { whole = w; since = v; events = s.events + 1 })
event_departs s w v text c e d is held same off = record {
  next = course_after_departure c d;
  comes = departs d same (subst (λ (x : LogEvent). CanAnswer 0 (c.since ++ x ∷ []) → ⊥) same off.none) off.before;
  at = record {
    whole = subst (λ (x : LogEvent). CandidatesExact w (c.events ++ x ∷ [])) (sym same) held;
    since = off.anew;
    line = is.line;
    room = is.room;
    number = is.number;
    events = next_event_is_counted c.events d.event s.events is.events;
    single = is.single;
  };
  out = ap (λ (k : ℕ). c.out ++ Rattle.dfu_output.specs.judge.Texts.departure_text k d) (sym is.number);
}

pub equal_meaning_accepts : (interface : ℕ) (s t : LinesState) (byte : ℕ) (o p : Option Line) → o ≡ p → ByteAccepted interface s t byte o
    → ByteAccepted interface s t byte p
equal_meaning_accepts interface s t byte o p same took = subst (λ (x : Option Line). ByteAccepted interface s t byte x) same took

-- After a byte that ends a line, the state belongs to the course after the line.
pub state_follows_line_end : (interface byte : ℕ) (s : JudgingState) (lines : LinesState) (text : List ℕ) (c : LogCourse) (says : Line)
    → IsStateAfter s text c
    → ByteEndsLine interface s.lines lines byte says → IsStateAfter (record s { lines = lines }) (text ++ 10 ∷ []) (course_after_line c)
state_follows_line_end interface byte s lines text c says is e = record {
  whole = is.whole;
  since = is.since;
  line = e.line;
  room = omega (arith, is.room, e.room, length-append text (10 ∷ []));
  number = e.number ∙ ap (λ (k : ℕ). k + 1) is.number;
  events = is.events;
  single = is.single;
}

-- The line that the byte ended has the meaning that the reader returned.
pub ended_line_has_meaning : (interface byte : ℕ) (s : JudgingState) (lines : LinesState) (text : List ℕ) (c : LogCourse) (says : Line)
    → IsStateAfter s text c
    → ByteEndsLine interface s.lines lines byte says → LineMeaning interface c.line (Some says)
ended_line_has_meaning interface byte s lines text c says is e = subst (λ (t : List ℕ). LineMeaning interface t (Some says)) is.line e.said

equal_last_byte_is_judged : (interface byte : ℕ) (text : List ℕ) (c : LogCourse) (o : Option Departure) (s : JudgingState) → byte ≡ 10
    → JudgedText interface (text ++ 10 ∷ []) c o s → JudgedText interface (text ++ byte ∷ []) c o s
equal_last_byte_is_judged interface byte text c o s end took = subst (λ (k : ℕ). JudgedText interface (text ++ k ∷ []) c o s) (sym end) took

-- After a byte that ends a line with an event, the text is judged, and state and departure are those of the event.
pub line_end_judges_event : (interface byte : ℕ) (s t : JudgingState) (lines : LinesState) (text : List ℕ) (c : LogCourse) (e : LogEvent)
    (o : Option Departure) → IsStateAfter s text c → CourseOfText interface text c → ByteEndsLine interface s.lines lines byte (line.Came e)
    → LogEventResult (text ++ 10 ∷ []) (course_after_line c) e o t → JudgedText interface (text ++ byte ∷ []) c o t
line_end_judges_event interface byte s t lines text c e o is judged end came = equal_last_byte_is_judged interface byte text c o t end.end
    (record {
      next = came.next;
      judged = ends judged (line_says_event e (ended_line_has_meaning interface byte s lines text c (line.Came e) is end) came.comes);
      at = came.at;
      out = came.out;
    })

-- A line without an event ends without a departure.
pub eventless_line_is_judged : (interface byte : ℕ) (s : JudgingState) (lines : LinesState) (text : List ℕ) (c : LogCourse) (says : Line)
    (o : Option Line)
    → (LineMeaning interface c.line (Some says) → LineEndLeadsTo interface c (course_after_line c)) → IsStateAfter s text c
    → CourseOfText interface text c
    → o ≡ Some says → ByteAccepted interface s.lines lines byte o
    → JudgedText interface (text ++ byte ∷ []) c None (record s { lines = lines })
eventless_line_is_judged interface byte s lines text c says o leads is judged same took =
    let end : ByteEndsLine interface s.lines lines byte says = equal_meaning_accepts interface s.lines lines byte o (Some says) same took in
    equal_last_byte_is_judged interface byte text c None (record s { lines = lines }) end.end (record {
      next = course_after_line c;
      judged = ends judged (leads (ended_line_has_meaning interface byte s lines text c says is end));
      at = state_follows_line_end interface byte s lines text c says is end;
      out = sym (append-nil c.out);
    })

-- A byte in the middle of a line causes no departure.
pub byte_in_line_is_judged : (interface byte : ℕ) (s : JudgingState) (lines : LinesState) (text : List ℕ) (c : LogCourse) →
    IsStateAfter s text c
    → CourseOfText interface text c → ByteInLine s.lines lines byte
    → JudgedText interface (text ++ byte ∷ []) c None (record s { lines = lines })
byte_in_line_is_judged interface byte s lines text c is judged g = record {
  next = record c { line = c.line ++ byte ∷ [] };
  judged = goes byte judged g.inner (subst (λ (x : List ℕ). length x < 262158) is.line g.short);
  at = record {
    whole = is.whole;
    since = is.since;
    line = g.line ∙ ap (λ (x : List ℕ). x ++ byte ∷ []) is.line;
    room = omega (arith, is.room, g.room, length-append text (byte ∷ []));
    number = g.number ∙ is.number;
    events = is.events;
    single = is.single;
  };
  out = sym (append-nil c.out);
}

-- Bytes other than 0Ah extend the open line of the course, if the line has room for them.
bytes_extend_course : (interface : ℕ) (bytes text : List ℕ) (c : LogCourse) → CourseOfText interface text c → list_any is_end bytes ≡ false
    → length c.line + length bytes ≤ 262158 → CourseOfText interface (text ++ bytes) (record c { line = c.line ++ bytes })
bytes_extend_course interface [] text c judged inner short =
    subst (λ (t : List ℕ). CourseOfText interface t (record c { line = c.line ++ [] })) (sym (append-nil text))
    (subst (λ (l : List ℕ). CourseOfText interface text (record c { line = l })) (sym (append-nil c.line)) judged)
bytes_extend_course interface (byte ∷ bytes) text c judged inner short =
    let parts = neither_of_two_holds (is_end byte) (list_any is_end bytes) inner in
    let one = goes byte judged (eqb-false byte 10 parts.0) (omega (arith, short)) in
    let rest = bytes_extend_course interface bytes (text ++ byte ∷ []) (record c { line = c.line ++ byte ∷ [] }) one parts.1
    (omega (arith, short, length-append c.line (byte ∷ []))) in
    subst (λ (t : List ℕ). CourseOfText interface t (record c { line = c.line ++ byte ∷ bytes })) (append_assoc text (byte ∷ []) bytes)
    (subst (λ (l : List ℕ). CourseOfText interface ((text ++ byte ∷ []) ++ bytes) (record c { line = l }))
    (append_assoc c.line (byte ∷ []) bytes) rest)

-- Bytes in the middle of a line cause no departure.
pub bytes_in_line_are_judged : (interface : ℕ) (bytes : List ℕ) (s : JudgingState) (lines : LinesState) (text : List ℕ) (c : LogCourse)
    → IsStateAfter s text c
    → CourseOfText interface text c → BytesInLine s.lines lines bytes
    → JudgedText interface (text ++ bytes) c None (record s { lines = lines })
bytes_in_line_are_judged interface bytes s lines text c is judged g = record {
  next = record c { line = c.line ++ bytes };
  judged = bytes_extend_course interface bytes text c judged g.inner (subst (λ (x : List ℕ). length x + length bytes
      ≤ 262158) is.line g.short);
  at = record {
    whole = is.whole;
    since = is.since;
    line = g.line ∙ ap (λ (x : List ℕ). x ++ bytes) is.line;
    room = omega (arith, is.room, g.room, length-append text bytes);
    number = g.number ∙ is.number;
    events = is.events;
    single = is.single;
  };
  out = sym (append-nil c.out);
}

equal_text_is_bad_line : (interface : ℕ) (line text rest : List ℕ) (why : LineFault) → line ≡ text → IsBadLine interface line rest why
    → IsBadLine interface text rest why
equal_text_is_bad_line interface line text rest why same bad = subst (λ (t : List ℕ). IsBadLine interface t rest why) same bad

-- If a byte isn't accepted because of a fault, it can't be judged because of this fault.
pub unread_byte_is_unjudged : (interface : ℕ) (s : JudgingState) (text : List ℕ) (c : LogCourse) (rest : List ℕ) (fault : LogFault)
    → IsStateAfter s text c
    → ByteRefused interface s.lines rest fault → CannotJudgeByte interface text c rest fault
unread_byte_is_unjudged interface s text c rest (BadLine n why) is (number, bad) = (
  number ∙ ap (λ (k : ℕ). k + 1) is.number,
  equal_text_is_bad_line interface s.lines.line c.line rest why is.line bad,
)
unread_byte_is_unjudged interface s text c rest TooLarge is none = omega (arith, is.room, none)
unread_byte_is_unjudged interface s text c rest NoMemory is why_not = absurd why_not
unread_byte_is_unjudged interface s text c rest Read is why_not = absurd why_not
unread_byte_is_unjudged interface s text c rest Write is why_not = absurd why_not
