-- Judging a log that is read in pieces.
use Rattle.std.specs.Prelude.{◌≡◌, ℕ, ◌+◌, ◌<◌, List, [], ◌∷◌, ◌++◌, length, Option, Some, None, IfSome, IfErr, Result, Ok, Err, take, drop, suc}
use Rattle.std.proofs.Common.{refl, sym, ap, ◌∙◌, subst, append_assoc, drop-cons, get_or, arith}
use Rattle.std.proofs.lemmas.List.{append-nil, take-append-drop}
use Rattle.std.proofs.KnownBytes.{Appends-nil, Appends-trans, Consumes-trans, Consumes-whole}
use Rattle.std.specs.Io.KnownBytes.{Appends, Consumes, IsAtEnd}
use Rattle.dfu_suffix.specs.Writing.{IsPartlyWritten}
use Rattle.dfu_conformance.specs.declared.verdict.Departure.{Departure}
use Rattle.dfu_output.specs.declared.judge.fault.LogFault.{LogFault}
use Rattle.dfu_output.specs.declared.judge.fault.LogFault.TheVariants.{BadLine, TooLarge, NoMemory, Read, Write}
use Rattle.dfu_output.specs.judge.Course.{LogCourse, begins, course_at_start}
use Rattle.dfu_output.specs.judge.Judging.{CannotJudgeByte, DepartureUnwritten, LogStops, HasOutputAtStop}
use Rattle.dfu_output.specs.judge.Texts.{departure_text}
use Rattle.dfu_output.specs.judge.inside.JudgeState.{JudgingState, IsStateAfter, JudgedText, JudgedSoFar, departure_text_if_any}

-- Before the first byte nothing is judged, and nothing is printed.
pub nothing_is_judged_at_first : (interface : ℕ) (old : Option (List ℕ)) (s : JudgingState) → IsStateAfter s [] course_at_start
    → JudgedSoFar interface old old [] s
nothing_is_judged_at_first interface old s is = record { course = course_at_start; judged = begins; at = is; out = Appends-nil old }

-- If the judged text ends without a departure, the output stays unchanged and holds the text printed so far.
pub no_departure_keeps_output : (interface : ℕ) (old new : Option (List ℕ)) (text : List ℕ) (c : LogCourse) (o : Option Departure) (s :
    JudgingState)
    → Appends old new c.out → o ≡ None → JudgedText interface text c o s → JudgedSoFar interface old new text s
no_departure_keeps_output interface old new text c o s out none took = record {
  course = took.next;
  judged = took.judged;
  at = took.at;
  out = subst (λ (xs : List ℕ). Appends old new xs)
      (sym (took.out ∙ ap (λ (x : Option Departure). c.out ++ departure_text_if_any s.lines.number x) none ∙ append-nil c.out)) out;
}

-- If the judged text ends with a departure whose lines are written, the output holds the text printed so far.
pub departure_extends_output : (interface : ℕ) (old mid new : Option (List ℕ)) (text : List ℕ) (c : LogCourse) (n : ℕ) (d : Departure)
    (o : Option Departure)
    (s : JudgingState) → Appends old mid c.out → Appends mid new (departure_text n d) → n ≡ s.lines.number → o ≡ Some d
    → JudgedText interface text c o s → JudgedSoFar interface old new text s
departure_extends_output interface old mid new text c n d o s out told is some took = record {
  course = took.next;
  judged = took.judged;
  at = took.at;
  out = subst (λ (xs : List ℕ). Appends old new xs)
      (ap (λ (k : ℕ). c.out ++ departure_text k d) is
      ∙ ap (λ (x : Option Departure). c.out ++ departure_text_if_any s.lines.number x) (sym some) ∙ sym took.out)
      (Appends-trans old mid new c.out (departure_text n d) out told);
}

-- If a whole text and then a part of a second text are written, a part of the joined text is written.
whole_then_part_is_part : (old mid new : Option (List ℕ)) (xs ys : List ℕ) → Appends old mid xs → IsPartlyWritten mid new ys
    → IsPartlyWritten old new (xs ++ ys)
whole_then_part_is_part old mid new xs ys told part = record {
  front = xs ++ part.front;
  rest = part.rest;
  whole = ap (λ (zs : List ℕ). xs ++ zs) part.whole ∙ sym (append_assoc xs part.front part.rest);
  left = part.left;
  told = Appends-trans old mid new xs part.front told part.told;
}

-- Judging stops at a byte whose departure can't be written.
pub unwritten_departure_stops : (interface : ℕ) (old mid new : Option (List ℕ)) (text tail : List ℕ) (byte n : ℕ) (d : Departure)
    (o : Option Departure) (s s' : JudgingState) (f : LogFault) (g : JudgedSoFar interface old mid text s)
    → JudgedText interface (text ++ byte ∷ []) g.course o s' → o ≡ Some d → n ≡ s'.lines.number
    → DepartureUnwritten (departure_text n d) mid new f
    → LogStops interface old new (text ++ byte ∷ tail) f
unwritten_departure_stops interface old mid new text tail byte n d o s s' NoMemory g took some is same = record {
  front = text;
  rest = byte ∷ tail;
  split = refl;
  course = g.course;
  judged = g.judged;
  stops = subst (λ (w : Option (List ℕ)). Appends old w g.course.out) (sym same) g.out;
}
unwritten_departure_stops interface old mid new text tail byte n d o s s' Write g took some is part = record {
  front = text ++ byte ∷ [];
  rest = tail;
  split = sym (append_assoc text (byte ∷ []) tail);
  course = took.next;
  judged = took.judged;
  stops = subst (λ (xs : List ℕ). IsPartlyWritten old new xs) (ap (λ (k : ℕ). g.course.out ++ departure_text k d) is
      ∙ ap (λ (x : Option Departure). g.course.out ++ departure_text_if_any s'.lines.number x) (sym some) ∙ sym took.out)
      (whole_then_part_is_part old mid new g.course.out (departure_text n d) g.out part);
}
unwritten_departure_stops interface old mid new text tail byte n d o s s' (BadLine k why) g took some is why_not = absurd why_not
unwritten_departure_stops interface old mid new text tail byte n d o s s' TooLarge g took some is why_not = absurd why_not
unwritten_departure_stops interface old mid new text tail byte n d o s s' Read g took some is why_not = absurd why_not

-- If a byte can't be judged and the text printed before it is written, `HasOutputAtStop` holds for the fault.
unjudged_byte_gives_stop : (interface : ℕ) (front : List ℕ) (c : LogCourse) (rest : List ℕ) (old new : Option (List ℕ)) (f : LogFault)
    → Appends old new c.out → CannotJudgeByte interface front c rest f → HasOutputAtStop interface front c rest old new f
unjudged_byte_gives_stop interface front c rest old new (BadLine n why) out why_not = (out, why_not)
unjudged_byte_gives_stop interface front c rest old new TooLarge out why_not = (out, why_not)
unjudged_byte_gives_stop interface front c rest old new NoMemory out why_not = absurd why_not
unjudged_byte_gives_stop interface front c rest old new Read out why_not = absurd why_not
unjudged_byte_gives_stop interface front c rest old new Write out why_not = absurd why_not

-- Judging stops at a byte that can't be judged.
pub bad_byte_stops_log : (interface : ℕ) (old new : Option (List ℕ)) (text tail : List ℕ) (byte : ℕ) (s : JudgingState) (f : LogFault)
    (g : JudgedSoFar interface old new text s) → CannotJudgeByte interface text g.course (byte ∷ tail) f
    → LogStops interface old new (text ++ byte ∷ tail) f
bad_byte_stops_log interface old new text tail byte s f g why_not = record {
  front = text;
  rest = byte ∷ tail;
  split = refl;
  course = g.course;
  judged = g.judged;
  stops = unjudged_byte_gives_stop interface text g.course (byte ∷ tail) old new f g.out why_not;
}

-- If the reader fails, judging stops after the text that was read.
pub reader_fault_stops_log : (interface : ℕ) (old new : Option (List ℕ)) (text tail : List ℕ) (s : JudgingState)
    → JudgedSoFar interface old new text s → LogStops interface old new (text ++ tail) Read
reader_fault_stops_log interface old new text tail s g = record {
  front = text;
  rest = tail;
  split = refl;
  course = g.course;
  judged = g.judged;
  stops = g.out;
}

-- If there is no memory for the buffer of a line, judging stops before the first byte.
pub no_memory_stops_log : (interface : ℕ) (old : Option (List ℕ)) (text : List ℕ) → LogStops interface old old text NoMemory
no_memory_stops_log interface old text = record {
  front = [];
  rest = text;
  split = refl;
  course = course_at_start;
  judged = begins;
  stops = Appends-nil old;
}

-- If judging stops within the bytes that were read, no matter which bytes follow, judging the given text stops at the same fault.
pub log_stops_in_given_text : (interface : ℕ) (given left old new : Option (List ℕ)) (front : List ℕ) (f : LogFault) →
    Consumes given left front
    → ((tail : List ℕ) → LogStops interface old new (front ++ tail) f) →
    IfSome given (λ text. LogStops interface old new (text ++ 10 ∷ []) f)
log_stops_in_given_text interface None left old new front f consumed falls = tt
log_stops_in_given_text interface (Some text) None old new front f consumed falls = absurd consumed
log_stops_in_given_text interface (Some text) (Some rest) old new front f consumed falls =
    subst (λ (xs : List ℕ). LogStops interface old new xs f)
    (sym (append_assoc front rest (10 ∷ [])) ∙ ap (λ (xs : List ℕ). xs ++ 10 ∷ []) (sym consumed)) (falls (rest ++ 10 ∷ []))

-- A text, `k` bytes of a piece, the next byte and the rest of the piece together are the text and the whole piece.
pub piece_splits_at_byte : (text piece tail : List ℕ) (k d : ℕ) → k < length piece
    → (text ++ take k piece) ++ (get_or piece k d ∷ (drop (k + 1) piece ++ tail)) ≡ (text ++ piece) ++ tail
piece_splits_at_byte text piece tail k d below =
    let more : k + 1 ≡ suc k = omega arith in
    ap (λ (n : ℕ). (text ++ take k piece) ++ (get_or piece k d ∷ (drop n piece ++ tail))) more
    ∙ (ap (λ (xs : List ℕ). (text ++ take k piece) ++ (xs ++ tail)) (sym (drop-cons piece k d below))
    ∙ (append_assoc text (take k piece) (drop k piece ++ tail)
    ∙ (ap (λ (xs : List ℕ). text ++ xs) (sym (append_assoc (take k piece) (drop k piece) tail)
    ∙ ap (λ (xs : List ℕ). xs ++ tail) (take-append-drop k piece)) ∙ sym (append_assoc text piece tail))))

-- If a fact holds for all bytes that were read up to the end of the reader, it holds for the given text.
pub fact_of_read_text_is_of_given : (given before after : Option (List ℕ)) (front buf : List ℕ) (count : ℕ) (P : List ℕ → Type 0)
    → Consumes given before front → Consumes before after (take count buf) → count ≡ 0 → IsAtEnd after → P front → IfSome given P
fact_of_read_text_is_of_given given before after front buf count P consumed read none ended holds =
    Consumes-whole given after (front ++ take count buf) P (Consumes-trans given before after front (take count buf) consumed read) ended
    (subst P (sym (ap (λ (k : ℕ). front ++ take k buf) none ∙ append-nil front)) holds)

-- A fact about the fault holds for a given tail if it holds for every tail.
pub fact_holds_at_tail : {T : Type 0} (r : Result T LogFault) (P : LogFault → List ℕ → Type 0) (tail : List ℕ)
    → IfErr r (λ f. (xs : List ℕ) → P f xs) → IfErr r (λ f. P f tail)
fact_holds_at_tail (Ok x) P tail h = tt
fact_holds_at_tail (Err f) P tail h = h tail

-- A fact about all texts holds for the text in an option, if there is one.
pub fact_of_all_holds_if_some : (o : Option (List ℕ)) (P : List ℕ → Type 0) → ((xs : List ℕ) → P xs) → IfSome o P
fact_of_all_holds_if_some None P h = tt
fact_of_all_holds_if_some (Some xs) P h = h xs
