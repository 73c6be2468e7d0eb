-- Scripts that fail in a line or at their end, after the earlier lines ran.
use Rattle.std.proofs.Common.{◌≡◌, ℕ, ◌+◌, List, [], ◌∷◌, Option, Some, None, Err, inl, inr, refl, sym, ◌∙◌, subst, arith}
use Rattle.std.specs.Prelude.{IfSome}
use Rattle.std.specs.Io.KnownBytes.{IsAtEnd}
use Rattle.dfu_suffix.specs.Writing.{IsPartlyWritten}
use Rattle.dfu_link.specs.Texts.{image_line}
use Rattle.dfu_link.specs.Words.{lines_of}
use Rattle.dfu_link.specs.Lines.{line_of}
use Rattle.dfu_link.specs.ScriptRun.{ScriptPoint}
use Rattle.dfu_sim.specs.LinkView.{NoLiveSession}
use Rattle.dfu_link.specs.LineContent.{Does, EventLine, HasTear}
use Rattle.dfu_link.specs.Expecting.{Expectation, IsPrintFault}
use Rattle.dfu_link.specs.Falls.{PrintingStops, in_events, stops_in_until_report, stops_in_show, needs_file_memory, needs_tear_memory, LineFails, NextLineFails}
use Rattle.dfu_link.specs.TextLimit.{ExceedsLimit, ReadingIsStopped, NoLineRead}
use Rattle.dfu_link.specs.inside.Expected.{PrintEnds}
use Rattle.dfu_link.specs.inside.Source.{SourceState, LinesReadFrom, SourceLine, SourceStops}
use Rattle.dfu_link.specs.inside.Moving.{LinesDone, LinesDoneThenFailure, NoRoomForFile}
use Rattle.dfu_link.specs.declared.scripting.fault.ScriptFault.{ScriptFault}
use Rattle.dfu_link.specs.declared.scripting.fault.ScriptFault.TheVariants.{BadLine, LateConfig, Expected, NonePrinted, TooLarge, NoMemory, Read, Write}
use Rattle.dfu_link.proofs.MoveLaws.{lines_done_join}

-- If the rest of the text does not exceed its limit in a line, and that line fails, reading stops there.
failed_line_stops_reading : (p : ScriptPoint) (k room : ℕ) (line left : List ℕ) (old new : Option (List ℕ)) (f : ScriptFault) →
    ¬ ExceedsLimit room left
    → LineFails p k line old new f → ReadingIsStopped room left f
failed_line_stops_reading p k room line left old new (BadLine n) ends falls = ends
failed_line_stops_reading p k room line left old new (LateConfig n) ends falls = ends
failed_line_stops_reading p k room line left old new NoMemory ends falls = ends
failed_line_stops_reading p k room line left old new Write ends falls = ends
failed_line_stops_reading p k room line left old new (Expected n) ends falls = ends
failed_line_stops_reading p k room line left old new (NonePrinted n) ends falls = ends
failed_line_stops_reading p k room line left old new f ends falls = absurd falls

-- If line k fails, and it is the first of the remaining lines, the script fails at line k with the same fault.
failed_line_fails_script_next : (p : ScriptPoint) (k : ℕ) (line : List ℕ) (lines : List (List ℕ)) (old new : Option (List ℕ))
    (f : ScriptFault)
    → LineFails p k line old new f → NextLineFails p k (line ∷ lines) old new f
failed_line_fails_script_next p k line lines old new (BadLine n) falls = falls
failed_line_fails_script_next p k line lines old new (LateConfig n) falls = falls
failed_line_fails_script_next p k line lines old new NoMemory falls = falls
failed_line_fails_script_next p k line lines old new Write falls = falls
failed_line_fails_script_next p k line lines old new (Expected n) falls = falls
failed_line_fails_script_next p k line lines old new (NonePrinted n) falls = falls
failed_line_fails_script_next p k line lines old new f falls = absurd falls

-- If a line of the text was read within the limit and fails, reading stops there, and the script fails at that line.
read_line_fails_in_text : (p : ScriptPoint) (a b : Option (List ℕ)) (room room' k n : ℕ) (line : List ℕ) (old new : Option (List ℕ)) (f :
    ScriptFault)
    → LinesReadFrom a room (line ∷ []) b room' → IfSome a (λ left. ¬ ExceedsLimit room left) → n ≡ k → LineFails p n line old new f
    → IfSome a (λ left. ReadingIsStopped room left f × NextLineFails p k (lines_of left) old new f)
read_line_fails_in_text p None b room room' k n line old new f took ends is falls = tt
read_line_fails_in_text p (Some a) None room room' k n line old new f took ends is falls = absurd took
read_line_fails_in_text p (Some a) (Some b) room room' k n line old new f took ends is falls =
    let there : NextLineFails p k (line ∷ lines_of b) old new f =
    failed_line_fails_script_next p k line (lines_of b) old new f (subst (λ (x : ℕ). LineFails p x line old new f) is falls) in (
      failed_line_stops_reading p n room line a old new f ends falls,
      subst (λ (ls : List (List ℕ)). NextLineFails p k ls old new f) (sym
          took.are) there,
    )

-- If a line of the source fails, the script fails after the lines before it.
pub source_line_fails_after_moves : {p q : ScriptPoint} {s t u : SourceState} {old mid new : Option (List ℕ)} {n : ℕ} {line : List ℕ} {f :
    ScriptFault}
    → LinesDone p s old q t mid → SourceLine t u → n ≡ u.number → line ≡ u.line → LineFails q n line mid new f
    → LinesDoneThenFailure p s old new f
source_line_fails_after_moves {q = q} {t = t} {u = u} {mid = mid} {new = new} {n = n} {f = f} m given at is falls = record {
  to = q;
  at = t;
  mid = mid;
  moves = m;
  falls = read_line_fails_in_text q t.left u.left t.room u.room (t.number + 1) n u.line mid new f given.gives.takes given.ends
      (at ∙ given.gives.count) (subst (λ (xs : List ℕ). LineFails q n xs mid new f) is falls);
}

-- If nothing of a text remains, its limit is not exceeded.
empty_rest_is_within_limit : (room : ℕ) → ¬ ExceedsLimit room []
empty_rest_is_within_limit room over = absurd (omega (arith, over.over))

-- The fault can occur while a text is printed.
abbrev IsStoppingFault : ScriptFault → Type 0
IsStoppingFault Write = Unit {0}
IsStoppingFault (Expected n) = Unit {0}
IsStoppingFault NoMemory = Unit {0}
IsStoppingFault fault = ⊥

-- Each fault of printing a text is one that `IsStoppingFault` allows.
failed_print_has_stopping_fault : (next : Option Expectation) (text : List ℕ) (old new : Option (List ℕ)) (f : ScriptFault) →
    IsPrintFault next text old new f → IsStoppingFault f
failed_print_has_stopping_fault next text old new Write fails = tt
failed_print_has_stopping_fault next text old new (Expected n) fails = tt
failed_print_has_stopping_fault next text old new NoMemory fails = tt
failed_print_has_stopping_fault next text old new f fails = absurd fails

-- If no text remains, and the printing of the image line fails, the script fails at its end.
image_line_stops_empty_text : (p : ScriptPoint) (k room : ℕ) (old new : Option (List ℕ)) (f : ScriptFault) → IsStoppingFault f
    → IsPrintFault p.next (image_line p.at.device) old new f × IsPartlyWritten old new (image_line p.at.device)
    → ReadingIsStopped room [] f × NextLineFails p k [] old new f
image_line_stops_empty_text p k room old new Write stop falls = (empty_rest_is_within_limit room, falls)
image_line_stops_empty_text p k room old new (Expected n) stop falls = (empty_rest_is_within_limit room, falls)
image_line_stops_empty_text p k room old new NoMemory stop falls = (empty_rest_is_within_limit room, falls)
image_line_stops_empty_text p k room old new f stop falls = elim stop [ ]

-- If the printing of the image line fails at the end of the reader's text, the script fails at its end.
image_line_breaks_at_end : (p : ScriptPoint) (a : Option (List ℕ)) (room k : ℕ) (old new : Option (List ℕ)) (f : ScriptFault) → IsAtEnd a
    → IsPrintFault p.next (image_line p.at.device) old new f → IsPartlyWritten old new (image_line p.at.device)
    → IfSome a (λ left. ReadingIsStopped room left f × NextLineFails p k (lines_of left) old new f)
image_line_breaks_at_end p None room k old new f ended fails broken_text_in_part = tt
image_line_breaks_at_end p (Some left) room k old new f ended fails broken_text_in_part =
    subst (λ (xs : List ℕ). ReadingIsStopped room xs f × NextLineFails p k (lines_of xs) old new f) (sym ended)
    (image_line_stops_empty_text p k room old new f (failed_print_has_stopping_fault p.next _ old new f fails) (fails, broken_text_in_part))

-- If no line remains and the image line fails, the script fails after its last line.
pub image_line_fails_after_moves : {p q : ScriptPoint} {s t : SourceState} {old mid new : Option (List ℕ)} {x : Option Expectation} {f :
    ScriptFault}
    → LinesDone p s old q t mid → IsAtEnd t.left → PrintEnds q.next mid (image_line q.at.device) x new (Err f)
    → LinesDoneThenFailure p s old new f
image_line_fails_after_moves {q = q} {t = t} {mid = mid} {new = new} {f = f} m ended prints = record {
  to = q;
  at = t;
  mid = mid;
  moves = m;
  falls = image_line_breaks_at_end q t.left t.room (t.number + 1) mid new f ended prints.fault prints.err;
}

-- If no line can be read, the script fails at its next line and prints nothing more.
unread_line_fails_next : (p : ScriptPoint) (k : ℕ) (lines : List (List ℕ)) (old : Option (List ℕ)) (f : ScriptFault) →
    NoLineRead p.given k lines f
    → NextLineFails p k lines old old f
unread_line_fails_next p k lines old TooLarge h = refl
unread_line_fails_next p k lines old Read h = refl
unread_line_fails_next p k (line ∷ lines) old (BadLine n) h = (h.0, h.1, refl)
unread_line_fails_next p k lines old f h = absurd h

-- If reading stops because no line can be read, the script fails at its next line and prints nothing more.
stopped_reading_fails_next : (p : ScriptPoint) (a : Option (List ℕ)) (room k : ℕ) (old : Option (List ℕ)) (f : ScriptFault)
    → IfSome a (λ left. ReadingIsStopped room left f × NoLineRead p.given k (lines_of left) f)
    → IfSome a (λ left. ReadingIsStopped room left f × NextLineFails p k (lines_of left) old old f)
stopped_reading_fails_next p None room k old f h = tt
stopped_reading_fails_next p (Some left) room k old f h = (h.0, unread_line_fails_next p k (lines_of left) old f h.1)

-- If a source cannot read its next line because of a fault, the script fails with that fault after the earlier lines.
pub stopped_source_fails_after_moves : {p q : ScriptPoint} {s t : SourceState} {old mid : Option (List ℕ)} {f : ScriptFault} →
    LinesDone p s old q t mid
    → SourceStops q.given t f → LinesDoneThenFailure p s old mid f
stopped_source_fails_after_moves {q = q} {t = t} {mid = mid} {f = f} m stops = record {
  to = q;
  at = t;
  mid = mid;
  moves = m;
  falls = stopped_reading_fails_next q t.left t.room (t.number + 1) mid f stops;
}

-- If lines ran, and the script then fails after some more lines, it fails after all of these lines.
pub moves_then_failure_fail : {p q : ScriptPoint} {s t : SourceState} {old mid new : Option (List ℕ)} {f : ScriptFault} →
    LinesDone p s old q t mid
    → LinesDoneThenFailure q t mid new f → LinesDoneThenFailure p s old new f
moves_then_failure_fail m n = record { to = n.to; at = n.at; mid = n.mid; moves = lines_done_join m n.moves; falls = n.falls }

-- If the printing of a line stops with a fault, `IsStoppingFault` allows that fault.
stopped_line_has_stopping_fault : {p : ScriptPoint} {line : List ℕ} {old new : Option (List ℕ)} (f : ScriptFault) →
    PrintingStops p line old new f → IsStoppingFault f
stopped_line_has_stopping_fault f (in_events says broken) = failed_print_has_stopping_fault _ _ _ _ f broken.fails
stopped_line_has_stopping_fault f (stops_in_until_report says acts broken_text_in_part fails) = failed_print_has_stopping_fault _ _ _ _ f
    fails
stopped_line_has_stopping_fault f (stops_in_show says broken_text_in_part fails) = failed_print_has_stopping_fault _ _ _ _ f fails

-- If the printing of a line stops with a fault that `IsStoppingFault` allows, the line fails with that fault.
stopping_fault_fails_line : (p : ScriptPoint) (k : ℕ) (line : List ℕ) (old new : Option (List ℕ)) (f : ScriptFault) → IsStoppingFault f
    → PrintingStops p line old new f
    → LineFails p k line old new f
stopping_fault_fails_line p k line old new Write stop breaks = breaks
stopping_fault_fails_line p k line old new (Expected n) stop breaks = breaks
stopping_fault_fails_line p k line old new NoMemory stop breaks = inr breaks
stopping_fault_fails_line p k line old new f stop breaks = elim stop [ ]

-- If the printing of a line stops with a fault, the line fails with that fault.
pub stopped_line_fails : (p : ScriptPoint) (k : ℕ) (line : List ℕ) {old new : Option (List ℕ)} (f : ScriptFault) →
    PrintingStops p line old new f
    → LineFails p k line old new f
stopped_line_fails p k line {old = old} {new = new} f breaks = stopping_fault_fails_line p k line old new f
    (stopped_line_has_stopping_fault f breaks) breaks

-- If there is no memory for the tear of a line that harms a write, the line fails with NoMemory and prints nothing.
pub tear_without_memory_fails : (p : ScriptPoint) (k : ℕ) (line : List ℕ) (old : Option (List ℕ)) (d : EventLine) (f : ScriptFault)
    → line_of p.given line ≡ Some (Does d) → HasTear d → f ≡ NoMemory → LineFails p k line old old f
tear_without_memory_fails p k line old d f e has is =
    subst (λ (g : ScriptFault). LineFails p k line old old g) (sym is) (inl (needs_tear_memory e has, refl))

-- If there is no memory for the file that a line offers while no session is live, the line fails and prints nothing.
pub offer_without_memory_fails : (p : ScriptPoint) (k : ℕ) (line : List ℕ) (old : Option (List ℕ)) (f : ScriptFault) →
    NoRoomForFile p.given line f
    → p.at.session ≡ NoLiveSession → LineFails p k line old old f
offer_without_memory_fails p k line old f none free =
    subst (λ (g : ScriptFault). LineFails p k line old old g) (sym none.is) (inl (needs_file_memory none.offers free, refl))
