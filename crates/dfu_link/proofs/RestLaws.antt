-- Lines that run on several links, one link after the other.
use Rattle.std.proofs.Common.{◌≡◌, ℕ, List, Option, Some, None, Result, Ok, Err, true, false, refl, sym, subst}
use Rattle.std.specs.Prelude.{OnOk, IfErr}
use Rattle.dfu_device.specs.DeviceView.{DeviceView}
use Rattle.std.specs.Io.KnownBytes.{IsAtEnd}
use Rattle.dfu_sim.specs.LinkView.{NoLiveSession, LinkView}
use Rattle.dfu_link.specs.LineContent.{LineContent, given_bytes, content_of_event}
use Rattle.dfu_link.specs.Lines.{line_of}
use Rattle.dfu_link.specs.Texts.{image_line}
use Rattle.dfu_link.specs.ScriptRun.{ScriptPoint}
use Rattle.dfu_link.specs.Expecting.{Expectation}
use Rattle.dfu_link.specs.inside.Expected.{point_of_context, PrintEnds}
use Rattle.dfu_link.specs.declared.scripting.expectation.ScriptContext.{ScriptContext}
use Rattle.dfu_link.specs.Falls.{LineFails}
use Rattle.dfu_link.specs.inside.Source.{SourceState, SourceLine}
use Rattle.dfu_link.specs.inside.Moving.{LineOutcome, LineDone, LineEnds, LineDoneOrDeferred, is_done, is_deferred, LinkOutcome, all_done, one_line_left, LinesDone, SourceExhausted, LineDoneButEvents, line_without_events, line_with_events, LinesDoneThenFailure, NoRoomForFile}
use Rattle.dfu_link.specs.declared.scripting.line.EventLine.{EventLine}
use Rattle.dfu_link.specs.declared.scripting.fault.ScriptFault.{ScriptFault}
use Rattle.dfu_link.proofs.StepLaws.{acting_line_is_done}
use Rattle.dfu_link.proofs.MoveLaws.{no_line_is_done, next_line_joins, lines_done_join, image_after_lines_exhausts, lines_then_end_exhaust}
use Rattle.dfu_link.proofs.FallLaws.{offer_without_memory_fails, source_line_fails_after_moves, image_line_fails_after_moves, moves_then_failure_fail}

-- Lemmas about the first line of a link, which is the current line of the source.

-- If the current line of the source ran, the lines up to the next one ran.
pub given_line_is_done : {s : SourceState} {p q : ScriptPoint} {old new : Option (List ℕ)} {n : ℕ} {line : List ℕ} → n ≡ s.number
    → line ≡ s.line
    → LineDone n p line old q new → (r : SourceState) → SourceLine r s → LinesDone p r old q s new
given_line_is_done {p = p} {old = old} number is step r given = next_line_joins (no_line_is_done p r old) given number is step

-- If the current line of the source fails, the script fails at that line.
pub given_line_fails : {s : SourceState} {p : ScriptPoint} {old new : Option (List ℕ)} {n : ℕ} {line : List ℕ} {f : ScriptFault} → n
    ≡ s.number
    → line ≡ s.line → LineFails p n line old new f → (r : SourceState) → SourceLine r s → LinesDoneThenFailure p r old new f
given_line_fails {p = p} {old = old} number is falls r given = source_line_fails_after_moves (no_line_is_done p r old) given number is falls

-- Lemmas about links that are made one after the other.

-- All lines of the source ran, from the line of `first` up to the current line of `s`, which did not run yet.
pub record DoneSinceFirstLine (first : SourceState) (p : ScriptPoint) (old : Option (List ℕ)) (q : ScriptPoint) (s : SourceState)
    (new : Option (List ℕ))
    : Type 0 where
  pub from : (r : SourceState) → SourceLine r first → (at : SourceState) × LinesDone p r old q at new × SourceLine at s

-- At the first line of a source no line ran yet.
pub no_line_is_done_at_first : (s : SourceState) (p : ScriptPoint) (old : Option (List ℕ)) → DoneSinceFirstLine s p old p s old
no_line_is_done_at_first s p old = record { from = λ r given. (r, no_line_is_done p r old, given) }

-- If all lines of a link ran and none was deferred, the source is exhausted.
undeferring_link_exhausts : {p q : ScriptPoint} {s s' : SourceState} {old new : Option (List ℕ)} → LinkOutcome p s old q s' new false
    → SourceExhausted p s old new
undeferring_link_exhausts (all_done ends) = ends

-- If a link defers a line, the lines before it ran.
deferring_link_did_lines : {p q : ScriptPoint} {s s' : SourceState} {old new : Option (List ℕ)} → LinkOutcome p s old q s' new true
    → (at : SourceState) × LinesDone p s old q at new × SourceLine at s'
deferring_link_did_lines (one_line_left {at = at} moves gives) = (at, moves, gives)

-- If lines ran, and more lines ran on a link that then defers one, all lines before the deferred one ran.
pub link_extends_done_lines : {first s u : SourceState} {p q q' : ScriptPoint} {old mid new : Option (List ℕ)} →
    DoneSinceFirstLine first p old q s mid
    → ((r : SourceState) → SourceLine r s → LinkOutcome q r mid q' u new true) → DoneSinceFirstLine first p old q' u new
link_extends_done_lines moved done = record {
  from = λ r given.
      let h = moved.from r given in
      let left = deferring_link_did_lines (done h.0 h.2) in
      (left.0, lines_done_join h.1 left.1, left.2);
}

-- If lines ran, and all remaining ones run on the last link, the source is exhausted.
pub last_link_exhausts_source : {first s u : SourceState} {p q q' : ScriptPoint} {old mid new : Option (List ℕ)} →
    DoneSinceFirstLine first p old q s mid
    → ((r : SourceState) → SourceLine r s → LinkOutcome q r mid q' u new false) → (r : SourceState) → SourceLine r first
    → SourceExhausted p r old new
last_link_exhausts_source moved done r given =
    let h = moved.from r given in
    lines_then_end_exhaust h.1 (undeferring_link_exhausts (done h.0 h.2))

-- A deferred line changes nothing.
pub deferred_line_does_nothing : {k : ℕ} {line : List ℕ} {p q q' : ScriptPoint} {s t : SourceState} {old mid new : Option (List ℕ)}
    → LineDoneOrDeferred k q line mid q' new true → LinesDone p s old q t mid → LinesDone p s old q' t new
deferred_line_does_nothing {p = p} {q' = q'} {s = s} {t = t} {old = old} {mid = mid} (is_deferred none same told) moves =
    subst (λ (h : Option (List ℕ)). LinesDone p s old q' t h) (sym told)
    (subst (λ (r : ScriptPoint). LinesDone p s old r t mid) (sym same) moves)

-- A line that was not deferred ran.
pub undeferred_line_is_done : {k : ℕ} {line : List ℕ} {p p' : ScriptPoint} {old new : Option (List ℕ)} →
    LineDoneOrDeferred k p line old p' new false
    → LineDone k p line old p' new
undeferred_line_is_done (is_done step) = step

-- If lines ran, and the next line or a later one fails, the script fails.
pub failure_after_lines_fails : {first s : SourceState} {p q : ScriptPoint} {old mid new : Option (List ℕ)} {f : ScriptFault}
    → DoneSinceFirstLine first p old q s mid → ((r : SourceState) → SourceLine r s → LinesDoneThenFailure q r mid new f)
    → (r : SourceState) → SourceLine r first → LinesDoneThenFailure p r old new f
failure_after_lines_fails moved falls r given =
    let h = moved.from r given in
    moves_then_failure_fail h.1 (falls h.0 h.2)

-- If there is no memory for the file that the next line offers, the script fails after the lines that ran.
pub no_file_memory_fails_script : {first s : SourceState} {p q : ScriptPoint} {old mid : Option (List ℕ)} {line : List ℕ} {f : ScriptFault}
    → DoneSinceFirstLine first p old q s mid → line ≡ s.line → NoRoomForFile q.given line f → q.at.session ≡ NoLiveSession
    → (r : SourceState) → SourceLine r first → LinesDoneThenFailure p r old mid f
no_file_memory_fails_script {s = s} {q = q} {mid = mid} {line = line} {f = f} moved is none free r given =
    let h = moved.from r given in
    source_line_fails_after_moves h.1 h.2 refl is (offer_without_memory_fails q s.number line mid f none free)

-- If the image line is written, a source at its end is exhausted.
pub image_line_exhausts_source : (done : Result Unit ScriptFault) (p : ScriptPoint) {old new : Option (List ℕ)} {x : Option Expectation}
    → PrintEnds p.next old (image_line p.at.device) x new done
    → OnOk done ((r : SourceState) → IsAtEnd r.left → SourceExhausted p r old new)
image_line_exhausts_source (Ok it) p {old = old} prints = λ r ended. image_after_lines_exhausts (no_line_is_done p r old) ended prints
image_line_exhausts_source (Err f) p prints = tt

-- If the printing of the image line fails at the end of the source, the script fails after its last line.
pub image_line_breaks_off : (done : Result Unit ScriptFault) (p : ScriptPoint) {old new : Option (List ℕ)} {x : Option Expectation}
    → PrintEnds p.next old (image_line p.at.device) x new done
    → IfErr done (λ f. (r : SourceState) → IsAtEnd r.left → LinesDoneThenFailure p r old new f)
image_line_breaks_off (Ok it) p prints = tt
image_line_breaks_off (Err f) p {old = old} prints = λ r ended. image_line_fails_after_moves (no_line_is_done p r old) ended prints

-- Lemmas about lines without their events.

-- A line without events ran, with or without a live session.
pub plain_line_is_done : {d : DeviceView} {l l' : ScriptContext} {k : ℕ} {line : List ℕ} {old new : Option (List ℕ)}
    → LineDoneButEvents d l k line old None l' new
    → (b : LinkView) → b.device ≡ d → LineDone k (point_of_context l b) line old (point_of_context l' b) new
plain_line_is_done (line_without_events done) = done

-- If a line has events that must still be played, these events are its meaning.
pub plain_line_says_events : {d : DeviceView} {l l' : ScriptContext} {k : ℕ} {line : List ℕ} {old new : Option (List ℕ)} {events :
    EventLine}
    → LineDoneButEvents d l k line old (Some events) l' new → line_of (given_bytes l.given) line ≡ Some (content_of_event events)
plain_line_says_events (line_with_events says) = says

-- If a line has events that must still be played, and no session is live, the line is deferred.
pub plain_line_is_deferred : {d : DeviceView} {l l' : ScriptContext} {k : ℕ} {line : List ℕ} {old new : Option (List ℕ)} {events :
    EventLine}
    {b : LinkView} → LineDoneButEvents d l k line old (Some events) l' new → b.session ≡ NoLiveSession
    → LineDoneOrDeferred k (point_of_context l b) line old (point_of_context l' b) new true
plain_line_is_deferred (line_with_events says) none = is_deferred none refl refl

-- The result of playing the events of a line is the result of the line.
pub line_ends : (done : Result Unit ScriptFault) {d : DeviceView} {l l' : ScriptContext} {k : ℕ} {line : List ℕ}
    {old mid new : Option (List ℕ)}
    {events : EventLine} {b : LinkView} {q : ScriptPoint} → LineDoneButEvents d l k line old (Some events) l' mid
    → LineOutcome (point_of_context l' b) (content_of_event events) mid q new done → LineEnds k (point_of_context l b) line old q new done
line_ends (Ok it) (line_with_events says) acts = record { ok = acting_line_is_done says acts.ok; fault = tt }
line_ends (Err f) {l = l} {k = k} {line = line} {old = old} {new = new} {events = events} {b = b} (line_with_events says) acts = record {
  ok = tt;
  fault = acts.fault k line says;
}

-- If a line's events have this meaning, the result of the meaning is the result of the line.
pub plain_line_ends_by_events : (done : Result Unit ScriptFault) {d : DeviceView} {l l' : ScriptContext} {k : ℕ} {line : List ℕ}
    {old mid new : Option (List ℕ)}
    {events : EventLine} {b : LinkView} {q : ScriptPoint} {said : LineContent} → LineDoneButEvents d l k line old (Some events) l' mid
    → content_of_event events ≡ said
    → LineOutcome (point_of_context l' b) said mid q new done → LineEnds k (point_of_context l b) line old q new done
plain_line_ends_by_events done {l' = l'} {mid = mid} {new = new} {b = b} {q = q} plain is acts =
    line_ends done plain (subst (λ (s : LineContent). LineOutcome (point_of_context l' b) s mid q new done) (sym is) acts)
