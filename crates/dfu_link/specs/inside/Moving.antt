-- Progress of a script in the loops of the code, line by line and event by event.
use Rattle.std.specs.Prelude.{◌≡◌, ℕ, ◌+◌, List, [], ◌++◌, Bool, true, false, Option, Some, None, Result, IfSome, OnOk, IfErr, replicate}
use Rattle.std.specs.Io.KnownBytes.{Appends, IsAtEnd}
use Rattle.dfu_slots.specs.Medium.Fuse.{Whole}
use Rattle.dfu_device.specs.DeviceView.{DeviceView}
use Rattle.dfu_sim.specs.LinkView.{NoLiveSession, LinkView}
use Rattle.dfu_sim.specs.Happening.{Happening, Goes, Pass, no_write_harmed}
use Rattle.dfu_link.specs.Texts.{image_line}
use Rattle.dfu_link.specs.Words.{lines_of}
use Rattle.dfu_link.specs.LineContent.{Offer, LineContent, Does, given_bytes, content_of_event}
use Rattle.dfu_link.specs.Lines.{line_of}
use Rattle.dfu_link.specs.ScriptRun.{Settings, SettingsPrepared, DeviceMustStart, EventsPlayed, ScriptPoint, LineActs, LinesRun}
use Rattle.dfu_link.specs.Falls.{StoppedAmongEvents, IsOfferLine, LineFails, NextLineFails}
use Rattle.dfu_link.specs.TextLimit.{ExceedsLimit, ReadingIsStopped}
use Rattle.dfu_link.specs.Expecting.{Expectation, MeetsExpectation}
use Rattle.dfu_link.specs.inside.Expected.{point_of_context, TextPrinted}
use Rattle.dfu_link.specs.declared.scripting.expectation.ScriptContext.{ScriptContext}
use Rattle.dfu_link.specs.inside.Source.{SourceState, SourceLine, SourceLines, NextLineOrEnd, SourceStops}
use Rattle.dfu_link.specs.declared.scripting.line.EventLine.{EventLine as EventLineRead}
use Rattle.dfu_link.specs.declared.scripting.event_parts.OfferedFile.{OfferedFile}
use Rattle.dfu_link.specs.declared.scripting.event_parts.OfferedFile.TheVariants.{Decoded, Given}
use Rattle.dfu_link.specs.declared.scripting.fault.ScriptFault.{ScriptFault}
use Rattle.dfu_link.specs.declared.scripting.fault.ScriptFault.TheVariants.{NoMemory}

-- Events were played, and their text was printed as expected.
pub record PlayIsDone (check : List ℕ) (b : LinkView) (e : Option Expectation) (events : List Happening) (old : Option (List ℕ))
    (b' : LinkView) (e' : Option Expectation)
    (new : Option (List ℕ)) : Type 0 where
  pub out : List ℕ
  pub plays : EventsPlayed check b events out b'
  pub prints : TextPrinted e old out e' new

-- Result of playing events: with Ok all were played, and with a fault the script stopped among them.
pub record PlayEnds (check : List ℕ) (b : LinkView) (e : Option Expectation) (events : List Happening) (old : Option (List ℕ))
    (b' : LinkView)
    (e' : Option Expectation) (new : Option (List ℕ)) (r : Result Unit ScriptFault) : Type 0 where
  pub ok : OnOk r (PlayIsDone check b e events old b' e' new)
  pub fault : IfErr r (λ f. StoppedAmongEvents check b e events old new f)

-- A line with this meaning ran, and its text was written.
pub record LineCarriedOut (p : ScriptPoint) (said : LineContent) (old : Option (List ℕ)) (p' : ScriptPoint)
    (new : Option (List ℕ)) : Type 0 where
  pub out : List ℕ
  pub acts : (k : ℕ) → LineActs k p said out p'
  pub told : Appends old new out

-- Each line with this meaning fails with the fault, for any line number.
abbrev pub LineFailsByMeaning : ScriptPoint → LineContent → Option (List ℕ) → Option (List ℕ) → ScriptFault → Type 0
LineFailsByMeaning p said old new fault = (k : ℕ) (line : List ℕ) → line_of p.given line ≡ Some said → LineFails p k line old new fault

-- Result of a line with this meaning: with Ok it ran, and with a fault it failed.
pub record LineOutcome (p : ScriptPoint) (said : LineContent) (old : Option (List ℕ)) (p' : ScriptPoint) (new : Option (List ℕ))
    (r : Result Unit ScriptFault)
    : Type 0 where
  pub ok : OnOk r (LineCarriedOut p said old p' new)
  pub fault : IfErr r (λ f. LineFailsByMeaning p said old new f)

-- The host performed some number of actions with the fate Pass, and nothing was printed.
pub record SilentPasses (check : List ℕ) (b : LinkView) (e : Option Expectation) (old : Option (List ℕ)) (b' : LinkView)
    (e' : Option Expectation) (new : Option (List ℕ)) : Type 0 where
  pub times : ℕ
  pub plays : EventsPlayed check b (replicate times (Goes Pass no_write_harmed)) [] b'
  pub prints : TextPrinted e old [] e' new

-- File of an offer; no bytes for any other line.
abbrev pub offered_file_of : LineContent → List ℕ
offered_file_of (Does (Offer purpose file)) = file
offered_file_of said = []

-- Bytes of an `OfferedFile` of the code: those decoded from its line, or those given to the script.
abbrev pub offered_file_bytes : OfferedFile → List ℕ
offered_file_bytes (Decoded bytes) = bytes.items
offered_file_bytes (Given bytes) = bytes.now

-- Line k ran, and its text was written.
pub record LineDone (k : ℕ) (p : ScriptPoint) (line : List ℕ) (old : Option (List ℕ)) (p' : ScriptPoint)
    (new : Option (List ℕ)) : Type 0 where
  pub said : LineContent
  pub is : line_of p.given line ≡ Some said
  pub out : List ℕ
  pub acts : LineActs k p said out p'
  pub told : Appends old new out

-- Result of line k: with Ok it ran, and with a fault it failed.
pub record LineEnds (k : ℕ) (p : ScriptPoint) (line : List ℕ) (old : Option (List ℕ)) (p' : ScriptPoint) (new : Option (List ℕ))
    (r : Result Unit ScriptFault) : Type 0 where
  pub ok : OnOk r (LineDone k p line old p' new)
  pub fault : IfErr r (λ f. LineFails p k line old new f)

-- The lines of a source between two of its states ran, and their text was written.
pub record LinesDone (p : ScriptPoint) (s : SourceState) (old : Option (List ℕ)) (p' : ScriptPoint) (s' : SourceState)
    (new : Option (List ℕ)) : Type 0 where
  pub done : List (List ℕ)
  pub shown : List ℕ
  pub gives : SourceLines s done s'
  pub runs : LinesRun (s.number + 1) p done shown p'
  pub told : Appends old new shown

-- All lines of a source ran, and the line of the image was written.
pub record SourceExhausted (p : ScriptPoint) (s : SourceState) (old new : Option (List ℕ)) : Type 0 where
  pub done : List (List ℕ)
  pub last : SourceState
  pub gives : SourceLines s done last
  pub ended : IsAtEnd last.left
  pub shown : List ℕ
  pub end : ScriptPoint
  pub runs : LinesRun (s.number + 1) p done shown end
  pub meets : MeetsExpectation end.next (image_line end.at.device)
  pub told : Appends old new (shown ++ image_line end.at.device)

-- If the reader has a known text, the script fails at the next line of its source, or at the end.
abbrev pub FailureAtSource : ScriptPoint → SourceState → Option (List ℕ) → Option (List ℕ) → ScriptFault → Type 0
FailureAtSource p s old new fault = IfSome s.left
    (λ left. ReadingIsStopped s.room left fault × NextLineFails p (s.number + 1) (lines_of left) old new fault)

-- Some lines of a source ran, their text was written, and then the script failed.
pub record LinesDoneThenFailure (p : ScriptPoint) (s : SourceState) (old new : Option (List ℕ)) (fault : ScriptFault) : Type 0 where
  pub to : ScriptPoint
  pub at : SourceState
  pub mid : Option (List ℕ)
  pub moves : LinesDone p s old to at mid
  pub falls : FailureAtSource to at mid new fault

-- The medium of the device is not armed.
abbrev pub IsUnarmed : DeviceView → Type 0
IsUnarmed d = d.slots.medium.fuse ≡ Whole

-- A line ran on a link; or it was deferred, because it offers a file and no session is live.
pub data LineDoneOrDeferred (k : ℕ) (p : ScriptPoint) (line : List ℕ) (old : Option (List ℕ)) (p' : ScriptPoint)
    (new : Option (List ℕ)) : Bool
    → Type 0 where
  is_done : LineDone k p line old p' new → LineDoneOrDeferred k p line old p' new false
  is_deferred : p.at.session ≡ NoLiveSession → p' ≡ p → new ≡ old → LineDoneOrDeferred k p line old p' new true

-- Lines ran on a link. Either they were all lines of the source, and the line of the image was written; or the source has read one more
-- line, which did not run yet.
pub data LinkOutcome (p : ScriptPoint) (s : SourceState) (old : Option (List ℕ)) (p' : ScriptPoint) (s' : SourceState)
    (new : Option (List ℕ))
    : Bool → Type 0 where
  all_done : SourceExhausted p s old new → LinkOutcome p s old p' s' new false
  one_line_left : {at : SourceState} → LinesDone p s old p' at new → SourceLine at s' → LinkOutcome p s old p' s' new true

-- A line ran except for its events, with or without a live session: it has no events, or its events must still be played.
pub data LineDoneButEvents (d : DeviceView) (l : ScriptContext) (k : ℕ) (line : List ℕ) (old : Option (List ℕ))
    : Option EventLineRead → ScriptContext → Option (List ℕ) → Type 0 where
  line_without_events : {l' : ScriptContext} {new : Option (List ℕ)}
      → ((b : LinkView) → b.device ≡ d → LineDone k (point_of_context l b) line old (point_of_context l' b) new)
      → LineDoneButEvents d l k line old None l' new
  line_with_events : {events : EventLineRead} → line_of (given_bytes l.given) line ≡ Some (content_of_event events)
      → LineDoneButEvents d l k line old (Some events) l old

-- A line fails before any of its events is played, with or without a live session.
abbrev pub LineFailsBeforeEvents : DeviceView → ScriptContext → ℕ → List ℕ → Option (List ℕ) → Option (List ℕ) → ScriptFault → Type 0
LineFailsBeforeEvents d l k line old new fault = (b : LinkView) → b.device ≡ d → LineFails (point_of_context l b) k line old new fault

-- The lines of a source between two of its states changed the settings from `x` to `x'`.
pub record LinesPrepared (x : Settings) (s : SourceState) (x' : Settings) (s' : SourceState) : Type 0 where
  pub done : List (List ℕ)
  pub gives : SourceLines s done s'
  pub prepares : SettingsPrepared x done x'

-- The lines of a source changed the settings from `x` to `x'`, and now the device must start: the next line acts, or there is no next line.
pub record LinesConfigured (x : Settings) (s : SourceState) (x' : Settings) (more : Bool) (s' : SourceState) : Type 0 where
  pub at : SourceState
  pub prepared : LinesPrepared x s x' at
  pub next : NextLineOrEnd at more s'
  pub ready : IfSome at.left (λ left. DeviceMustStart x' (lines_of left))
  pub reached : IfSome at.left (λ left. ¬ ExceedsLimit at.room left)

-- Some lines of a source set the configuration, and the next line fails.
pub record SettingLineFails (x : Settings) (s : SourceState) (fault : ScriptFault) : Type 0 where
  pub to : Settings
  pub at : SourceState
  pub prepared : LinesPrepared x s to at
  pub stops : SourceStops to.given at fault

-- Fault of the configuration lines: NoMemory, or the fault of a line that fails.
abbrev pub IsConfigureFault : Settings → SourceState → ScriptFault → Type 0
IsConfigureFault x s NoMemory = Unit {0}
IsConfigureFault x s fault = SettingLineFails x s fault

-- If the line is of the language, the bytes are the file that it offers, or empty if it offers none.
abbrev pub IsOfferedFileOf : Option (List ℕ) → (line bytes : List ℕ) → Type 0
IsOfferedFileOf given line bytes = (said : LineContent) → line_of given line ≡ Some said → bytes ≡ offered_file_of said

-- There is no memory for the file that the line offers.
pub record NoRoomForFile (given : Option (List ℕ)) (line : List ℕ) (fault : ScriptFault) : Type 0 where
  pub offers : IsOfferLine given line
  pub is : fault ≡ NoMemory
