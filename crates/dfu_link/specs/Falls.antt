-- Scripts that end with a fault, and the text that was written before it.
use Rattle.std.specs.Prelude.{◌≡◌, ◌≢◌, ◌⊎◌, ℕ, ◌+◌, ◌%◌, ◌<◌, List, [], ◌∷◌, ◌++◌, length, Option, Some, None, Result, Ok, Err}
use Rattle.std.specs.Io.KnownBytes.{Appends}
use Rattle.dfu_slots.specs.Units.{IsMultiple}
use Rattle.dfu_device.specs.declared.config.ConfigFault.{ConfigFault}
use Rattle.dfu_device.specs.Setting.{IsFirstFault}
use Rattle.dfu_device.specs.DeviceView.{DeviceView}
use Rattle.dfu_sim.specs.declared.offering.Purpose.{Purpose}
use Rattle.dfu_sim.specs.LinkView.{NoLiveSession, LinkView}
use Rattle.dfu_sim.specs.Happening.{Happening}
use Rattle.dfu_suffix.specs.Writing.{IsPartlyWritten}
use Rattle.dfu_link.specs.Texts.{image_line, show_line}
use Rattle.dfu_link.specs.Words.{lines_of}
use Rattle.dfu_link.specs.LineContent.{ConfigLine, EventLine, Offer, HasTear, SetsConfig, Does, GoesOn, Show, ExpectsText}
use Rattle.dfu_link.specs.Lines.{line_of}
use Rattle.dfu_link.specs.Expecting.{Expectation, IsPrintFault}
use Rattle.dfu_link.specs.TextLimit.{NoLineRead, ReadingStopsAfter}
use Rattle.dfu_link.specs.ScriptRun.{Settings, initial_settings, SettingsPrepared, DeviceStarts, link_at_rest, EventsPlayed, ScriptPoint, initial_point, events_of_line, LineActs, LinesRun, IsPrologue, RunIsOut}
use Rattle.dfu_link.specs.declared.scripting.fault.ScriptFault.{ScriptFault}
use Rattle.dfu_link.specs.declared.scripting.fault.ScriptFault.TheVariants.{BadLine, LateConfig, BadConfig, Expected, NonePrinted, TooLarge, NoMemory, Read, Write}

-- A script stopped among the events of a line: the first ones were played, and a prefix of their text was written, but not all of it. The
-- device's program accepts only images that begin with `check`, and `next` is the expected line.
pub record StoppedAmongEvents (check : List ℕ) (b : LinkView) (next : Option Expectation) (events : List Happening)
    (old new : Option (List ℕ))
    (fault : ScriptFault)
    : Type 0 where
  pub events_played_before : List Happening
  pub left : List Happening
  pub split : events ≡ events_played_before ++ left
  pub after : LinkView
  pub out : List ℕ
  pub plays : EventsPlayed check b events_played_before out after
  pub broken_text_in_part : IsPartlyWritten old new out
  pub fails : IsPrintFault next out old new fault

-- A script stops while it writes the text of a line: that of the line's events, of `go until report`, or of `show`.
pub data PrintingStops (p : ScriptPoint) (line : List ℕ) (old new : Option (List ℕ)) (fault : ScriptFault) : Type 0 where
  in_events : {events : EventLine} → line_of p.given line ≡ Some (Does events)
      → StoppedAmongEvents p.check p.at p.next (events_of_line p.limits events) old new fault
      → PrintingStops p line old new fault
  stops_in_until_report : {out : List ℕ} {q : ScriptPoint} → line_of p.given line ≡ Some GoesOn →
      LineActs 0 (record p { next = None }) GoesOn out q
      → IsPartlyWritten old new out → IsPrintFault p.next out old new fault → PrintingStops p line old new fault
  stops_in_show : line_of p.given line ≡ Some Show → IsPartlyWritten old new (show_line p.at.device)
      → IsPrintFault p.next (show_line p.at.device) old new fault
      → PrintingStops p line old new fault

-- The line sets a value of the device's configuration.
pub record IsSettingLine (given : Option (List ℕ)) (line : List ℕ) : Type 0 where
  pub setting : ConfigLine
  pub says : line_of given line ≡ Some (SetsConfig setting)

-- The line offers a file.
pub record IsOfferLine (given : Option (List ℕ)) (line : List ℕ) : Type 0 where
  pub purpose : Purpose
  pub file : List ℕ
  pub says : line_of given line ≡ Some (Does (Offer purpose file))

-- The line expects a text as the next printed line.
pub record IsExpectLine (given : Option (List ℕ)) (line : List ℕ) : Type 0 where
  pub text : List ℕ
  pub says : line_of given line ≡ Some (ExpectsText text)

-- The line needs memory: for the file that it offers while no session is live, for the tear of a harmed write, or for the line that it
-- expects.
pub data LineNeedsMemory (p : ScriptPoint) (line : List ℕ) : Type 0 where
  needs_file_memory : IsOfferLine p.given line → p.at.session ≡ NoLiveSession → LineNeedsMemory p line
  needs_tear_memory : {events : EventLine} → line_of p.given line ≡ Some (Does events) → HasTear events → LineNeedsMemory p line
  needs_text_memory : IsExpectLine p.given line → LineNeedsMemory p line

-- The line expects a text, but the text that line n of the script expects was not printed yet.
pub record IsSecondExpectation (p : ScriptPoint) (line : List ℕ) (n : ℕ) : Type 0 where
  pub first : Expectation
  pub is : p.next ≡ Some first
  pub number : n ≡ first.number
  pub second : IsExpectLine p.given line

-- Line k fails with `fault` after the device has started. Nothing is written if the line is not of the language, configures the device,
-- lacks memory, or expects a text before an earlier expected one was printed. Otherwise the printing of its text stops.
abbrev pub LineFails : ScriptPoint → ℕ → List ℕ → Option (List ℕ) → Option (List ℕ) → ScriptFault → Type 0
LineFails p k line old new (BadLine n) = (n ≡ k) × (line_of p.given line ≡ None) × (new ≡ old)
LineFails p k line old new (LateConfig n) = (n ≡ k) × IsSettingLine p.given line × (new ≡ old)
LineFails p k line old new NoMemory = (LineNeedsMemory p line × (new ≡ old)) ⊎ PrintingStops p line old new NoMemory
LineFails p k line old new Write = PrintingStops p line old new Write
LineFails p k line old new (Expected n) = PrintingStops p line old new (Expected n)
LineFails p k line old new (NonePrinted n) = IsSecondExpectation p line n × (new ≡ old)
LineFails p k line old new fault = ⊥

-- The script fails at line k, the first of the remaining `lines`. Nothing more is written if the text exceeds its limit or the reader
-- fails. Otherwise line k fails; or no line remains, and the printing of the image line fails.
abbrev pub NextLineFails : ScriptPoint → ℕ → List (List ℕ) → Option (List ℕ) → Option (List ℕ) → ScriptFault → Type 0
NextLineFails p k lines old new TooLarge = new ≡ old
NextLineFails p k lines old new Read = new ≡ old
NextLineFails p k [] old new fault =
    IsPrintFault p.next (image_line p.at.device) old new fault × IsPartlyWritten old new (image_line p.at.device)
NextLineFails p k (line ∷ lines) old new fault = LineFails p k line old new fault

-- The script fails in one of `lines`, the first of which is line k: the lines before the failing one ran, and their text was written.
pub record LinesFail (p : ScriptPoint) (k : ℕ) (lines : List (List ℕ)) (old new : Option (List ℕ)) (fault : ScriptFault) : Type 0 where
  pub done : List (List ℕ)
  pub rest : List (List ℕ)
  pub split : lines ≡ done ++ rest
  pub shown : List ℕ
  pub end : ScriptPoint
  pub runs : LinesRun k p done shown end
  pub mid : Option (List ℕ)
  pub told : Appends old mid shown
  pub falls : NextLineFails end (k + length done) rest mid new fault

-- A script fails before its device starts: its first lines set their values, and the next line can't be read or is not of the language.
pub record SettingFails (given : Option (List ℕ)) (text : List ℕ) (fault : ScriptFault) : Type 0 where
  pub done : List (List ℕ)
  pub rest : List (List ℕ)
  pub split : lines_of text ≡ done ++ rest
  pub settings : Settings
  pub prepares : SettingsPrepared (initial_settings given) done settings
  pub falls : NoLineRead settings.given (1 + length done) rest fault
  pub stops : ReadingStopsAfter text done fault

-- No device can be configured with these settings: the setting has a fault, the capacity is not a multiple of the unit or of the sector, or
-- the image is longer than the capacity.
pub data NoDeviceStarts (s : Settings) : Type 0 where
  refused : (fault : ConfigFault) → IsFirstFault fault s.device → NoDeviceStarts s
  room_not_whole : ¬ IsMultiple s.grain.unit s.capacity → NoDeviceStarts s
  cuts_sector : 0 < s.grain.sector → s.capacity % s.grain.sector ≢ 0 → NoDeviceStarts s
  too_large : s.capacity < length s.image → NoDeviceStarts s

-- Fault of a device that does not start: BadConfig if no device can be configured, NoMemory if there is no memory.
abbrev pub StartFails : Settings → ScriptFault → Type 0
StartFails s BadConfig = NoDeviceStarts s
StartFails s NoMemory = Unit {0}
StartFails s fault = ⊥

-- A script fails. Nothing is written if there is no memory for a line, the image or the device, a configuration line fails, or no device
-- can be configured. Otherwise the device starts, and the script fails at a later line or at its end.
pub data ScriptFails (given : Option (List ℕ)) (text : List ℕ) (old new : Option (List ℕ)) : ScriptFault → Type 0 where
  no_memory : new ≡ old → ScriptFails given text old new NoMemory
  fails_in_setting : {fault : ScriptFault} → SettingFails given text fault → new ≡ old → ScriptFails given text old new fault
  start_fails : {settings : Settings} {after : List (List ℕ)} (lines_before_start_set_up_device : IsPrologue given text settings after)
      → NoDeviceStarts settings
      → ReadingStopsAfter text lines_before_start_set_up_device.before BadConfig → new ≡ old → ScriptFails given text old new BadConfig
  run_fails : {settings : Settings} {after : List (List ℕ)} {first : DeviceView} {fault : ScriptFault}
      (lines_before_start_set_up_device : IsPrologue given text settings after)
      → DeviceStarts settings first
      → (falls : LinesFail (initial_point settings (link_at_rest first))
      (1 + length lines_before_start_set_up_device.before) after old new fault)
      → ReadingStopsAfter text (lines_before_start_set_up_device.before ++ falls.done) fault → ScriptFails given text old new fault

-- Ending of a script: with Ok the whole script ran, and with a fault the script failed with that fault.
abbrev pub ScriptEnding : (given : Option (List ℕ)) → (text : List ℕ) → (old new : Option (List ℕ)) → Result Unit ScriptFault → Type 0
ScriptEnding given text old new (Ok done) = RunIsOut given text old new
ScriptEnding given text old new (Err fault) = ScriptFails given text old new fault
