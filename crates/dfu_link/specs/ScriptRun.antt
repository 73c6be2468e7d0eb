-- Runs of a script: its settings, its lines with their events, and the text that it prints.
use Rattle.std.specs.Prelude.{◌≡◌, ◌≢◌, ℕ, ◌+◌, ◌*◌, ◌≤◌, ◌==◌, Bool, true, false, if◌then◌else◌, List, [], ◌∷◌, ◌++◌, length, Option, Some, None, Result, replicate}
use Rattle.std.specs.Io.KnownBytes.{Appends}
use Rattle.dfu_wire.specs.Functional.{functional_of}
use Rattle.dfu_host.specs.declared.limits.Limits.{Limits}
use Rattle.dfu_slots.specs.declared.layout.Unit.TheVariants.{Byte}
use Rattle.dfu_slots.specs.Units.{Grain, in_place_grain, gate_room, IsWhole}
use Rattle.dfu_slots.specs.Medium.{MediumState, AllWrites, blank_medium}
use Rattle.dfu_slots.specs.Image.{Active}
use Rattle.dfu_slots.specs.StoreView.{image_of, format_series}
use Rattle.dfu_device.specs.declared.objection.Objection.TheVariants.{File as FailsCheck}
use Rattle.dfu_device.specs.Candidate.{candidate_in}
use Rattle.dfu_device.specs.Stage.{InAppIdle}
use Rattle.dfu_device.specs.Pace.{no_pace}
use Rattle.dfu_device.specs.Setting.{Setting, IsAllowedSetting, functional_of_this_version}
use Rattle.dfu_device.specs.DeviceView.{DeviceView}
use Rattle.dfu_sim.specs.LinkView.{NoLiveSession, LinkView, BenchMatchesFlash}
use Rattle.dfu_sim.specs.Play.{Answered}
use Rattle.dfu_sim.specs.Happening.{Happening, Offers, Uploads, Aborts, Goes, Passes, Resets, Cuts, Refuses, Fate, Pass, Refusing, no_write_harmed}
use Rattle.dfu_sim.specs.EventResults.{EventResult}
use Rattle.dfu_sim.specs.declared.fault.LinkFault.{LinkFault}
use Rattle.dfu_link.specs.Texts.{answer_line, image_line, show_line}
use Rattle.dfu_link.specs.Words.{lines_of}
use Rattle.dfu_link.specs.LineContent.{ConfigLine, SetsDeviceIds, SetsDevice, SetsUnit, SetsSector, SetsPace, SetsCapacity, SetsImage, SetsCheck, EventLine, Offer, Upload, Abort, Go, Time, Reset, Cut, Refuse, LineContent, Blank, SetsConfig, SetsLimits, Does, GoesOn, Show, ExpectsText}
use Rattle.dfu_link.specs.Lines.{line_of}
use Rattle.dfu_link.specs.Expecting.{Expectation, MeetsExpectation, expectation_left}

-- Settings before the first event line, `show` or `expect`: the device, the unit, sectors and pace of its medium, the largest image, the
-- image at the start, the first bytes of each image that the device's program accepts, and the limits of sessions. `given` holds the bytes
-- that FILE stands for; only the caller gives them.
pub record Settings : Type 0 where
  pub device : Setting
  pub grain : Grain
  pub capacity : ℕ
  pub image : List ℕ
  pub check : List ℕ
  pub limits : Limits
  pub given : Option (List ℕ)

-- Settings of a script without configuration lines.
abbrev pub initial_settings : (given : Option (List ℕ)) → Settings
initial_settings given = record {
  device = record {
    ids = record { device = 0x0100; product = 0x0001; vendor = 0x1209 };
    functional = functional_of 7 255 8 0x0110;
    least = 1;
    busy_ms = 5;
    manifest_ms = 10;
    pace = no_pace;
  };
  grain = in_place_grain Byte;
  capacity = 64;
  image = 0 ∷ [];
  check = [];
  limits = record { actions = 1000000; restarts = 0 };
  given = given;
}

-- Settings after a configuration line, which replaces the earlier value. A line of the unit, the sectors or the pace also sets the pace in
-- the device's configuration, which must be that of its medium.
abbrev pub settings_with : Settings → ConfigLine → Settings
settings_with s (SetsDeviceIds ids) = record s { device = record s.device { ids = ids } }
settings_with s (SetsDevice functional least busy manifest) =
    record s { device = record s.device { functional = functional; least = least; busy_ms = busy; manifest_ms = manifest } }
settings_with s (SetsUnit unit) = record s {
  grain = record s.grain { unit = unit };
  device = record s.device { pace = record s.device.pace { unit = unit } };
}
settings_with s (SetsSector n) = record s {
  grain = record s.grain { sector = n };
  device = record s.device { pace = record s.device.pace { sector = n } };
}
settings_with s (SetsPace erase program) =
    record s { device = record s.device { pace = record s.device.pace { erase_ms = erase; program_ms = program } } }
settings_with s (SetsCapacity n) = record s { capacity = n }
settings_with s (SetsImage bytes) = record s { image = bytes }
settings_with s (SetsCheck bytes) = record s { check = bytes }

-- Settings after a configuration line, a `limits` line or a blank line; None for an event line, `show` and `expect`.
abbrev pub settings_after_line : Settings → LineContent → Option Settings
settings_after_line s Blank = Some s
settings_after_line s (SetsConfig x) = Some (settings_with s x)
settings_after_line s (SetsLimits actions restarts) = Some (record s { limits = record { actions = actions; restarts = restarts } })
settings_after_line s said = None

-- Settings after configuration lines, `limits` lines and blank lines, one line after the other.
pub data SettingsPrepared : Settings → List (List ℕ) → Settings → Type 0 where
  nothing : {s : Settings} → SettingsPrepared s [] s
  line_prepares_next : {s t t' : Settings} {lines : List (List ℕ)} (line : List ℕ) {said : LineContent} →
      SettingsPrepared s lines t → line_of t.given line ≡ Some said → settings_after_line t said ≡ Some t' → SettingsPrepared s (lines
      ++ line ∷ []) t'

-- The line acts: it is an event line, `show` or `expect`.
abbrev pub IsActingLine : Option LineContent → Type 0
IsActingLine (Some (Does events)) = Unit {0}
IsActingLine (Some GoesOn) = Unit {0}
IsActingLine (Some Show) = Unit {0}
IsActingLine (Some (ExpectsText text)) = Unit {0}
IsActingLine said = ⊥

-- The device must start: the next line acts, or there is no next line.
abbrev pub DeviceMustStart : Settings → List (List ℕ) → Type 0
DeviceMustStart s [] = Unit {0}
DeviceMustStart s (line ∷ lines) = IsActingLine (line_of s.given line)

-- Blank medium of two slots, with this grain and with room for images of `capacity` bytes.
abbrev pub blank_slots : Grain → ℕ → MediumState
blank_slots grain capacity = blank_medium grain (2 * (2 * gate_room grain + capacity))

-- The device starts: its setting is allowed, the capacity is a multiple of the unit and of the sector, the image is at most as long as the
-- capacity, and the device is in appIDLE on a blank medium that was formatted with the image, which is the active image.
pub record DeviceStarts (s : Settings) (d : DeviceView) : Type 0 where
  pub config : d.config ≡ record s.device { functional = functional_of_this_version s.device.functional }
  pub allowed : IsAllowedSetting d.config
  pub whole : IsWhole s.grain s.capacity
  pub fits : length s.image ≤ s.capacity
  pub formatted : AllWrites (blank_slots s.grain s.capacity) (format_series (blank_slots s.grain s.capacity) s.image) d.slots.medium
  pub active : Active d.slots.medium s.image
  pub image : image_of d.slots ≡ s.image
  pub stage : d.stage ≡ InAppIdle

-- Bench of a device with no session.
abbrev pub link_at_rest : DeviceView → LinkView
link_at_rest d = record { device = d; session = NoLiveSession }

-- True if the bytes begin with `front`.
abbrev pub has_front : (front bytes : List ℕ) → Bool
has_front [] bytes = true
has_front (x ∷ front) [] = false
has_front (x ∷ front) (byte ∷ bytes) = if x == byte then has_front front bytes else false

-- True if a program that accepts only images that begin with `check` accepts the received image, or if there is no image.
abbrev pub is_accepted : (check : List ℕ) → Option (List ℕ) → Bool
is_accepted check None = true
is_accepted check (Some taken) = has_front check taken

-- Fate of an action on a device whose program accepts only images that begin with `check`: if the received image begins otherwise, the
-- program refuses it when the action closes it.
abbrev pub checked_fate : (check : List ℕ) → DeviceView → Fate → Fate
checked_fate check d fate = if is_accepted check (candidate_in d.stage) then fate else Refusing FailsCheck fate

-- Event on a bench whose device's program accepts only images that begin with `check`.
abbrev pub checked_event : (check : List ℕ) → LinkView → Happening → Happening
checked_event check b (Goes fate harm) = Goes (checked_fate check b.device fate) harm
checked_event check b event = event

-- Events in their order, with the text that they print, if the device's program accepts only images that begin with `check`. After each
-- event the bench shows the active image of its medium's bytes.
pub data EventsPlayed (check : List ℕ) : LinkView → List Happening → List ℕ → LinkView → Type 0 where
  no_event_played : {b : LinkView} → EventsPlayed check b [] [] b
  event_played_next : {b c c' : LinkView} {events : List Happening} {out : List ℕ} {answer : Result Answered LinkFault} (event : Happening)
      →
      EventsPlayed check b events out c → EventResult c (checked_event check c event) c' answer → BenchMatchesFlash c'
      → EventsPlayed check b (events ++ event ∷ []) (out ++ answer_line answer) c'

-- Point of a script after the device has started: the bytes that FILE stands for, the first bytes of each image that the program accepts,
-- the limits of the next session, the expected line, and the link.
pub record ScriptPoint : Type 0 where
  pub given : Option (List ℕ)
  pub check : List ℕ
  pub limits : Limits
  pub next : Option Expectation
  pub at : LinkView

-- Point of a script with its settings and a link, at which no line is expected.
abbrev pub initial_point : Settings → LinkView → ScriptPoint
initial_point s at = record { given = s.given; check = s.check; limits = s.limits; next = None; at = at }

-- Point of a script after a text was printed, with the link after it.
abbrev pub point_after_text : ScriptPoint → (text : List ℕ) → LinkView → ScriptPoint
point_after_text p text at = record p { next = expectation_left p.next text; at = at }

-- Events of an event line.
abbrev pub events_of_line : Limits → EventLine → List Happening
events_of_line limits (Offer purpose file) = Offers purpose file limits ∷ []
events_of_line limits Upload = Uploads limits ∷ []
events_of_line limits Abort = Aborts ∷ []
events_of_line limits (Go fate harm times) = replicate times (Goes fate harm)
events_of_line limits (Time ms) = Passes ms ∷ []
events_of_line limits Reset = Resets ∷ []
events_of_line limits Cut = Cuts ∷ []
events_of_line limits (Refuse why) = Refuses why ∷ []

-- Line k acts after the device has started, and its text is as expected. A configuration line does not act. `go until report` performs
-- actions that print nothing, and then one that prints a line. `expect` does not act while a line is expected already.
pub data LineActs (k : ℕ) : ScriptPoint → LineContent → List ℕ → ScriptPoint → Type 0 where
  skips : {p : ScriptPoint} → LineActs k p Blank [] p
  acts_by_limits : {p : ScriptPoint} {actions restarts : ℕ} → LineActs k p (SetsLimits actions restarts) []
      (record p { limits = record { actions = actions; restarts = restarts } })
  plays : {p : ScriptPoint} {events : EventLine} {b : LinkView} {out : List ℕ} →
      EventsPlayed p.check p.at (events_of_line p.limits events) out b
      → MeetsExpectation p.next out → LineActs k p (Does events) out (point_after_text p out b)
  goes_on : {p : ScriptPoint} {mid b : LinkView} {answer : Result Answered LinkFault} (times : ℕ)
      → EventsPlayed p.check p.at (replicate times (Goes Pass no_write_harmed)) [] mid
      → EventResult mid (checked_event p.check mid (Goes Pass no_write_harmed)) b answer
      → BenchMatchesFlash b
      → answer_line answer ≢ [] → MeetsExpectation p.next (answer_line answer)
      → LineActs k p GoesOn (answer_line answer) (point_after_text p (answer_line answer) b)
  shows : {p : ScriptPoint} → MeetsExpectation p.next (show_line p.at.device)
      → LineActs k p Show (show_line p.at.device) (point_after_text p (show_line p.at.device) p.at)
  expects : {p : ScriptPoint} {text : List ℕ} → p.next ≡ None → LineActs k p (ExpectsText text) []
      (record p { next = Some (record { number = k; text = text }) })

-- Lines run in their order, beginning with line k, and print their text.
pub data LinesRun (k : ℕ) : ScriptPoint → List (List ℕ) → List ℕ → ScriptPoint → Type 0 where
  stays : {p : ScriptPoint} → LinesRun k p [] [] p
  line_runs_next : {p q q' : ScriptPoint} {lines : List (List ℕ)} (line : List ℕ) {said : LineContent} {out more : List ℕ} →
      LinesRun k p lines out q → line_of q.given line ≡ Some said → LineActs (k + length lines) q said more q'
      → LinesRun k p (lines ++ line ∷ []) (out ++ more) q'

-- The lines of the text before `after` are its prologue: they set the configuration, and the device must start before `after`.
pub record IsPrologue (given : Option (List ℕ)) (text : List ℕ) (settings : Settings) (after : List (List ℕ)) : Type 0 where
  pub before : List (List ℕ)
  pub split : lines_of text ≡ before ++ after
  pub prepares : SettingsPrepared (initial_settings given) before settings
  pub ready : DeviceMustStart settings after

-- The text `out` is that of a run of a whole script, of at most 16,777,216 bytes: the configuration lines, the start of the device, the
-- lines after it, and the line of the image, which is as expected.
pub record IsScriptRun (given : Option (List ℕ)) (text out : List ℕ) : Type 0 where
  pub small : length text ≤ 16777216
  pub settings : Settings
  pub after : List (List ℕ)
  pub lines_before_start_set_up_device : IsPrologue given text settings after
  pub first : DeviceView
  pub starts : DeviceStarts settings first
  pub shown : List ℕ
  pub end : ScriptPoint
  pub runs : LinesRun (1 + length lines_before_start_set_up_device.before) (initial_point settings (link_at_rest first)) after shown end
  pub meets : MeetsExpectation end.next (image_line end.at.device)
  pub out_is : out ≡ shown ++ image_line end.at.device

-- The written text is that of a run of the script.
pub record RunIsOut (given : Option (List ℕ)) (text : List ℕ) (old new : Option (List ℕ)) : Type 0 where
  pub out : List ℕ
  pub run : IsScriptRun given text out
  pub told : Appends old new out
