-- Meaning of a line, as plain data.
use Rattle.std.specs.Borrow.{Bor}
use Rattle.std.specs.Prelude.{ℕ, List, [], Option, Some, None, unwrap_or}
use Rattle.dfu_wire.specs.declared.ids.Ids.{Ids}
use Rattle.dfu_wire.specs.declared.functionals.Functional.{Functional}
use Rattle.dfu_slots.specs.declared.layout.Unit.{Unit as WriteUnit}
use Rattle.dfu_device.specs.declared.objection.Objection.{Objection}
use Rattle.dfu_link.specs.Words.{hex_word_bytes}
use Rattle.dfu_sim.specs.Happening.{Fate, CutInWrite, Fail, Lie, WriteHarm, harmed, fate_of, harm_of_fate}
use Rattle.dfu_sim.specs.declared.offering.Purpose.{Purpose}
use Rattle.dfu_link.specs.declared.scripting.line.HexText.{HexText}
use Rattle.dfu_link.specs.declared.scripting.line.HarmKind as kinds
use Rattle.dfu_link.specs.declared.scripting.line.HarmKind.TheVariants as kind
use Rattle.dfu_link.specs.declared.scripting.line.Line as lines
use Rattle.dfu_link.specs.declared.scripting.line.Line.TheVariants as line
use Rattle.dfu_link.specs.declared.scripting.line.ConfigLine as config_lines
use Rattle.dfu_link.specs.declared.scripting.line.ConfigLine.TheVariants as config
use Rattle.dfu_link.specs.declared.scripting.line.Offered as offereds
use Rattle.dfu_link.specs.declared.scripting.line.Offered.TheVariants as offered
use Rattle.dfu_link.specs.declared.scripting.line.EventLine as event_lines
use Rattle.dfu_link.specs.declared.scripting.line.EventLine.TheVariants as events

-- Bytes of a hexadecimal text.
abbrev pub hex_bytes : HexText → List ℕ
hex_bytes text = unwrap_or (hex_word_bytes text.text.now) []

-- Bytes that are given to a script as FILE, if there are any.
abbrev pub given_bytes : Option (Bor (List ℕ)) → Option (List ℕ)
given_bytes None = None
given_bytes (Some bytes) = Some bytes.now

-- Bytes of a file that a line offers.
abbrev pub offered_bytes : offereds.Offered → List ℕ
offered_bytes (offered.Spelled text) = hex_bytes text
offered_bytes (offered.Given bytes) = bytes.now

-- Setting of a configuration line: the device's identifiers, its descriptor, the unit or the sectors of its medium, the milliseconds of an
-- erase and of a program of 256 bytes, the largest number of bytes of an image, the image at the start, or the first bytes of each image
-- that the program accepts.
pub data ConfigLine : Type 0 where
  SetsDeviceIds : Ids → ConfigLine
  SetsDevice : Functional → (least busy manifest : ℕ) → ConfigLine
  SetsUnit : WriteUnit → ConfigLine
  SetsSector : ℕ → ConfigLine
  SetsPace : (erase program : ℕ) → ConfigLine
  SetsCapacity : ℕ → ConfigLine
  SetsImage : List ℕ → ConfigLine
  SetsCheck : List ℕ → ConfigLine

-- Events of a line. A file is offered, to be installed, or installed and verified; an upload begins; the session is aborted; or the host
-- performs a number of actions of one fate, each with the same harm. Or time passes, the bus is reset, the power is cut, or the device's
-- program refuses the image of the closed download.
pub data EventLine : Type 0 where
  Offer : Purpose → (file : List ℕ) → EventLine
  Upload : EventLine
  Abort : EventLine
  Go : Fate → WriteHarm → (times : ℕ) → EventLine
  Time : (ms : ℕ) → EventLine
  Reset : EventLine
  Cut : EventLine
  Refuse : (why : Objection) → EventLine

-- The event line harms a write, so it has a tear.
abbrev pub HasTear : EventLine → Type 0
HasTear (Go CutInWrite h times) = Unit {0}
HasTear (Go Fail h times) = Unit {0}
HasTear (Go Lie h times) = Unit {0}
HasTear d = ⊥

-- Meaning of a line: none, a setting, the limits of later sessions, events, passes until one prints a line, the line of `show`, or the line
-- that must be printed next.
pub data LineContent : Type 0 where
  Blank : LineContent
  SetsConfig : ConfigLine → LineContent
  SetsLimits : (actions restarts : ℕ) → LineContent
  Does : EventLine → LineContent
  GoesOn : LineContent
  Show : LineContent
  ExpectsText : (text : List ℕ) → LineContent

-- Setting of a configuration line that the code has parsed.
abbrev pub config_line_of : config_lines.ConfigLine → ConfigLine
config_line_of (config.Ids ids) = SetsDeviceIds ids
config_line_of (config.Device functional least busy manifest) = SetsDevice functional least busy manifest
config_line_of (config.Unit unit) = SetsUnit unit
config_line_of (config.Erase sector) = SetsSector sector.bytes
config_line_of (config.Pace erase program) = SetsPace erase program
config_line_of (config.Capacity room) = SetsCapacity room.bytes
config_line_of (config.Image text) = SetsImage (hex_bytes text)
config_line_of (config.Check text) = SetsCheck (hex_bytes text)

-- Fate of an action in which a write is harmed, by the kind of the harm.
abbrev pub harm_fate : kinds.HarmKind → Fate
harm_fate kind.Cut = CutInWrite
harm_fate kind.Fail = Fail
harm_fate kind.Lie = Lie

-- Meaning of a line that harms a write of one action: `writes` writes succeed, and the next one is torn with the first bytes of the tear.
abbrev pub harmed_line : kinds.HarmKind → (writes : ℕ) → HexText → LineContent
harmed_line h writes text = Does (Go (harm_fate h) (harmed writes (hex_bytes text)) 1)

-- Meaning of an event line that the code has parsed.
abbrev pub content_of_event : event_lines.EventLine → LineContent
content_of_event (events.Offer purpose file) = Does (Offer purpose (offered_bytes file))
content_of_event events.Upload = Does Upload
content_of_event events.Abort = Does Abort
content_of_event (events.Go f times) = Does (Go (fate_of f) (harm_of_fate f) times)
content_of_event (events.GoHarmed h writes text) = harmed_line h writes text
content_of_event events.GoOn = GoesOn
content_of_event (events.Time ms) = Does (Time ms)
content_of_event events.Reset = Does Reset
content_of_event events.Cut = Does Cut
content_of_event (events.Refuse why) = Does (Refuse why)

-- Meaning of a line that the code has parsed.
abbrev pub content_of_line : lines.Line → LineContent
content_of_line line.Blank = Blank
content_of_line (line.Set s) = SetsConfig (config_line_of s)
content_of_line (line.Limits actions restarts) = SetsLimits actions restarts
content_of_line (line.Do d) = content_of_event d
content_of_line line.Show = Show
content_of_line (line.Expect text) = ExpectsText text.now
