-- The headline of the text that a script prints: which image its lines show, and the meaning of `report installed` and `report verified`.
use Rattle.std.specs.Prelude.{Result, Ok, Err, ◌≡◌, ◌⊎◌, ℕ, List, [], ◌∷◌, ◌++◌, Option, Some, None, true, unwrap_or, codes, replicate, if◌then◌else◌}
use Rattle.std.specs.Str.{bytes_eq}
use Rattle.std.specs.Io.KnownBytes.{Appends}
use Rattle.dfu_suffix.specs.Writing.{IsPartlyWritten}
use Rattle.dfu_device.specs.DeviceView.{DeviceView}
use Rattle.dfu_host.specs.declared.report.Report.{Report}
use Rattle.dfu_link.specs.Words.{hex_word_bytes, number_of, has_no_newline, lines_of, words_of}
use Rattle.dfu_link.specs.Texts.{report_line, line_of_image}
use Rattle.dfu_sim.specs.LinkView.{LinkView}
use Rattle.dfu_link.specs.ScriptRun.{link_at_rest}
use Rattle.dfu_sim.specs.Headline.{WasOffered, SessionBeginning, BeginningWithOffer, BeginningAsUpload, HeadlineInvariant}
use Rattle.dfu_slots.specs.Image.{Active}
use Rattle.dfu_link.specs.declared.scripting.fault.ScriptFault.{ScriptFault}

-- Definitions of the effects of lines.

-- Effect of a line. The line sets the image of the device at the start; or it has events, each of which may begin a session; or it has some
-- number of events that begin no session; or it shows the device. Any other line has no effect.
pub data LineEffect : Type 0 where
  Nothing : LineEffect
  FactoryImageEffect : (image : List ℕ) → LineEffect
  Events : List (Option SessionBeginning) → LineEffect
  SomePassesEffect : LineEffect
  ShowEffect : LineEffect

-- Bytes of the first word of a list, if it is hexadecimal text; otherwise no bytes.
abbrev pub first_word_bytes : List (List ℕ) → List ℕ
first_word_bytes [] = []
first_word_bytes (word ∷ words) = unwrap_or (hex_word_bytes word) []

-- File that the first word of a list stands for: the given bytes for FILE, and the bytes of hexadecimal text; otherwise no bytes.
abbrev pub file_in : (given : Option (List ℕ)) → List (List ℕ) → List ℕ
file_in given [] = []
file_in given (word ∷ words) = unwrap_or (if bytes_eq word (codes "FILE") then given else hex_word_bytes word) []

-- Number of the first word of a list; 0 if it is not a number, or if there is no word.
abbrev pub first_word_number : List (List ℕ) → ℕ
first_word_number [] = 0
first_word_number (word ∷ words) = unwrap_or (number_of word) 0

-- Effect of a line by the words after `go`: some passes, a counted number of passes, or one event of another fate; none without words.
abbrev pub effect_of_go : List (List ℕ) → LineEffect
effect_of_go [] = Nothing
effect_of_go (word ∷ words) =
    if bytes_eq word (codes "until") then SomePassesEffect
    else if bytes_eq word (codes "pass") then Events (replicate (first_word_number words) None)
    else Events (None ∷ [])

-- Effect of a line by its words. An offer and an upload may begin a session. `abort`, `time`, `reset`, `cut` and `refuse` have one event
-- each, and `expect` has none.
abbrev pub effect_of_words : (given : Option (List ℕ)) → List (List ℕ) → LineEffect
effect_of_words given [] = Nothing
effect_of_words given (word ∷ words) =
    if bytes_eq word (codes "image") then FactoryImageEffect (first_word_bytes words)
    else if bytes_eq word (codes "offer") then Events (Some (BeginningWithOffer (file_in given words)) ∷ [])
    else if bytes_eq word (codes "verify") then Events (Some (BeginningWithOffer (file_in given words)) ∷ [])
    else if bytes_eq word (codes "upload") then Events (Some BeginningAsUpload ∷ [])
    else if bytes_eq word (codes "abort") then Events (None ∷ [])
    else if bytes_eq word (codes "go") then effect_of_go words
    else if bytes_eq word (codes "time") then Events (None ∷ [])
    else if bytes_eq word (codes "reset") then Events (None ∷ [])
    else if bytes_eq word (codes "cut") then Events (None ∷ [])
    else if bytes_eq word (codes "refuse") then Events (None ∷ [])
    else if bytes_eq word (codes "show") then ShowEffect
    else if bytes_eq word (codes "expect") then Events []
    else Nothing

-- Effect of a line. `given` holds the bytes that FILE stands for.
abbrev pub effect_of_line : (given : Option (List ℕ)) → List ℕ → LineEffect
effect_of_line given line = effect_of_words given (words_of line)

-- Definitions of the printed texts.

-- The image is active, and it is the factory image or the whole payload of a file offered so far.
pub record IsKnownImage (factory : List ℕ) (past : List SessionBeginning) (b : LinkView) (image : List ℕ) : Type 0 where
  pub active : Active b.device.slots.medium image
  pub known : (image ≡ factory) ⊎ WasOffered past image

-- Beginnings of sessions, the last one first, after an event that may begin another session.
abbrev pub sessions_after : Option SessionBeginning → List SessionBeginning → List SessionBeginning
sessions_after None past = past
sessions_after (Some begun) past = begun ∷ past

-- Text of a report while `image` is active; empty without a report.
abbrev pub report_text : Option Report → (image : List ℕ) → List ℕ
report_text None image = []
report_text (Some report) image = report_line report image

-- Line that a script prints for an event that is refused for this reason.
abbrev pub refused_event_line : (reason : List ℕ) → List ℕ
refused_event_line reason = codes "refused " ++ reason ++ 10 ∷ []

-- Events in their order, with the text that they print. After an event the headline holds with the report that is printed, and the line of
-- an upload shows the active image. A refused event prints a line with some reason, and changes nothing else.
pub data EventsPrint (factory : List ℕ) (past : List SessionBeginning) (b : LinkView) :
    List (Option SessionBeginning) → (printed : List ℕ) → List SessionBeginning → LinkView → Type 0 where
  no_event : EventsPrint factory past b [] [] past b
  event_prints_next : {events : List (Option SessionBeginning)} {printed : List ℕ} {mid : List SessionBeginning} {c c' : LinkView}
      {report : Option Report}
      (event : Option SessionBeginning) → EventsPrint factory past b events printed mid c
      → (holds : HeadlineInvariant factory (sessions_after event mid) report c')
      → EventsPrint factory past b (events ++ event ∷ []) (printed ++ report_text report holds.says.image) (sessions_after event mid) c'
  refused_event_prints_next : {events : List (Option SessionBeginning)} {printed : List ℕ} {mid : List SessionBeginning} {c : LinkView}
      (event : Option SessionBeginning)
      (reason : List ℕ)
      → EventsPrint factory past b events printed mid c → has_no_newline reason ≡ true
      → EventsPrint factory past b (events ++ event ∷ []) (printed ++ refused_event_line reason) mid c

-- Text of a line by its effect, after the device has started. `show` prints a state in one line, with a known image.
pub data LinePrints (factory : List ℕ) (past : List SessionBeginning) (b : LinkView) : LineEffect → (printed : List ℕ)
    → List SessionBeginning → LinkView
    → Type 0 where
  prints_nothing : LinePrints factory past b Nothing [] past b
  prints_events : {events : List (Option SessionBeginning)} {printed : List ℕ} {past' : List SessionBeginning} {b' : LinkView}
      → EventsPrint factory past b events printed past' b' → LinePrints factory past b (Events events) printed past' b'
  prints_passes : {printed : List ℕ} {past' : List SessionBeginning} {b' : LinkView} (times : ℕ)
      → EventsPrint factory past b (replicate times None) printed past' b' → LinePrints factory past b SomePassesEffect printed past' b'
  prints_image : {image : List ℕ} (state : List ℕ) → has_no_newline state ≡ true → IsKnownImage factory past b image
      → LinePrints factory past b ShowEffect (codes "state " ++ state ++ line_of_image image) past b

-- Text of lines in their order, by their effects.
pub data LinesPrint (given : Option (List ℕ)) (factory : List ℕ) (past : List SessionBeginning) (b : LinkView) :
    List (List ℕ) → (printed : List ℕ) → List SessionBeginning → LinkView → Type 0 where
  no_lines_print : LinesPrint given factory past b [] [] past b
  line_prints_next : {lines : List (List ℕ)} {printed more : List ℕ} {mid past' : List SessionBeginning} {c b' : LinkView} (line : List ℕ)
      → LinesPrint given factory past b lines printed mid c → LinePrints factory mid c (effect_of_line given line) more past' b'
      → LinesPrint given factory past b (lines ++ line ∷ []) (printed ++ more) past' b'

-- Definitions for whole scripts.

-- A line with this effect needs the device: it is an event line, `expect` or `show`.
abbrev pub NeedsDevice : LineEffect → Type 0
NeedsDevice Nothing = ⊥
NeedsDevice (FactoryImageEffect image) = ⊥
NeedsDevice (Events events) = Unit {0}
NeedsDevice SomePassesEffect = Unit {0}
NeedsDevice ShowEffect = Unit {0}

-- The device starts before the first line that needs it, which is the first of `after`, or after all lines if none needs it. Its factory
-- image is the one set last before the start, or `image` if no line sets one.
pub data IsStartPoint (given : Option (List ℕ)) : (image : List ℕ) (lines after : List (List ℕ)) (factory : List ℕ) → Type 0 where
  starts_at_end : {image : List ℕ} → IsStartPoint given image [] [] image
  starts_at_line : {image line : List ℕ} {lines : List (List ℕ)} → NeedsDevice (effect_of_line given line)
      → IsStartPoint given image (line ∷ lines) (line ∷ lines) image
  after_other_line : {image line factory : List ℕ} {lines after : List (List ℕ)} → effect_of_line given line ≡ Nothing
      → IsStartPoint given image lines after factory → IsStartPoint given image (line ∷ lines) after factory
  starts_after_image_line : {image set line factory : List ℕ} {lines after : List (List ℕ)} → effect_of_line given line
      ≡ FactoryImageEffect set
      → IsStartPoint given set lines after factory → IsStartPoint given image (line ∷ lines) after factory

-- The lines `done` ran after the start, with the text that they print. The headline held at the start, with no session, and the image at
-- the end is known.
pub record TextPrints (given : Option (List ℕ)) (text : List ℕ) (after done : List (List ℕ)) (printed : List ℕ)
    (past : List SessionBeginning)
    (end : LinkView) (image : List ℕ) : Type 0 where
  pub factory : List ℕ
  pub starts : IsStartPoint given (0 ∷ []) (lines_of text) after factory
  pub first : DeviceView
  pub holds : HeadlineInvariant factory [] None (link_at_rest first)
  pub lines : LinesPrint given factory [] (link_at_rest first) done printed past end
  pub known : IsKnownImage factory past end image

-- A whole script was written: the text of its lines, and then the line of a known image.
pub record WholeIsPrinted (given : Option (List ℕ)) (text : List ℕ) (old new : Option (List ℕ)) : Type 0 where
  pub after : List (List ℕ)
  pub printed : List ℕ
  pub past : List SessionBeginning
  pub end : LinkView
  pub image : List ℕ
  pub prints : TextPrints given text after after printed past end image
  pub told : Appends old new (printed ++ line_of_image image)

-- A script stopped before the first of `lines`, or before the line of the image if none remains. Of that line's text, nothing was written,
-- or a prefix of it, or a prefix of the text of its first events.
pub data PartPrints (given : Option (List ℕ)) (factory : List ℕ) (past : List SessionBeginning) (b : LinkView) (image : List ℕ) :
    List (List ℕ) → (old new : Option (List ℕ)) → Type 0 where
  part_of_nothing : {lines : List (List ℕ)} {old : Option (List ℕ)} → PartPrints given factory past b image lines old old
  in_events : {line : List ℕ} {lines : List (List ℕ)} {old new : Option (List ℕ)} {come : List (Option SessionBeginning)} {printed : List ℕ}
      {past' : List SessionBeginning} {b' : LinkView} (left : List (Option SessionBeginning))
      → effect_of_line given line ≡ Events (come ++ left)
      → EventsPrint factory past b come printed past' b' → IsPartlyWritten old new printed
      → PartPrints given factory past b image (line ∷ lines) old new
  part_of_line_text : {line : List ℕ} {lines : List (List ℕ)} {old new : Option (List ℕ)} {printed : List ℕ} {past' : List SessionBeginning}
      {b' : LinkView}
      → LinePrints factory past b (effect_of_line given line) printed past' b' → IsPartlyWritten old new printed
      → PartPrints given factory past b image (line ∷ lines) old new
  part_of_image_line : {old new : Option (List ℕ)} → IsPartlyWritten old new (line_of_image image) →
      PartPrints given factory past b image [] old new

-- A script stopped. Either nothing was written, because no device had started; or the text of the lines that ran after the start was
-- written, with a part of the next line's text.
pub data PartIsPrinted (given : Option (List ℕ)) (text : List ℕ) (old new : Option (List ℕ)) : Type 0 where
  stopped_before_start : new ≡ old → PartIsPrinted given text old new
  stopped_after_start : {after done rest : List (List ℕ)} {printed image : List ℕ} {past : List SessionBeginning} {end : LinkView} {mid :
      Option
      (List ℕ)}
      → (prints : TextPrints given text after done printed past end image) → after ≡ done ++ rest → Appends old mid printed
      → PartPrints given prints.factory past end image rest mid new → PartIsPrinted given text old new

-- With Ok the written text is that of the whole script. With a fault it is the text up to the point at which the script stopped.
abbrev pub HasPrinted : (given : Option (List ℕ)) → (text : List ℕ) → (old new : Option (List ℕ)) → Result Unit ScriptFault → Type 0
HasPrinted given text old new (Ok done) = WholeIsPrinted given text old new
HasPrinted given text old new (Err fault) = PartIsPrinted given text old new
