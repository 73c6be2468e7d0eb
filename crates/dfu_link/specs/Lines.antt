-- Grammar of a line: its forms, the meaning of each form, and the fault of a line that has none of them.
use Rattle.std.specs.Prelude.{◌≡◌, ℕ, Bool, false, length, ◌==◌, List, [], ◌∷◌, Option, Result, Ok, Err, ok_or, nat_le, codes, if◌then◌else◌}
use Rattle.std.specs.Str.{bytes_eq}
use Rattle.dfu_wire.specs.Functional.{functional_of}
use Rattle.dfu_wire.specs.Identifier.{identifier_in}
use Rattle.dfu_sim.specs.declared.offering.Purpose.{Purpose}
use Rattle.dfu_sim.specs.declared.offering.Purpose.TheVariants.{Install, Verify}
use Rattle.dfu_sim.specs.Happening.{Fate, Pass, LostOut, LostBack, Twice, TwiceLostBack, Slip, CutInWrite, Fail, Lie, no_write_harmed, harmed}
use Rattle.dfu_link.specs.Words.{ok_of, hex_word_bytes, number_of, first_word, text_behind, words_of}
use Rattle.dfu_link.specs.Fields.{number_at_most, count_of, attributes_of_word, unit_of_word, sector_of, objection_of_word, named_bytes}
use Rattle.dfu_link.specs.LineContent.{LineContent, Blank, SetsConfig, SetsLimits, Does, GoesOn, Show, ExpectsText, SetsDeviceIds, SetsDevice, SetsUnit, SetsSector, SetsPace, SetsCapacity, SetsImage, SetsCheck, Offer, Upload, Abort, Go, Time, Reset, Cut, Refuse}
use Rattle.dfu_link.specs.Keywords.{keyword_of, fate_keyword_of}
use Rattle.dfu_link.specs.declared.scripting.words.Keyword.{Keyword}
use Rattle.dfu_link.specs.declared.scripting.words.Keyword.TheVariants as key
use Rattle.dfu_link.specs.declared.scripting.words.FateKeyword.{FateKeyword}
use Rattle.dfu_link.specs.declared.scripting.words.FateKeyword.TheVariants as fate
use Rattle.dfu_link.specs.declared.scripting.fault.Field.{Field}
use Rattle.dfu_link.specs.declared.scripting.fault.Field.TheVariants as a
use Rattle.dfu_link.specs.declared.scripting.fault.LineFault.{LineFault}
use Rattle.dfu_link.specs.declared.scripting.fault.LineFault.TheVariants as wrong

-- Result of parsing a line: the meaning of the line, or its fault.
abbrev pub LineResult : Type 0 → Type 0
LineResult A = Result A LineFault

-- Two steps of parsing, one after the other. If the first step fails, its fault is the result.
infixl 10 ◌>>=◌
abbrev pub ◌>>=◌ : {A B : Type 0} → LineResult A → (A → LineResult B) → LineResult B
(Ok x) >>= f = f x
(Err e) >>= f = Err e

-- The code parses a line according to the grammar: `view` of its value is the grammar's value, and a line that the code refuses has the
-- grammar's fault.
abbrev pub ReadMatches : {X Y : Type 0} → (X → Y) → LineResult X → LineResult Y → Type 0
ReadMatches view (Ok x) read = read ≡ Ok (view x)
ReadMatches view (Err e) read = read ≡ Err e

-- Value of word n of a line of `of` words, and the words after it. The result is a fault if the word is missing or does not have the form
-- of its field.
abbrev pub word_field : {A : Type 0} → Field → (List ℕ → Option A) → (n of : ℕ) → List (List ℕ) → LineResult (A × List (List ℕ))
word_field f read n of words =
    ok_or (first_word words) (wrong.Count of) >>= λ w. ok_or (read w.0) (wrong.Word f n) >>= λ x. Ok (x, w.1)

-- Word n of a line as a number.
unfoldable pub number_field : (n of : ℕ) → List (List ℕ) → LineResult (ℕ × List (List ℕ))
number_field n of words = word_field a.Number number_of n of words

-- Word n of a line as a number of at most 65,535.
unfoldable pub short_at : (n of : ℕ) → List (List ℕ) → LineResult (ℕ × List (List ℕ))
short_at n of words = word_field a.Short (number_at_most 65535) n of words

-- Word n of a line as hexadecimal text.
unfoldable pub hex_at : (n of : ℕ) → List (List ℕ) → LineResult (List ℕ × List (List ℕ))
hex_at n of words = word_field a.Bytes hex_word_bytes n of words

-- Fault of word n, which stands for no file: NoFile for FILE, and Word with the field Bytes for any other word.
abbrev pub no_file_fault : List ℕ → (n : ℕ) → LineFault
no_file_fault word n = if bytes_eq word (codes "FILE") then wrong.NoFile else wrong.Word a.Bytes n

-- Word n of a line as the bytes of the file that it offers.
unfoldable pub offered_file : Option (List ℕ) → (n of : ℕ) → List (List ℕ) → LineResult (List ℕ × List (List ℕ))
offered_file given n of words =
    ok_or (first_word words) (wrong.Count of) >>= λ w. ok_or (named_bytes given w.0) (no_file_fault w.0 n) >>= λ x. Ok (x, w.1)

-- Word n of a line as four hexadecimal digits.
unfoldable pub identifier_at : (n of : ℕ) → List (List ℕ) → LineResult (ℕ × List (List ℕ))
identifier_at n of words = word_field a.Identifier identifier_in n of words

-- A line is a comment if its first word begins with `#`.
abbrev pub is_comment : List ℕ → Bool
is_comment [] = false
is_comment (byte ∷ bytes) = byte == 35

-- The value if no word follows; otherwise Comment if a comment follows, or Count if another word does.
abbrev pub line_ends : {A : Type 0} → A → (of : ℕ) → List (List ℕ) → LineResult A
line_ends x of [] = Ok x
line_ends x of (word ∷ words) = Err (if is_comment word then wrong.Comment else wrong.Count of)

-- Meaning of the words after `ids`: the vendor, the product and the device release.
unfoldable pub ids_content : List (List ℕ) → LineResult LineContent
ids_content words = do
  vendor ← identifier_at 2 4 words
  product ← identifier_at 3 4 vendor.1
  device ← identifier_at 4 4 product.1
  line_ends (SetsConfig (SetsDeviceIds (record { device = device.0; product = product.0; vendor = vendor.0 }))) 4 device.1

-- Meaning of the words after `device`: the attributes, the detach timeout, the transfer size, the least length of an image, and the
-- milliseconds of a block and of manifestation.
unfoldable pub device_content : List (List ℕ) → LineResult LineContent
device_content words = do
  attributes ← word_field a.Attributes attributes_of_word 2 7 words
  detach ← short_at 3 7 attributes.1
  transfer ← short_at 4 7 detach.1
  least ← number_field 5 7 transfer.1
  busy ← number_field 6 7 least.1
  manifest ← number_field 7 7 busy.1
  line_ends (SetsConfig (SetsDevice (functional_of attributes.0 detach.0 transfer.0 0x0110) least.0 busy.0 manifest.0)) 7 manifest.1

-- Meaning of the word after `unit`: the number of bytes of the unit in which the medium is written.
unfoldable pub unit_content : List (List ℕ) → LineResult LineContent
unit_content words = do
  unit ← word_field a.Unit unit_of_word 2 2 words
  line_ends (SetsConfig (SetsUnit unit.0)) 2 unit.1

-- Meaning of the word after `erase`: the number of bytes that one erase of the medium clears.
unfoldable pub erase_content : List (List ℕ) → LineResult LineContent
erase_content words = do
  sector ← word_field a.Sector sector_of 2 2 words
  line_ends (SetsConfig (SetsSector sector.0)) 2 sector.1

-- Meaning of the words after `pace`: the milliseconds of an erase, and of a program of 256 bytes.
unfoldable pub pace_content : List (List ℕ) → LineResult LineContent
pace_content words = do
  erase ← short_at 2 3 words
  program ← short_at 3 3 erase.1
  line_ends (SetsConfig (SetsPace erase.0 program.0)) 3 program.1

-- Meaning of the word after `capacity`: the largest number of bytes of an image.
unfoldable pub capacity_content : List (List ℕ) → LineResult LineContent
capacity_content words = do
  n ← word_field a.Capacity (count_of 1048576) 2 2 words
  line_ends (SetsConfig (SetsCapacity n.0)) 2 n.1

-- Meaning of the word after `image`: the bytes of the image at the start.
unfoldable pub image_content : List (List ℕ) → LineResult LineContent
image_content words = do
  image ← hex_at 2 2 words
  line_ends (SetsConfig (SetsImage image.0)) 2 image.1

-- Meaning of the word after `check`: the first bytes of each image that the program accepts.
unfoldable pub check_content : List (List ℕ) → LineResult LineContent
check_content words = do
  front ← hex_at 2 2 words
  line_ends (SetsConfig (SetsCheck front.0)) 2 front.1

-- Meaning of the words after `limits`: the largest number of a session's actions, and of its restarts.
unfoldable pub limits_content : List (List ℕ) → LineResult LineContent
limits_content words = do
  actions ← number_field 2 3 words
  restarts ← short_at 3 3 actions.1
  line_ends (SetsLimits actions.0 restarts.0) 3 restarts.1

-- Meaning of the word after `offer` and `verify`: the bytes of the file.
unfoldable pub offer_content : (given : Option (List ℕ)) → Purpose → List (List ℕ) → LineResult LineContent
offer_content given purpose words = do
  file ← offered_file given 2 2 words
  line_ends (Does (Offer purpose file.0)) 2 file.1

-- Meaning of the word after `time`: the milliseconds that pass.
unfoldable pub time_of : List (List ℕ) → LineResult LineContent
time_of words = do
  ms ← number_field 2 2 words
  line_ends (Does (Time ms.0)) 2 ms.1

-- Meaning of the word after `refuse`: the program's objection to the image.
unfoldable pub refuse_content : List (List ℕ) → LineResult LineContent
refuse_content words = do
  why ← word_field a.Objection objection_of_word 2 2 words
  line_ends (Does (Refuse why.0)) 2 why.1

-- Meaning of the word after `go pass`: the number of actions, 1 to 1,000,000.
unfoldable pub pass_content : List (List ℕ) → LineResult LineContent
pass_content words = do
  times ← word_field a.Times (count_of 1000000) 3 3 words
  line_ends (Does (Go Pass no_write_harmed times.0)) 3 times.1

-- Meaning of the word after `go slip`: the milliseconds of the slip.
unfoldable pub slip_content : List (List ℕ) → LineResult LineContent
slip_content words = do
  ms ← number_field 3 3 words
  line_ends (Does (Go (Slip ms.0) no_write_harmed 1)) 3 ms.1

-- Meaning of the words after `go cut`, `go fail` and `go lie`: the number of writes that succeed, and the tear.
unfoldable pub harmed_content : Fate → List (List ℕ) → LineResult LineContent
harmed_content f words = do
  writes ← number_field 3 4 words
  tear ← hex_at 4 4 writes.1
  line_ends (Does (Go f (harmed writes.0 tear.0) 1)) 4 tear.1

-- Meaning of the word after `go until`, which must be `report`.
unfoldable pub until_content : List (List ℕ) → LineResult LineContent
until_content words = do
  word ← ok_or (first_word words) (wrong.Count 3)
  if bytes_eq word.0 (codes "report") then line_ends GoesOn 3 word.1 else Err (wrong.Word a.Report 3)

-- Meaning of a `go` line, by its fate or `until`.
abbrev pub content_by_fate : FateKeyword → List (List ℕ) → LineResult LineContent
content_by_fate fate.Pass words = pass_content words
content_by_fate fate.LostOut words = line_ends (Does (Go LostOut no_write_harmed 1)) 2 words
content_by_fate fate.LostBack words = line_ends (Does (Go LostBack no_write_harmed 1)) 2 words
content_by_fate fate.Twice words = line_ends (Does (Go Twice no_write_harmed 1)) 2 words
content_by_fate fate.TwiceLostBack words = line_ends (Does (Go TwiceLostBack no_write_harmed 1)) 2 words
content_by_fate fate.Slip words = slip_content words
content_by_fate fate.Cut words = harmed_content CutInWrite words
content_by_fate fate.Fail words = harmed_content Fail words
content_by_fate fate.Lie words = harmed_content Lie words
content_by_fate fate.Until words = until_content words

-- Meaning of the words after `go`: a fate or `until`, and the words that follow it.
unfoldable pub go_content : List (List ℕ) → LineResult LineContent
go_content words = do
  word ← ok_or (first_word words) wrong.NoFate
  k ← ok_or (fate_keyword_of word.0) wrong.Fate
  content_by_fate k word.1

-- Meaning of the text after `expect` and one space: the line that must be printed next, of at least one byte.
unfoldable pub expect_content : List ℕ → LineResult LineContent
expect_content line = do
  text ← ok_or (text_behind line) wrong.NoText
  if length text == 0 then Err wrong.NoText else Ok (ExpectsText text)

-- Meaning of a line by its keyword.
abbrev pub by_keyword : (given : Option (List ℕ)) → Keyword → (line : List ℕ) → List (List ℕ) → LineResult LineContent
by_keyword given key.Ids line words = ids_content words
by_keyword given key.Device line words = device_content words
by_keyword given key.Unit line words = unit_content words
by_keyword given key.Erase line words = erase_content words
by_keyword given key.Pace line words = pace_content words
by_keyword given key.Capacity line words = capacity_content words
by_keyword given key.Image line words = image_content words
by_keyword given key.Limits line words = limits_content words
by_keyword given key.Offer line words = offer_content given Install words
by_keyword given key.Verify line words = offer_content given Verify words
by_keyword given key.Upload line words = line_ends (Does Upload) 1 words
by_keyword given key.Abort line words = line_ends (Does Abort) 1 words
by_keyword given key.Go line words = go_content words
by_keyword given key.Time line words = time_of words
by_keyword given key.Reset line words = line_ends (Does Reset) 1 words
by_keyword given key.Cut line words = line_ends (Does Cut) 1 words
by_keyword given key.Show line words = line_ends Show 1 words
by_keyword given key.Expect line words = expect_content line
by_keyword given key.Check line words = check_content words
by_keyword given key.Refuse line words = refuse_content words

-- Meaning of a line by its words, or its fault. A line without words and a comment are blank.
abbrev pub line_meaning : (given : Option (List ℕ)) → (line : List ℕ) → List (List ℕ) → LineResult LineContent
line_meaning given line [] = Ok Blank
line_meaning given line (word ∷ words) =
    if is_comment word then Ok Blank else (ok_or (keyword_of word) wrong.Keyword >>= λ k. by_keyword given k line words)

-- Meaning of a line, or its fault. `given` holds the bytes that FILE stands for. A line of over 65,536 bytes has no meaning.
unfoldable pub read_line : (given : Option (List ℕ)) → List ℕ → LineResult LineContent
read_line given line = if nat_le (length line) 65536 then line_meaning given line (words_of line) else Err wrong.Long

-- Meaning of a line, if it is one of the language. `given` holds the bytes that FILE stands for.
unfoldable pub line_of : (given : Option (List ℕ)) → List ℕ → Option LineContent
line_of given line = ok_of (read_line given line)
