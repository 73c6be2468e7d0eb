-- The lines of a text.
use Rattle.std.specs.Prelude.{ℕ, ◌+◌, ◌-◌, ◌==◌, if◌then◌else◌, List, [], ◌∷◌, length, take, Bool, false, Result, Ok, Err}
use Rattle.dfu_formats.specs.declared.images.fault.ImageFault.{ImageFault}
use Rattle.dfu_formats.specs.declared.images.fault.ImageFault.TheVariants.{Trailing, NoEnd}
use Rattle.std.specs.List.{list_all, suffix_len}
use Rattle.dfu_formats.specs.images.Reading.{◌>>=◌}
use Rattle.dfu_formats.specs.images.Text.{is_blank_byte, without_leading_blanks, without_order_mark}
use Rattle.dfu_formats.specs.images.Elements.{Piece, Gathering, empty_gathering, gathered_elements}

-- Puts a byte at the front of the first line, or makes it the only line if there are none.
abbrev pub byte_before_lines : ℕ → List (List ℕ) → List (List ℕ)
byte_before_lines b [] = (b ∷ []) ∷ []
byte_before_lines b (line ∷ lines) = (b ∷ line) ∷ lines

-- The lines of a text, without their line feeds. A line may be empty.
unfoldable pub lines : List ℕ → List (List ℕ)
lines [] = [] ∷ []
lines (b ∷ bs) = if b == 10 then [] ∷ lines bs else byte_before_lines b (lines bs)

-- The byte is a line feed.
abbrev pub is_line_feed : ℕ → Bool
is_line_feed b = b == 10

-- The bytes without the blanks at their end.
abbrev pub without_trailing_blanks : List ℕ → List ℕ
without_trailing_blanks bytes = take (length bytes - suffix_len is_blank_byte bytes) bytes

-- The line without the blanks at its ends.
unfoldable pub bare_line : List ℕ → List ℕ
bare_line line = without_trailing_blanks (without_leading_blanks line)

-- State of reading a text: the elements, the base of Intel HEX, true if this base is a segment of 65,536 bytes, the number of S-records
-- with data, true if the text may end here, and true after an end record.
pub record State : Type 0 where
  pub gathering : Gathering
  pub base : ℕ
  pub is_segment : Bool
  pub count : ℕ
  pub is_whole : Bool
  pub is_ended : Bool

-- State before the first line.
abbrev pub state_before_first_line : State
state_before_first_line = record {
  gathering = empty_gathering;
  base = 0;
  is_segment = false;
  count = 0;
  is_whole = false;
  is_ended = false;
}

-- Reads a line, which is a record or blank. After the end record, a line that isn't blank is a fault.
unfoldable pub line_read : (record_read : ℕ → State → List ℕ → Result State ImageFault) → (at : ℕ) → State → List ℕ →
    Result State ImageFault
line_read record_read at s line =
    if list_all is_blank_byte line then Ok s
    else if s.is_ended then Err (Trailing at)
    else record_read at s line

-- Reads lines one after the other, beginning with line number `at`. It is a fault if `is_whole` is false after the last line.
unfoldable pub lines_read : (read : ℕ → State → List ℕ → Result State ImageFault) → (at : ℕ) → State → List (List ℕ) →
    Result State ImageFault
lines_read read at s [] = if s.is_whole then Ok s else Err NoEnd
lines_read read at s (line ∷ more) = read at s (bare_line line) >>= λ t. lines_read read (at + 1) t more

-- The elements of a text, or its first fault. A byte order mark at its front is skipped.
abbrev pub elements_by_line : (record_read : ℕ → State → List ℕ → Result State ImageFault) → List ℕ → Result (List Piece) ImageFault
elements_by_line record_read text =
    lines_read (line_read record_read) 1 state_before_first_line (lines (without_order_mark text)) >>= λ s. gathered_elements s.gathering
