-- Rows of a table of parts, read from its lines.
use Rattle.std.specs.Prelude.{ℕ, ◌+◌, ◌*◌, ◌^◌, ◌==◌, ◌&&◌, ◌||◌, nat_le, nat_lt, Bool, not, List, drop, slice_index, length, Option, Some, None, Result, Ok, Err, if◌then◌else◌}
use Rattle.std.specs.List.{list_all}
use Rattle.std.specs.Char.{is_ascii_alphanumeric}
use Rattle.dfu_places.specs.declared.region.Region.{Region}
use Rattle.dfu_plan.specs.declared.row.RowFault.{RowFault}
use Rattle.dfu_plan.specs.declared.row.RowFault.TheVariants.{Unprintable, Name, Address, Sector, Count, PastTheEnd, Trailing}
use Rattle.dfu_plan.specs.RowRead.{RowRead}
use Rattle.dfu_plan.specs.Sizes.{size_in}
use Rattle.dfu_plan.specs.Words.{without_front_blanks, next_word}

-- Two steps of reading, one after the other: the fault of the first step, or else the result of the second step for the value of the first.
infixl 10 ◌>>=◌
abbrev pub ◌>>=◌ : {A B : Type 0} → Result A RowFault → (A → Result B RowFault) → Result B RowFault
(Err fault) >>= f = Err fault
(Ok x) >>= f = f x

-- The value of an option, or `fault` if there is none.
abbrev pub value_or_fault : {A : Type 0} → RowFault → Option A → Result A RowFault
value_or_fault fault None = Err fault
value_or_fault fault (Some x) = Ok x

-- True for a byte that is printable ASCII or a tab.
abbrev pub is_printable : ℕ → Bool
is_printable byte = (nat_le 32 byte && nat_le byte 126) || (byte == 9)

-- True if each byte of a line is printable ASCII or a tab.
abbrev pub is_printable_line : List ℕ → Bool
is_printable_line line = list_all is_printable line

-- True for a byte that a part's name may contain: a letter, a digit, or one of `-`, `_`, `.` and `+`.
abbrev pub is_name_byte : ℕ → Bool
is_name_byte byte =
    is_ascii_alphanumeric byte || ((byte == 45) || ((byte == 95) || ((byte == 46) || (byte == 43))))

-- True if a part's name may contain each byte of the word.
abbrev pub has_only_name_bytes : List ℕ → Bool
has_only_name_bytes word = list_all is_name_byte word

-- True for a line, without its leading blanks, that has no row: it is empty, or begins with `#`.
abbrev pub is_rowless_line : List ℕ → Bool
is_rowless_line text = (length text == 0) || (slice_index text 0 == 35)

-- Note after the number of sectors and `#`. It is empty if only blanks follow the number, and None if anything else does.
unfoldable pub note_after_count : List ℕ → Option (List ℕ)
note_after_count text =
    if length (without_front_blanks text) == 0 then Some (without_front_blanks text)
    else if slice_index (without_front_blanks text) 0 == 35 then Some (without_front_blanks (drop 1 (without_front_blanks text)))
    else None

-- The number if it is at least 1; else None.
abbrev pub positive_number : Option ℕ → Option ℕ
positive_number None = None
positive_number (Some number) = if number == 0 then None else Some number

-- The region if it ends below 2^32; else PastTheEnd.
abbrev pub bounded_region : (at sector count : ℕ) → Result Region RowFault
bounded_region at sector count =
    if nat_lt (at + sector * count) (2 ^ 32) then Ok (record { at = at; sector = sector; count = count }) else Err PastTheEnd

-- Region of three words: its address, the size of a sector, and the number of sectors. Otherwise the fault of the first wrong word, or
-- PastTheEnd.
unfoldable pub region_of : (at sector count : List ℕ) → Result Region RowFault
region_of at sector count =
    value_or_fault Address (size_in at)
    >>= λ at. value_or_fault Sector (positive_number (size_in sector))
    >>= λ sector. value_or_fault Count (positive_number (size_in count))
    >>= λ count. bounded_region at sector count

-- Row of the words of a line, or the first fault.
unfoldable pub row_of_words : List ℕ → Result RowRead RowFault
row_of_words line =
    let name = next_word line in
    let at = next_word name.1 in
    let sector = next_word at.1 in
    let count = next_word sector.1 in
    if not (has_only_name_bytes name.0) then Err Name
    else region_of at.0 sector.0 count.0
    >>= λ region. value_or_fault Trailing (note_after_count count.1)
    >>= λ note. Ok (record { name = name.0; region = region; note = note })

-- Row on a line, or the first fault of the line. None if the line, after its leading blanks, is empty or begins with `#`.
unfoldable pub row_in : List ℕ → Result (Option RowRead) RowFault
row_in line =
    if is_rowless_line (without_front_blanks line) then Ok None
    else if not (is_printable_line line) then Err Unprintable
    else row_of_words line >>= λ row. Ok (Some row)
