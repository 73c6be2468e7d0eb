-- Reads an Intel HEX file line by line, up to the first fault.
use Rattle.std.specs.Prelude.{ℕ, ◌+◌, ◌*◌, ◌%◌, ◌^◌, ◌==◌, ◌&&◌, ◌||◌, Bool, not, nat_lt, true, if◌then◌else◌, List, [], ◌∷◌, length, take, drop, slice_index, sum, Result, Ok, Err}
use Rattle.dfu_formats.specs.declared.images.fault.ImageFault.{ImageFault}
use Rattle.dfu_formats.specs.declared.images.fault.ImageFault.TheVariants.{NoMark, BadLength, BadChecksum, BadType, PastSegment}
use Rattle.dfu_formats.specs.images.Reading.{◌>>=◌}
use Rattle.dfu_formats.specs.images.Digits.{bytes_at}
use Rattle.dfu_formats.specs.images.Lines.{State, elements_by_line}
use Rattle.dfu_formats.specs.images.Elements.{Piece, bytes_added}

-- The bytes of the record on a line, which is `:` and two digits for each byte.
unfoldable pub hex_bytes_of_line : (at : ℕ) → List ℕ → Result (List ℕ) ImageFault
hex_bytes_of_line at [] = Err (NoMark at)
hex_bytes_of_line at (b ∷ digits) = if b == 58 then bytes_at at digits else Err (NoMark at)

-- A record: the offset of its data from the base, its type, and its data.
pub record HexRecord : Type 0 where
  pub offset : ℕ
  pub kind : ℕ
  pub content : List ℕ

-- Splits a record into a count, an offset of two bytes, a type, `count` bytes of data, and a checksum, which makes the sum of all bytes 0
-- modulo 256.
unfoldable pub hex_record_of_bytes : (at : ℕ) → List ℕ → Result HexRecord ImageFault
hex_record_of_bytes at bytes =
    if not (length bytes == slice_index bytes 0 + 5) then Err (BadLength at)
    else if not (sum bytes % 256 == 0) then Err (BadChecksum at)
    else Ok (record {
      offset = 256 * slice_index bytes 1 + slice_index bytes 2;
      kind = slice_index bytes 3;
      content = take (slice_index bytes 0) (drop 4 bytes);
    })

-- The base is a segment, and the data of the record ends beyond its 65,536 bytes. A linear base has no such limit.
abbrev pub leaves_segment : State → HexRecord → Bool
leaves_segment s r = s.is_segment && nat_lt 65536 (r.offset + length r.content)

-- Adds data at an offset from the base. The data must end within its segment, if the base is one, and may not extend beyond address
-- FFFFFFFFh.
unfoldable pub hex_data_at : (at : ℕ) → State → HexRecord → Result State ImageFault
hex_data_at at s r =
    if leaves_segment s r || nat_lt (2 ^ 32) (s.base + r.offset + length r.content) then Err (PastSegment at)
    else bytes_added at s.gathering (record { address = s.base + r.offset; bytes = r.content }) >>= λ g. Ok (record s { gathering = g })

-- Sets the base to the two bytes of a record, times `unit`. Any other number of bytes is a fault. The base is a segment if the unit is 16.
unfoldable pub state_with_base : (at unit : ℕ) → State → HexRecord → Result State ImageFault
state_with_base at unit s r =
    if length r.content == 2 then Ok (record s {
      base = unit * (256 * slice_index r.content 0 + slice_index r.content 1);
      is_segment = unit == 16;
    })
    else Err (BadLength at)

-- Applies a record by its type: 0 adds data, 1 ends the file, 2 sets a segment in units of 16, 4 sets the upper half of addresses, and 3
-- and 5, the start of a program, are ignored. Another type is a fault, and so is a length that doesn't fit the type.
unfoldable pub hex_record_applied : (at : ℕ) → State → HexRecord → Result State ImageFault
hex_record_applied at s r =
    if r.kind == 0 then hex_data_at at s r
    else if r.kind == 1 then
    if length r.content == 0 then Ok (record s { is_whole = true; is_ended = true }) else Err (BadLength at)
    else if r.kind == 2 then state_with_base at 16 s r
    else if r.kind == 4 then state_with_base at 65536 s r
    else if (r.kind == 3) || (r.kind == 5) then if length r.content == 4 then Ok s else Err (BadLength at)
    else Err (BadType at)

-- Reads the record on line `at`, and applies it.
unfoldable pub hex_record_read : (at : ℕ) → State → List ℕ → Result State ImageFault
hex_record_read at s line = hex_bytes_of_line at line >>= hex_record_of_bytes at >>= hex_record_applied at s

-- The elements of an Intel HEX file, or its first fault.
unfoldable pub hex_elements_of : List ℕ → Result (List Piece) ImageFault
hex_elements_of = elements_by_line hex_record_read
