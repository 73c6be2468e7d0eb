-- Reads a file of S-records line by line, up to the first fault.
use Rattle.std.specs.Prelude.{ℕ, ◌+◌, ◌-◌, ◌*◌, ◌^◌, ◌%◌, ◌==◌, ◌&&◌, ◌||◌, not, nat_lt, nat_le, true, false, if◌then◌else◌, List, [], ◌∷◌, length, take, drop, slice_index, sum, fold, Result, Ok, Err}
use Rattle.dfu_formats.specs.declared.images.fault.ImageFault.{ImageFault}
use Rattle.dfu_formats.specs.declared.images.fault.ImageFault.TheVariants.{NoMark, BadLength, BadChecksum, BadType, BadCount, PastSegment}
use Rattle.dfu_formats.specs.images.Reading.{◌>>=◌}
use Rattle.dfu_formats.specs.images.Digits.{bytes_at}
use Rattle.dfu_formats.specs.images.Lines.{State, elements_by_line}
use Rattle.dfu_formats.specs.images.Elements.{Piece, bytes_added}

-- The type of a record, and its bytes.
pub record TypedBytes : Type 0 where
  pub kind : ℕ
  pub bytes : List ℕ

-- The type and the bytes of the record on a line, which is `S`, a digit, and two digits for each byte.
unfoldable pub srec_bytes_of_line : (at : ℕ) → List ℕ → Result TypedBytes ImageFault
srec_bytes_of_line at [] = Err (NoMark at)
srec_bytes_of_line at (b ∷ []) = Err (NoMark at)
srec_bytes_of_line at (b ∷ kind ∷ digits) =
    if (b == 83) && (nat_le 48 kind && nat_le kind 57) then (bytes_at at digits >>= λ bytes. Ok (record { kind = kind - 48; bytes = bytes }))
    else Err (NoMark at)

-- Number of bytes of an address: four for types 3 and 7, three for 2, 6 and 8, and two for all others.
abbrev pub address_width : (kind : ℕ) → ℕ
address_width kind =
    if (kind == 3) || (kind == 7) then 4
    else if (kind == 2) || ((kind == 6) || (kind == 8)) then 3
    else 2

-- The number in these bytes, the high byte first.
abbrev pub number_of_bytes : List ℕ → ℕ
number_of_bytes bytes = fold (λ n b. 256 * n + b) 0 bytes

-- A record: its type, its address, and its data.
pub record SRecordLine : Type 0 where
  pub kind : ℕ
  pub address : ℕ
  pub content : List ℕ

-- Splits a record into a count of the bytes after it, an address, data, and a checksum, which makes the sum of all bytes 255 modulo 256.
unfoldable pub srec_record_of_bytes : (at : ℕ) → TypedBytes → Result SRecordLine ImageFault
srec_record_of_bytes at t =
    if not (length t.bytes == slice_index t.bytes 0 + 1) || nat_lt (length t.bytes) (address_width t.kind + 2) then Err (BadLength at)
    else if not (sum t.bytes % 256 == 255) then Err (BadChecksum at)
    else Ok (record {
      kind = t.kind;
      address = number_of_bytes (take (address_width t.kind) (drop 1 t.bytes));
      content = take (length t.bytes - (address_width t.kind + 2)) (drop (address_width t.kind + 1) t.bytes);
    })

-- Adds the data of a record, which may not extend beyond address FFFFFFFFh, and counts the record.
unfoldable pub srec_data_at : (at : ℕ) → State → SRecordLine → Result State ImageFault
srec_data_at at s r =
    if nat_lt (2 ^ 32) (r.address + length r.content) then Err (PastSegment at)
    else bytes_added at s.gathering (record { address = r.address; bytes = r.content })
    >>= λ g. Ok (record s { gathering = g; count = s.count + 1; is_whole = false })

-- Applies a count, which must be the number of data records so far, or an end record. Neither may have data.
unfoldable pub srec_count_or_end : (at : ℕ) → State → SRecordLine → Result State ImageFault
srec_count_or_end at s r =
    if not (length r.content == 0) then Err (BadLength at)
    else if nat_le 7 r.kind then Ok (record s { is_whole = true; is_ended = true })
    else if r.address == s.count then Ok (record s { is_whole = true })
    else Err (BadCount at)

-- Applies a record by its type: 0, a title, is ignored, 1 to 3 add data, 5 and 6 are counts, and 7 to 9 end the file. Type 4 is a fault.
unfoldable pub srec_record_applied : (at : ℕ) → State → SRecordLine → Result State ImageFault
srec_record_applied at s r =
    if r.kind == 0 then Ok s
    else if nat_le r.kind 3 then srec_data_at at s r
    else if r.kind == 4 then Err (BadType at)
    else srec_count_or_end at s r

-- Reads the record on line `at`, and applies it.
unfoldable pub srec_record_read : (at : ℕ) → State → List ℕ → Result State ImageFault
srec_record_read at s line = srec_bytes_of_line at line >>= srec_record_of_bytes at >>= srec_record_applied at s

-- The elements of a file of S-records, or its first fault.
unfoldable pub srec_elements_of : List ℕ → Result (List Piece) ImageFault
srec_elements_of = elements_by_line srec_record_read
