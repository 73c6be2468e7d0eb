-- The apparent format of a file without a DFU suffix, according to its bytes and its name.
use Rattle.std.specs.Prelude.{ℕ, ◌==◌, ◌&&◌, ◌||◌, nat_le, nat_lt, nat_eq, Bool, false, if◌then◌else◌, List, [], ◌∷◌, codes, Option, Some, None}
use Rattle.std.specs.List.{starts_with}
use Rattle.dfu_formats.specs.images.Digits.{hex_value}
use Rattle.dfu_formats.specs.images.Text.{without_order_mark, without_leading_blanks, is_text}
use Rattle.dfu_formats.specs.images.Endings.{name_ending}
use Rattle.dfu_formats.specs.images.Places.{bad_place}
use Rattle.dfu_formats.specs.declared.images.format.Format.TheVariants.{IntelHex, SRecord, Uf2, Elf}
use Rattle.dfu_formats.specs.declared.images.endings.Ending.{Ending}
use Rattle.dfu_formats.specs.declared.images.looks.NotImage.TheVariants.{DfuSe, Zip, Gzip, Text, Named}
use Rattle.dfu_formats.specs.declared.images.places.Place.{Place}
use Rattle.dfu_formats.specs.declared.images.looks.Looks.{Looks}
use Rattle.dfu_formats.specs.declared.images.looks.Looks.TheVariants as looks
use Rattle.dfu_formats.specs.declared.images.looks.Look.{Look}

-- The file begins with these bytes.
abbrev pub file_begins : (front file : List ℕ) → Bool
file_begins front file = starts_with nat_eq file front

-- The first two bytes are hexadecimal digits.
abbrev pub has_digits : List ℕ → Bool
has_digits (a ∷ b ∷ bs) = nat_lt (hex_value a) 16 && nat_lt (hex_value b) 16
has_digits bs = false

-- The text begins like Intel HEX: with `:` and two digits, or with `:` alone if the whole file is text.
abbrev pub begins_ihex : (file text : List ℕ) → Bool
begins_ihex file (a ∷ bs) = (a == 58) && (has_digits bs || is_text file)
begins_ihex file [] = false

-- The text begins like an S-record: with `S`, the digit of its type, and two hexadecimal digits.
abbrev pub begins_srec : List ℕ → Bool
begins_srec (a ∷ b ∷ bs) = (a == 83) && ((nat_le 48 b && nat_le b 57) && has_digits bs)
begins_srec bs = false

-- Apparent kind of a file whose bytes have no known format. It is `Named` if the name of the file has the ending of a known kind, and a raw
-- image otherwise.
abbrev pub looks_by_name : Option Ending → Looks
looks_by_name None = looks.Raw
looks_by_name (Some ending) = looks.Other (Named ending)

-- Apparent kind of a file: the first kind with its mark at the front of the file; otherwise text, if the whole file is text; otherwise the
-- kind for its name.
abbrev pub looks_of : (file : List ℕ) → (ending : Option Ending) → Looks
looks_of file ending =
    if file_begins (codes "DfuSe") file then looks.Other DfuSe
    else if begins_ihex file (without_leading_blanks (without_order_mark file)) then looks.Of IntelHex
    else if begins_srec (without_leading_blanks (without_order_mark file)) then looks.Of SRecord
    else if file_begins (85 ∷ 70 ∷ 50 ∷ 10 ∷ []) file then looks.Of Uf2
    else if file_begins (127 ∷ 69 ∷ 76 ∷ 70 ∷ []) file then looks.Of Elf
    else if file_begins (80 ∷ 75 ∷ 3 ∷ 4 ∷ []) file then looks.Other Zip
    else if file_begins (31 ∷ 139 ∷ []) file then looks.Other Gzip
    else if is_text file then looks.Other Text
    else looks_by_name ending

-- Line and column of the first byte that can't belong to a record, if the file looks like Intel HEX or S-records.
abbrev pub bad_place_of_look : Looks → (file : List ℕ) → Option Place
bad_place_of_look (looks.Of format) file = bad_place format file
bad_place_of_look other file = None

-- The apparent kind of a file, the kind for its name, and the line and column of the first byte that can't belong to a record.
abbrev pub look_at_file : (file name : List ℕ) → Look
look_at_file file name = record {
  looks = looks_of file (name_ending name);
  ending = name_ending name;
  bad = bad_place_of_look (looks_of file (name_ending name)) file;
}
