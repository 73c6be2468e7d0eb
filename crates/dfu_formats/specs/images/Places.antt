-- Searches a text for the first byte that can't belong to a record.
use Rattle.std.specs.Prelude.{ℕ, ◌+◌, ◌==◌, nat_lt, if◌then◌else◌, List, [], ◌∷◌, Option, Some, None}
use Rattle.dfu_formats.specs.images.Digits.{hex_value}
use Rattle.dfu_formats.specs.images.Text.{is_blank_byte, without_order_mark}
use Rattle.dfu_formats.specs.declared.images.format.Format.{Format}
use Rattle.dfu_formats.specs.declared.images.format.Format.TheVariants.{IntelHex, SRecord, Uf2, Elf}
use Rattle.dfu_formats.specs.declared.images.places.Part.{Part}
use Rattle.dfu_formats.specs.declared.images.places.Part.TheVariants.{Front, Digits, Back}
use Rattle.dfu_formats.specs.declared.images.places.Place.{Place}

-- The part of a line to which a byte belongs, given the part before it, or None if no record allows the byte. A line consists of blanks,
-- the mark, digits, and blanks.
abbrev pub part_after_byte : (mark : ℕ) → Part → ℕ → Option Part
part_after_byte mark Front b = if is_blank_byte b then Some Front else if b == mark then Some Digits else None
part_after_byte mark Digits b = if nat_lt (hex_value b) 16 then Some Digits else if is_blank_byte b then Some Back else None
part_after_byte mark Back b = if is_blank_byte b then Some Back else None

-- Returns `place` if the byte there can't belong to a record, and otherwise continues the search in part `part`.
abbrev pub place_or_search : Place → (part : Option Part) → (more : Part → Option Place) → Option Place
place_or_search place None more = Some place
place_or_search place (Some part) more = more part

-- Line and column of the first byte that can't belong to a record. The bytes begin at this line and column, in part `part` of a line.
unfoldable pub bad_from : (mark : ℕ) → Part → (line column : ℕ) → List ℕ → Option Place
bad_from mark part line column [] = None
bad_from mark part line column (b ∷ bs) =
    if b == 10 then bad_from mark Front (line + 1) 1 bs
    else place_or_search (record { line = line; column = column }) (part_after_byte mark part b)
    (λ next. bad_from mark next line (column + 1) bs)

-- Line and column of the first byte of a text file that can't belong to a record. Both count from 1, and a byte order mark isn't counted.
abbrev pub bad_place : Format → List ℕ → Option Place
bad_place IntelHex file = bad_from 58 Front 1 1 (without_order_mark file)
bad_place SRecord file = bad_from 83 Front 1 1 (without_order_mark file)
bad_place Uf2 file = None
bad_place Elf file = None
