-- Bytes as pairs of hexadecimal digits.
use Rattle.std.specs.Prelude.{ℕ, ◌+◌, ◌-◌, ◌*◌, ◌&&◌, nat_lt, nat_le, if◌then◌else◌, List, [], ◌∷◌, length, Option, Some, None, Result, Err}
use Rattle.dfu_formats.specs.declared.images.fault.ImageFault.{ImageFault}
use Rattle.dfu_formats.specs.declared.images.fault.ImageFault.TheVariants.{BadDigit, BadLength}
use Rattle.dfu_formats.specs.images.Reading.{value_or_image_fault}

-- Value of a hexadecimal digit of either case, or 16 for any other byte.
abbrev pub hex_value : ℕ → ℕ
hex_value b =
    if nat_le 48 b && nat_le b 57 then b - 48
    else if nat_le 97 b && nat_le b 102 then b - 87
    else if nat_le 65 b && nat_le b 70 then b - 55
    else 16

-- Puts a byte in front of the bytes of the other pairs, or returns None if the other pairs aren't digits.
abbrev pub byte_before_pairs : ℕ → Option (List ℕ) → Option (List ℕ)
byte_before_pairs b None = None
byte_before_pairs b (Some bs) = Some (b ∷ bs)

-- The bytes that hexadecimal digits encode, two digits for each byte, the high digit first. None if the number of digits is odd or a
-- character isn't a digit.
unfoldable pub bytes_of_pairs : List ℕ → Option (List ℕ)
bytes_of_pairs [] = Some []
bytes_of_pairs (a ∷ []) = None
bytes_of_pairs (a ∷ b ∷ bs) =
    if nat_lt (hex_value a) 16 && nat_lt (hex_value b) 16 then byte_before_pairs (16 * hex_value a + hex_value b) (bytes_of_pairs bs) else
    None

-- Decodes the digits of the record on line `at` to at most 260 bytes. The fault is BadLength for over 520 digits, and otherwise BadDigit.
unfoldable pub bytes_at : (at : ℕ) → List ℕ → Result (List ℕ) ImageFault
bytes_at at digits = if nat_lt 520 (length digits) then Err (BadLength at) else value_or_image_fault (BadDigit at) (bytes_of_pairs digits)
