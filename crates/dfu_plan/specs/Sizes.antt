-- Sizes and addresses in the words of a line.
use Rattle.std.specs.Prelude.{ℕ, ◌+◌, ◌-◌, ◌*◌, ◌^◌, ◌==◌, ◌&&◌, ◌||◌, nat_lt, nat_le, Bool, List, length, take, drop, slice_index, Option, Some, None, if◌then◌else◌}
use Rattle.std.specs.List.{fold}

-- Value of a hexadecimal digit of either case; 16 for any other byte.
abbrev pub size_digit : ℕ → ℕ
size_digit byte =
    if nat_le 48 byte && nat_le byte 57 then byte - 48
    else if nat_le 97 byte && nat_le byte 102 then byte - 87
    else if nat_le 65 byte && nat_le byte 70 then byte - 55
    else 16

-- The number with one more digit. None if there is no number, the byte is not a digit of the base, or the result is not below 2^32.
unfoldable pub number_with_digit : (base : ℕ) → Option ℕ → (byte : ℕ) → Option ℕ
number_with_digit base None byte = None
number_with_digit base (Some number) byte =
    if nat_lt (size_digit byte) base && nat_lt (number * base + size_digit byte) (2 ^ 32) then Some (number * base + size_digit byte)
    else None

-- Value of `digits` in a base. None if there are no digits, a byte is not a digit, or the value is not below 2^32.
unfoldable pub size_number : (base : ℕ) → List ℕ → Option ℕ
size_number base digits = if length digits == 0 then None else fold (number_with_digit base) (Some 0) digits

-- Number of bytes in a number of KiB. None if there is no number, or the bytes are not below 2^32.
unfoldable pub bytes_of_kib : Option ℕ → Option ℕ
bytes_of_kib None = None
bytes_of_kib (Some number) = if nat_lt (number * 1024) (2 ^ 32) then Some (number * 1024) else None

-- True for a word that begins with `0x` or `0X`.
abbrev pub has_hex_prefix : List ℕ → Bool
has_hex_prefix word =
    nat_le 2 (length word) && ((slice_index word 0 == 48) && ((slice_index word 1 == 120) || (slice_index word 1 == 88)))

-- True for a word that ends in `k` or `K`.
abbrev pub ends_in_k : List ℕ → Bool
ends_in_k word =
    nat_le 1 (length word) && ((slice_index word (length word - 1) == 107) || (slice_index word (length word - 1) == 75))

-- Number in a word: hexadecimal digits after `0x` or `0X`, decimal digits before `k` or `K` for KiB, or decimal digits. None if the word is
-- none of these, or its number is not below 2^32.
unfoldable pub size_in : List ℕ → Option ℕ
size_in word =
    if has_hex_prefix word then size_number 16 (drop 2 word)
    else if ends_in_k word then bytes_of_kib (size_number 10 (take (length word - 1) word))
    else size_number 10 word
