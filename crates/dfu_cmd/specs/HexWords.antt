-- Hexadecimal digits from texts in the forms that other programs print, with separators between bytes or 0x before a byte.
use Rattle.std.specs.Prelude.{ℕ, ◌-◌, ◌%◌, ◌==◌, ◌&&◌, ◌||◌, Bool, if◌then◌else◌, List, [], ◌∷◌, ◌++◌, length, take, slice_index}
use Rattle.std.specs.List.{fold}

-- True if the character separates bytes: a space, a tab, a line feed, a carriage return, a colon or a comma.
abbrev pub is_byte_separator : ℕ → Bool
is_byte_separator b = (b == 32) || ((b == 9) || ((b == 10) || ((b == 13) || ((b == 58) || (b == 44)))))

-- True if the character is the x of a 0x before a byte: an x or X after a 0 in the position of a byte's first digit.
abbrev pub is_hex_prefix_x : List ℕ → ℕ → Bool
is_hex_prefix_x digits b = ((b == 120) || (b == 88)) && ((length digits % 2 == 1) && (slice_index digits (length digits - 1) == 48))

-- Digits after one more character. A separator between bytes and a 0x are left out. A separator after the first digit of a byte becomes
-- `?`, which isn't a digit.
unfoldable pub digits_after_byte : List ℕ → ℕ → List ℕ
digits_after_byte digits b =
    if is_byte_separator b then (if length digits % 2 == 0 then digits else digits ++ 63 ∷ [])
    else if is_hex_prefix_x digits b then take (length digits - 1) digits
    else digits ++ b ∷ []

-- Digits after one more word. The end of a word separates bytes, like a space.
abbrev pub digits_after_word : List ℕ → List ℕ → List ℕ
digits_after_word digits word = digits_after_byte (fold digits_after_byte digits word) 32

-- Digits of the bytes in all words, in the order of the words.
abbrev pub digits_of_words : List (List ℕ) → List ℕ
digits_of_words words = fold digits_after_word [] words
