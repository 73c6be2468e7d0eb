-- Strings and arrays of JSON (RFC 8259, sections 5 and 7).
use Rattle.std.specs.Prelude.{ℕ, ◌+◌, ◌-◌, ◌/◌, ◌%◌, ◌==◌, ◌||◌, nat_lt, List, [], ◌∷◌, ◌++◌, length, if◌then◌else◌}
use Rattle.std.specs.List.{flat_map}

-- Lower-case hexadecimal digit of a number below 16.
abbrev pub lower_hex_digit : ℕ → ℕ
lower_hex_digit n = if nat_lt n 10 then 48 + n else 97 + (n - 10)

-- Byte as it is written in a string. A backslash precedes a quote or a backslash, a byte below 20h is written as \u00XX, and any other byte
-- stays unchanged.
unfoldable pub escaped_byte : ℕ → List ℕ
escaped_byte b =
    if (b == 34) || (b == 92) then 92 ∷ b ∷ []
    else if nat_lt b 32 then 92 ∷ 117 ∷ 48 ∷ 48 ∷ lower_hex_digit (b / 16) ∷ lower_hex_digit (b % 16) ∷ []
    else b ∷ []

-- JSON string of a text, with its quotes.
unfoldable pub quoted_string : List ℕ → List ℕ
quoted_string text = 34 ∷ [] ++ flat_map escaped_byte text ++ 34 ∷ []

-- Byte as it is written in an array of words. A space ends a string and begins the next one, and any other byte is written as in a string.
unfoldable pub array_word_byte : ℕ → List ℕ
array_word_byte b = if b == 32 then 34 ∷ 44 ∷ 34 ∷ [] else escaped_byte b

-- Array of the words of a text, which single spaces separate; an empty array if the text is empty.
unfoldable pub array_of_words : List ℕ → List ℕ
array_of_words text = if length text == 0 then 91 ∷ 93 ∷ [] else 91 ∷ 34 ∷ [] ++ flat_map array_word_byte text ++ 34 ∷ 93 ∷ []
