-- Lines of a text, words of a line, numbers and hexadecimal text.
use Rattle.std.specs.Prelude.{◌≡◌, ℕ, ◌+◌, ◌-◌, ◌*◌, ◌==◌, ◌&&◌, nat_le, Bool, true, false, not, if◌then◌else◌, List, [], ◌∷◌, length, drop, slice_index, filter, codes, Option, Some, None, Result, Ok, Err}
use Rattle.std.specs.List.{position, slice_split, onto_first}
use Rattle.std.specs.Str.{bytes_eq}
use Rattle.std.specs.Char.{is_ascii_digit}
use Rattle.hex.specs.Hex.{decode_of, decode_sized}

-- Two steps of parsing, one after the other. If the first step returns None, the result is None.
infixl 10 ◌>>=◌
abbrev pub ◌>>=◌ : {A B : Type 0} → Option A → (A → Option B) → Option B
None >>= f = None
(Some x) >>= f = f x

-- The value, if the test holds; otherwise None.
abbrev pub value_if : {A : Type 0} → Bool → A → Option A
value_if true x = Some x
value_if false x = None

-- The code parses a word according to the grammar: `view` of its value is the grammar's value, or both are None.
abbrev pub ReadingMatches : {X Y : Type 0} → (X → Y) → Option X → Option Y → Type 0
ReadingMatches view None read = read ≡ None
ReadingMatches view (Some x) read = read ≡ Some (view x)

-- The byte is a line feed, 0Ah.
abbrev pub is_newline : ℕ → Bool
is_newline byte = byte == 10

-- The bytes have no line feed.
abbrev pub has_no_newline : List ℕ → Bool
has_no_newline [] = true
has_no_newline (byte ∷ bytes) = if is_newline byte then false else has_no_newline bytes

-- Lines of a text. Each line ends at a line feed, which the last line may lack.
abbrev pub lines_of : List ℕ → List (List ℕ)
lines_of [] = []
lines_of (byte ∷ bytes) = if is_newline byte then [] ∷ lines_of bytes else onto_first byte (lines_of bytes)

-- The byte is a space, 20h, which separates words.
abbrev pub is_space : ℕ → Bool
is_space byte = byte == 32

-- The byte is not a space, so it belongs to a word.
abbrev pub is_no_space : ℕ → Bool
is_no_space byte = not (byte == 32)

-- The bytes are a word if there is at least one.
abbrev pub is_word : List ℕ → Bool
is_word [] = false
is_word (byte ∷ bytes) = true

-- Words of a line: the pieces between its spaces that have at least one byte.
unfoldable pub words_of : List ℕ → List (List ℕ)
words_of line = filter is_word (slice_split is_space line)

-- The first word of a list, with the words after it; None if there is no word.
abbrev pub first_word : List (List ℕ) → Option (List ℕ × List (List ℕ))
first_word [] = None
first_word (word ∷ words) = Some (word, words)

-- Text after the first word of a line and one space; None if the line has no word, or no such space.
unfoldable pub text_behind : List ℕ → Option (List ℕ)
text_behind line =
    position is_no_space line >>= λ start. position is_space (drop start line) >>= λ end. Some (drop (end + 1) (drop start line))

-- Number whose decimal digits are those of n, followed by these digits; None if a byte is not a digit.
abbrev pub digits_value : ℕ → List ℕ → Option ℕ
digits_value n [] = Some n
digits_value n (digit ∷ digits) = if is_ascii_digit digit then digits_value (n * 10 + (digit - 48)) digits else None

-- Number of 1 to 10 decimal digits, at most 4,294,967,295; None for any other word.
unfoldable pub number_of : List ℕ → Option ℕ
number_of word =
    if nat_le 1 (length word) && nat_le (length word) 10 then (digits_value 0 word >>= λ n. value_if (nat_le n 4294967295) n) else
    None

-- The value of Ok, or None for an error.
abbrev pub ok_of : {A E : Type 0} → Result A E → Option A
ok_of (Ok x) = Some x
ok_of (Err e) = None

-- Bytes of hexadecimal text: two digits of either case for each byte, or `-` for no bytes; None for any other word.
abbrev pub hex_word_bytes : List ℕ → Option (List ℕ)
hex_word_bytes word = if bytes_eq word (codes "-") then Some [] else ok_of (decode_of word)

-- Number of two hexadecimal digits, the higher first; None for any other word.
abbrev pub number_of_pair : List ℕ → Option ℕ
number_of_pair word = ok_of (decode_sized word 1) >>= λ bytes. Some (slice_index bytes 0)
