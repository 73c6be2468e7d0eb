-- Words of a line, and the members that the parts of a form add to an object for these words.
use Rattle.std.specs.Prelude.{ℕ, ◌+◌, ◌-◌, ◌==◌, ◌&&◌, ◌||◌, nat_eq, nat_le, Bool, not, List, [], ◌∷◌, ◌++◌, length, take, drop, slice_index, codes, Option, Some, None, if◌then◌else◌}
use Rattle.std.specs.List.{list_all, position_or_len, starts_with}
use Rattle.std.specs.Char.{is_ascii_digit}
use Rattle.std.specs.Str.{bytes_eq}
use Rattle.dfu_fs.specs.declared.json.name.Name.{Name}
use Rattle.dfu_fs.specs.declared.json.part.WordKind.{WordKind}
use Rattle.dfu_fs.specs.declared.json.part.WordKind.TheVariants.{Number, Flag, Word, Inner}
use Rattle.dfu_fs.specs.declared.json.part.LinePart.{LinePart}
use Rattle.dfu_fs.specs.declared.json.part.LinePart.TheVariants as part
use Rattle.dfu_fs.specs.Names.{name_text}
use Rattle.dfu_fs.specs.Quoted.{array_of_words, quoted_string}

-- Applies the second step to the value that the first returned. The result is None if either step returns None.
infixl 10 ◌>>=◌
abbrev pub ◌>>=◌ : {A B : Type 0} → Option A → (A → Option B) → Option B
None >>= f = None
(Some x) >>= f = f x

-- True if the byte is a space, 20h, which separates words.
abbrev pub is_space : ℕ → Bool
is_space byte = byte == 32

-- The first word of a line and the words after it. None if that word is empty, or if the line ends with the space after it.
abbrev pub word_in : List ℕ → Option (List ℕ × List ℕ)
word_in line =
    let n = position_or_len is_space line in
    if (n == 0) || (length line - n == 1) then None else Some (take n line, drop (n + 1) line)

-- The words after the end of a word: none if the line is empty, and those after the space otherwise. None if the line begins with another
-- byte, or if nothing follows the space.
unfoldable pub after_word : List ℕ → Option (List ℕ)
after_word line =
    if length line == 0 then Some line
    else if not (slice_index line 0 == 32) || (length line == 1) then None
    else Some (drop 1 line)

-- The words of a line after `text`. None if the line doesn't begin with `text`, or if the text isn't followed by the end of a word.
abbrev pub rest_after : List ℕ → (text : List ℕ) → Option (List ℕ)
rest_after line text = if starts_with nat_eq line text then after_word (drop (length text) line) else None

-- Length of the list at the beginning of a line, which ends before ` events ` or at the end of the line.
unfoldable pub list_length : List ℕ → ℕ
list_length [] = 0
list_length (b ∷ bs) = if starts_with nat_eq (b ∷ bs) (codes " events ") then 0 else list_length bs + 1

-- True if a word is a JSON number or empty: it has only digits, and no leading 0 unless it has a single digit.
abbrev pub is_json_number : List ℕ → Bool
is_json_number word = list_all is_ascii_digit word && (nat_le (length word) 1 || not (slice_index word 0 == 48))

-- The text `out` followed by the value of a word. None if the word isn't of this kind. An inner object isn't closed.
unfoldable pub with_value : WordKind → (out word : List ℕ) → Option (List ℕ)
with_value Number out word = if is_json_number word then Some (out ++ word) else None
with_value Flag out word =
    if bytes_eq word (codes "yes") then Some (out ++ codes "true")
    else if bytes_eq word (codes "no") then Some (out ++ codes "false")
    else None
with_value Word out word = Some (out ++ quoted_string word)
with_value (Inner key) out word = Some (out ++ 123 ∷ [] ++ quoted_string (name_text key) ++ 58 ∷ [] ++ quoted_string word)

-- Comma before one more member; empty if there are no members yet.
abbrev pub member_comma : List ℕ → List ℕ
member_comma [] = []
member_comma (b ∷ bs) = 44 ∷ []

-- The members `out` and the key of one more member with its colon.
unfoldable pub with_key : List ℕ → Name → List ℕ
with_key out key = out ++ member_comma out ++ quoted_string (name_text key) ++ 58 ∷ []

-- The members `out` with the first word of the line as the value of `key`, and the words after it. None if there is no word of this kind.
abbrev pub with_key_and_value : Name → WordKind → (out line : List ℕ) → Option (List ℕ × List ℕ)
with_key_and_value key kind out line = word_in line >>= λ w. with_value kind (with_key out key) w.0 >>= λ now. Some (now, w.1)

-- The members `out` with the list at the beginning of the line as the value of `key`, and the words after the list.
abbrev pub with_list : Name → (out line : List ℕ) → Option (List ℕ × List ℕ)
with_list key out line = Some (with_key out key ++ array_of_words (take (list_length line) line), drop (list_length line + 1) line)

-- The members `out` with the member of a part, and the words after the part. None if the line doesn't begin with the words of the part.
unfoldable pub with_part : LinePart → (out line : List ℕ) → Option (List ℕ × List ℕ)
with_part (part.Says key word) out line =
    rest_after line (name_text word) >>= λ r. Some (with_key out key ++ quoted_string (name_text word), r)
with_part (part.Value key kind) out line = with_key_and_value key kind out line
with_part (part.Pair key kind) out line = rest_after line (name_text key) >>= λ r. with_key_and_value key kind out r
with_part (part.List word key) out line = rest_after line (name_text word) >>= λ r. with_list key out r
with_part (part.Rest key) out line = Some (with_key out key ++ array_of_words line ++ 125 ∷ [], [])
with_part (part.Without key) out line = Some (with_key out key ++ array_of_words [], line)
with_part part.Blank out line = Some (out, line)
