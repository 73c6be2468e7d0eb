-- Lines of a table, and their words.
use Rattle.std.specs.Prelude.{ℕ, ◌+◌, ◌==◌, ◌||◌, Bool, not, List, [], ◌∷◌, take, drop, Option, Some, None, if◌then◌else◌}
use Rattle.std.specs.List.{position, position_or_len}

-- True for a space or a tab.
abbrev pub is_space_or_tab : ℕ → Bool
is_space_or_tab byte = (byte == 32) || (byte == 9)

-- True for a byte of a word, which is neither a space nor a tab.
abbrev pub is_in_word : ℕ → Bool
is_in_word byte = not (is_space_or_tab byte)

-- True for a line feed.
abbrev pub is_line_feed_byte : ℕ → Bool
is_line_feed_byte byte = byte == 10

-- A text split at an index; without an index, the text and an empty one.
abbrev pub cut_at : Option ℕ → List ℕ → List ℕ × List ℕ
cut_at None text = (text, [])
cut_at (Some at) text = (take at text, drop at text)

-- Text after its leading blanks.
abbrev pub without_front_blanks : List ℕ → List ℕ
without_front_blanks text = (cut_at (position is_in_word text) text).1

-- First word, empty if there is none, and the text after it.
abbrev pub next_word : List ℕ → List ℕ × List ℕ
next_word text = cut_at (position is_space_or_tab (without_front_blanks text)) (without_front_blanks text)

-- First line of a text, without its line feed.
abbrev pub first_line : List ℕ → List ℕ
first_line text = take (position_or_len is_line_feed_byte text) text

-- Text after the first line and its line feed; empty if there is no line feed.
abbrev pub lines_after_first : List ℕ → List ℕ
lines_after_first text = drop (position_or_len is_line_feed_byte text + 1) text

-- Lines with one more byte at the beginning of the first line. Without lines, one line of this byte.
abbrev pub with_front_byte : ℕ → List (List ℕ) → List (List ℕ)
with_front_byte byte [] = (byte ∷ []) ∷ []
with_front_byte byte (line ∷ lines) = (byte ∷ line) ∷ lines

-- Lines of a text. A line feed ends each line, but may be missing after the last one.
unfoldable pub table_lines : List ℕ → List (List ℕ)
table_lines [] = []
table_lines (byte ∷ bytes) = if byte == 10 then [] ∷ table_lines bytes else with_front_byte byte (table_lines bytes)
