-- Pieces of a text: words, decimal numbers and hexadecimal numbers.
use Rattle.std.specs.Prelude.{ℕ, ◌-◌, ◌^◌, false, List, [], ◌∷◌, ◌++◌}
use Rattle.std.specs.Fmt.{decimal, digits, format_spec, padded_integral}
use Rattle.dfu_plan.specs.declared.pieces.Piece.{Piece}
use Rattle.dfu_plan.specs.declared.pieces.Piece.TheVariants.{Word, Number, Hex}

-- Number in lower-case hexadecimal digits, at least eight of them.
abbrev pub hexadecimal : ℕ → List ℕ
hexadecimal number = padded_integral (format_spec 32 0 4 8 (2 ^ 64 - 1)) false [] (digits 16 false number)

-- Text of a piece: a word as it is, or a number in decimal or hexadecimal digits.
abbrev pub piece_text : Piece → List ℕ
piece_text (Word word) = word.now
piece_text (Number number) = decimal number
piece_text (Hex number) = hexadecimal number

-- Texts, joined in order.
abbrev pub texts_joined : List (List ℕ) → List ℕ
texts_joined [] = []
texts_joined (text ∷ texts) = text ++ texts_joined texts
