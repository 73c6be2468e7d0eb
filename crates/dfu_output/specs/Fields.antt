-- Lines of fields; each field has a label and a value.
use Rattle.std.specs.Prelude.{ℕ, List, [], ◌∷◌, ◌++◌}
use Rattle.std.specs.Borrow.{Bor}
use Rattle.std.specs.Fmt.{decimal}
use Rattle.dfu_output.specs.AnswerLines.{hex_padded}
use Rattle.dfu_output.specs.ShowLines.{flag_word}
use Rattle.dfu_output.specs.declared.fields.Value.{Value}
use Rattle.dfu_output.specs.declared.fields.Value.TheVariants as value

-- Text of a field's value: the text itself, `yes` or `no` for a flag, or the digits of a number.
abbrev pub value_text : Value → List ℕ
value_text (value.Text text) = text.now
value_text (value.Flag flag) = flag_word flag
value_text (value.Number n) = decimal n
value_text (value.Hex2 n) = hex_padded 2 n
value_text (value.Hex4 n) = hex_padded 4 n
value_text (value.Hex8 n) = hex_padded 8 n

-- A text followed by the labels and values of the fields, in their order.
abbrev pub text_with_fields : List ℕ → List (Bor (List ℕ) × Value) → List ℕ
text_with_fields text [] = text
text_with_fields text (f ∷ fs) = text_with_fields (text ++ (f.0.now ++ value_text f.1)) fs
