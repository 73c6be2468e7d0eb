-- The JSON object of a line.
use Rattle.std.specs.Prelude.{ℕ, List, [], ◌∷◌, ◌++◌, Option, Some, None, codes}
use Rattle.std.specs.Borrow.{Bor}
use Rattle.dfu_fs.specs.declared.json.forms.TheConstants.{FORMS}
use Rattle.dfu_fs.specs.declared.json.part.LinePart.{LinePart}
use Rattle.dfu_fs.specs.Parts.{◌>>=◌, with_part}
use Rattle.dfu_fs.specs.Quoted.{quoted_string}

-- The members `out` if no part of the line is left, and None otherwise.
abbrev pub members_at_line_end : (out line : List ℕ) → Option (List ℕ)
members_at_line_end out [] = Some out
members_at_line_end out (b ∷ bs) = None

-- The members `out` and those that the parts of a form add for the words of the line. None if the line doesn't have this form.
unfoldable pub members_by_form : List LinePart → (out line : List ℕ) → Option (List ℕ)
members_by_form [] out line = members_at_line_end out line
members_by_form (p ∷ ps) out line = with_part p out line >>= λ s. members_by_form ps s.0 s.1

-- The first option if it has a value, and the second option otherwise.
abbrev pub first_or_second : {A : Type 0} → Option A → Option A → Option A
first_or_second None second = second
first_or_second (Some x) second = Some x

-- Members by the first form of the list that fits the line, or None if no form fits.
unfoldable pub members_of_first_form : List (List LinePart) → List ℕ → Option (List ℕ)
members_of_first_form [] line = None
members_of_first_form (form ∷ forms) line = first_or_second (members_by_form form [] line) (members_of_first_form forms line)

-- The members by a form that fits the line. If no form fits, the single member is `line` with the text of the line.
abbrev pub members_or_text : Option (List ℕ) → List ℕ → List ℕ
members_or_text None line = quoted_string (codes "line") ++ (58 ∷ [] ++ quoted_string line)
members_or_text (Some members) line = members

-- Member `file` and a comma; empty if there is no file.
abbrev pub file_member : Option (List ℕ) → List ℕ
file_member None = []
file_member (Some file) = quoted_string (codes "file") ++ (58 ∷ [] ++ (quoted_string file ++ 44 ∷ []))

-- Bytes of the file's name, if there is a file.
abbrev pub name_in : Option (Bor (List ℕ)) → Option (List ℕ)
name_in None = None
name_in (Some file) = Some file.now

-- JSON object of a line, with the name of the file that the line is about if there is one.
unfoldable pub json_object : Option (List ℕ) → List ℕ → List ℕ
json_object file line = 123 ∷ [] ++ (file_member file ++ (members_or_text (members_of_first_form FORMS line) line ++ 125 ∷ []))
