-- Lines that give a reason. Each line ends with 0Ah.
use Rattle.std.specs.Prelude.{ℕ, List, [], ◌∷◌, ◌++◌, codes}
use Rattle.dfu_output.specs.ShownText.{visible_prefix}

-- Line with a reason: `dfu: LABELNAME: WHY`. It shows at most 4,096 characters of the name, with `?` for each control character.
unfoldable pub reason_line : (label name why : List ℕ) → List ℕ
reason_line label name why = codes "dfu: " ++ (label ++ visible_prefix 4096 name) ++ (codes ": " ++ why) ++ 10 ∷ []

-- Prefix of a line about one of several files: `NAME: `. It shows at most 4,096 characters of the name, with `?` for each control
-- character.
unfoldable pub name_before : (name : List ℕ) → List ℕ
name_before name = visible_prefix 4096 name ++ codes ": "
