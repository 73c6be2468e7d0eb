-- Subcommands whose sure arguments have texts. An argument is sure if it is required or has a default.
use Rattle.std.specs.Prelude.{◌≡◌, true, false, List, [], ◌∷◌, if◌then◌else◌, is_some, codes}
use Rattle.std.specs.Str.{bytes_eq}
use Rattle.clap.specs.Words.{Row, Text, first_of}
use Rattle.clap.specs.Walk.{is_empty}

-- Sure arguments of the subcommand with this name: those that are required or have a default. Empty for any other name.
abbrev pub sure_arguments_of : Text → List Text
sure_arguments_of name =
    if bytes_eq name (codes "check") then codes "file" ∷ []
    else (if bytes_eq name (codes "add") then codes "file" ∷ codes "to" ∷ codes "vid" ∷ codes "pid" ∷ codes "did" ∷ []
    else (if bytes_eq name (codes "extract") then codes "file" ∷ codes "to" ∷ []
    else (if bytes_eq name (codes "set") then codes "file" ∷ []
    else (if bytes_eq name (codes "show") then codes "kind" ∷ codes "hex" ∷ []
    else (if bytes_eq name (codes "run") then codes "script" ∷ []
    else (if bytes_eq name (codes "judge") then codes "file" ∷ codes "interface" ∷ codes "device" ∷ []
    else (if bytes_eq name (codes "plan") then codes "part" ∷ codes "boot" ∷ codes "areas" ∷ [] else [])))))))

-- Each of the arguments has a text.
abbrev pub HasTexts : List Text → List Row → Type 0
HasTexts [] rows = Unit {0}
HasTexts (id ∷ ids) rows = (is_some (first_of id rows) ≡ true) × HasTexts ids rows

-- The name is that of a subcommand with sure arguments, and each of them has a text.
abbrev pub IsComplete : Text → List Row → Type 0
IsComplete name rows = (is_empty (sure_arguments_of name) ≡ false) × HasTexts (sure_arguments_of name) rows
