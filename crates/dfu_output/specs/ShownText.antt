-- Text in a form that is safe to show on a terminal.
use Rattle.std.specs.Prelude.{ℕ, List, map, take, if◌then◌else◌, chars, encode_utf8_all}
use Rattle.std.specs.Char.{is_control}

-- Character as a terminal may show it: `?` replaces a control character.
abbrev pub visible_character : ℕ → ℕ
visible_character c = if is_control c then 63 else c

-- First `most` characters of a text, or all if it has fewer, with `?` for each control character.
unfoldable pub visible_prefix : ℕ → List ℕ → List ℕ
visible_prefix most text = encode_utf8_all (map visible_character (take most (chars text)))
