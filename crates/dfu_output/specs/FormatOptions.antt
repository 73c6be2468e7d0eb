-- Values of the options `--format` and `--fill`.
use Rattle.std.specs.Prelude.{◌≢◌, ℕ, ◌*◌, ◌+◌, ◌&&◌, nat_lt, if◌then◌else◌, List, [], ◌∷◌, Option, Some, None, codes}
use Rattle.dfu_formats.specs.images.Digits.{hex_value}

-- Byte that a value of `--fill` specifies with two hexadecimal digits of either case, or None for any other value.
abbrev pub fill_in : List ℕ → Option ℕ
fill_in (a ∷ b ∷ []) = if nat_lt (hex_value a) 16 && nat_lt (hex_value b) 16 then Some (16 * hex_value a + hex_value b) else None
fill_in word = None

-- The value of `--format` is none of raw, auto, ihex, srec, uf2 and elf.
abbrev pub IsUnknownFormat : List ℕ → Type 0
IsUnknownFormat word = (word ≢ codes "raw") × (word ≢ codes "auto") × (word ≢ codes "ihex") × (word ≢ codes "srec") × (word ≢ codes "uf2")
    × (word ≢ codes "elf")
