-- Fields of a line: the value of a word that has the form of its field.
use Rattle.std.specs.Prelude.{ℕ, ◌%◌, ◌==◌, List, Option, Some, None, nat_le, codes, if◌then◌else◌}
use Rattle.std.specs.Str.{bytes_eq}
use Rattle.dfu_slots.specs.declared.layout.Unit.{Unit as WriteUnit}
use Rattle.dfu_slots.specs.declared.layout.Unit.TheVariants.{Byte, U16, U64, U256}
use Rattle.dfu_device.specs.declared.objection.Objection.{Objection}
use Rattle.dfu_device.specs.declared.objection.Objection.TheVariants.{Target, File}
use Rattle.dfu_link.specs.Words.{◌>>=◌, value_if, hex_word_bytes, number_of, number_of_pair}

-- Number of a word, if it is at most `most`; None for any other word.
unfoldable pub number_at_most : ℕ → List ℕ → Option ℕ
number_at_most most word = number_of word >>= λ n. value_if (nat_le n most) n

-- Number of a word, if it is from 1 to `most`; None for any other word.
unfoldable pub count_of : ℕ → List ℕ → Option ℕ
count_of most word = number_at_most most word >>= λ n. value_if (nat_le 1 n) n

-- Attributes of a word of two hexadecimal digits, 00 to 0f; None for any other word.
unfoldable pub attributes_of_word : List ℕ → Option ℕ
attributes_of_word word = number_of_pair word >>= λ n. value_if (nat_le n 15) n

-- Unit of `n` bytes, if there is one.
abbrev pub unit_of_bytes : ℕ → Option WriteUnit
unit_of_bytes n =
    if n == 1 then Some Byte
    else if n == 16 then Some U16
    else if n == 64 then Some U64
    else if n == 256 then Some U256
    else None

-- Unit in which the medium is written, from the word 1, 16, 64 or 256; None for any other word.
unfoldable pub unit_of_word : List ℕ → Option WriteUnit
unit_of_word word = number_of word >>= λ n. unit_of_bytes n

-- Number of bytes that one erase of the medium clears, 0 or a multiple of 256 up to 131,072; None for any other word.
unfoldable pub sector_of : List ℕ → Option ℕ
sector_of word = number_at_most 131072 word >>= λ n. value_if (n % 256 == 0) n

-- Objection of the word `errTARGET` or `errFILE`; None for any other word.
abbrev pub objection_of_word : List ℕ → Option Objection
objection_of_word w =
    if bytes_eq w (codes "errTARGET") then Some Target
    else if bytes_eq w (codes "errFILE") then Some File
    else None

-- Bytes that a word of an offer stands for: the given bytes for FILE, or the bytes of hexadecimal text. None for any other word, and for
-- FILE if no bytes are given.
unfoldable pub named_bytes : Option (List ℕ) → List ℕ → Option (List ℕ)
named_bytes given word = if bytes_eq word (codes "FILE") then given else hex_word_bytes word
