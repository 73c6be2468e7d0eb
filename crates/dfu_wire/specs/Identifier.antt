-- Identifiers written as four hexadecimal digits.
use Rattle.std.specs.Prelude.{ℕ, ◌+◌, ◌*◌, List, slice_index, Option, Some, None, Result, Ok, Err}
use Rattle.hex.specs.Hex.{decode_sized}
use Rattle.hex.specs.declared.error.FromHexError.{FromHexError}

-- Identifier in two decoded bytes, high byte first, or None if decoding failed.
abbrev pub number_in : Result (List ℕ) FromHexError → Option ℕ
number_in (Ok bytes) = Some (256 * slice_index bytes 0 + slice_index bytes 1)
number_in (Err e) = None

-- Identifier in four hexadecimal digits of either case, highest digit first, or None for any other text.
abbrev pub identifier_in : List ℕ → Option ℕ
identifier_in digits = number_in (decode_sized digits 2)
