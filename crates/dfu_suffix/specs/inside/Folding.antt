-- The register that a residue represents. A residue is 1,968 bytes, onto which all bytes before it were folded.
use Rattle.std.specs.Prelude.{ℕ, List, [], ◌∷◌, take, bit_xor}
use Rattle.dfu_suffix.specs.Register.{after_bits, bits_of}

-- Combines a number by xor with the value of `at` for each offset in the list.
unfoldable pub combined_numbers : (ℕ → ℕ) → ℕ → List ℕ → ℕ
combined_numbers at number [] = number
combined_numbers at number (place ∷ places) = combined_numbers at (bit_xor number (at place)) places

-- The taps: offsets in a residue, besides 0, whose bytes are combined with the next byte of the input.
abbrev pub tap_places : List ℕ
tap_places = 720 ∷ 848 ∷ 1184 ∷ 1280 ∷ 1920 ∷ []

-- Register of a residue: the xor of the register over all of it and those over the bytes before each tap, all with start value 0.
unfoldable pub register_of_residue : List ℕ → ℕ
register_of_residue residue = combined_numbers (λ n. after_bits 0 (bits_of (take n residue))) (after_bits 0 (bits_of residue)) tap_places
