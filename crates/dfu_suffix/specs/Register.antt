-- The CRC register of USB DFU 1.1, appendix B, bit by bit.
use Rattle.std.specs.Prelude.{ℕ, zero, suc, ◌/◌, ◌%◌, ◌==◌, List, [], ◌∷◌, bit_xor, if◌then◌else◌, fold}
use Rattle.std.specs.List.{flat_map}

-- The register after one more bit. It is halved, and combined with EDB88320h by xor if its lowest bit differs from the new bit.
abbrev pub after_bit : ℕ → ℕ → ℕ
after_bit r bit = if r % 2 == bit then r / 2 else bit_xor (r / 2) 0xEDB8_8320

-- The register after these bits, in their order.
unfoldable pub after_bits : ℕ → List ℕ → ℕ
after_bits r bits = fold after_bit r bits

-- The `n` low bits of a number, the lowest first.
unfoldable pub low_bits : ℕ → ℕ → List ℕ
low_bits zero x = []
low_bits (suc n) x = x % 2 ∷ low_bits n (x / 2)

-- The bits of bytes, byte by byte, the low bit of each byte first.
unfoldable pub bits_of : List ℕ → List ℕ
bits_of bytes = flat_map (low_bits 8) bytes

-- The register over bytes, which starts as FFFFFFFFh.
unfoldable pub register : List ℕ → ℕ
register bytes = fold after_bit 0xFFFF_FFFF (flat_map (low_bits 8) bytes)

-- The CRC shift of a number by one bit: the register after a zero bit.
abbrev pub shift : ℕ → ℕ
shift s = after_bit s 0

-- The CRC shift of a number by `n` bits: the register after `n` zero bits.
unfoldable pub shifts : ℕ → ℕ → ℕ
shifts zero s = s
shifts (suc n) s = shifts n (shift s)
