-- Lemmas about the CRC register over a prefix of a slot's data, computed piece by piece.
use Rattle.std.proofs.Common.{◌≡◌, ℕ, ◌+◌, ◌-◌, ◌≤◌, List, ◌++◌, take, drop, slice_range, sym, ◌∙◌, ap, arith}
use Rattle.std.proofs.Math.Seq.{take-add}
use Rattle.dfu_suffix.specs.Register.{register}

-- `crc` is the CRC register over the first `at` bytes.
pub record IsRegisterOfPrefix (bytes : List ℕ) (len at crc : ℕ) : Type 0 where
  pub within : at ≤ len
  pub register_is : crc ≡ register (take at bytes)

-- The first `at` bytes followed by the next n bytes are the first `at + n` bytes.
prefix_and_range_join : (bytes : List ℕ) (at n : ℕ) → take at bytes ++ slice_range bytes at (at + n) ≡ take (at + n) bytes
prefix_and_range_join bytes at n =
    let e : at + n - at ≡ n = omega arith in
    ap (λ (k : ℕ). take at bytes ++ take k (drop at bytes)) e ∙ sym (take-add at n bytes)

-- Adding the next piece extends the CRC register to the end of the piece.
pub piece_extends_register : (bytes : List ℕ) (len at n m next : ℕ) (piece : List ℕ) → at + n ≤ len → m ≡ n
    → piece ≡ slice_range bytes at (at + m) → next ≡ register (take at bytes ++ piece) → IsRegisterOfPrefix bytes len (at + n) next
piece_extends_register bytes len at n m next piece fits size is more = record {
  within = fits;
  register_is = more ∙ ap (λ (l : List ℕ). register l)
      (ap (λ (l : List ℕ). take at bytes ++ l) (is ∙ ap (λ (k : ℕ). slice_range bytes at (at + k)) size)
      ∙ prefix_and_range_join bytes at n);
}

-- Once `at` reaches `len`, the CRC register is that over the first `len` bytes.
pub register_is_of_whole_front : (bytes : List ℕ) (len at crc : ℕ) → len ≤ at → IsRegisterOfPrefix bytes len at crc
    → crc ≡ register (take len bytes)
register_is_of_whole_front bytes len at crc end so =
    let e : at ≡ len = omega (arith, end, so.within) in
    so.register_is ∙ ap (λ (n : ℕ). register (take n bytes)) e
