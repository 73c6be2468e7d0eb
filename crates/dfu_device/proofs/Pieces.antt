-- Lemmas about the next piece of an image.
use Rattle.std.proofs.Common.{◌≡◌, ℕ, ◌+◌, ◌-◌, min, List, take, drop, length, slice_range, ap, ◌∙◌, arith}
use Rattle.std.proofs.lemmas.List.{take_min, length-drop, length-take}

-- If n is the smaller of `len` and the number of bytes from offset `place` on, the n bytes at `place` are the next piece of at most `len`
-- bytes.
pub next_bytes : (i : List ℕ) (place n len : ℕ) → n ≡ min len (length i - place) → slice_range i place (place + n) ≡ take len (drop place i)
next_bytes i place n len is =
    let e : (place + n) - place ≡ min len (length (drop place i)) = omega (arith, is, length-drop place i) in
    ap (λ (k : ℕ). take k (drop place i)) e ∙ take_min len (drop place i)

-- If n is the smaller of `len` and the number of bytes from offset `place` on, n is the length of the next piece.
pub count_is_piece_length : (i : List ℕ) (place n len : ℕ) → n ≡ min len (length i - place) → n ≡ length (take len (drop place i))
count_is_piece_length i place n len is = omega (arith, is, length-drop place i, length-take len (drop place i))
