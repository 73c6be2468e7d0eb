-- Parts of lists of bytes are lists of bytes.
use Rattle.std.proofs.Common.{ℕ, zero, suc, ◌+◌, ◌<◌, List, [], ◌∷◌, ◌++◌, take, drop, set, arith}
use Rattle.std.proofs.lemmas.List.{get_or-drop}
use Rattle.dfu_suffix.specs.Laws.{AreBytes}

-- If all items of a list are bytes, all items after the first `n` are bytes.
pub AreBytes-drop : (xs : List ℕ) (n : ℕ) → AreBytes xs → AreBytes (drop n xs)
AreBytes-drop xs n f k = omega (arith, f (n + k), get_or-drop n xs k 0)

-- If all items of a list are bytes, the first `n` items are bytes.
pub AreBytes-take : (n : ℕ) (xs : List ℕ) → AreBytes xs → AreBytes (take n xs)
AreBytes-take zero xs f k = omega arith
AreBytes-take (suc n) [] f k = f k
AreBytes-take (suc n) (x ∷ xs) f zero = f zero
AreBytes-take (suc n) (x ∷ xs) f (suc k) = AreBytes-take n xs (λ i. f (suc i)) k

-- If all items of two lists are bytes, all items of the joined list are bytes.
pub AreBytes-append : (xs ys : List ℕ) → AreBytes xs → AreBytes ys → AreBytes (xs ++ ys)
AreBytes-append [] ys f g k = g k
AreBytes-append (x ∷ xs) ys f g zero = f zero
AreBytes-append (x ∷ xs) ys f g (suc k) = AreBytes-append xs ys (λ i. f (suc i)) g k

-- If all items of a list are bytes, all items are still bytes after one of them is set to a byte.
pub AreBytes-set : (xs : List ℕ) (i c : ℕ) → AreBytes xs → c < 256 → AreBytes (set xs i c)
AreBytes-set [] i c f h k = f k
AreBytes-set (x ∷ xs) zero c f h zero = h
AreBytes-set (x ∷ xs) zero c f h (suc k) = f (suc k)
AreBytes-set (x ∷ xs) (suc i) c f h zero = f zero
AreBytes-set (x ∷ xs) (suc i) c f h (suc k) = AreBytes-set xs i c (λ j. f (suc j)) h k
