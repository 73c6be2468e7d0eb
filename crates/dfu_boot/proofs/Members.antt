-- Members of lists of sector offsets.
use Rattle.std.proofs.Common.{◌≡◌, ◌⊎◌, inl, inr, ◌<◌, ◌≤◌, ◌*◌, ◌/◌, ◌%◌, ℕ, suc, zero, List, [], ◌∷◌, length, sym, ◌∙◌, ap, refl, subst, arith}
use Rattle.std.proofs.lemmas.Bool.{cases_lt}
use Rattle.std.proofs.Math.Nat.{div-add-mod, lt_of_mul-lt-mul_right}

-- The number is an element of the list.
abbrev pub IsInList : ℕ → List ℕ → Type 0
IsInList a [] = ⊥
IsInList a (x ∷ xs) = (x ≡ a) ⊎ IsInList a xs

-- A list with one element less than `xs`, which contains each number of `xs` except `a`.
pub record ListWithout (a : ℕ) (xs : List ℕ) : Type 0 where
  pub others : List ℕ
  pub fewer : length xs ≡ suc (length others)
  pub keeps : (i : ℕ) → IsInList i xs → ¬ (i ≡ a) → IsInList i others

-- If `a` can be removed from a list, it can be removed from the list with one more element before it.
removal_skips_first_element : (a x : ℕ) (xs : List ℕ) → ListWithout a xs → ListWithout a (x ∷ xs)
removal_skips_first_element a x xs w = record {
  others = x ∷ w.others;
  fewer = ap suc w.fewer;
  keeps = keeps;
}
  where
    keeps : (i : ℕ) → IsInList i (x ∷ xs) → ¬ (i ≡ a) → IsInList i (x ∷ w.others)
    keeps i (inl e) other = inl e
    keeps i (inr m) other = inr (w.keeps i m other)

-- The first element of a list can be removed.
first_element_is_removable : (a x : ℕ) (xs : List ℕ) → x ≡ a → ListWithout a (x ∷ xs)
first_element_is_removable a x xs is = record {
  others = xs;
  fewer = refl;
  keeps = keeps;
}
  where
    keeps : (i : ℕ) → IsInList i (x ∷ xs) → ¬ (i ≡ a) → IsInList i xs
    keeps i (inl e) other = absurd (other (sym e ∙ is))
    keeps i (inr m) other = m

-- Each element of a list can be removed.
pub member_can_be_taken_away : (a : ℕ) (xs : List ℕ) → IsInList a xs → ListWithout a xs
member_can_be_taken_away a [] m = absurd m
member_can_be_taken_away a (x ∷ xs) (inl e) = first_element_is_removable a x xs e
member_can_be_taken_away a (x ∷ xs) (inr m) = removal_skips_first_element a x xs (member_can_be_taken_away a xs m)

-- First n multiples of a number, from 0 on, the largest one first.
abbrev pub multiples : ℕ → ℕ → List ℕ
multiples part zero = []
multiples part (suc n) = (n * part) ∷ multiples part n

-- The list of the first n multiples has n elements.
pub multiples_have_length_n : (part n : ℕ) → length (multiples part n) ≡ n
multiples_have_length_n part zero = refl
multiples_have_length_n part (suc n) = ap suc (multiples_have_length_n part n)

-- If each q below n has its multiple among the first n, each q below n + 1 has its multiple among the first n + 1.
next_multiple_is_member : (part n q : ℕ) → q < suc n → (q < n → IsInList (q * part) (multiples part n)) →
    IsInList (q * part) (multiples part (suc n))
next_multiple_is_member part n q lt fewer = at_either_place (cases_lt q n)
  where
    at_either_place : (q < n) ⊎ (n ≤ q) → IsInList (q * part) (multiples part (suc n))
    at_either_place (inl less) = inr (fewer less)
    at_either_place (inr most) = let e : n ≡ q = omega (arith, most, lt) in inl (ap (λ (x : ℕ). x * part) e)

-- If q is below n, q times a number is one of its first n multiples.
multiple_is_member : (part n q : ℕ) → q < n → IsInList (q * part) (multiples part n)
multiple_is_member part zero q lt = absurd (omega (arith, lt))
multiple_is_member part (suc n) q lt = next_multiple_is_member part n q lt (multiple_is_member part n q)

-- Each multiple of a number below n times that number is one of its first n multiples.
pub multiple_below_is_member : (part n i : ℕ) → i % part ≡ 0 → i < n * part → IsInList i (multiples part n)
multiple_below_is_member part n i whole lt =
    let e : i / part * part ≡ i = omega (arith, div-add-mod i part, whole) in
    let less : i / part < n = lt_of_mul-lt-mul_right part (subst (λ (x : ℕ). x < n * part) (sym e) lt) in
    subst (λ (x : ℕ). IsInList x (multiples part n)) e (multiple_is_member part n (i / part) less)
