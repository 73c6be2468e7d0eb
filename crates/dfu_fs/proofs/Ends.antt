-- Ends of the words and lists in a line.
use Rattle.std.specs.Prelude.{◌≡◌, ℕ, ◌+◌, ◌<◌, ◌≤◌, nat_eq, nat_lt, not, Bool, true, false, Some, None, List, [], ◌∷◌, length, drop, codes}
use Rattle.std.specs.List.{position, position_or_len, starts_with}
use Rattle.std.proofs.Common.{refl, arith, ap, sym, ◌∙◌, suc, drop-cons}
use Rattle.std.proofs.lemmas.Bool.{ltb-false, false_from_ne_true, cond-true}
use Rattle.std.proofs.lemmas.List.{drop_all}
use Rattle.std.proofs.lemmas.List.Sums.{prefix_len-le-length}
use Rattle.std.proofs.lemmas.Option.{cond_some, none-some}
use Rattle.dfu_fs.specs.Parts.{list_length}

-- If a position is found, it is that of the first element that passes the test.
pub found_place_is_first : {X : Type 0} (p : X → Bool) (xs : List X) (at : ℕ) → position p xs ≡ Some at → at ≡ position_or_len p xs
found_place_is_first p xs at e = sym (cond_some (nat_lt (position_or_len p xs) (length xs)) (position_or_len p xs) at e).1

-- If no element passes the test, the position is the length of the list.
pub missing_place_is_end : {X : Type 0} (p : X → Bool) (xs : List X) → position p xs ≡ None → length xs ≡ position_or_len p xs
missing_place_is_end p xs e =
    let at = position_or_len p xs in
    let none = false_from_ne_true (nat_lt at (length xs)) (λ t. none-some at (sym e ∙ cond-true (nat_lt at (length xs)) (Some at) None t)) in
    omega (arith, ltb-false at (length xs) none, prefix_len-le-length (λ x. not (p x)) xs)

list_ends_at_events : (b : ℕ) (bs : List ℕ) → starts_with nat_eq (b ∷ bs) (codes " events ") ≡ true → list_length (b ∷ bs) ≡ 0
unfolding list_length
list_ends_at_events b bs h = rw h refl

list_goes_past_byte : (b : ℕ) (bs : List ℕ) → starts_with nat_eq (b ∷ bs) (codes " events ") ≡ false → list_length (b ∷ bs)
    ≡ list_length bs + 1
unfolding list_length
list_goes_past_byte b bs h = rw h refl

-- A list that would begin at ` events ` is empty.
pub list_length_is_0_at_events : (xs : List ℕ) (i : ℕ) (rest : List ℕ) → rest ≡ drop i xs → i < length xs
    → starts_with nat_eq rest (codes " events ") ≡ true → list_length (drop i xs) ≡ 0
list_length_is_0_at_events xs i rest is lt h =
    let e = drop-cons xs i 0 lt in
    ap list_length e ∙ list_ends_at_events _ _ (ap (λ (ys : List ℕ). starts_with nat_eq ys (codes " events ")) (sym e ∙ sym is) ∙ h)

-- If ` events ` doesn't begin at a byte, the list from this byte on is one byte longer than the list from the next byte on.
pub list_length_counts_byte : (xs : List ℕ) (i : ℕ) (rest : List ℕ) → rest ≡ drop i xs → i < length xs
    → starts_with nat_eq rest (codes " events ") ≡ false → list_length (drop i xs) ≡ list_length (drop (i + 1) xs) + 1
list_length_counts_byte xs i rest is lt h =
    let e = drop-cons xs i 0 lt in
    let next : suc i ≡ i + 1 = omega arith in
    ap list_length e ∙ list_goes_past_byte _ _ (ap (λ (ys : List ℕ). starts_with nat_eq ys (codes " events ")) (sym e ∙ sym is) ∙ h)
    ∙ ap (λ (n : ℕ). list_length (drop n xs) + 1) next

list_length_of_nothing_is_0 : list_length [] ≡ 0
unfolding list_length
list_length_of_nothing_is_0 = refl

-- A list that would begin at the end of the line is empty.
pub list_length_is_0_at_line_end : (xs : List ℕ) (i : ℕ) → length xs ≤ i → list_length (drop i xs) ≡ 0
list_length_is_0_at_line_end xs i le = ap list_length (drop_all i xs le) ∙ list_length_of_nothing_is_0
