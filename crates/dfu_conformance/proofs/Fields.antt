-- A field ends at the next space, or at the end of the line.
use Rattle.std.specs.Prelude.{◌≡◌, ℕ, nat_lt, not, Bool, Some, None, List, length}
use Rattle.std.specs.List.{position, position_or_len}
use Rattle.std.proofs.Common.{arith, sym, ◌∙◌}
use Rattle.std.proofs.lemmas.Bool.{ltb-false, false_from_ne_true, cond-true}
use Rattle.std.proofs.lemmas.List.Sums.{prefix_len-le-length}
use Rattle.std.proofs.lemmas.Option.{cond_some, none-some}

-- If `position` finds an index, `position_or_len` returns it too.
pub found_place_is_first : {X : Type 0} (p : X → Bool) (xs : List X) (at : ℕ) → position p xs ≡ Some at → at ≡ position_or_len p xs
found_place_is_first p xs at e = sym (cond_some (nat_lt (position_or_len p xs) (length xs)) (position_or_len p xs) at e).1

-- If `position` finds nothing, `position_or_len` returns the length of the list.
pub missing_place_is_end : {X : Type 0} (p : X → Bool) (xs : List X) → position p xs ≡ None → length xs ≡ position_or_len p xs
missing_place_is_end p xs e =
    let at = position_or_len p xs in
    let none = false_from_ne_true (nat_lt at (length xs)) (λ t. none-some at (sym e ∙ cond-true (nat_lt at (length xs)) (Some at) None t)) in
    omega (arith, ltb-false at (length xs) none, prefix_len-le-length (λ x. not (p x)) xs)
