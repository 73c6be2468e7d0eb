-- The loop over the rows of a list tests one more row in each pass.
use Rattle.std.specs.Prelude.{◌≡◌, ℕ, ◌+◌, ◌<◌, ◌||◌, Bool, true, false, List, length, take}
use Rattle.std.specs.List.{list_any}
use Rattle.std.proofs.Common.{refl, sym, ap, ◌∙◌, get_or}
use Rattle.std.proofs.lemmas.List.Folds.{list_any_more}

-- The operator || is associative.
or_is_associative : (x y z : Bool) → ((x || y) || z) ≡ (x || (y || z))
or_is_associative true y z = refl
or_is_associative false y z = refl

-- After row `i`, the result is true exactly if it was true at the start, or a row up to `i` passes the test.
pub next_row_extends_test : {X : Type 0} (p : X → Bool) (xs : List X) (i : ℕ) (d : X) (start before after : Bool) → i < length xs
    → before ≡ (start || list_any p (take i xs)) → after ≡ (before || p (get_or xs i d))
    → after ≡ (start || list_any p (take (i + 1) xs))
next_row_extends_test p xs i d start before after below is more =
    more ∙ ap (λ (b : Bool). b || p (get_or xs i d)) is ∙ or_is_associative start (list_any p (take i xs)) (p (get_or xs i d))
    ∙ ap (λ (b : Bool). start || b) (sym (list_any_more p xs i d below))
