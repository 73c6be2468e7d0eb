-- Texts of the elements of a list, joined in their order.
use Rattle.std.proofs.Common.{◌≡◌, ◌∙◌, ◌+◌, ◌<◌, ◌++◌, ℕ, List, length, take, get_or, sym, ap}
use Rattle.std.specs.List.{flat_map}
use Rattle.std.proofs.lemmas.List.{flat_map_more, take_more}

-- Adding the next text to the texts of the first `n` elements gives the texts of the first `n + 1`.
pub next_element_extends_text : {X : Type 0} (text : X → List ℕ) (xs : List X) (n : ℕ) (d : X) (start before after : List ℕ) → n < length xs
    → before ≡ start ++ flat_map text (take n xs) → after ≡ before ++ text (get_or xs n d)
    → after ≡ start ++ flat_map text (take (n + 1) xs)
next_element_extends_text {X = X} text xs n d start before after below is more =
    more ∙ ap (λ (t : List ℕ). t ++ text (get_or xs n d)) is
    ∙ flat_map_more text start (take n xs) (get_or xs n d)
    ∙ ap (λ (ys : List X). start ++ flat_map text ys) (sym (take_more xs n d below))
