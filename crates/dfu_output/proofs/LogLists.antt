-- Texts of the elements of a list, joined in their order.
use Rattle.std.proofs.Common.{◌≡◌, ◌∙◌, ◌+◌, ◌<◌, ◌++◌, ◌∷◌, ℕ, List, [], length, take, get_or, refl, sym, ap, append_assoc}
use Rattle.std.proofs.lemmas.List.{append-nil, take_more}
use Rattle.dfu_output.specs.judge.Texts.{texts_of_each}

-- The texts of two joined lists are the texts of the first list, followed by the texts of the second.
joined_lists_join_texts : {X : Type 0} (text : X → List ℕ) (xs ys : List X)
    → texts_of_each text (xs ++ ys) ≡ texts_of_each text xs ++ texts_of_each text ys
unfolding texts_of_each
joined_lists_join_texts text [] ys = refl
joined_lists_join_texts text (x ∷ xs) ys = ap (λ (t : List ℕ). text x ++ t) (joined_lists_join_texts text xs ys)
    ∙ sym (append_assoc (text x) (texts_of_each text xs) (texts_of_each text ys))

one_element_has_its_text : {X : Type 0} (text : X → List ℕ) (x : X) → texts_of_each text (x ∷ []) ≡ text x
unfolding texts_of_each
one_element_has_its_text text x = append-nil (text x)

-- The texts of `n + 1` elements are the texts of `n` elements, followed by the text of the next.
pub next_element_adds_text : {X : Type 0} (text : X → List ℕ) (xs : List X) (n : ℕ) (d : X) → n < length xs
    → texts_of_each text (take (n + 1) xs) ≡ texts_of_each text (take n xs) ++ text (get_or xs n d)
next_element_adds_text text xs n d below =
    ap (texts_of_each text) (take_more xs n d below) ∙ joined_lists_join_texts text (take n xs) (get_or xs n d ∷ [])
    ∙ ap (λ (t : List ℕ). texts_of_each text (take n xs) ++ t) (one_element_has_its_text text (get_or xs n d))

-- If a line holds the texts of `n` elements, adding the next text gives the texts of `n + 1` elements.
pub next_text_extends_line : {X : Type 0} (text : X → List ℕ) (xs : List X) (n : ℕ) (d : X) (start before after : List ℕ) → n < length xs
    → before ≡ start ++ texts_of_each text (take n xs) → after ≡ before ++ text (get_or xs n d)
    → after ≡ start ++ texts_of_each text (take (n + 1) xs)
next_text_extends_line text xs n d start before after below is more =
    more ∙ ap (λ (t : List ℕ). t ++ text (get_or xs n d)) is
    ∙ append_assoc start (texts_of_each text (take n xs)) (text (get_or xs n d))
    ∙ ap (λ (t : List ℕ). start ++ t) (sym (next_element_adds_text text xs n d below))

-- At first the line holds the texts of no elements.
pub line_begins_without_texts : {X : Type 0} (text : X → List ℕ) (start : List ℕ) → start ≡ start ++ texts_of_each text []
unfolding texts_of_each
line_begins_without_texts text start = sym (append-nil start)
