-- Lemmas about text that is safe to show on a terminal.
use Rattle.std.proofs.Common.{◌≡◌, ◌++◌, ◌∷◌, [], ℕ, zero, suc, List, chars, encode_utf8, refl, sym, append_assoc}
use Rattle.dfu_output.specs.ShownText.{visible_character, visible_prefix}

-- The visible prefix of a text without characters is empty.
pub empty_text_shows_nothing : (most : ℕ) (text : List ℕ) → chars text ≡ [] → visible_prefix most text ≡ []
unfolding visible_prefix
empty_text_shows_nothing zero text none = refl
empty_text_shows_nothing (suc most) text none = rw none refl

-- The visible prefix of a text is empty if no characters may be shown.
pub nothing_shown_without_room : (room : ℕ) (text : List ℕ) → room ≡ 0 → visible_prefix room text ≡ []
unfolding visible_prefix
nothing_shown_without_room room text full = rw full refl

-- The visible prefix of a text is its first character, or `?` for a control character, followed by the visible prefix of the rest, which
-- may have one character less.
pub first_character_is_shown_first : (line text rest : List ℕ) (c most room : ℕ) → chars text ≡ c ∷ chars rest → room ≡ suc most
    → line ++ visible_prefix room text ≡ (line ++ encode_utf8 (visible_character c)) ++ visible_prefix most rest
unfolding visible_prefix
first_character_is_shown_first line text rest c most room first more =
    rw (more, first) (sym (append_assoc line (encode_utf8 (visible_character c)) (visible_prefix most rest)))
