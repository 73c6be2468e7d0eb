-- The loop that trims a name removes the spaces at the end of each prefix of its bytes.
use Rattle.std.proofs.Common.{◌≡◌, ℕ, zero, suc, ◌<◌, ◌≤◌, ◌&&◌, cond, eqb, List, [], ◌∷◌, length, take, get_or, refl, sym, ap, ◌∙◌, arith, length-take}
use Rattle.std.proofs.lemmas.Bool.{eq-eqb, ne_eqb, and_right, and_left}
use Rattle.std.proofs.lemmas.List.{take_all}
use Rattle.dfu_formats.specs.memory.Reading.{trimmed_name}

-- A byte is kept if bytes after it are kept. Otherwise it is kept unless it is a space.
abbrev pub first_byte_before_kept : ℕ → List ℕ → List ℕ
first_byte_before_kept b kept = cond (eqb b 32 && eqb (length kept) 0) [] (b ∷ kept)

pub trimmed_name_of_first : (b : ℕ) (bs : List ℕ) → trimmed_name (b ∷ bs) ≡ first_byte_before_kept b (trimmed_name bs)
unfolding trimmed_name
trimmed_name_of_first b bs = refl

pub trimmed_name_of_nothing : trimmed_name [] ≡ []
unfolding trimmed_name
trimmed_name_of_nothing = refl

-- A byte that precedes a kept byte is kept.
pub byte_stays_before_kept : (b : ℕ) (kept : List ℕ) → 1 ≤ length kept → first_byte_before_kept b kept ≡ b ∷ kept
byte_stays_before_kept b kept h = rw (and_right (eqb b 32) (eqb (length kept) 0) (ne_eqb (length kept) 0 (λ z. omega (arith, h, z)))) refl

-- A byte other than a space is kept.
pub nonspace_byte_stays : (b : ℕ) (kept : List ℕ) → (b ≡ 32 → ⊥) → first_byte_before_kept b kept ≡ b ∷ kept
nonspace_byte_stays b kept h = rw (and_left (eqb b 32) (eqb (length kept) 0) (ne_eqb b 32 h)) refl

-- A space with no kept byte after it is removed.
pub trailing_space_is_cut : (b : ℕ) → b ≡ 32 → first_byte_before_kept b [] ≡ []
trailing_space_is_cut b h = rw (eq-eqb b 32 h) refl

-- Appending a space leaves the trimmed name unchanged.
trimmed_name_skips_space : (xs : List ℕ) (i : ℕ) → i < length xs → get_or xs i 0 ≡ 32 → trimmed_name (take (suc i) xs)
    ≡ trimmed_name (take i xs)
trimmed_name_skips_space [] i h e = absurd (omega (arith, h))
trimmed_name_skips_space (x ∷ xs) zero h e = trimmed_name_of_first x [] ∙ (ap (first_byte_before_kept x) trimmed_name_of_nothing
    ∙ (trailing_space_is_cut x e ∙ sym trimmed_name_of_nothing))
trimmed_name_skips_space (x ∷ xs) (suc i) h e =
    trimmed_name_of_first x (take (suc i) xs) ∙ (ap (first_byte_before_kept x) (trimmed_name_skips_space xs i (omega (arith, h)) e)
    ∙ sym (trimmed_name_of_first x (take i xs)))

-- A byte other than a space is kept, and so are all bytes before it.
trimmed_name_keeps_byte : (xs : List ℕ) (i : ℕ) → i < length xs → (get_or xs i 0 ≡ 32 → ⊥) → trimmed_name (take (suc i) xs)
    ≡ take (suc i) xs
trimmed_name_keeps_byte [] i h e = absurd (omega (arith, h))
trimmed_name_keeps_byte (x ∷ xs) zero h e = trimmed_name_of_first x [] ∙ (ap (first_byte_before_kept x) trimmed_name_of_nothing
    ∙ nonspace_byte_stays x [] e)
trimmed_name_keeps_byte (x ∷ xs) (suc i) h e =
    trimmed_name_of_first x (take (suc i) xs) ∙ (ap (first_byte_before_kept x) (trimmed_name_keeps_byte xs i (omega (arith, h)) e)
    ∙ byte_stays_before_kept x (take (suc i) xs) (omega (arith, h, length-take (suc i) xs)))

-- If the first `i` bytes without their trailing spaces are the first `end` bytes, and byte `i` is a space, the first `i + 1` bytes without
-- their trailing spaces are the first `end` bytes too.
pub trimmed_name_after_space : (xs : List ℕ) (i j end : ℕ) → j ≡ suc i → i < length xs → get_or xs i 0 ≡ 32 →
    trimmed_name (take i xs) ≡ take end xs → trimmed_name (take j xs) ≡ take end xs
trimmed_name_after_space xs i j end e h s t = ap (λ (k : ℕ). trimmed_name (take k xs)) e ∙ (trimmed_name_skips_space xs i h s ∙ t)

-- If byte `i` is not a space, trimming removes nothing from the first `i + 1` bytes.
pub trimmed_name_after_byte : (xs : List ℕ) (i j : ℕ) → j ≡ suc i → i < length xs → (get_or xs i 0 ≡ 32 → ⊥) → trimmed_name (take j xs)
    ≡ take j xs
trimmed_name_after_byte xs i j e h s =
    ap (λ (k : ℕ). trimmed_name (take k xs)) e ∙ (trimmed_name_keeps_byte xs i h s ∙ sym (ap (λ (k : ℕ). take k xs) e))

pub trimmed_name_of_no_bytes : (xs : List ℕ) → trimmed_name (take 0 xs) ≡ take 0 xs
trimmed_name_of_no_bytes xs = trimmed_name_of_nothing

-- After the last byte, the kept bytes are the trimmed name.
pub trimmed_name_of_whole : (xs : List ℕ) (i end : ℕ) → length xs ≤ i → trimmed_name (take i xs) ≡ take end xs → take end xs
    ≡ trimmed_name xs
trimmed_name_of_whole xs i end h t = sym (sym (ap trimmed_name (take_all i xs h)) ∙ t)
