-- Pairs of hexadecimal digits are decoded to bytes.
use Rattle.std.proofs.Common.{◌≡◌, ℕ, suc, ◌+◌, ◌*◌, ◌<◌, ◌≤◌, ltb, List, [], ◌∷◌, ◌++◌, length, drop, get_or, refl, sym, ap, ◌∙◌, arith, Option, Some, None, append_assoc, drop-cons}
use Rattle.std.proofs.lemmas.List.{append-nil, drop_all}
use Rattle.std.proofs.lemmas.Bool.{lt-ltb, le-ltb, and_from, and_left, and_right}
use Rattle.dfu_formats.specs.images.Digits.{hex_value, byte_before_pairs, bytes_of_pairs}

-- Puts bytes in front of the decoded bytes, or returns None if the digits could not be decoded.
abbrev pub bytes_before_spelled : List ℕ → Option (List ℕ) → Option (List ℕ)
bytes_before_spelled front None = None
bytes_before_spelled front (Some bytes) = Some (front ++ bytes)

no_digits_spell_no_bytes : bytes_of_pairs [] ≡ Some []
unfolding bytes_of_pairs
no_digits_spell_no_bytes = refl

one_digit_is_no_byte : (a : ℕ) → bytes_of_pairs (a ∷ []) ≡ None
unfolding bytes_of_pairs
one_digit_is_no_byte a = refl

-- Two hexadecimal digits are decoded to one byte, followed by the bytes of the other pairs.
pub two_digits_spell_byte : (a b : ℕ) (bs : List ℕ) → hex_value a < 16 → hex_value b < 16 →
    bytes_of_pairs (a ∷ b ∷ bs) ≡ byte_before_pairs (16 * hex_value a + hex_value b) (bytes_of_pairs bs)
unfolding bytes_of_pairs
two_digits_spell_byte a b bs h k = rw (and_from (ltb (hex_value a) 16) (ltb (hex_value b) 16) (lt-ltb (hex_value a) 16 h) (lt-ltb
    (hex_value b) 16 k)) refl

-- If the first byte of a pair is not a hexadecimal digit, decoding fails.
pair_needs_high_digit : (a b : ℕ) (bs : List ℕ) → 16 ≤ hex_value a → bytes_of_pairs (a ∷ b ∷ bs) ≡ None
unfolding bytes_of_pairs
pair_needs_high_digit a b bs h = rw (and_left (ltb (hex_value a) 16) (ltb (hex_value b) 16) (le-ltb (hex_value a) 16 h)) refl

-- If the second byte of a pair is not a hexadecimal digit, decoding fails.
pair_needs_low_digit : (a b : ℕ) (bs : List ℕ) → 16 ≤ hex_value b → bytes_of_pairs (a ∷ b ∷ bs) ≡ None
unfolding bytes_of_pairs
pair_needs_low_digit a b bs h = rw (and_right (ltb (hex_value a) 16) (ltb (hex_value b) 16) (le-ltb (hex_value b) 16 h)) refl

-- The bytes from the last index on are the last byte alone.
drop_before_last_byte : (xs : List ℕ) (i : ℕ) → i + 1 ≡ length xs → drop i xs ≡ get_or xs i 0 ∷ []
drop_before_last_byte xs i h = drop-cons xs i 0 (omega (arith, h))
    ∙ ap (λ (ys : List ℕ). get_or xs i 0 ∷ ys) (drop_all (suc i) xs (omega (arith, h)))

-- The bytes from index `i` on are the bytes at `i` and `i + 1`, followed by the others.
drop_before_next_pair : (xs : List ℕ) (i j k : ℕ) → j ≡ suc i → k ≡ suc j → j < length xs → drop i xs
    ≡ get_or xs i 0 ∷ get_or xs j 0 ∷ drop k xs
drop_before_next_pair xs i j k e f h =
    drop-cons xs i 0 (omega (arith, e, h)) ∙ ap (λ (ys : List ℕ). get_or xs i 0 ∷ ys)
    (ap (λ (n : ℕ). drop n xs) (sym e) ∙ drop-cons xs j 0 h ∙ ap (λ (n : ℕ). get_or xs j 0 ∷ drop n xs) (sym f))

-- Once all digits are read, the bytes decoded so far are the result.
pub read_pairs_are_all_bytes : (xs front : List ℕ) (i : ℕ) → length xs ≤ i → bytes_before_spelled front (bytes_of_pairs (drop i xs))
    ≡ bytes_of_pairs xs
    → bytes_of_pairs xs ≡ Some front
read_pairs_are_all_bytes xs front i h so_far =
    sym so_far ∙ ap (bytes_before_spelled front) (ap bytes_of_pairs (drop_all i xs h) ∙ no_digits_spell_no_bytes)
    ∙ ap Some (append-nil front)

-- If a single digit remains at the end, decoding fails.
pub odd_digit_is_fault : (xs front : List ℕ) (i : ℕ) → i + 1 ≡ length xs → bytes_before_spelled front (bytes_of_pairs (drop i xs))
    ≡ bytes_of_pairs xs
    → bytes_of_pairs xs ≡ None
odd_digit_is_fault xs front i h so_far =
    sym so_far ∙ ap (bytes_before_spelled front) (ap bytes_of_pairs (drop_before_last_byte xs i h) ∙ one_digit_is_no_byte (get_or xs i 0))

-- If the first byte of the next pair is not a hexadecimal digit, decoding fails.
pub high_digit_is_needed : (xs front : List ℕ) (i j k : ℕ) → j ≡ suc i → k ≡ suc j → j < length xs → 16 ≤ hex_value (get_or xs i 0) →
    bytes_before_spelled front (bytes_of_pairs (drop i xs)) ≡ bytes_of_pairs xs → bytes_of_pairs xs ≡ None
high_digit_is_needed xs front i j k e f h d so_far =
    sym so_far ∙ ap (bytes_before_spelled front) (ap bytes_of_pairs (drop_before_next_pair xs i j k e f h)
    ∙ pair_needs_high_digit (get_or xs i 0) (get_or xs j 0) (drop k xs) d)

-- If the second byte of the next pair is not a hexadecimal digit, decoding fails.
pub low_digit_is_needed : (xs front : List ℕ) (i j k : ℕ) → j ≡ suc i → k ≡ suc j → j < length xs → 16 ≤ hex_value (get_or xs j 0) →
    bytes_before_spelled front (bytes_of_pairs (drop i xs)) ≡ bytes_of_pairs xs → bytes_of_pairs xs ≡ None
low_digit_is_needed xs front i j k e f h d so_far =
    sym so_far ∙ ap (bytes_before_spelled front) (ap bytes_of_pairs (drop_before_next_pair xs i j k e f h)
    ∙ pair_needs_low_digit (get_or xs i 0) (get_or xs j 0) (drop k xs) d)

-- A byte at the front of the decoded bytes may be moved to the end of the bytes before them.
byte_moves_to_front : (front : List ℕ) (b : ℕ) (spelled : Option (List ℕ)) → bytes_before_spelled front (byte_before_pairs b spelled)
    ≡ bytes_before_spelled (front ++ b ∷ []) spelled
byte_moves_to_front front b None = refl
byte_moves_to_front front b (Some bytes) = ap Some (sym (append_assoc front (b ∷ []) bytes))

-- The next pair of digits appends its byte to the bytes decoded so far.
pub pair_adds_byte : (xs front : List ℕ) (i j k b : ℕ) → j ≡ suc i → k ≡ suc j → j < length xs → hex_value (get_or xs i 0) < 16 →
    hex_value (get_or xs j 0) < 16 →
    b ≡ 16 * hex_value (get_or xs i 0) + hex_value (get_or xs j 0) → bytes_before_spelled front (bytes_of_pairs (drop i xs))
    ≡ bytes_of_pairs xs →
    bytes_before_spelled (front ++ b ∷ []) (bytes_of_pairs (drop k xs)) ≡ bytes_of_pairs xs
pair_adds_byte xs front i j k b e f h d g v so_far =
    let two = ap bytes_of_pairs (drop_before_next_pair xs i j k e f h)
    ∙ two_digits_spell_byte (get_or xs i 0) (get_or xs j 0) (drop k xs) d g in
    sym (byte_moves_to_front front b (bytes_of_pairs (drop k xs))) ∙
    (ap (λ (n : ℕ). bytes_before_spelled front (byte_before_pairs n (bytes_of_pairs (drop k xs)))) v
    ∙ (sym (ap (bytes_before_spelled front) two) ∙ so_far))
