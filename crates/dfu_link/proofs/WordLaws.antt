-- Lemmas about the words and numbers of a line.
use Rattle.std.proofs.Common.{◌≡◌, ℕ, zero, suc, ◌+◌, ◌-◌, ◌*◌, ◌<◌, ◌≤◌, List, [], ◌∷◌, length, get_or, take, drop, nat_lt, nat_le, ◌&&◌, cond, Option, Some, None, refl, sym, ap, add-one, add-zero, drop-cons, length-drop, ◌∙◌, arith, true, false, Bool, filter}
use Rattle.std.proofs.lemmas.List.Splits.{slice_split-cons_yes, slice_split_first, slice_split_none}
use Rattle.std.proofs.lemmas.List.Quantifiers.{position-Some}
use Rattle.std.proofs.lemmas.List.Sums.{fails_before_first, passes_at_first}
use Rattle.std.proofs.lemmas.Option.{cond_some}
use Rattle.std.proofs.lemmas.Bool.{not-false, not_from_true, ltb-false, le-leb, lt-leb}
use Rattle.std.specs.Char.{is_ascii_digit}
use Rattle.std.proofs.lemmas.List.{drop_all, get_or-drop}
use Rattle.std.proofs.lemmas.List.Elements.{All-from_get_or}
use Rattle.std.specs.List.{slice_split, position, position_or_len, AllPass}
use Rattle.std.specs.Prelude.{codes, IsTrue, ◌↔◌, is_some, unwrap_or, Result, Ok, Err, ◌%◌}
use Rattle.std.specs.Str.{bytes_eq}
use Rattle.hex.specs.Hex.{decode_of, is_hex_digit}
use Rattle.hex.specs.declared.error.FromHexError.{FromHexError}
use Rattle.hex.proofs.HexLemmas.{decode_of-ok, decode_of-digits}
use Rattle.dfu_link.specs.Words.{hex_word_bytes, ok_of, ◌>>=◌, value_if, words_of, first_word, is_space, is_no_space, is_word, number_of, digits_value}

-- If a conditional whose first branch is Some has the value None, its test is false.
choice_of_none_has_false_test : {A : Type 0} (b : Bool) (x : A) → cond b (Some x) None ≡ None → b ≡ false
choice_of_none_has_false_test true x h = absurd (grind (arith, h))
choice_of_none_has_false_test false x h = refl

-- A space before a text does not change its words.
words_of-space : (b : ℕ) (bs : List ℕ) → is_no_space b ≡ false → words_of (b ∷ bs) ≡ words_of bs
unfolding words_of
words_of-space b bs h = ap (filter is_word) (slice_split-cons_yes is_space b bs (not-false (is_space b) h))

-- Spaces before a text do not change its words.
leading_spaces_keep_words : (xs : List ℕ) (i : ℕ) → i ≤ length xs → ((k : ℕ) → k < i → is_no_space (get_or xs k 0) ≡ false) →
    words_of xs ≡ words_of (drop i xs)
leading_spaces_keep_words xs zero le h = refl
leading_spaces_keep_words [] (suc i) le h = refl
leading_spaces_keep_words (b ∷ bs) (suc i) le h = words_of-space b bs (h 0 (omega arith))
    ∙ leading_spaces_keep_words bs i (omega (arith, le)) (λ k l. h (suc k) (omega (arith, l)))

-- If `position` finds no byte that passes a test, no byte passes it.
pub no_byte_passes_before_found : (p : ℕ → Bool) (xs : List ℕ) → position p xs ≡ None → (k : ℕ) → k < length xs → p (get_or xs k 0) ≡ false
no_byte_passes_before_found p xs h k l =
    let past = ltb-false (position_or_len p xs) (length xs) (choice_of_none_has_false_test (nat_lt (position_or_len p xs) (length xs))
    (position_or_len p xs)
    h) in
    fails_before_first p xs k 0 (omega (arith, past, l))

-- No word follows the last byte of a text.
words_of-all : (xs : List ℕ) → words_of (drop (length xs) xs) ≡ []
unfolding words_of
words_of-all xs = ap (λ (ys : List ℕ). filter is_word (slice_split is_space ys)) (drop_all (length xs) xs (omega arith))

-- A text of spaces only has no word.
pub only_spaces_have_no_word : (xs : List ℕ) → position is_no_space xs ≡ None → first_word (words_of xs) ≡ None
only_spaces_have_no_word xs h = ap first_word (leading_spaces_keep_words xs (length xs) (omega arith) (no_byte_passes_before_found
    is_no_space xs h) ∙ words_of-all xs)

-- If a text begins with a word, and n is the index of its first space, that word is the first n bytes.
word_ends_at_space : (b : ℕ) (bs : List ℕ) (n : ℕ) → position_or_len is_space (b ∷ bs) ≡ n → n < length (b ∷ bs) → is_no_space b ≡ true
    → words_of (b ∷ bs) ≡ take n (b ∷ bs) ∷ words_of (drop (n + 1) (b ∷ bs))
unfolding words_of
word_ends_at_space b bs zero e lt start =
    let lt' : position_or_len is_space (b ∷ bs) < length (b ∷ bs) = omega (arith, e, lt) in
    let at : is_space (get_or (b ∷ bs) (position_or_len is_space (b ∷ bs)) 0) ≡ true = passes_at_first is_space (b ∷ bs) 0 lt' in
    let here : is_space b ≡ true = ap (λ (i : ℕ). is_space (get_or (b ∷ bs) i 0)) (sym e) ∙ at in
    absurd (grind (arith, here, start))
word_ends_at_space b bs (suc m) e lt start =
    let lt' : position_or_len is_space (b ∷ bs) < length (b ∷ bs) = omega (arith, e, lt) in
    let cut : slice_split is_space (b ∷ bs) ≡ take (suc m) (b ∷ bs) ∷ slice_split is_space (drop (suc m + 1) (b ∷ bs)) = slice_split_first
    is_space (b ∷ bs) 0 lt' ∙ ap (λ (i : ℕ). take i (b ∷ bs) ∷ slice_split is_space (drop (i + 1) (b ∷ bs))) e in
    ap (filter is_word) cut

-- If a text begins with a word, that word is the bytes before the first space.
first_word_precedes_space : (xs : List ℕ) (end : ℕ) → 0 < length xs → is_no_space (get_or xs 0 0) ≡ true → position is_space xs ≡ Some end
    → words_of xs ≡ take end xs ∷ words_of (drop end xs)
first_word_precedes_space [] end some start h = absurd (omega (arith, some))
first_word_precedes_space (b ∷ bs) end some start h =
    let at = position-Some is_space (b ∷ bs) end 0 h in
    let lt : end < length (b ∷ bs) = at.0 in
    let is = cond_some (nat_lt (position_or_len is_space (b ∷ bs)) (length (b ∷ bs))) (position_or_len is_space (b ∷ bs)) end h in
    let tail : words_of (drop end (b ∷ bs)) ≡ words_of (drop (end + 1) (b ∷ bs)) = ap words_of
    (drop-cons (b ∷ bs) end 0 lt ∙ ap (λ (i : ℕ). get_or (b ∷ bs) end 0 ∷ drop i (b ∷ bs)) (sym (add-one end)))
    ∙ words_of-space (get_or (b ∷ bs) end 0) (drop (end + 1) (b ∷ bs)) (not_from_true (is_space (get_or (b ∷ bs) end 0)) at.1) in
    word_ends_at_space b bs end is.1 lt start ∙ ap (λ (ws : List (List ℕ)). take end (b ∷ bs) ∷ ws) (sym tail)

-- If a text begins with a word and has no space, the whole text is that word.
text_without_space_is_word : (xs : List ℕ) → 0 < length xs → position is_space xs ≡ None → words_of xs ≡ xs ∷ words_of []
unfolding words_of
text_without_space_is_word [] some h = absurd (omega (arith, some))
text_without_space_is_word (b ∷ bs) some h = ap (filter is_word) (slice_split_none is_space (b ∷ bs)
    (All-from_get_or (λ (x : ℕ). is_space x ≡ false) (b ∷ bs) 0 (no_byte_passes_before_found is_space (b ∷ bs) h)))

-- The words of a text begin at its first byte that is not a space.
words_begin_at_first_letter : (xs : List ℕ) (start : ℕ) → position is_no_space xs ≡ Some start
    → (words_of xs ≡ words_of (drop start xs)) × (0 < length (drop start xs)) × (is_no_space (get_or (drop start xs) 0 0) ≡ true)
words_begin_at_first_letter xs start h =
    let at = position-Some is_no_space xs start 0 h in
    let lt : start < length xs = at.0 in (
      leading_spaces_keep_words xs start (omega (arith, lt)) at.2,
      omega (arith, lt, length-drop start xs),
      ap is_no_space (get_or-drop start xs 0 0) ∙ ap (λ (i : ℕ). is_no_space (get_or xs i 0)) (add-zero start) ∙ at.1,
    )

-- If a space follows the first word of a text, the first word ends there, and the other words follow.
pub first_word_splits_line : (xs : List ℕ) (start end : ℕ) → position is_no_space xs ≡ Some start → position is_space (drop start xs)
    ≡ Some end
    → first_word (words_of xs) ≡ Some (take end (drop start xs), words_of (drop end (drop start xs)))
first_word_splits_line xs start end h k =
    let b = words_begin_at_first_letter xs start h in
    ap first_word (b.0 ∙ first_word_precedes_space (drop start xs) end b.1 b.2 k)

-- If no space follows the first word of a text, it has only that word.
pub text_has_only_word : (xs : List ℕ) (start : ℕ) → position is_no_space xs ≡ Some start → position is_space (drop start xs) ≡ None
    → first_word (words_of xs) ≡ Some (drop start xs, words_of [])
text_has_only_word xs start h k =
    let b = words_begin_at_first_letter xs start h in
    ap first_word (b.0 ∙ text_without_space_is_word (drop start xs) b.1 k)

-- A word in which some byte is not a digit is not a number.
pub word_with_letter_is_no_number : (w : List ℕ) → digits_value 0 w ≡ None → number_of w ≡ None
unfolding number_of
word_with_letter_is_no_number w h = elim (nat_le 1 (length w) && nat_le (length w) 10) as
    (λ t. cond t (digits_value 0 w >>= λ n. value_if (nat_le n 4294967295) n) None ≡ None)
    [ true ↦ ap (λ (o : Option ℕ). o >>= λ n. value_if (nat_le n 4294967295) n) h | false ↦ refl ]

-- An empty word is not a number.
pub empty_word_is_no_number : (w : List ℕ) → length w ≡ 0 → number_of w ≡ None
unfolding number_of
empty_word_is_no_number w h = rw h refl

-- A word of over ten bytes is not a number.
pub long_word_is_no_number : (w : List ℕ) → 10 < length w → number_of w ≡ None
unfolding number_of
long_word_is_no_number w h = rw (le-leb 1 (length w) (omega (arith, h))) (rw (lt-leb (length w) 10 h) refl)

-- If the value of one to ten digits is at most 4,294,967,295, it is their number; otherwise they are not a number.
pub number_is_kept : (w : List ℕ) (n : ℕ) → 1 ≤ length w → length w ≤ 10 → digits_value 0 w ≡ Some n
    → number_of w ≡ value_if (nat_le n 4294967295) n
unfolding number_of
number_is_kept w n h k e = rw (le-leb 1 (length w) h) (rw (le-leb (length w) 10 k)
    (ap (λ (o : Option ℕ). o >>= λ m. value_if (nat_le m 4294967295) m) e))

-- If the value of one to ten digits is below 2^32, it is their number.
pub small_value_is_number : (w : List ℕ) (n : ℕ) → 1 ≤ length w → length w ≤ 10 → digits_value 0 w ≡ Some n → n < 4294967296 →
    number_of w ≡ Some n
small_value_is_number w n h k e lt = number_is_kept w n h k e ∙ ap (λ (t : Bool). value_if t n) (le-leb n 4294967295 (omega (arith, lt)))

-- A word of one to ten digits is not a number if its value is 2^32 or more.
pub large_value_is_no_number : (w : List ℕ) (n : ℕ) → 1 ≤ length w → length w ≤ 10 → digits_value 0 w ≡ Some n → 4294967296 ≤ n →
    number_of w ≡ None
large_value_is_no_number w n h k e le = number_is_kept w n h k e ∙ ap (λ (t : Bool). value_if t n) (lt-leb n 4294967295 (omega (arith, le)))

-- Digits followed by a byte that is not a digit have no value.
pub digits_with_letter_have_no_value : (n i : ℕ) (w : List ℕ) → i < length w → is_ascii_digit (get_or w i 0) ≡ false →
    digits_value n (drop i w) ≡ None
digits_with_letter_have_no_value n i w lt bad = ap (digits_value n) (drop-cons w i 0 lt)
    ∙ ap (λ (t : Bool). cond t (digits_value (n * 10 + (get_or w i 0 - 48)) (drop (suc i) w)) None) bad

-- A word of even length can be decoded exactly if it has only hexadecimal digits.
hex_test_is_decoding : (w : List ℕ) (r : Bool) (d : Result (List ℕ) FromHexError) → length w % 2 ≡ 0 →
    IsTrue r ↔ AllPass is_hex_digit w → decode_of w ≡ d
    → r ≡ is_some (ok_of d)
hex_test_is_decoding w true (Ok bytes) even h e = refl
hex_test_is_decoding w true (Err f) even h e =
    let ok = decode_of-digits w even (h.0 refl) in
    cc (sym e ∙ ok.1)
hex_test_is_decoding w false (Ok bytes) even h e = h.1 ((decode_of-ok w bytes e).1)
hex_test_is_decoding w false (Err f) even h e = refl

-- A word of an even length, except `-`, is hexadecimal text exactly if each byte is a hexadecimal digit.
pub hex_test_decides_word : (w : List ℕ) (r : Bool) → length w % 2 ≡ 0 → bytes_eq w (codes "-") ≡ false → IsTrue r ↔ AllPass is_hex_digit w
    → r ≡ is_some (hex_word_bytes w)
hex_test_decides_word w r even off h = hex_test_is_decoding w r (decode_of w) even h refl
    ∙ ap (λ (t : Bool). is_some (cond t (Some []) (ok_of (decode_of w)))) (sym off)

-- If two steps of parsing in a row succeed, the first one returns some value, and the second one succeeds with that value.
pub bound_option_is_some : {A B P : Type 0} (x : Option A) (f : A → Option B) (y : B) → (x >>= f) ≡ Some y → ((a : A) → x ≡ Some a →
    f a ≡ Some y → P)
    → P
bound_option_is_some None f y h k = absurd cc
bound_option_is_some (Some a) f y h k = k a refl h

-- If `value_if` returns a value, that is its argument.
pub guarded_value_is_itself : (t : Bool) (x y : ℕ) → value_if t x ≡ Some y → x ≡ y
guarded_value_is_itself true x y h = ap (λ (o : Option ℕ). unwrap_or o x) h
guarded_value_is_itself false x y h = absurd cc
