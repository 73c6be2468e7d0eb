-- Lemmas about the lines of a text.
use Rattle.std.proofs.Common.{◌≡◌, ℕ, zero, suc, ◌<◌, ◌≤◌, List, [], ◌∷◌, ◌++◌, length, get_or, take, cond, Some, None, refl, sym, ap, ◌∙◌, arith, true, false, Bool}
use Rattle.std.specs.List.{position, onto_first}
use Rattle.std.proofs.lemmas.List.Quantifiers.{position-Some}
use Rattle.dfu_link.specs.Words.{lines_of, has_no_newline, is_newline}
use Rattle.dfu_link.proofs.WordLaws.{no_byte_passes_before_found}

-- Bytes without a line feed still have none if a byte other than a line feed is put before them.
pub byte_before_adds_no_newline : (b : ℕ) (bs : List ℕ) → is_newline b ≡ false → has_no_newline bs ≡ true → has_no_newline (b ∷ bs) ≡ true
byte_before_adds_no_newline b bs other h = ap (λ (t : Bool). cond t false (has_no_newline bs)) other ∙ h

-- A conditional whose first branch is false is true only if its test is false.
true_choice_has_false_test : (t : Bool) (rest : Bool) → cond t false rest ≡ true → t ≡ false
true_choice_has_false_test true rest h = cc
true_choice_has_false_test false rest h = refl

-- If bytes have no line feed, their first byte is not a line feed.
pub first_byte_is_no_newline : (b : ℕ) (bs : List ℕ) → has_no_newline (b ∷ bs) ≡ true → is_newline b ≡ false
first_byte_is_no_newline b bs h = true_choice_has_false_test (is_newline b) (has_no_newline bs) h

-- If bytes have no line feed, those after the first one have none.
pub rest_has_no_newline : (b : ℕ) (bs : List ℕ) → has_no_newline (b ∷ bs) ≡ true → has_no_newline bs ≡ true
rest_has_no_newline b bs h = ap (λ (t : Bool). cond t false (has_no_newline bs)) (sym (first_byte_is_no_newline b bs h)) ∙ h

-- Bytes have no line feed if none of them is one.
pub no_newline_by_each_byte : (xs : List ℕ) → ((k : ℕ) → k < length xs → is_newline (get_or xs k 0) ≡ false) → has_no_newline xs ≡ true
no_newline_by_each_byte [] h = refl
no_newline_by_each_byte (b ∷ bs) h = byte_before_adds_no_newline b bs (h 0 (omega arith)) (no_newline_by_each_byte bs (λ k l. h (suc k)
    (omega (arith, l))))

-- If `position` finds no line feed in the bytes, they have none.
pub no_newline_if_none_found : (xs : List ℕ) → position is_newline xs ≡ None → has_no_newline xs ≡ true
no_newline_if_none_found xs h = no_newline_by_each_byte xs (no_byte_passes_before_found is_newline xs h)

-- A prefix has no line feed if none of its bytes is one.
prefix_has_no_newline : (xs : List ℕ) (n : ℕ) → ((k : ℕ) → k < n → is_newline (get_or xs k 0) ≡ false) → has_no_newline (take n xs) ≡ true
prefix_has_no_newline xs zero h = refl
prefix_has_no_newline [] (suc n) h = refl
prefix_has_no_newline (b ∷ bs) (suc n) h = byte_before_adds_no_newline b (take n bs) (h 0 (omega arith)) (prefix_has_no_newline bs n (λ k l.
    h (suc k) (omega (arith, l))))

-- The bytes before the first line feed that `position` finds have no line feed.
pub no_newline_before_first_one : (xs : List ℕ) (n : ℕ) → position is_newline xs ≡ Some n → has_no_newline (take n xs) ≡ true
no_newline_before_first_one xs n h = prefix_has_no_newline xs n (position-Some is_newline xs n 0 h).2

-- If two lists of bytes have no line feed, both joined have none.
pub joined_have_no_newline : (xs ys : List ℕ) → has_no_newline xs ≡ true → has_no_newline ys ≡ true → has_no_newline (xs ++ ys) ≡ true
joined_have_no_newline [] ys h k = k
joined_have_no_newline (b ∷ bs) ys h k = byte_before_adds_no_newline b (bs
    ++ ys) (first_byte_is_no_newline b bs h) (joined_have_no_newline bs ys (rest_has_no_newline b bs h) k)

-- The lines of a text with a line feed are the bytes before the first one, followed by the lines of the rest.
pub newline_ends_first_line : (xs ys : List ℕ) → has_no_newline xs ≡ true → lines_of (xs ++ 10 ∷ ys) ≡ xs ∷ lines_of ys
newline_ends_first_line [] ys h = refl
newline_ends_first_line (b ∷ bs) ys h = ap (λ (t : Bool). cond t ([] ∷ lines_of (bs ++ 10 ∷ ys)) (onto_first b (lines_of (bs
    ++ 10 ∷ ys))))
    (first_byte_is_no_newline b bs h) ∙ ap (onto_first b) (newline_ends_first_line bs ys (rest_has_no_newline b bs h))

-- A text of at least one byte without a line feed is one line.
pub text_without_newline_is_line : (xs : List ℕ) → 0 < length xs → has_no_newline xs ≡ true → lines_of xs ≡ xs ∷ []
text_without_newline_is_line [] some h = absurd (omega (arith, some))
text_without_newline_is_line (b ∷ []) some h = ap (λ (t : Bool). cond t ([] ∷ []) ((b ∷ []) ∷ [])) (first_byte_is_no_newline b [] h)
text_without_newline_is_line (b ∷ c ∷ bs) some h = ap (λ (t : Bool). cond t ([] ∷ lines_of (c ∷ bs)) (onto_first b (lines_of (c ∷ bs))))
    (first_byte_is_no_newline b (c ∷ bs) h) ∙ ap (onto_first b) (text_without_newline_is_line (c ∷ bs) (omega arith) (rest_has_no_newline b
    (c ∷ bs) h))

-- A conditional is false if both of its branches are false.
choice_of_false_is_false : (t : Bool) (rest : Bool) → rest ≡ false → cond t false rest ≡ false
choice_of_false_is_false true rest h = refl
choice_of_false_is_false false rest h = h

-- If fewer than n bytes precede a line feed, the line feed is among the first n bytes.
pub longer_prefix_has_newline : (xs ys : List ℕ) (n : ℕ) → length xs < n → has_no_newline (take n (xs ++ 10 ∷ ys)) ≡ false
longer_prefix_has_newline xs ys zero lt = absurd (omega (arith, lt))
longer_prefix_has_newline [] ys (suc n) lt = refl
longer_prefix_has_newline (b ∷ bs) ys (suc n) lt = choice_of_false_is_false (is_newline b) _ (longer_prefix_has_newline bs ys n
    (omega (arith, lt)))

-- After a byte was put before the first line, that line has at least one byte.
one : (b : ℕ) (rest all : List (List ℕ)) → all ≡ onto_first b rest
    → (line : List ℕ) × (lines : List (List ℕ)) × (all ≡ line ∷ lines) × (1 ≤ length line)
one b [] all e = (b ∷ [], [], e, omega arith)
one b (line ∷ lines) all e = (b ∷ line, lines, e, omega arith)

-- If a text begins with a byte that is not a line feed, its first line has at least one byte.
first_line_has_byte : (b : ℕ) (ys : List ℕ) → is_newline b ≡ false
    → (line : List ℕ) × (lines : List (List ℕ)) × (lines_of (b ∷ ys) ≡ line ∷ lines) × (1 ≤ length line)
first_line_has_byte b ys other = one b (lines_of ys) (lines_of (b ∷ ys))
    (ap (λ (t : Bool). cond t ([] ∷ lines_of ys) (onto_first b (lines_of ys))) other)

-- If the first bytes of a text, at least one, have no line feed, its first line is at least as long as these bytes.
pub first_line_is_not_shorter : (xs ys : List ℕ) → 0 < length xs → has_no_newline xs ≡ true
    → (line : List ℕ) × (lines : List (List ℕ)) × (lines_of (xs ++ ys) ≡ line ∷ lines) × (length xs ≤ length line)
first_line_is_not_shorter [] ys some h = absurd (omega (arith, some))
first_line_is_not_shorter (b ∷ []) ys some h = first_line_has_byte b ys (first_byte_is_no_newline b [] h)
first_line_is_not_shorter (b ∷ c ∷ bs) ys some h =
    let rest = first_line_is_not_shorter (c ∷ bs) ys (omega arith) (rest_has_no_newline b (c ∷ bs) h) in (
      b ∷ rest.0,
      rest.1,
      ap (λ (t : Bool). cond t ([] ∷ lines_of ((c ∷ bs) ++ ys)) (onto_first b (lines_of ((c ∷ bs)
          ++ ys)))) (first_byte_is_no_newline b (c ∷ bs) h)
          ∙ ap (onto_first b) rest.2,
      omega (arith, rest.3),
    )
