-- A text is its first line followed by the other lines.
use Rattle.std.proofs.Common.{◌≡◌, ℕ, zero, suc, ◌+◌, ◌<◌, ◌≤◌, Bool, true, false, cond, eqb, ltb, List, [], ◌∷◌, length, take, drop, refl, sym, ap, ◌∙◌, arith, Option, Some, None, MatchOption}
use Rattle.std.proofs.lemmas.Bool.{ltb-true, ltb-false}
use Rattle.std.specs.List.{position, position_or_len}
use Rattle.std.proofs.lemmas.Option.{cond_some}
use Rattle.dfu_formats.specs.images.Lines.{lines, byte_before_lines, is_line_feed}

lines_of_no_bytes : lines [] ≡ [] ∷ []
unfolding lines
lines_of_no_bytes = refl

-- If a text begins with a line feed, its first line is empty, and the lines of the text after the line feed follow.
pub line_feed_ends_line : (b : ℕ) (bs : List ℕ) → eqb b 10 ≡ true → lines (b ∷ bs) ≡ [] ∷ lines bs
unfolding lines
line_feed_ends_line b bs e = rw e refl

-- A byte other than a line feed belongs to the first line.
pub other_byte_joins_line : (b : ℕ) (bs : List ℕ) → eqb b 10 ≡ false → lines (b ∷ bs) ≡ byte_before_lines b (lines bs)
unfolding lines
other_byte_joins_line b bs e = rw e refl

-- The first line feed of a text that begins with one is at index 0.
line_feed_place_is_first : (b : ℕ) (bs : List ℕ) → eqb b 10 ≡ true → position_or_len is_line_feed (b ∷ bs) ≡ 0
line_feed_place_is_first b bs e = rw e refl

-- If a byte other than a line feed is added at the front, the index of the first line feed increases by one.
line_feed_place_after_byte : (b : ℕ) (bs : List ℕ) → eqb b 10 ≡ false → position_or_len is_line_feed (b ∷ bs)
    ≡ 1 + position_or_len is_line_feed bs
line_feed_place_after_byte b bs e = rw e refl

-- The first line ends at the first line feed, and the text after it contains the other lines.
first_line_ends_at_feed : (text : List ℕ) (n : ℕ) → position_or_len is_line_feed text ≡ n → n < length text
    → lines text ≡ take n text ∷ lines (drop (suc n) text)
first_line_ends_at_feed [] n e h = absurd (omega (arith, h))
first_line_ends_at_feed (b ∷ bs) zero e h =
    let by : (t : Bool) → eqb b 10 ≡ t → lines (b ∷ bs) ≡ [] ∷ lines bs =
    λ t. elim t as (λ t. eqb b 10 ≡ t → lines (b ∷ bs) ≡ [] ∷ lines bs) [
      | true ↦ λ q. line_feed_ends_line b bs q
      | false ↦ λ q. absurd (omega (arith, line_feed_place_after_byte b bs q, e))
    ] in by (eqb b 10) refl
first_line_ends_at_feed (b ∷ bs) (suc n) e h =
    let by : (t : Bool) → eqb b 10 ≡ t → lines (b ∷ bs) ≡ (b ∷ take n bs) ∷ lines (drop (suc n) bs) =
    λ t. elim t as (λ t. eqb b 10 ≡ t → lines (b ∷ bs) ≡ (b ∷ take n bs) ∷ lines (drop (suc n) bs)) [
      | true ↦ λ q. absurd (omega (arith, line_feed_place_is_first b bs q, e))
      | false ↦ λ q. other_byte_joins_line b bs q ∙ ap (byte_before_lines b) (first_line_ends_at_feed bs n (omega (
        arith,
        line_feed_place_after_byte b bs q,
        e,
      )) (omega (arith, h)))
    ] in by (eqb b 10) refl

-- A text without a line feed is one line.
text_without_feed_is_line : (text : List ℕ) → length text ≤ position_or_len is_line_feed text → lines text ≡ text ∷ []
text_without_feed_is_line [] h = lines_of_no_bytes
text_without_feed_is_line (b ∷ bs) h =
    let by : (t : Bool) → eqb b 10 ≡ t → lines (b ∷ bs) ≡ (b ∷ bs) ∷ [] =
    λ t. elim t as (λ t. eqb b 10 ≡ t → lines (b ∷ bs) ≡ (b ∷ bs) ∷ []) [
      | true ↦ λ q. absurd (omega (arith, line_feed_place_is_first b bs q, h))
      | false ↦ λ q. other_byte_joins_line b bs q ∙ ap (byte_before_lines b) (text_without_feed_is_line bs (omega (
        arith,
        line_feed_place_after_byte b bs q,
        h,
      )))
    ] in by (eqb b 10) refl

none_means_test_false : (t : Bool) (k : ℕ) → cond t (Some k) None ≡ None → t ≡ false
none_means_test_false true k h = cc
none_means_test_false false k h = refl

-- The first line ends before the first line feed, and the text after the line feed contains the other lines.
pub first_feed_splits_lines : (text : List ℕ) (n j : ℕ) → j ≡ suc n → position is_line_feed text ≡ Some n → lines text
    ≡ take n text ∷ lines (drop j text)
first_feed_splits_lines text n j e h =
    let s = cond_some (ltb (position_or_len is_line_feed text) (length text)) (position_or_len is_line_feed text) n h in
    let within = ltb-true (position_or_len is_line_feed text) (length text) s.0 in
    first_line_ends_at_feed text n s.1 (omega (arith, within, s.1)) ∙ ap (λ (k : ℕ). take n text ∷ lines (drop k text)) (sym e)

-- A text that has no line feed is one line.
pub no_feed_leaves_one_line : (text : List ℕ) → position is_line_feed text ≡ None → lines text ≡ text ∷ []
no_feed_leaves_one_line text h =
    text_without_feed_is_line text (ltb-false (position_or_len is_line_feed text) (length text)
    (none_means_test_false (ltb (position_or_len is_line_feed text) (length text)) (position_or_len is_line_feed text) h))

-- If `take_line` returns a line, with or without more text, this line is the first line of the text.
pub lines_have_first_line : {A : Type 0} (o : Option A) (f : A → List (List ℕ)) (all : List (List ℕ)) (line : List ℕ) →
    MatchOption o (all ≡ line ∷ []) (λ rest. all ≡ line ∷ f rest) → (more : List (List ℕ)) × (all ≡ line ∷ more)
lines_have_first_line None f all line h = ([], h)
lines_have_first_line (Some rest) f all line h = (f rest, h)
