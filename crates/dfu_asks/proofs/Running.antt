-- Bytes that lie in memory in several runs.
use Rattle.std.proofs.Common.{◌≡◌, ◌↔◌, Bool, true, ℕ, zero, suc, ◌+◌, ◌-◌, ◌≤◌, List, [], ◌∷◌, ◌++◌, length, take, drop, replicate, refl, sym, ◌∙◌, ap, arith, length-append}
use Rattle.std.proofs.lemmas.List.{length-take, length-drop, take-replicate, drop-replicate, take-append-drop, append_cancel_left, append_assoc, length-take-le, take_at}
use Rattle.std.proofs.lemmas.Slice.{take-put_mid}
use borrow.Rule.Slice.PartMut.{put_mid, mid_of, post_of}
use Rattle.std.proofs.Math.Seq.{drop-drop}

-- The first n elements of two joined lists are taken from the first list, and the rest from the second if the first is shorter.
pub take_splits_over_lists : {X : Type 0} (n : ℕ) (xs ys : List X) → take n (xs ++ ys) ≡ take n xs ++ take (n - length (take n xs)) ys
take_splits_over_lists zero xs ys = refl
take_splits_over_lists (suc n) [] ys = let e : suc n - 0 ≡ suc n = omega arith in ap (λ k. take k ys) (sym e)
take_splits_over_lists (suc n) (x ∷ xs) ys =
    let e : suc n - suc (length (take n xs)) ≡ n - length (take n xs) = omega arith in
    ap (λ l. x ∷ l) (take_splits_over_lists n xs ys) ∙ ap (λ k. x ∷ take n xs ++ take k ys) (sym e)

-- Dropping n elements of two joined lists drops them from the first list, and the rest from the second if the first is shorter.
pub drop_splits_over_lists : {X : Type 0} (n : ℕ) (xs ys : List X) → drop n (xs ++ ys) ≡ drop n xs ++ drop (n - length xs) ys
drop_splits_over_lists zero xs ys = let e : 0 - length xs ≡ 0 = omega arith in ap (λ k. xs ++ drop k ys) (sym e)
drop_splits_over_lists (suc n) [] ys = let e : suc n - 0 ≡ suc n = omega arith in ap (λ k. drop k ys) (sym e)
drop_splits_over_lists (suc n) (x ∷ xs) ys =
    let e : suc n - suc (length xs) ≡ n - length xs = omega arith in
    drop_splits_over_lists n xs ys ∙ ap (λ k. drop n xs ++ drop k ys) (sym e)

-- A range of two lists and zeros after them consists of three runs: one of each list, and one of zeros.
pub range_is_three_runs : (front back : List ℕ) (skip len : ℕ) → skip + len ≤ length front + length back + 256
    → let first = take len (drop skip front) in
    let second = take (len - length first) (drop (skip - length front) back) in
    (first ++ second) ++ replicate (len - length first - length second) 0
    ≡ take len (drop skip ((front ++ back) ++ replicate 256 0))
range_is_three_runs front back skip len within =
    let first = take len (drop skip front) in
    let rest = drop (skip - length front) back in
    let second = take (len - length first) rest in
    let zeros : List ℕ = replicate 256 0 in
    let k = len - length first - length second in
    let m = skip - length (front ++ back) in
    let a : take len (drop skip front ++ rest) ≡ first ++ second = take_splits_over_lists len (drop skip front) rest in
    let b : drop skip ((front ++ back) ++ zeros) ≡ (drop skip front ++ rest) ++ drop m zeros =
    drop_splits_over_lists skip (front ++ back) zeros ∙ ap (λ (l : List ℕ). l ++ drop m zeros) (drop_splits_over_lists skip front back) in
    let c : k ≤ 256 - m = omega (
      arith,
      within,
      length-append front back,
      length-take len (drop skip front),
      length-take (len - length first) rest,
      length-drop skip front,
      length-drop (skip - length front) back,
    ) in
    let d : take k (drop m zeros) ≡ replicate k 0 = ap (λ (l : List ℕ). take k l) (drop-replicate m 256 0) ∙ take-replicate k (256 - m) 0 c in
    let e : len - length (take len (drop skip front ++ rest)) ≡ k =
    ap (λ (l : List ℕ). len - length l) a ∙ omega (arith, length-append first second) in
    sym (ap (take len) b
    ∙ take_splits_over_lists len (drop skip front ++ rest) (drop m zeros)
    ∙ (λ i. a i ++ take (e i) (drop m zeros))
    ∙ ap (λ l. (first ++ second) ++ l) d)

-- If the front and the middle of some bytes equal two runs, all the bytes equal the three joined runs exactly if the rest of the bytes
-- equals the third run.
pub bytes_are_three_runs : (b : Bool) (bytes front back : List ℕ) (rest pad : ℕ) → length bytes ≡ length front + length back + rest
    → take (length front) bytes ≡ front → take (length back) (drop (length front) bytes) ≡ back
    → (b ≡ true) ↔ (drop (length front + length back) bytes ≡ replicate rest pad)
    → (b ≡ true) ↔ (bytes ≡ (front ++ back) ++ replicate rest pad)
bytes_are_three_runs b bytes front back rest pad size one other iff = (yes, no)
  where
    whole : bytes ≡ (front ++ back) ++ drop (length front + length back) bytes
    whole = sym (take-append-drop (length front) bytes)
        ∙ ap (λ l. l ++ drop (length front) bytes) one
        ∙ ap (λ l. front ++ l) (sym (take-append-drop (length back) (drop (length front) bytes))
        ∙ ap (λ l. l ++ drop (length back) (drop (length front) bytes)) other
        ∙ ap (λ l. back ++ l) (drop-drop (length back) (length front) bytes))
        ∙ sym (append_assoc front back (drop (length front + length back) bytes))

    yes : b ≡ true → bytes ≡ (front ++ back) ++ replicate rest pad
    yes is = whole ∙ ap (λ l. (front ++ back) ++ l) (iff.0 is)

    no : bytes ≡ (front ++ back) ++ replicate rest pad → b ≡ true
    no is = iff.1 (append_cancel_left (front ++ back) _ _ (sym whole ∙ is))

-- After three runs are copied into a buffer one after the other, the front of the buffer contains them.
pub runs_fill_buffer_front : (out front back rest : List ℕ) (middle end len : ℕ) → middle ≡ length front → end ≡ middle + length back
    → len ≡ end + length rest
    → take len (put_mid end (len - end) (put_mid middle (end - middle) (front ++ post_of 0 middle out) back) rest) ≡ (front ++ back) ++ rest
runs_fill_buffer_front out front back rest middle end len m e l =
    let one = front ++ post_of 0 middle out in
    let two = put_mid middle (end - middle) one back in
    let large : middle ≤ length one = omega (arith, m, length-append front (post_of 0 middle out)) in
    let size : end ≤ length two = omega (
      arith,
      e,
      length-take-le middle one large,
      length-append (take middle one) (back ++ post_of middle (end - middle) one),
      length-append back (post_of middle (end - middle) one),
    ) in
    take-put_mid end (len - end) two rest len l size
    ∙ ap (λ z. z ++ rest) (take-put_mid middle (end - middle) one back end e large
    ∙ ap (λ z. z ++ back) (take_at front (post_of 0 middle out) middle (sym m)))

-- After two runs are copied, the next `len - end` bytes of the buffer are left for the third run.
pub rest_has_left_length : (out front back : List ℕ) (middle end len : ℕ) → middle ≡ length front → end ≡ middle + length back
    → end ≤ len → len ≤ length out
    → length (mid_of end (len - end) (put_mid middle (end - middle) (front ++ post_of 0 middle out) back)) ≡ len - end
rest_has_left_length out front back middle end len m e low high =
    let one = front ++ post_of 0 middle out in
    let two = put_mid middle (end - middle) one back in
    let size : length one ≡ length out =
    omega (arith, m, e, low, high, length-append front (post_of 0 middle out), length-drop middle out) in
    let same : length two ≡ length out = omega (
      arith,
      m,
      e,
      low,
      high,
      size,
      length-take middle one,
      length-append (take middle one) (back ++ post_of middle (end - middle) one),
      length-append back (post_of middle (end - middle) one),
      length-drop (end - middle) (drop middle one),
      length-drop middle one,
    ) in
    omega (arith, low, high, same, length-take (len - end) (drop end two), length-drop end two)
