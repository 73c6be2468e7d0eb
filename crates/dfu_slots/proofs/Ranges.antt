-- Lemmas about ranges of a list that is followed by zeros.
use Rattle.std.proofs.Common.{◌≡◌, ℕ, ◌+◌, ◌-◌, ◌≤◌, ◌<◌, List, [], ◌++◌, length, take, drop, replicate, get_or, slice_range, sym, ◌∙◌, ap, arith, length-append, length-drop}
use Rattle.std.proofs.lemmas.Grind.{same_number_lists}
use Rattle.std.proofs.lemmas.List.{take_all, take-append-le, drop-append-le, take-replicate, drop_at, length-take-le, length-replicate}
use Rattle.std.proofs.lemmas.List.{get_or-take, get_or-drop}
use Rattle.std.proofs.lemmas.Slice.{between_is, between_from_start}
use Rattle.dfu_slots.proofs.BytesOutsideWrite.{drop_in_two_steps}
use Rattle.dfu_slots.proofs.WritesWithinRanges.{take_past_first_list}

-- A buffer that was filled byte by byte from a list begins with a range of the list.
pub gathered_is_a_range : (all : List ℕ) (skip n : ℕ) (out : List ℕ) → length out ≡ 256 → n ≤ 256 → skip ≤ length all
    → ((k : ℕ) → k < n → get_or out k 0 ≡ get_or (all ++ replicate 256 0) (skip + k) 0)
    → take n out ≡ slice_range (all ++ replicate 256 0) skip (skip + n)
gathered_is_a_range all skip n out size few front each =
    let l = all ++ replicate 256 0 in
    let long : length l ≡ length all + 256 = omega (arith, length-append all (replicate 256 0), length-replicate {A = ℕ} 256 0) in
    let e : n ≡ skip + n - skip = omega arith in
    let mine : length (take n out) ≡ n = length-take-le n out (omega (arith, size, few)) in
    let own : length (take n (drop skip l)) ≡ n = length-take-le n (drop skip l) (omega (arith, long, length-drop skip l, front, few)) in
    same_number_lists (take n out) (take n (drop skip l)) (mine ∙ sym own)
    (λ k lt. let low : k < n = omega (arith, lt, mine) in
    get_or-take n out k 0 low ∙ each k low ∙ sym (get_or-drop skip l k 0) ∙ sym (get_or-take n (drop skip l) k 0 low))
    ∙ ap (λ (j : ℕ). take j (drop skip l)) e

-- If n is at least the length of a list, the first n bytes of the list followed by 256 zeros are the whole list and then zeros.
pub range_front_with_zeros : (l : List ℕ) (n : ℕ) → length l ≤ n → n ≤ 256
    → slice_range (l ++ replicate 256 0) 0 (0 + n) ≡ l ++ replicate (n - length l) 0
range_front_with_zeros l n low high =
    let e : 0 + n ≡ n = omega arith in
    ap (λ (k : ℕ). slice_range (l ++ replicate 256 0) 0 k) e
    ∙ between_from_start (l ++ replicate 256 0) n
    ∙ take_past_first_list l (replicate 256 0) n low
    ∙ ap (λ (x : List ℕ). l ++ x) (take-replicate (n - length l) 256 0 (omega (arith, high)))

-- A range that ends within the first of two lists is a range of that list.
pub range_before_appended_bytes : (l more : List ℕ) (i j : ℕ) → j ≤ length l → slice_range (l ++ more) i j ≡ slice_range l i j
range_before_appended_bytes l more i j le =
    between_is (l ++ more) i j ∙ ap (λ (x : List ℕ). drop i x) (take-append-le j l more le) ∙ sym (between_is l i j)

-- In the held bytes followed by the block, a range that begins after the held bytes is a range of the block.
pub range_within_block : (held block : List ℕ) (skip n : ℕ) → length held ≤ skip → skip + n ≤ length held + length block
    → slice_range ((held ++ block) ++ replicate 256 0) skip (skip + n)
    ≡ slice_range block (skip - length held) (skip - length held + n)
range_within_block held block skip n low high =
    let e : skip + n - skip ≡ skip - length held + n - (skip - length held) = omega arith in
    range_before_appended_bytes (held ++ block) (replicate 256 0) skip (skip + n) (omega (arith, length-append held block, high))
    ∙ ap (λ (l : List ℕ). take (skip + n - skip) l)
    (drop_in_two_steps (held ++ block) (length held) skip low
    ∙ ap (λ (l : List ℕ). drop (skip - length held) l) (drop_at held block (length held) (omega arith)))
    ∙ ap (λ (j : ℕ). take j (drop (skip - length held) block)) e

-- A range that begins in an image holds the rest of the image and then zeros.
pub image_range_into_zeros : (image : List ℕ) (skip n : ℕ) → skip ≤ length image
    → slice_range (([] ++ image) ++ replicate 256 0) skip (skip + n) ≡ take n (slice_range image skip (length image) ++ replicate 256 0)
image_range_into_zeros image skip n high =
    let k : skip + n - skip ≡ n = omega arith in
    ap (λ (j : ℕ). take j (drop skip (image ++ replicate 256 0))) k
    ∙ ap (λ (l : List ℕ). take n l)
    (drop-append-le skip image (replicate 256 0) high
    ∙ ap (λ (l : List ℕ). l ++ replicate 256 0)
    (sym (take_all (length image - skip) (drop skip image) (omega (arith, length-drop skip image)))))

-- If a range of n bytes lies within a list, its slice has n bytes.
pub range_within_has_its_length : (all : List ℕ) (skip n : ℕ) → skip + n ≤ length all → length (slice_range all skip (skip + n)) ≡ n
range_within_has_its_length all skip n within =
    let k : skip + n - skip ≡ n = omega arith in
    ap (λ (j : ℕ). length (take j (drop skip all))) k
    ∙ length-take-le n (drop skip all) (omega (arith, within, length-drop skip all))
