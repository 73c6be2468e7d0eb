-- Lemmas about ranges of a list that a write within them changes.
use Rattle.std.proofs.Common.{◌≡◌, ℕ, ◌+◌, ◌-◌, ◌≤◌, List, [], ◌++◌, length, take, drop, slice_range, sym, ◌∙◌, ap, arith, length-append, length-drop}
use Rattle.std.proofs.lemmas.List.{length-take-le, take-append-le, drop-append-le, drop-take, drop-drop, take-take, append-nil, append_assoc, take_at, take-append-drop}
use Rattle.std.proofs.Math.Seq.{take-append-add}
use Rattle.dfu_slots.specs.Medium.{written}
use Rattle.dfu_slots.proofs.BytesOutsideWrite.{whole_write_is_torn, drop_in_two_steps}

-- A prefix that is longer than the first of two lists is that list followed by a prefix of the second.
pub take_past_first_list : (xs ys : List ℕ) (n : ℕ) → length xs ≤ n → take n (xs ++ ys) ≡ xs ++ take (n - length xs) ys
take_past_first_list xs ys n le = let e : n ≡ length xs + (n - length xs) = omega arith in
    ap (λ (k : ℕ). take k (xs ++ ys)) e ∙ take-append-add xs ys (n - length xs)

drop_of_written_bytes : (old : List ℕ) (p k : ℕ) (new : List ℕ) → p + k ≤ length old → drop p (written old (p + k) new)
    ≡ written (drop p old) k new
drop_of_written_bytes old p k new le =
    let n = length new in
    let front : length (take (p + k) old) ≡ p + k = length-take-le (p + k) old le in
    let e : p + k + n ≡ p + (k + n) = omega arith in
    drop-append-le p (take (p + k) old ++ new) (drop (p + k + n) old) (omega (arith, front, length-append (take (p + k) old) new))
    ∙ ap (λ (l : List ℕ). l ++ drop (p + k + n) old)
    (drop-append-le p (take (p + k) old) new (omega (arith, front)) ∙ ap (λ (l : List ℕ). l ++ new) (drop-take p k old))
    ∙ ap (λ (l : List ℕ). take k (drop p old) ++ new ++ l) (ap (λ (j : ℕ). drop j old) e ∙ sym (drop-drop (k + n) p old))

take_of_written_bytes : (old : List ℕ) (m k : ℕ) (new : List ℕ) → k + length new ≤ m → k ≤ length old
    → take m (written old k new) ≡ written (take m old) k new
take_of_written_bytes old m k new le fits =
    let n = length new in
    let front : length (take k old ++ new) ≡ k + n = omega (arith, length-take-le k old fits, length-append (take k old) new) in
    let e : m ≡ k + n + (m - (k + n)) = omega arith in
    take_past_first_list (take k old ++ new) (drop (k + n) old) m (omega (arith, front))
    ∙ ap (λ (j : ℕ). take k old ++ new ++ take (m - j) (drop (k + n) old)) front
    ∙ ap (λ (l : List ℕ). take k old ++ new ++ l)
    (sym (drop-take (k + n) (m - (k + n)) old) ∙ ap (λ (j : ℕ). drop (k + n) (take j old)) (sym e))
    ∙ ap (λ (l : List ℕ). l ++ new ++ drop (k + n) (take m old)) (sym (take-take k m old (omega arith)))

-- A write at offset p + k of a list changes the range from p to q as a write at offset k of that range alone does.
pub range_written_within : (old : List ℕ) (p q k : ℕ) (new : List ℕ) → p + k + length new ≤ q → q ≤ length old
    → slice_range (written old (p + k) new) p q ≡ written (slice_range old p q) k new
range_written_within old p q k new le fits =
    ap (λ (l : List ℕ). take (q - p) l) (drop_of_written_bytes old p k new (omega arith))
    ∙ take_of_written_bytes (drop p old) (q - p) k new (omega arith) (omega (arith, length-drop p old))

-- Two writes to adjacent ranges have the same effect as one write of both lists.
pub two_writes_are_one : (d : List ℕ) (p : ℕ) (a b : List ℕ) → p + length a + length b ≤ length d
    → written (written d p a) (p + length a) b ≡ written d p (a ++ b)
two_writes_are_one d p a b fits =
    let torn = whole_write_is_torn d p a (omega arith) in
    let front : length (take p d ++ a) ≡ p + length a = omega (arith, length-append (take p d) a, length-take-le p d (omega arith)) in
    let end = p + length a + length b in
    let first : take (p + length a) (written d p a) ≡ take p d ++ a = take_at (take p d ++ a) (drop (p + length a) d)
    (p + length a) front in
    let last : drop end (written d p a) ≡ drop end d =
    drop_in_two_steps (written d p a) (p + length a) end (omega arith) ∙ ap (λ (l : List ℕ). drop (end - (p + length a)) l) torn.after
    ∙ sym (drop_in_two_steps d (p + length a) end (omega arith)) in
    let e : end ≡ p + length (a ++ b) = omega (arith, length-append a b) in
    (λ i. first i ++ b ++ last i) ∙ ap (λ (l : List ℕ). l ++ drop end d) (append_assoc (take p d) a b)
    ∙ ap (λ (n : ℕ). take p d ++ (a ++ b) ++ drop n d) e

-- A write of no bytes changes nothing.
pub empty_write_keeps_all : (l : List ℕ) (k : ℕ) → written l k [] ≡ l
empty_write_keeps_all l k =
    let e : k + 0 ≡ k = omega arith in
    ap (λ (f : List ℕ). f ++ drop (k + 0) l) (append-nil (take k l)) ∙ ap (λ (j : ℕ). take k l ++ drop j l) e ∙ take-append-drop k l

-- After a write of two lists, a prefix that ends within the first list doesn't depend on the second.
pub front_ignores_second_list : (d : List ℕ) (k : ℕ) (xs zs : List ℕ) (len : ℕ) → k ≤ length d → len ≤ k + length xs
    → take len (written d k (xs ++ zs)) ≡ take len (written d k xs)
front_ignores_second_list d k xs zs len fits le =
    let a = take k d ++ xs in
    let room : len ≤ length a = omega (arith, le, length-append (take k d) xs, length-take-le k d fits) in
    let past = drop (k + length (xs ++ zs)) d in
    ap (λ (l : List ℕ). take len l) (ap (λ (l : List ℕ). l ++ past) (sym (append_assoc (take k d) xs zs)) ∙ append_assoc a zs past)
    ∙ take-append-le len a (zs ++ past) room
    ∙ sym (take-append-le len a (drop (k + length xs) d) room)

-- After a write at offset k, the list begins with its old first k bytes, followed by the written bytes.
pub written_bytes_after_front : (d : List ℕ) (k : ℕ) (xs : List ℕ) → k ≤ length d → take (k + length xs) (written d k xs) ≡ take k d ++ xs
written_bytes_after_front d k xs fits =
    take_at (take k d ++ xs) (drop (k + length xs) d) (k + length xs) (omega (arith, length-append (take k d) xs, length-take-le k d fits))

-- If a list begins with k old bytes followed by xs and zs, each prefix that ends within xs is as if only xs had been written.
pub front_shows_written_bytes : (d now : List ℕ) (k : ℕ) (xs zs : List ℕ) (len : ℕ) → k ≤ length d → len ≤ k + length xs
    → take (k + length (xs ++ zs)) now ≡ take k d ++ (xs ++ zs) → take len now ≡ take len (written d k xs)
front_shows_written_bytes d now k xs zs len fits le is =
    let all = xs ++ zs in
    let long = length-append xs zs in
    sym (take-take len (k + length all) now (omega (arith, le, long)))
    ∙ ap (λ (l : List ℕ). take len l) is
    ∙ sym (take-append-le len (take k d ++ all) (drop (k + length all) d)
    (omega (arith, le, long, length-append (take k d) all, length-take-le k d fits)))
    ∙ front_ignores_second_list d k xs zs len fits le
