-- Number of recorded starts, counted by the marks that are set.
use Rattle.std.proofs.Common.{◌≡◌, ⊎_elim, ℕ, zero, suc, ◌+◌, ◌≤◌, ◌<◌, Bool, true, false, ◌∙◌, ap, arith, if◌then◌else◌}
use Rattle.std.proofs.lemmas.Bool.{cases_Bool, cases_lt}
use Rattle.dfu_slots.specs.Medium.{MediumState}
use Rattle.dfu_boot.specs.trial.Marks.{is_mark_set, marks_set_in_row}

-- A mark that is set adds one to the count of the marks after it.
set_mark_is_counted : (m : MediumState) (at i most : ℕ) → is_mark_set m at i ≡ true
    → marks_set_in_row m at i (suc most) ≡ marks_set_in_row m at (i + 1) most + 1
set_mark_is_counted m at i most set = ap (λ (b : Bool). if b then marks_set_in_row m at (i + 1) most + 1 else 0) set

-- The count ends at a mark that is not set.
unset_mark_ends_count : (m : MediumState) (at i most : ℕ) → is_mark_set m at i ≡ false → marks_set_in_row m at i (suc most) ≡ 0
unset_mark_ends_count m at i most unset = ap (λ (b : Bool). if b then marks_set_in_row m at (i + 1) most + 1 else 0) unset

-- The count of `most` marks is at most `most`.
pub count_is_at_most_all_marks : (m : MediumState) (at i most : ℕ) → marks_set_in_row m at i most ≤ most
count_is_at_most_all_marks m at i zero = omega arith
count_is_at_most_all_marks m at i (suc most) = ⊎_elim
    (λ set. omega (arith, set_mark_is_counted m at i most set, count_is_at_most_all_marks m at (i + 1) most))
    (λ unset. omega (arith, unset_mark_ends_count m at i most unset))
    (cases_Bool (is_mark_set m at i))

-- If the count is below `most`, the mark after the counted ones is not set.
pub next_mark_is_not_set : (m : MediumState) (at i most : ℕ) → marks_set_in_row m at i most < most
    → is_mark_set m at (i + marks_set_in_row m at i most) ≡ false
next_mark_is_not_set m at i zero lt = absurd (omega (arith, lt))
next_mark_is_not_set m at i (suc most) lt = ⊎_elim
    (λ set.
    let on = set_mark_is_counted m at i most set in
    let e : i + marks_set_in_row m at i (suc most) ≡ i + 1 + marks_set_in_row m at (i + 1) most = omega (arith, on) in
    ap (λ (k : ℕ). is_mark_set m at k) e ∙ next_mark_is_not_set m at (i + 1) most (omega (arith, on, lt)))
    (λ unset.
    let none = unset_mark_ends_count m at i most unset in
    let e : i + marks_set_in_row m at i (suc most) ≡ i = omega (arith, none) in
    ap (λ (k : ℕ). is_mark_set m at k) e ∙ unset)
    (cases_Bool (is_mark_set m at i))

-- If the first mark is not set, or `most` is 0, the count is 0.
pub no_mark_counts : (m : MediumState) (at i most : ℕ) → (0 < most → is_mark_set m at i ≡ false) → marks_set_in_row m at i most ≡ 0
no_mark_counts m at i zero unset = omega arith
no_mark_counts m at i (suc most) unset = unset_mark_ends_count m at i most (unset (omega arith))

-- Each mark that is counted is set.
pub counted_mark_is_set : (m : MediumState) (at i most k : ℕ) → i ≤ k → k < i + marks_set_in_row m at i most → is_mark_set m at k ≡ true
counted_mark_is_set m at i zero k low high = absurd (omega (arith, low, high))
counted_mark_is_set m at i (suc most) k low high = ⊎_elim
    (λ set.
    let on = set_mark_is_counted m at i most set in
    ⊎_elim
    (λ later. counted_mark_is_set m at (i + 1) most k (omega (arith, later)) (omega (arith, high, on)))
    (λ le. let e : k ≡ i = omega (arith, low, le) in ap (λ (x : ℕ). is_mark_set m at x) e ∙ set)
    (cases_lt i k))
    (λ unset. absurd (omega (arith, unset_mark_ends_count m at i most unset, low, high)))
    (cases_Bool (is_mark_set m at i))

-- If the first n marks are set, the count is at least n.
pub set_marks_are_counted : (m : MediumState) (at i most n : ℕ) → n ≤ most → ((k : ℕ) → i ≤ k → k < i + n → is_mark_set m at k ≡ true)
    → n ≤ marks_set_in_row m at i most
set_marks_are_counted m at i most zero le each = omega arith
set_marks_are_counted m at i zero (suc n) le each = absurd (omega (arith, le))
set_marks_are_counted m at i (suc most) (suc n) le each =
    let on = set_mark_is_counted m at i most (each i (omega arith) (omega arith)) in
    omega (
      arith,
      on,
      set_marks_are_counted m at (i + 1) most n (omega (arith, le)) (λ k low high. each k (omega (arith, low)) (omega
          (arith, high))),
    )

-- If two media have the same marks set, their counts are equal.
pub equal_marks_have_equal_counts : (m n : MediumState) (at i most : ℕ) → ((k : ℕ) → i ≤ k → k < i + most → is_mark_set n at k
    ≡ is_mark_set m at k)
    → marks_set_in_row n at i most ≡ marks_set_in_row m at i most
equal_marks_have_equal_counts m n at i zero same = omega arith
equal_marks_have_equal_counts m n at i (suc most) same = ⊎_elim
    (λ set.
    omega (
      arith,
      set_mark_is_counted m at i most set,
      set_mark_is_counted n at i most (same i (omega arith) (omega arith) ∙ set),
      equal_marks_have_equal_counts m n at (i + 1) most (λ k low high. same k (omega (arith, low)) (omega (arith, high))),
    ))
    (λ unset. omega (
      arith,
      unset_mark_ends_count m at i most unset,
      unset_mark_ends_count n at i most (same i (omega arith) (omega arith)
          ∙ unset),
    ))
    (cases_Bool (is_mark_set m at i))
