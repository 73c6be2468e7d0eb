-- The smallest set of habits that passes a test has the fewest habits and, of the sets with equally many, the lowest number.
use Rattle.std.specs.Prelude.{◌≡◌, ℕ, ◌<◌, ◌≤◌, zero, suc, nat_le, Bool, true, false, Option, Some, None, count_ones}
use Rattle.std.proofs.Common.{refl, ap, ◌∙◌, inl, inr, arith}
use Rattle.std.proofs.lemmas.Bool.{cases_eq, both_ways, cond_both, leb-true, leb-false}
use Rattle.dfu_conformance.specs.inside.Stepped.{smaller_set_of_readings, least_set_below}

-- The option is the smallest set with a number below `n` that passes the test, or None if no such set passes.
abbrev pub IsLeastSetBelow : (ℕ → Bool) → ℕ → Option ℕ → Type 0
IsLeastSetBelow p n None = (r : ℕ) → r < n → p r ≡ false
IsLeastSetBelow p n (Some s) = (s < n) × (p s ≡ true)
    × ((r : ℕ) → r < n → p r ≡ true → count_ones s ≤ count_ones r)
    × ((r : ℕ) → r < s → p r ≡ true → count_ones s < count_ones r)

-- If set `n` doesn't pass, the smallest passing set below `n` is also the smallest below `n + 1`.
failing_set_keeps_least : (p : ℕ → Bool) (n : ℕ) (o : Option ℕ) → p n ≡ false → IsLeastSetBelow p n o → IsLeastSetBelow p (suc n) o
failing_set_keeps_least p n None off so = λ r below. elim (cases_eq r n) [ inl same ↦ ap p same ∙ off | inr other ↦ so r (omega arith) ]
failing_set_keeps_least p n (Some s) off so = (
  omega (arith, so.0),
  so.1,
  λ r below passes. elim (cases_eq r n) [
    | inl same ↦ absurd (both_ways (p r) (ap p same
        ∙ off) passes)
    | inr other ↦ so.2 r (omega arith) passes
  ],
  so.3,
)

-- If set `n` has at least as many habits as the smallest passing set below `n`, this smallest set is also the smallest below `n + 1`.
larger_set_keeps_least : (p : ℕ → Bool) (n s : ℕ) → count_ones s ≤ count_ones n → IsLeastSetBelow p n (Some s) →
    IsLeastSetBelow p (suc n) (Some s)
larger_set_keeps_least p n s more so = (
  omega (arith, so.0),
  so.1,
  λ r below passes. elim (cases_eq r n) [ inl same ↦ rw same more | inr other ↦ so.2 r (omega arith) passes ],
  so.3,
)

-- If set `n` passes, and has fewer habits than each passing set below it, it is the smallest below `n + 1`.
smallest_passing_set_is_least : (p : ℕ → Bool) (n : ℕ) → p n ≡ true → ((r : ℕ) → r < n → p r ≡ true → count_ones n < count_ones r) →
    IsLeastSetBelow p (suc n) (Some n)
smallest_passing_set_is_least p n on fewest = (
  omega arith,
  on,
  λ r below passes. elim (cases_eq r n) [ inl same ↦ rw same (omega arith) | inr other ↦ omega (arith, fewest r (omega arith) passes) ],
  fewest,
)

-- From set `n` and the smallest passing set below `n`, `smaller_set_of_readings` computes the smallest passing set below `n + 1`.
more : (p : ℕ → Bool) (n : ℕ) (o : Option ℕ) (b : Bool) → p n ≡ b → IsLeastSetBelow p n o
    → IsLeastSetBelow p (suc n) (smaller_set_of_readings b n o)
more p n o false off so = failing_set_keeps_least p n o off so
more p n None true on so = smallest_passing_set_is_least p n on (λ r below passes. absurd (both_ways (p r) (so r below) passes))
more p n (Some s) true on so = cond_both (nat_le (count_ones s) (count_ones n)) (Some s) (Some n) (IsLeastSetBelow p (suc n))
    (λ is_so. larger_set_keeps_least p n s (leb-true _ _ is_so) so)
    (λ not_so. smallest_passing_set_is_least p n on (λ r below passes. omega (arith, leb-false _ _ not_so, so.2 r below passes)))

-- `least_set_below` computes the smallest set with a number below `n` that passes the test, or None if no such set passes.
pub least_set_below_is_least : (p : ℕ → Bool) (n : ℕ) → IsLeastSetBelow p n (least_set_below p n)
least_set_below_is_least p zero = λ r below. absurd (omega arith)
least_set_below_is_least p (suc n) = more p n (least_set_below p n) (p n) refl (least_set_below_is_least p n)
