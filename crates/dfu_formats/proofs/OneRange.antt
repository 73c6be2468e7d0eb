-- An address is in at most one range of a map.
use Rattle.std.proofs.Common.{◌≡◌, ℕ, ◌<◌, ◌≤◌, Bool, true, false, cond, List, [], ◌∷◌, Option, Some, ◌⊎◌, inl, inr, refl, sym, ap, ◌∙◌, subst, arith}
use Rattle.std.proofs.lemmas.Bool.{cases_lt, and_parts}
use Rattle.std.proofs.lemmas.Bool.Decides.{nat_tests}
use Rattle.dfu_formats.specs.declared.memory.pages.Access.{Access}
use Rattle.dfu_formats.specs.declared.memory.pages.Pages.{Pages}
use Rattle.dfu_formats.specs.memory.Ranges.{end_of_range, ranges_are_apart, is_apart_from, are_apart}
use Rattle.dfu_formats.specs.memory.Lookups.{range_has, range_at, access_grants, IsGranted, AllGranted}

-- A lookup returns the first range if its test is true, and otherwise a later one.
found_by : (t : Bool) (q p : Pages) (o : Option Pages) → cond t (Some q) o ≡ Some p → ((t ≡ true) × (q ≡ p)) ⊎ ((t ≡ false) × (o ≡ Some p))
found_by true q p o h = inl (refl, cc)
found_by false q p o h = inr (refl, h)

-- A lookup returns the first range if it contains the address, and otherwise the result for the other ranges.
pub lookup_here_or_later : (x : ℕ) (q p : Pages) (qs : List Pages) → range_at x (q ∷ qs) ≡ Some p →
    ((range_has x q ≡ true) × (q ≡ p)) ⊎ ((range_has x q ≡ false) × (range_at x qs ≡ Some p))
unfolding range_at
lookup_here_or_later x q p qs h = found_by (range_has x q) q p (range_at x qs) h

-- If the first range contains the address, the lookup returns it.
range_is_found_here : (x : ℕ) (q : Pages) (qs : List Pages) → range_has x q ≡ true → range_at x (q ∷ qs) ≡ Some q
unfolding range_at
range_is_found_here x q qs h = rw h refl

-- If the first range doesn't contain the address, the lookup continues with the other ranges.
range_is_found_later : (x : ℕ) (q : Pages) (qs : List Pages) → range_has x q ≡ false → range_at x (q ∷ qs) ≡ range_at x qs
unfolding range_at
range_is_found_later x q qs h = rw h refl

pub no_range_in_empty_map : (x : ℕ) (p : Pages) → range_at x [] ≡ Some p → ⊥
unfolding range_at
no_range_in_empty_map x p h = cc

-- If `q` overlaps no range of a list, it doesn't overlap the range that a lookup returns.
apart_from_found_range : (x : ℕ) (q p : Pages) (qs : List Pages) → is_apart_from q qs ≡ true → range_at x qs ≡ Some p →
    ranges_are_apart q p ≡ true
apart_from_found_range x q p [] h f = absurd (no_range_in_empty_map x p f)
apart_from_found_range x q p (r ∷ rs) h f =
    let both = and_parts (ranges_are_apart q r) (is_apart_from q rs) h in
    elim (lookup_here_or_later x r p rs f) [
      | inl w ↦ subst (λ (s : Pages). ranges_are_apart q s ≡ true) w.1 both.0
      | inr w ↦ apart_from_found_range x q p rs both.1
          w.1
    ]

-- If two ranges don't overlap, an address of one is not in the other.
apart_ranges_share_no_address : (y : ℕ) (q p : Pages) → ranges_are_apart q p ≡ true → range_has y p ≡ true → range_has y q ≡ false
apart_ranges_share_no_address y q p h k = grind (arith, nat_tests)

-- If ranges share no address, and the lookup of `x` returns `p`, the lookup of each address of `p` returns `p`.
pub found_range_has_its_addresses : (x y : ℕ) (p : Pages) (ranges : List Pages) → are_apart ranges ≡ true → range_at x ranges ≡ Some p →
    range_has y p ≡ true →
    range_at y ranges ≡ Some p
found_range_has_its_addresses x y p [] a f h = absurd (no_range_in_empty_map x p f)
found_range_has_its_addresses x y p (q ∷ qs) a f h =
    let both = and_parts (is_apart_from q qs) (are_apart qs) a in
    elim (lookup_here_or_later x q p qs f) [
      | inl w ↦ range_is_found_here y q qs (subst (λ (s : Pages). range_has y s ≡ true) (sym w.1) h) ∙ ap Some w.1
      | inr w ↦ range_is_found_later y q qs (apart_ranges_share_no_address y q p (apart_from_found_range x q p qs both.0 w.1) h)
          ∙ found_range_has_its_addresses x y p qs both.1 w.1 h
    ]

-- A range contains each address from its start to before its end.
pub range_has_addresses : (y : ℕ) (p : Pages) → p.start ≤ y → y < end_of_range p → range_has y p ≡ true
range_has_addresses y p h k = grind (arith, nat_tests)

-- If the lookup of `at` returns `p`, which grants the access, and each address from `start` to before `at` is in a range that grants the
-- access, each address from `start` to before the end of `p` is in such a range.
pub grant_extends_to_range_end : (wanted : Access) (start at : ℕ) (p : Pages) (ranges : List Pages) → are_apart ranges ≡ true →
    AllGranted wanted start at ranges → range_at at ranges ≡ Some p → p.start ≤ at → at < end_of_range p
    → access_grants p.access wanted ≡ true →
    AllGranted wanted start (end_of_range p) ranges
grant_extends_to_range_end wanted start at p ranges apart before f from to g = λ a h k. elim (cases_lt a at) [
  | inl w ↦ before a h w
  | inr w ↦ subst (IsGranted wanted) (sym (found_range_has_its_addresses at a p ranges apart f (range_has_addresses a p (omega (
    arith,
    from,
    w,
  )) k))) g
]
