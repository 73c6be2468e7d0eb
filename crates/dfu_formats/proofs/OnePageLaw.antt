-- `page_at` returns the same page for all addresses of a page.
use Rattle.std.proofs.Common.{◌≡◌, ℕ, suc, ◌+◌, ◌-◌, ◌*◌, ◌/◌, ◌<◌, ◌≤◌, true, List, [], ◌∷◌, Option, Some, None, refl, sym, ap, ◌∙◌, subst, arith, inl, inr}
use Rattle.std.specs.List.{All}
use Rattle.std.specs.Option.{option_map}
use Rattle.std.proofs.Math.Nat.{le-div_iff_mul-le, div-lt_iff_lt-mul}
use Rattle.std.proofs.lemmas.Bool.Decides.{nat_tests}
use Rattle.dfu_formats.specs.declared.memory.pages.Pages.{Pages}
use Rattle.dfu_formats.specs.declared.memory.pages.Page.{Page}
use Rattle.dfu_formats.specs.memory.Ranges.{IsRange, end_of_range}
use Rattle.dfu_formats.specs.memory.Lookups.{range_has, range_at, page_in, end_of_page, AddressOnOnePage}
use Rattle.dfu_formats.proofs.OneRange.{found_range_has_its_addresses, lookup_here_or_later, no_range_in_empty_map, range_has_addresses}

-- A range that `range_at` returns is sound, and contains the address.
found_range_is_sound : (a : ℕ) (p : Pages) (ranges : List Pages) → All IsRange ranges → range_at a ranges ≡ Some p → IsRange p
    × (range_has a p ≡ true)
found_range_is_sound a p [] s f = absurd (no_range_in_empty_map a p f)
found_range_is_sound a p (q ∷ qs) s f =
    elim (lookup_here_or_later a q p qs f) [
      | inl w ↦ (subst IsRange w.1 (s 0 q (omega arith)), subst (λ (r : Pages). range_has a r ≡ true) w.1 w.0)
      | inr w ↦ found_range_is_sound a p qs (λ k d h. s (suc k) d (omega (arith, h))) w.1
    ]

-- If `x` lies between `k * n` and `k * n + n`, the quotient of `x` by `n` is `k`.
bounds_determine_quotient : (x n k : ℕ) → 1 ≤ n → k * n ≤ x → x < k * n + n → x / n ≡ k
bounds_determine_quotient x n k h low high =
    let up : k ≤ x / n = (le-div_iff_mul-le {k = n} {x = k} {y = x} (omega (arith, h))).1 low in
    let next : suc k * n ≡ k * n + n = grind arith in
    let down : x / n < suc k = (div-lt_iff_lt-mul {k = n} {x = x} {y = suc k} (omega (arith, h))).1 (omega (arith, high, next)) in
    omega (arith, up, down)

-- A page that contains an address of a range ends within this range, which has `c` pages of `n` bytes.
page_ends_within_range : (x n k c : ℕ) → 1 ≤ n → k ≡ x / n → x < c * n → k * n + n ≤ c * n
page_ends_within_range x n k c h e room = grind arith

-- If `page_at` returns a page, it belongs to the range that `range_at` returns.
found_page_is_of_found_range : (o : Option Pages) (a : ℕ) (page : Page) → option_map (page_in a) o ≡ Some page → (p : Pages) × (o ≡ Some p)
    × (page_in a p ≡ page)
found_page_is_of_found_range None a page h = cc
found_page_is_of_found_range (Some p) a page h = (p, refl, cc)

-- A range that contains an address begins at or before it, and ends after it.
range_test_bounds_address : (a : ℕ) (p : Pages) → range_has a p ≡ true → (p.start ≤ a) × (a < end_of_range p)
range_test_bounds_address a p h = grind (arith, nat_tests)

-- If `a` is in the range, and `b` is on the page of `a`, then `b` is in the range and on the same page.
addresses_share_page : (p : Pages) (a b : ℕ) → IsRange p → p.start ≤ a → a < end_of_range p → (page_in a p).start ≤ b →
    b < end_of_page (page_in a p) →
    (range_has b p ≡ true) × (page_in b p ≡ page_in a p)
addresses_share_page p a b s from to low high =
    let q = (a - p.start) / p.size in
    let room = page_ends_within_range (a - p.start) p.size q p.count s.some_bytes refl (omega (arith, from, to)) in
    let same : (b - p.start) / p.size ≡ q = bounds_determine_quotient (b - p.start) p.size q s.some_bytes (omega (arith, low)) (omega (
      arith,
      low,
      high,
    )) in (
      range_has_addresses b p (omega (arith, low)) (omega (arith, high, room)),
      ap (λ (k : ℕ). let page : Page = record { start = p.start + k * p.size; size = p.size; access = p.access } in page) same,
    )

-- If sound ranges share no address and `page_at` returns a page, it returns the same page for each address of this page.
pub one_page : AddressOnOnePage
one_page ranges a b page s apart h low high =
    let f = found_page_is_of_found_range (range_at a ranges) a page h in
    let p = f.0 in
    let sound = found_range_is_sound a p ranges s f.1 in
    let at = range_test_bounds_address a p sound.1 in
    let t = addresses_share_page p a b sound.0 at.0 at.1 (subst (λ (g : Page). g.start ≤ b) (sym f.2) low)
    (subst (λ (g : Page). b < end_of_page g) (sym f.2) high) in
    ap (option_map (page_in b)) (found_range_has_its_addresses a b p ranges apart f.1 t.0) ∙ ap Some (t.1 ∙ f.2)
