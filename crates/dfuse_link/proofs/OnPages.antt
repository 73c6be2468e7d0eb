-- Facts about the pages of the map and the addresses on them.
use Rattle.std.proofs.Common.{◌≡◌, ℕ, suc, ◌+◌, ◌-◌, ◌*◌, ◌/◌, ◌<◌, ◌≤◌, ◌^◌, inl, inr, Bool, true, false, cond, List, [], ◌∷◌, Option, Some, None, refl, sym, ap, ◌∙◌, subst, arith}
use Rattle.std.specs.List.{All}
use Rattle.std.specs.Option.{option_map}
use Rattle.std.proofs.lemmas.Bool.Decides.{nat_tests}
use Rattle.std.proofs.Math.Nat.{div-mul-le_self}
use Rattle.std.proofs.lemmas.Bool.{lt-ltb}
use Rattle.dfu_formats.specs.declared.memory.pages.Access.{Access}
use Rattle.dfu_formats.specs.declared.memory.pages.Pages.{Pages}
use Rattle.dfu_formats.specs.declared.memory.pages.Page.{Page}
use Rattle.dfu_formats.specs.memory.Ranges.{IsRange, are_apart}
use Rattle.dfu_formats.specs.memory.Ranges as ranges
use Rattle.dfu_formats.specs.memory.Lookups.{range_has, range_at, page_in, page_at, IsGranted, AddressOnOnePage}
use Rattle.dfu_formats.proofs.OneRange.{no_range_in_empty_map}
use Rattle.dfu_formats.specs.declared.dfuse.element.Element.{Element}
use Rattle.dfuse_host.specs.declared.plan.Plan.{Plan}
use Rattle.dfuse_host.specs.Plans.{page_of, page_start, page_end}
use Rattle.dfuse_host.specs.Refusing.{EachAddressGranted, IsSoundPlan, wanted_access}
use Rattle.dfuse_host.specs.ReadBack.{HasByte}

-- The range that contains an address is the first range if it contains the address, and is a later range otherwise.
pub range_at_cons : (a : ℕ) (p : Pages) (ps : List Pages) → range_at a (p ∷ ps) ≡ cond (range_has a p) (Some p) (range_at a ps)
unfolding range_at
range_at_cons a p ps = refl

-- The range `q` was found for the address `a`. It contains `a`, and it is sound if all ranges are.
record IsInRange (a : ℕ) (q : Pages) (ps : List Pages) : Type 0 where
  low : q.start ≤ a
  high : a < ranges.end_of_range q
  range : All IsRange ps → IsRange q

range_found_by_test : (a : ℕ) (p q : Pages) (ps : List Pages) (t : Bool) → range_has a p ≡ t → (range_at a ps ≡ Some q → IsInRange a q ps) →
    cond t (Some p) (range_at a ps) ≡ Some q → IsInRange a q (p ∷ ps)
range_found_by_test a p q ps true h rest e =
    let same : p ≡ q = cc in
    subst (λ (x : Pages). IsInRange a x (p ∷ ps)) same (record {
      low = grind (arith, nat_tests);
      high = grind (arith, nat_tests);
      range = λ all. all 0 p (omega arith);
    })
range_found_by_test a p q ps false h rest e =
    let r = rest e in record { low = r.low; high = r.high; range = λ all. r.range (λ k d h. all (suc k) d (omega (arith, h))) }

found_range_has_address : (a : ℕ) (q : Pages) (ps : List Pages) → range_at a ps ≡ Some q → IsInRange a q ps
found_range_has_address a q [] e = absurd (no_range_in_empty_map a q e)
found_range_has_address a q (p ∷ ps) e = range_found_by_test a p q ps (range_has a p) refl (found_range_has_address a q ps) (sym
    (range_at_cons a p ps) ∙ e)

-- The address lies on this page of the plan's map.
pub record IsOnPage (plan : Plan) (a : ℕ) (page : Page) : Type 0 where
  -- The map returns this page for the address.
  pub is : page_at a plan.map.now.ranges ≡ Some page
  pub low : page.start ≤ a
  pub high : a < page.start + page.size
  -- The address has at most 32 bits.
  pub fits : a < 2 ^ 32

quotient_multiple_above : (x n : ℕ) → 1 ≤ n → x < x / n * n + n
quotient_multiple_above x n some = grind arith

found_range_has_page : (plan : Plan) (a : ℕ) (page : Page) (o : Option Pages) → range_at a plan.map.now.ranges ≡ o →
    All IsRange plan.map.now.ranges →
    option_map (page_in a) o ≡ Some page → IsOnPage plan a page
found_range_has_page plan a page None e all h = cc
found_range_has_page plan a page (Some q) e all h =
    let there = found_range_has_address a q plan.map.now.ranges e in
    let range = there.range all in
    let same : page_in a q ≡ page = cc in
    subst (λ (x : Page). IsOnPage plan a x) same (record {
      is = ap (option_map (page_in a)) e;
      low = omega (arith, there.low, div-mul-le_self (a - q.start) q.size);
      high = omega (arith, there.low, quotient_multiple_above (a - q.start) q.size range.some_bytes);
      fits = omega (arith, there.high, range.ends);
    })

-- The page that the map returns for an address contains the address.
pub page_at_has_address : (plan : Plan) (a : ℕ) (page : Page) → All IsRange plan.map.now.ranges → page_at a plan.map.now.ranges
    ≡ Some page →
    IsOnPage plan a page
page_at_has_address plan a page all h = found_range_has_page plan a page (range_at a plan.map.now.ranges) refl all h

pub page_start_of_page : (plan : Plan) (a : ℕ) (page : Page) → IsOnPage plan a page → page_start plan a ≡ page.start
unfolding page_of
page_start_of_page plan a page on =
    ap (λ (t : Bool). elim (cond t (page_at a plan.map.now.ranges) None) as (λ _. ℕ) [ None ↦ a | Some p ↦ p.start ]) (lt-ltb a (2 ^ 32) on.fits)
    ∙ ap (λ (o : Option Page). elim o as (λ _. ℕ) [ None ↦ a | Some p ↦ p.start ]) on.is

pub page_end_of_page : (plan : Plan) (a : ℕ) (page : Page) → IsOnPage plan a page → page_end plan a ≡ page.start + page.size
unfolding page_of
page_end_of_page plan a page on =
    ap (λ (t : Bool). elim (cond t (page_at a plan.map.now.ranges) None) as (λ _. ℕ) [ None ↦ a | Some p ↦ p.start + p.size ])
    (lt-ltb a (2 ^ 32) on.fits)
    ∙ ap (λ (o : Option Page). elim o as (λ _. ℕ) [ None ↦ a | Some p ↦ p.start + p.size ]) on.is

-- Each address within the bounds of a page lies on this page.
pub page_addresses_share_page : AddressOnOnePage → (plan : Plan) (a b : ℕ) (page : Page) → All IsRange plan.map.now.ranges
    → are_apart plan.map.now.ranges ≡ true →
    IsOnPage plan a page → page.start ≤ b → b < page.start + page.size → IsOnPage plan b page
page_addresses_share_page one plan a b page all apart on low high =
    page_at_has_address plan b page all (one plan.map.now.ranges a b page all apart on.is low high)

each_image_byte_granted : (wanted : Access) (a : ℕ) (ps : List Pages) (es : List Element) → EachAddressGranted wanted ps es → HasByte a es →
    IsGranted wanted (range_at a ps)
each_image_byte_granted wanted a ps [] granted b = absurd b
each_image_byte_granted wanted a ps (e ∷ es) granted b =
    elim b [ inl w ↦ granted.0 a w.0 w.1 | inr w ↦ each_image_byte_granted wanted a ps es granted.1 w ]

-- The address lies on a page of the plan's map.
pub record HasPage (plan : Plan) (a : ℕ) : Type 0 where
  pub page : Page
  pub on : IsOnPage plan a page

granted_range_has_page : (plan : Plan) (a : ℕ) (wanted : Access) (o : Option Pages) → range_at a plan.map.now.ranges ≡ o →
    All IsRange plan.map.now.ranges → IsGranted wanted o → HasPage plan a
granted_range_has_page plan a wanted None e all granted = absurd granted
granted_range_has_page plan a wanted (Some q) e all granted =
    record { page = page_in a q; on = page_at_has_address plan a (page_in a q) all (ap (option_map (page_in a)) e) }

pub image_byte_has_page : (plan : Plan) (a : ℕ) → IsSoundPlan plan → All IsRange plan.map.now.ranges → HasByte a plan.image.now →
    HasPage plan a
image_byte_has_page plan a sound all b =
    granted_range_has_page plan a (wanted_access false false false) (range_at a plan.map.now.ranges) refl all
    (each_image_byte_granted (wanted_access false false false) a plan.map.now.ranges plan.image.now sound.0.0.0.1 b)
