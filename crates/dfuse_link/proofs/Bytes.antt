-- Facts about the byte of an image at an address.
use Rattle.std.proofs.Common.{◌≡◌, ℕ, suc, ◌+◌, ◌-◌, ◌<◌, ◌≤◌, ◌^◌, ◌⊎◌, inl, inr, Bool, true, false, cond, leb, List, [], ◌∷◌, get_or, take, drop, Option, Some, None, refl, sym, ap, ◌∙◌, subst, arith}
use Rattle.std.specs.List.{All, AllByRecursion}
use Rattle.std.proofs.lemmas.Bool.{leb-true, and_parts}
use Rattle.std.proofs.lemmas.Bool.Decides.{nat_tests}
use Rattle.std.proofs.lemmas.List.{get_or-take, get_or-drop}
use Rattle.dfu_formats.specs.declared.memory.pages.Access.{Access}
use Rattle.dfu_formats.specs.declared.memory.pages.Pages.{Pages}
use Rattle.dfu_formats.specs.memory.Ranges.{IsRange}
use Rattle.dfu_formats.specs.memory.Ranges as ranges
use Rattle.dfu_formats.specs.memory.Lookups.{range_has, range_at, IsGranted}
use Rattle.dfu_formats.specs.declared.dfuse.element.Element.{Element}
use Rattle.dfuse_host.specs.Images.{end_of, element_holds, element_at}
use Rattle.dfuse_host.specs.Refusing.{apart_from, EachAddressGranted}
use Rattle.dfuse_host.specs.ReadBack.{HasByte}
use Rattle.dfuse_link.specs.Reactions.{BytesInMemoryAt}
use Rattle.dfuse_link.proofs.OnPages.{range_at_cons}

-- Byte of an element at the address `a`, or 0 if there is no element.
abbrev pub byte_of_element_at : (a : ℕ) → Option Element → ℕ
byte_of_element_at a None = 0
byte_of_element_at a (Some e) = get_or e.bytes.now (a - e.address) 0

-- Byte of an image at the address `a`, or 0 if no element contains the address.
abbrev pub byte_at : (a : ℕ) → List Element → ℕ
byte_at a es = byte_of_element_at a (element_at a es)

-- The element at an address is the first element if it contains the address, and is among the later elements otherwise.
pub element_at_cons : (at : ℕ) (e : Element) (es : List Element)
    → element_at at (e ∷ es) ≡ cond (element_holds at e) (Some e) (element_at at es)
unfolding element_at
element_at_cons at e es = refl

pub no_element_in_empty_image : (at : ℕ) (e : Element) → element_at at [] ≡ Some e → ⊥
unfolding element_at
no_element_in_empty_image at e h = cc

element_holds_address : (a : ℕ) (e : Element) → e.address ≤ a → a < end_of e → element_holds a e ≡ true
element_holds_address a e low high = grind (arith, nat_tests)

pub held_address_is_within : (a : ℕ) (e : Element) → element_holds a e ≡ true → (e.address ≤ a) × (a < end_of e)
held_address_is_within a e h = grind (arith, nat_tests)

element_ends_before_address : (a : ℕ) (e : Element) → end_of e ≤ a → element_holds a e ≡ false
element_ends_before_address a e h = grind (arith, nat_tests)

-- The element found at an address is the first element, which then contains the address, or it is found among the later elements.
element_first_or_rest_by_test : (at : ℕ) (x e : Element) (xs : List Element) (t : Bool) → element_holds at x ≡ t →
    cond t (Some x) (element_at at xs) ≡ Some e →
    ((x ≡ e) × (element_holds at x ≡ true)) ⊎ (element_at at xs ≡ Some e)
element_first_or_rest_by_test at x e xs true h f = inl (cc, h)
element_first_or_rest_by_test at x e xs false h f = inr f

pub element_first_or_among_rest : (at : ℕ) (x e : Element) (xs : List Element) → element_at at (x ∷ xs) ≡ Some e →
    ((x ≡ e) × (element_holds at x ≡ true)) ⊎ (element_at at xs ≡ Some e)
element_first_or_among_rest at x e xs h = element_first_or_rest_by_test at x e xs (element_holds at x) refl (sym (element_at_cons at x xs)
    ∙ h)

-- An element that is found contains the address, and begins at `from` or later if all elements do.
pub found_element_has_address : (at from : ℕ) (e : Element) (es : List Element) → apart_from from es ≡ true → element_at at es ≡ Some e →
    (from ≤ e.address) × (e.address ≤ at) × (at < end_of e)
found_element_has_address at from e [] apart h = absurd (no_element_in_empty_image at e h)
found_element_has_address at from e (x ∷ xs) apart h =
    let both = and_parts (leb from x.address) (apart_from (end_of x) xs) apart in
    let low = leb-true from x.address both.0 in
    elim (element_first_or_among_rest at x e xs h) [
      | inl w ↦
          let held = held_address_is_within at x w.1 in
          subst (λ (y : Element). (from ≤ y.address) × (y.address ≤ at) × (at < end_of y)) w.0 (low, held.0, held.1)
      | inr w ↦ let rest = found_element_has_address at (end_of x) e xs both.1 w in (omega (arith, low, rest.0), rest.1, rest.2)
    ]

element_at_takes_first : (at : ℕ) (x : Element) (xs : List Element) → element_holds at x ≡ true → element_at at (x ∷ xs) ≡ Some x
element_at_takes_first at x xs h = element_at_cons at x xs ∙ ap (λ (t : Bool). cond t (Some x) (element_at at xs)) h

element_at_passes_first : (at : ℕ) (x : Element) (xs : List Element) → element_holds at x ≡ false → element_at at (x ∷ xs)
    ≡ element_at at xs
element_at_passes_first at x xs h = element_at_cons at x xs ∙ ap (λ (t : Bool). cond t (Some x) (element_at at xs)) h

-- If an element contains the address `at`, it is also found at each later address that it contains, provided the elements ascend and don't
-- overlap.
pub later_address_same_element : (at a from : ℕ) (e : Element) (es : List Element) → apart_from from es ≡ true → element_at at es
    ≡ Some e → at ≤ a →
    a < end_of e → element_at a es ≡ Some e
later_address_same_element at a from e [] apart h low high = absurd (no_element_in_empty_image at e h)
later_address_same_element at a from e (x ∷ xs) apart h low high =
    let both = and_parts (leb from x.address) (apart_from (end_of x) xs) apart in
    elim (element_first_or_among_rest at x e xs h) [
      | inl w ↦
          let held = held_address_is_within at x w.1 in
          let here : element_holds a x ≡ true = element_holds_address a x (omega (arith, held.0, low)) (omega (arith, high, ap end_of w.0))
          in
          element_at_takes_first a x xs here ∙ ap Some w.0
      | inr w ↦
          let rest = found_element_has_address at (end_of x) e xs both.1 w in
          element_at_passes_first a x xs (element_ends_before_address a x (omega (arith, rest.0, rest.1, low)))
          ∙ later_address_same_element at a (end_of x) e xs both.1 w low high
    ]

-- No byte of the image has an address below `from` if all elements begin at `from` or later.
pub image_byte_not_before_start : (from a : ℕ) (es : List Element) → apart_from from es ≡ true → HasByte a es → from ≤ a
image_byte_not_before_start from a [] h b = absurd b
image_byte_not_before_start from a (e ∷ es) h b =
    let both = and_parts (leb from e.address) (apart_from (end_of e) es) h in
    let first = leb-true from e.address both.0 in
    elim b [ inl w ↦ omega (arith, first, w.0) | inr w ↦ omega (arith, first, image_byte_not_before_start (end_of e) a es both.1 w) ]

-- The part of an element from `at` up to `end` has the same byte at the address `a` as the whole element.
pub part_has_same_byte : (e : Element) (at a end : ℕ) → e.address ≤ at → at ≤ a → a < end →
    get_or (take (end - at) (drop (at - e.address) e.bytes.now)) (a - at) 0 ≡ get_or e.bytes.now (a - e.address) 0
part_has_same_byte e at a end low from to =
    let within : a - at < end - at = omega (arith, from, to) in
    let sum : (at - e.address) + (a - at) ≡ a - e.address = omega (arith, low, from) in
    get_or-take (end - at) (drop (at - e.address) e.bytes.now) (a - at) 0 within
    ∙ get_or-drop (at - e.address) e.bytes.now (a - at) 0
    ∙ ap (λ (n : ℕ). get_or e.bytes.now n 0) sum

-- If a memory holds each byte of an image at the byte's address, it holds all bytes of each element.

first_element_is_in_memory : (memory : ℕ → ℕ) (e : Element) (es : List Element) →
    ((a : ℕ) → HasByte a (e ∷ es) → memory a ≡ byte_at a (e ∷ es)) → BytesInMemoryAt memory e.address e.bytes.now
first_element_is_in_memory memory e es h = λ i within.
    let here : element_holds (e.address + i) e ≡ true = element_holds_address (e.address + i) e (omega arith) (omega (arith, within)) in
    let is : memory (e.address + i) ≡ byte_at (e.address + i) (e ∷ es) = h (e.address + i) (inl (omega arith, omega (arith, within))) in
    let back : (e.address + i) - e.address ≡ i = omega arith in
    is ∙ ap (byte_of_element_at (e.address + i)) (element_at_takes_first (e.address + i) e es here)
    ∙ ap (λ (n : ℕ). get_or e.bytes.now n 0) back

pub all_elements_are_in_memory : (memory : ℕ → ℕ) (from : ℕ) (es : List Element) → apart_from from es ≡ true →
    ((a : ℕ) → HasByte a es → memory a ≡ byte_at a es) →
    AllByRecursion (λ (e : Element). BytesInMemoryAt memory e.address e.bytes.now) es
all_elements_are_in_memory memory from [] apart h = tt
all_elements_are_in_memory memory from (e ∷ es) apart h =
    let both = and_parts (leb from e.address) (apart_from (end_of e) es) apart in (
      first_element_is_in_memory memory e es h,
      all_elements_are_in_memory memory (end_of e) es both.1
          (λ a b. h a (inr b) ∙ ap (byte_of_element_at a) (element_at_passes_first a e es (element_ends_before_address a e
          (image_byte_not_before_start (end_of e) a es both.1 b)))),
    )

no_range_grants_nothing : (wanted : Access) (a : ℕ) → IsGranted wanted (range_at a []) → ⊥
unfolding range_at
no_range_grants_nothing wanted a h = h

address_before_range_end : (a : ℕ) (p : Pages) → range_has a p ≡ true → a < ranges.end_of_range p
address_before_range_end a p h = grind (arith, nat_tests)

granted_range_by_test : (wanted : Access) (a : ℕ) (p : Pages) (ps : List Pages) (t : Bool) → range_has a p ≡ t → IsRange p →
    (IsGranted wanted (range_at a ps) → a < 2 ^ 32) → IsGranted wanted (cond t (Some p) (range_at a ps)) → a < 2 ^ 32
granted_range_by_test wanted a p ps true h is rest granted = omega (arith, address_before_range_end a p h, is.ends)
granted_range_by_test wanted a p ps false h is rest granted = rest granted

granted_address_on_map : (wanted : Access) (a : ℕ) (ps : List Pages) → All IsRange ps → IsGranted wanted (range_at a ps) → a < 2 ^ 32
granted_address_on_map wanted a [] all granted = absurd (no_range_grants_nothing wanted a granted)
granted_address_on_map wanted a (p ∷ ps) all granted =
    granted_range_by_test wanted a p ps (range_has a p) refl (all 0 p (omega arith)) (granted_address_on_map wanted a ps (λ k d h. all (suc
    k) d (omega (arith, h))))
    (subst (IsGranted wanted) (range_at_cons a p ps) granted)

pub image_byte_fits_32_bits : (wanted : Access) (a : ℕ) (ps : List Pages) (es : List Element) → All IsRange ps →
    EachAddressGranted wanted ps es →
    HasByte a es → a < 2 ^ 32
image_byte_fits_32_bits wanted a ps [] all granted b = absurd b
image_byte_fits_32_bits wanted a ps (e ∷ es) all granted b =
    elim b [
      | inl w ↦ granted_address_on_map wanted a ps all (granted.0 a w.0 w.1)
      | inr w ↦ image_byte_fits_32_bits wanted a ps es all
          granted.1 w
    ]
