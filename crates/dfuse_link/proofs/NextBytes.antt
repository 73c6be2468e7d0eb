-- Address of the next byte of an image, and the element that contains a byte.
use Rattle.std.proofs.Common.{◌≡◌, ℕ, ◌<◌, ◌≤◌, inl, inr, max, Bool, true, false, cond, eqb, ltb, List, [], ◌∷◌, length, Option, Some, None, refl, sym, ap, ◌∙◌, arith}
use Rattle.std.proofs.lemmas.Bool.{ltb-true, ltb-false, or_parts, lt-ltb, le-ltb}
use Rattle.std.proofs.lemmas.Bool.Decides.{nat_tests}
use Rattle.std.proofs.lemmas.Option.{cond_some}
use Rattle.dfuse_link.proofs.Bytes.{element_at_cons}
use Rattle.dfu_formats.specs.declared.dfuse.element.Element.{Element}
use Rattle.dfuse_host.specs.declared.plan.Plan.{Plan}
use Rattle.dfuse_host.specs.Images.{end_of, element_holds, element_at, next_byte}
use Rattle.dfuse_host.specs.Plans.{element_end}
use Rattle.dfuse_host.specs.Refusing.{has_empty}
use Rattle.dfuse_host.specs.ReadBack.{HasByte}
use Rattle.dfuse_host.specs.Settling.{address_if_before, byte_in}

-- An element that isn't empty ends after its own address.
pub nonempty_element_has_end : (e : Element) → eqb (length e.bytes.now) 0 ≡ false → e.address < end_of e
nonempty_element_has_end e h = grind (arith, nat_tests)

next_byte_of_first_element : (at : ℕ) (e : Element) (es : List Element) →
    next_byte at (e ∷ es) ≡ cond (ltb at (end_of e)) (Some (max at e.address)) (next_byte at es)
unfolding next_byte
next_byte_of_first_element at e es = refl

no_next_byte_of_none : (at c : ℕ) → next_byte at [] ≡ Some c → ⊥
unfolding next_byte
no_next_byte_of_none at c h = cc

-- `c` is the address of the next byte of the image from `at` on. It is not before `at`, and the next byte from `c` on is at `c`.
record IsNextByte (at c : ℕ) (es : List Element) : Type 0 where
  from : at ≤ c
  has : HasByte c es
  -- The next byte from `c` on is at `c` itself.
  is_its_own_next : next_byte c es ≡ Some c

next_byte_by_end_test : (at c : ℕ) (e : Element) (es : List Element) (t : Bool) → ltb at (end_of e) ≡ t → e.address < end_of e →
    (next_byte at es ≡ Some c → IsNextByte at c es) → cond t (Some (max at e.address)) (next_byte at es) ≡ Some c → IsNextByte at c (e ∷ es)
next_byte_by_end_test at c e es true h some rest f =
    let same : max at e.address ≡ c = cc in
    let low = ltb-true at (end_of e) h in
    let within : c < end_of e = omega (arith, same, low, some) in
    let here : max c e.address ≡ c = omega (arith, same) in
    record {
      from = omega (arith, same);
      has = inl (omega (arith, same), within);
      is_its_own_next = next_byte_of_first_element c e es
          ∙ ap (λ (t : Bool). cond t (Some (max c e.address)) (next_byte c es)) (lt-ltb c (end_of e) within)
          ∙ ap Some here;
    }
next_byte_by_end_test at c e es false h some rest f =
    let r = rest f in
    let past : end_of e ≤ c = omega (arith, ltb-false at (end_of e) h, r.from) in
    record {
      from = r.from;
      has = inr r.has;
      is_its_own_next = next_byte_of_first_element c e es
          ∙ ap (λ (t : Bool). cond t (Some (max c e.address)) (next_byte c es)) (le-ltb c (end_of e) past)
          ∙ r.is_its_own_next;
    }

next_byte_is_next : (at c : ℕ) (es : List Element) → has_empty es ≡ false → next_byte at es ≡ Some c → IsNextByte at c es
next_byte_is_next at c [] h f = absurd (no_next_byte_of_none at c f)
next_byte_is_next at c (e ∷ es) h f =
    let both = or_parts (eqb (length e.bytes.now) 0) (has_empty es) h in
    next_byte_by_end_test at c e es (ltb at (end_of e)) refl (nonempty_element_has_end e both.0) (next_byte_is_next at c es both.1) (sym
    (next_byte_of_first_element at e es) ∙ f)

if_before_is_before : (end c : ℕ) (o : Option ℕ) → address_if_before end o ≡ Some c → (o ≡ Some c) × (c < end)
if_before_is_before end c None h = cc
if_before_is_before end c (Some b) h = let k = cond_some (ltb b end) b c h in (ap Some k.1, omega (arith, k.1, ltb-true b end k.0))

-- `c` is the address of the next byte of the image from `at` up to `end`.
pub record IsByteIn (plan : Plan) (at end c : ℕ) : Type 0 where
  pub from : at ≤ c
  pub to : c < end
  pub has : HasByte c plan.image.now
  -- The next byte from `c` on is at `c` itself.
  pub is_its_own_next : byte_in plan c end ≡ Some c

pub byte_in_is_byte_of_part : (plan : Plan) (at end c : ℕ) → has_empty plan.image.now ≡ false → byte_in plan at end ≡ Some c →
    IsByteIn plan at end c
unfolding byte_in
byte_in_is_byte_of_part plan at end c h f =
    let b = if_before_is_before end c (next_byte at plan.image.now) f in
    let n = next_byte_is_next at c plan.image.now h b.0 in record {
      from = n.from;
      to = b.1;
      has = n.has;
      is_its_own_next = ap (address_if_before end) n.is_its_own_next ∙ ap (λ (t : Bool). cond t (Some c) None) (lt-ltb c end b.1);
    }

-- An element of the image contains the address `a`.
pub record IsByteHeld (a : ℕ) (es : List Element) : Type 0 where
  pub element : Element
  pub is : element_at a es ≡ Some element
  pub low : element.address ≤ a
  pub high : a < end_of element

held_byte_by_test : (a : ℕ) (e : Element) (es : List Element) (t : Bool) → element_holds a e ≡ t → (element_holds a e ≡ false →
    IsByteHeld a es)
    → IsByteHeld a (e ∷ es)
held_byte_by_test a e es true h rest = record {
  element = e;
  is = element_at_cons a e es ∙ ap (λ (t : Bool). cond t (Some e) (element_at a es)) h;
  low = grind (arith, nat_tests);
  high = grind (arith, nat_tests);
}
held_byte_by_test a e es false h rest =
    let r = rest h in record {
      element = r.element;
      is = element_at_cons a e es ∙ ap (λ (t : Bool). cond t (Some e) (element_at a es)) h ∙ r.is;
      low = r.low;
      high = r.high;
    }

unheld_address_is_outside : (a : ℕ) (e : Element) → element_holds a e ≡ false → e.address ≤ a → a < end_of e → ⊥
unheld_address_is_outside a e h low high = grind (arith, nat_tests)

pub image_byte_is_held : (a : ℕ) (es : List Element) → HasByte a es → IsByteHeld a es
image_byte_is_held a [] b = absurd b
image_byte_is_held a (e ∷ es) b = held_byte_by_test a e es (element_holds a e) refl
    (λ none. elim b [ inl w ↦ absurd (unheld_address_is_outside a e none w.0 w.1) | inr w ↦ image_byte_is_held a es w ])

pub element_ends_after_byte : (plan : Plan) (a : ℕ) → HasByte a plan.image.now → a < element_end plan a
element_ends_after_byte plan a b =
    let h = image_byte_is_held a plan.image.now b in
    let stop : element_end plan a ≡ end_of h.element =
    ap (λ (o : Option Element). elim o as (λ _. ℕ) [ None ↦ a | Some e ↦ end_of e ]) h.is in
    omega (arith, stop, h.high)
