-- A session writes only bytes of the image.
use Rattle.std.proofs.Common.{◌≡◌, ℕ, ◌<◌, ◌≤◌, ◌||◌, inl, inr, max, Bool, true, false, cond, eqb, ltb, List, [], ◌∷◌, length, Option, Some, None, refl, ap, ◌∙◌, arith}
use Rattle.std.proofs.lemmas.Bool.{ltb-true}
use Rattle.std.proofs.lemmas.Bool.Decides.{nat_tests}
use Rattle.dfu_formats.specs.declared.dfuse.element.Element.{Element}
use Rattle.dfuse_host.specs.declared.plan.Plan.{Plan}
use Rattle.dfuse_host.specs.declared.command.Command.TheVariants as command
use Rattle.dfuse_host.specs.Images.{end_of, element_holds, element_at, next_byte, image_start}
use Rattle.dfuse_host.specs.Plans.{element_end, write_end}
use Rattle.dfuse_host.specs.Refusing.{has_empty, is_empty}
use Rattle.dfuse_host.specs.Settling.{address_if_before, byte_in}
use Rattle.dfuse_host.specs.ReadBack.{HasByte}
use Rattle.dfuse_host.specs.Touching.{ChangesOnlyImagePages}

both_false_of_or : (a b : Bool) → (a || b) ≡ false → (a ≡ false) × (b ≡ false)
both_false_of_or true b h = (h, cc)
both_false_of_or false b h = (refl, h)

nonempty_element_ends_later : (e : Element) → eqb (length e.bytes.now) 0 ≡ false → e.address < end_of e
nonempty_element_ends_later e h = grind (arith, nat_tests)

next_byte_of_image_by_test : (at b : ℕ) (e : Element) (es : List Element) (t : Bool) → ltb at (end_of e) ≡ t → e.address < end_of e →
    (next_byte at es ≡ Some b → HasByte b es) → cond t (Some (max at e.address)) (next_byte at es) ≡ Some b → HasByte b (e ∷ es)
next_byte_of_image_by_test at b e es true h some rest f =
    let same : max at e.address ≡ b = cc in
    let low = ltb-true at (end_of e) h in
    inl (omega (arith, same), omega (arith, same, low, some))
next_byte_of_image_by_test at b e es false h some rest f = inr (rest f)

-- The next byte from an address on is a byte of the image, if no element is empty.
pub next_byte_of_image : (at b : ℕ) (es : List Element) → has_empty es ≡ false → next_byte at es ≡ Some b → HasByte b es
unfolding next_byte
next_byte_of_image at b [] h f = cc
next_byte_of_image at b (e ∷ es) h f =
    let both = both_false_of_or (eqb (length e.bytes.now) 0) (has_empty es) h in
    next_byte_of_image_by_test at b e es (ltb at (end_of e)) refl (nonempty_element_ends_later e both.0) (next_byte_of_image at b es
    both.1) f

-- An image that isn't empty has a byte at its start address.
pub image_start_is_image_byte : (es : List Element) → is_empty es ≡ false → HasByte (image_start es) es
unfolding image_start
image_start_is_image_byte [] h = cc
image_start_is_image_byte (e ∷ es) h =
    let all = both_false_of_or (eqb (length (e ∷ es)) 0) (has_empty (e ∷ es)) h in
    let both = both_false_of_or (eqb (length e.bytes.now) 0) (has_empty es) all.1 in
    inl (omega arith, nonempty_element_ends_later e both.0)

-- An element of the image contains the address `at`, and each byte of the element is a byte of the image.
record ElementHoldingByte (at : ℕ) (es : List Element) : Type 0 where
  element : Element
  is : element_at at es ≡ Some element
  low : element.address ≤ at
  bytes : (a : ℕ) → element.address ≤ a → a < end_of element → HasByte a es

holding_element_by_test : (at : ℕ) (e : Element) (es : List Element) (t : Bool) → element_holds at e ≡ t
    → (element_at at (e ∷ es) ≡ cond t (Some e) (element_at at es)) →
    ((element_holds at e ≡ false) → ElementHoldingByte at es) → ElementHoldingByte at (e ∷ es)
holding_element_by_test at e es true h step rest = record {
  element = e;
  is = step;
  low = grind (arith, nat_tests);
  bytes = λ a low high. inl (low, high);
}
holding_element_by_test at e es false h step rest =
    let r = rest h in
    record { element = r.element; is = step ∙ r.is; low = r.low; bytes = λ a low high. inr (r.bytes a low high) }

address_in_element_is_held : (at : ℕ) (e : Element) → element_holds at e ≡ false → e.address ≤ at → at < end_of e → ⊥
address_in_element_is_held at e h low high = grind (arith, nat_tests)

element_at_of_first : (at : ℕ) (e : Element) (es : List Element) → element_at at (e ∷ es)
    ≡ cond (element_holds at e) (Some e) (element_at at es)
unfolding element_at
element_at_of_first at e es = refl

byte_has_holding_element : (at : ℕ) (es : List Element) → HasByte at es → ElementHoldingByte at es
byte_has_holding_element at [] b = absurd b
byte_has_holding_element at (e ∷ es) b = holding_element_by_test at e es (element_holds at e) refl (element_at_of_first at e es)
    (λ none. elim b [ inl w ↦ absurd (address_in_element_is_held at e none w.0 w.1) | inr w ↦ byte_has_holding_element at es w ])

-- A write that begins at a byte of the image covers only bytes of the image on one page.
pub write_changes_only_one_page : (plan : Plan) (at end : ℕ) → HasByte at plan.image.now → ChangesOnlyImagePages plan end (command.Write at)
unfolding write_end
write_changes_only_one_page plan at end b = λ a low high.
    let h = byte_has_holding_element at plan.image.now b in
    let stop : element_end plan at ≡ end_of h.element =
    ap (λ (o : Option Element). elim o as (λ _. ℕ) [ None ↦ at | Some e ↦ end_of e ]) h.is in
    (h.bytes a (omega (arith, low, h.low)) (omega (arith, high, stop)), omega (arith, high))

address_before_end_is_itself : (end b c : ℕ) (t : Bool) → cond t (Some b) None ≡ Some c → b ≡ c
address_before_end_is_itself end b c true h = cc
address_before_end_is_itself end b c false h = cc

pub address_if_before_is_same : (end c : ℕ) (o : Option ℕ) → address_if_before end o ≡ Some c → o ≡ Some c
address_if_before_is_same end c None h = cc
address_if_before_is_same end c (Some b) h = ap Some (address_before_end_is_itself end b c (ltb b end) h)

pub nonempty_image_is_filled : (es : List Element) → is_empty es ≡ false → has_empty es ≡ false
nonempty_image_is_filled es h = (both_false_of_or (eqb (length es) 0) (has_empty es) h).1

next_byte_not_before_by_test : (at c : ℕ) (e : Element) (es : List Element) (t : Bool) → (next_byte at es ≡ Some c → at ≤ c) →
    cond t (Some (max at e.address)) (next_byte at es) ≡ Some c → at ≤ c
next_byte_not_before_by_test at c e es true rest f =
    let same : max at e.address ≡ c = cc in
    omega (arith, same)
next_byte_not_before_by_test at c e es false rest f = rest f

-- The next byte of the image from `at` on is not before `at`.
next_byte_not_before : (at c : ℕ) (es : List Element) → next_byte at es ≡ Some c → at ≤ c
unfolding next_byte
next_byte_not_before at c [] f = cc
next_byte_not_before at c (e ∷ es) f = next_byte_not_before_by_test at c e es (ltb at (end_of e)) (next_byte_not_before at c es) f

pub byte_in_not_before : (plan : Plan) (at end c : ℕ) → byte_in plan at end ≡ Some c → at ≤ c
unfolding byte_in
byte_in_not_before plan at end c h =
    next_byte_not_before at c plan.image.now (address_if_before_is_same end c (next_byte at plan.image.now) h)
