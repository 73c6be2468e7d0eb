-- Facts about the next byte of an image whose elements don't overlap.
use Rattle.std.proofs.Common.{◌≡◌, ℕ, ◌<◌, ◌≤◌, ◌&&◌, inl, inr, max, Bool, true, false, cond, ltb, leb, List, [], ◌∷◌, Option, Some, None, refl, sym, ap, ◌∙◌, arith}
use Rattle.std.proofs.lemmas.Bool.{ltb-false, leb-true}
use Rattle.dfu_formats.specs.declared.dfuse.element.Element.{Element}
use Rattle.dfuse_host.specs.declared.plan.Plan.{Plan}
use Rattle.dfuse_host.specs.Images.{end_of, next_byte, image_start, image_end}
use Rattle.dfuse_host.specs.Refusing.{apart_from}
use Rattle.dfuse_host.specs.ReadBack.{HasByte}
use Rattle.dfuse_host.specs.Settling.{address_if_before, byte_in}

both_true_of_and : (a b : Bool) → (a && b) ≡ true → (a ≡ true) × (b ≡ true)
both_true_of_and true b h = (refl, h)
both_true_of_and false b h = (h, cc)

-- No byte of the image has an address below `from` if all elements begin at `from` or later.
image_byte_not_before_from : (from a : ℕ) (es : List Element) → apart_from from es ≡ true → HasByte a es → from ≤ a
image_byte_not_before_from from a [] h b = absurd b
image_byte_not_before_from from a (e ∷ es) h b =
    let both = both_true_of_and (leb from e.address) (apart_from (end_of e) es) h in
    let first = leb-true from e.address both.0 in
    elim b [ inl w ↦ omega (arith, first, w.0) | inr w ↦ omega (arith, first, image_byte_not_before_from (end_of e) a es both.1 w) ]

-- `o` holds the address of a byte, and this address is not above `a`.
record HasNextByteUpTo (at a : ℕ) (o : Option ℕ) : Type 0 where
  byte : ℕ
  is : o ≡ Some byte
  early : byte ≤ a

next_byte_up_to_by_test : (at a : ℕ) (e : Element) (es : List Element) (t : Bool) → ltb at (end_of e) ≡ t → at ≤ a → e.address ≤ a →
    (end_of e ≤ at → HasNextByteUpTo at a (next_byte at es)) → HasNextByteUpTo at a (cond t (Some (max at e.address)) (next_byte at es))
next_byte_up_to_by_test at a e es true h from low rest = record { byte = max at e.address; is = refl; early = omega (arith, from, low) }
next_byte_up_to_by_test at a e es false h from low rest = rest (ltb-false at (end_of e) h)

next_byte_up_to_byte : (from at a : ℕ) (es : List Element) → apart_from from es ≡ true → HasByte a es → at ≤ a →
    HasNextByteUpTo at a (next_byte at es)
unfolding next_byte
next_byte_up_to_byte from at a [] h b l = absurd b
next_byte_up_to_byte from at a (e ∷ es) h b l =
    let both = both_true_of_and (leb from e.address) (apart_from (end_of e) es) h in
    elim b [
      | inl w ↦ next_byte_up_to_by_test at a e es (ltb at (end_of e)) refl l w.0 (λ k. absurd (omega (arith, k, l, w.1)))
      | inr w ↦ next_byte_up_to_by_test at a e es (ltb at (end_of e)) refl l (omega (
        arith,
        image_byte_not_before_from (end_of e) a es
            both.1 w,
      )) (λ k. next_byte_up_to_byte (end_of e) at a es both.1 w l)
    ]

-- No byte of an image has a lower address than the first byte, if the elements ascend and don't overlap.
pub image_byte_after_image_start : (a : ℕ) (es : List Element) → apart_from 0 es ≡ true → HasByte a es → image_start es ≤ a
unfolding image_start
image_byte_after_image_start a [] h b = absurd b
image_byte_after_image_start a (e ∷ es) h b =
    let both = both_true_of_and (leb 0 e.address) (apart_from (end_of e) es) h in
    elim b [ inl w ↦ w.0 | inr w ↦ omega (arith, image_byte_not_before_from (end_of e) a es both.1 w) ]

-- Each byte of the image lies before the end of the image.
pub image_byte_before_image_end : (a : ℕ) (es : List Element) → HasByte a es → a < image_end es
unfolding image_end
image_byte_before_image_end a [] b = absurd b
image_byte_before_image_end a (e ∷ es) b = elim b [ inl w ↦ omega (arith, w.1) | inr w ↦ omega (arith, image_byte_before_image_end a es w) ]

address_before_end_by_test : (end b : ℕ) (t : Bool) → ltb b end ≡ t → cond t (Some b) None ≡ None → end ≤ b
address_before_end_by_test end b true e h = cc
address_before_end_by_test end b false e h = ltb-false b end e

kept_address_is_same : (b c : ℕ) (t : Bool) → cond t (Some b) None ≡ Some c → b ≡ c
kept_address_is_same b c true h = cc
kept_address_is_same b c false h = cc

-- If `byte_in` finds no byte from `at` up to `end`, the image has no byte there. The image's elements must ascend and not overlap.
pub no_image_byte_in_range : (plan : Plan) (at end a : ℕ) → apart_from 0 plan.image.now ≡ true → HasByte a plan.image.now
    → byte_in plan at end ≡ None → at ≤ a → end ≤ a
unfolding byte_in
no_image_byte_in_range plan at end a apart b h l =
    let n = next_byte_up_to_byte 0 at a plan.image.now apart b l in
    let gone : address_if_before end (Some n.byte) ≡ None = ap (address_if_before end) (sym n.is) ∙ h in
    omega (arith, n.early, address_before_end_by_test end n.byte (ltb n.byte end) refl gone)

-- The byte that `byte_in` finds from `at` on has the lowest address of all bytes of the image from `at` on.
pub first_image_byte_of_range : (plan : Plan) (at end c a : ℕ) → apart_from 0 plan.image.now ≡ true → HasByte a plan.image.now
    → byte_in plan at end ≡ Some c → at ≤ a → c ≤ a
unfolding byte_in
first_image_byte_of_range plan at end c a apart b h l =
    let n = next_byte_up_to_byte 0 at a plan.image.now apart b l in
    let same : address_if_before end (Some n.byte) ≡ Some c = ap (address_if_before end) (sym n.is) ∙ h in
    omega (arith, n.early, kept_address_is_same n.byte c (ltb n.byte end) same)
