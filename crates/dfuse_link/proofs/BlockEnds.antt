-- Ends of blocks, and addresses from which a block can be read.
use Rattle.std.proofs.Common.{◌≡◌, ℕ, ◌-◌, ◌/◌, ◌%◌, ◌<◌, ◌≤◌, max, Bool, true, false, eqb, leb, Option, Some, None, ap, refl, ◌∙◌, arith}
use Rattle.std.proofs.lemmas.Bool.Decides.{nat_tests}
use Rattle.std.proofs.lemmas.Bool.{and_from, le-leb, eq-eqb}
use Rattle.dfu_formats.specs.declared.dfuse.element.Element.{Element}
use Rattle.dfuse_host.specs.declared.plan.Plan.{Plan}
use Rattle.dfuse_host.specs.Images.{element_at}
use Rattle.dfuse_host.specs.Plans.{page_end, block_size, write_end, read_end}
use Rattle.dfuse_host.specs.ReadBack.{HasByte}
use Rattle.dfuse_host.specs.Settling.{can_read}
use Rattle.dfuse_link.proofs.NextBytes.{image_byte_is_held, element_ends_after_byte}

number_minus_itself : (a : ℕ) → a - a ≡ 0
number_minus_itself a = omega arith

zero_has_no_remainder : (n : ℕ) → 1 ≤ n → 0 % n ≡ 0
zero_has_no_remainder n some = grind arith

zero_blocks_of_zero : (n : ℕ) → 1 ≤ n → 0 / n ≡ 0
zero_blocks_of_zero n some = grind arith

zero_is_few_blocks : leb 0 65533 ≡ true
zero_is_few_blocks = grind (arith, nat_tests)

element_begins_by_address : (plan : Plan) (a : ℕ) (e : Element) → element_at a plan.image.now ≡ Some e → e.address ≤ a →
    elim (element_at a plan.image.now) as (λ _. Bool) [ None ↦ false | Some x ↦ leb x.address a ] ≡ true
element_begins_by_address plan a e is low =
    ap (λ (o : Option Element). elim o as (λ _. Bool) [ None ↦ false | Some x ↦ leb x.address a ]) is ∙ le-leb e.address a low

-- If the pointer is set to the address of a byte of the image, this byte can be read.
pub pointer_address_can_be_read : (plan : Plan) (a : ℕ) → HasByte a plan.image.now → can_read plan a a ≡ true
unfolding can_read
pointer_address_can_be_read plan a b =
    let h = image_byte_is_held a plan.image.now b in
    let size : 1 ≤ block_size plan = omega arith in
    let whole : eqb ((a - a) % block_size plan) 0 ≡ true =
    ap (λ (x : ℕ). eqb (x % block_size plan) 0) (number_minus_itself a)
    ∙ ap (λ (x : ℕ). eqb x 0) (zero_has_no_remainder (block_size plan) size)
    ∙ eq-eqb 0 0 refl in
    let first : leb ((a - a) / block_size plan) 65533 ≡ true =
    ap (λ (x : ℕ). leb (x / block_size plan) 65533) (number_minus_itself a)
    ∙ ap (λ (x : ℕ). leb x 65533) (zero_blocks_of_zero (block_size plan) size)
    ∙ zero_is_few_blocks in
    and_from _ _ (le-leb a a (omega arith)) (and_from _ _ whole (and_from _ _ first (element_begins_by_address plan a h.element h.is
    h.low)))

-- A block that is read from a byte before `end` ends after this byte.
pub read_ends_after_byte : (plan : Plan) (a end : ℕ) → HasByte a plan.image.now → a < end → a < read_end plan a end
unfolding read_end
read_ends_after_byte plan a end b less = omega (arith, element_ends_after_byte plan a b, less)

-- A block that is written from a byte before `end` ends after this byte, if the byte lies before the end of its page.
pub write_ends_after_byte : (plan : Plan) (a end : ℕ) → HasByte a plan.image.now → a < end → a < page_end plan a → a < write_end plan a end
unfolding write_end
write_ends_after_byte plan a end b less page = omega (arith, element_ends_after_byte plan a b, less, page)

write_ends_not_before : (plan : Plan) (a end : ℕ) → HasByte a plan.image.now → a < end → a ≤ page_end plan a → a ≤ write_end plan a end
unfolding write_end
write_ends_not_before plan a end b less page = omega (arith, element_ends_after_byte plan a b, less, page)

pub write_end_is_maximum : (plan : Plan) (a end : ℕ) → HasByte a plan.image.now → a < end → a ≤ page_end plan a →
    max a (write_end plan a end) ≡ write_end plan a end
write_end_is_maximum plan a end b less page = omega (arith, write_ends_not_before plan a end b less page)
