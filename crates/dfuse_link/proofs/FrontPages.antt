-- Facts about the front and the page that contains it.
use Rattle.std.proofs.Common.{◌≡◌, ℕ, ◌%◌, ◌^◌, ◌<◌, ◌≤◌, inl, inr, max, Bool, true, false, cond, eqb, List, [], ◌∷◌, length, Some, None, sym, ap, ◌∙◌, arith}
use Rattle.std.proofs.lemmas.Bool.{cases_lt, or_parts, lt-ltb}
use Rattle.dfu_formats.specs.memory.Ranges.{are_apart}
use Rattle.dfu_formats.specs.memory.Lookups.{AddressOnOnePage}
use Rattle.dfu_formats.specs.declared.dfuse.element.Element.{Element}
use Rattle.dfuse_host.specs.declared.plan.Plan.{Plan}
use Rattle.dfuse_host.specs.Images.{end_of, next_byte, image_start, image_end}
use Rattle.dfuse_host.specs.Plans.{page_start, page_end, front_end}
use Rattle.dfuse_host.specs.Refusing.{has_empty, is_empty}
use Rattle.dfuse_host.specs.ReadBack.{HasByte}
use Rattle.dfuse_host.specs.Settling.{address_if_before, byte_in}
use Rattle.dfuse_host.proofs.ImageLaws.{image_byte_after_image_start}
use Rattle.dfuse_link.specs.Chips.{Chip}
use Rattle.dfuse_link.specs.Promises.{IsPlanFor}
use Rattle.dfuse_link.specs.Touched.{IsTrueMap}
use Rattle.dfuse_link.specs.Fronts.{IsFrontAddress, IsOffFrontPage, ErasesFront}
use Rattle.dfuse_link.proofs.OnPages.{page_start_of_page, page_end_of_page, page_addresses_share_page, image_byte_has_page}
use Rattle.dfuse_link.proofs.UntouchedTurns.{plan_image_is_filled}
use Rattle.dfuse_link.proofs.SessionTurns.{plan_elements_are_apart}
use Rattle.dfuse_link.proofs.NextBytes.{nonempty_element_has_end}

-- Premises of `NoMixture`: the plan is for the device, no two ranges of its map share an address, the map is true of the image's pages, and
-- an erase of the front's page erases the front.
pub record HasNoMixturePremises (chip : Chip) (plan : Plan) : Type 0 where
  pub for : IsPlanFor chip plan
  pub apart : are_apart plan.map.now.ranges ≡ true
  pub map : IsTrueMap chip plan
  pub erases : ErasesFront chip plan

nonempty_first_element : (e : Element) (es : List Element) → is_empty (e ∷ es) ≡ false → e.address < end_of e
nonempty_first_element e es h =
    let all = or_parts (eqb (length (e ∷ es)) 0) (has_empty (e ∷ es)) h in
    nonempty_element_has_end e (or_parts (eqb (length e.bytes.now) 0) (has_empty es) all.1).0

-- The image has a byte at its start address. The next byte from this address on is at this address, which lies before the end of the image.
record IsFirstByte (es : List Element) : Type 0 where
  has : HasByte (image_start es) es
  next : next_byte (image_start es) es ≡ Some (image_start es)
  within : image_start es < image_end es

image_has_first_byte : (es : List Element) → is_empty es ≡ false → IsFirstByte es
unfolding image_start next_byte image_end
image_has_first_byte [] h = cc
image_has_first_byte (e ∷ es) h =
    let some = nonempty_first_element e es h in
    let here : max e.address e.address ≡ e.address = omega arith in
    record {
      has = inl (omega arith, some);
      next = ap (λ (t : Bool). cond t (Some (max e.address e.address)) (next_byte e.address es)) (lt-ltb e.address (end_of e) some)
          ∙ ap Some here;
      within = omega (arith, some);
    }

next_byte_before_end : (end b : ℕ) → b < end → address_if_before end (Some b) ≡ Some b
next_byte_before_end end b h = ap (λ (t : Bool). cond t (Some b) None) (lt-ltb b end h)

first_byte_is_next : (plan : Plan) → IsFirstByte plan.image.now →
    byte_in plan (image_start plan.image.now) (image_end plan.image.now) ≡ Some (image_start plan.image.now)
unfolding byte_in
first_byte_is_next plan f =
    ap (address_if_before (image_end plan.image.now)) f.next
    ∙ next_byte_before_end (image_end plan.image.now) (image_start plan.image.now) f.within

front_ends_by_page_end : (plan : Plan) → front_end plan ≤ page_end plan (image_start plan.image.now)
unfolding front_end
front_ends_by_page_end plan = omega arith

module _ (one : AddressOnOnePage) (chip : Chip) (plan : Plan) (m : HasNoMixturePremises chip plan) where
  plan_image_has_first_byte : IsFirstByte plan.image.now
  plan_image_has_first_byte = image_has_first_byte plan.image.now (plan_image_is_filled chip plan m.for)

  pub image_start_has_byte : HasByte (image_start plan.image.now) plan.image.now
  image_start_has_byte = plan_image_has_first_byte.has

  pub image_start_is_first_byte : byte_in plan (image_start plan.image.now) (image_end plan.image.now) ≡ Some (image_start plan.image.now)
  image_start_is_first_byte = first_byte_is_next plan plan_image_has_first_byte

  -- Each address of the front lies on the front's page.
  pub front_address_on_first_page : (a : ℕ) → IsFrontAddress plan a → page_start plan a ≡ page_start plan (image_start plan.image.now)
  front_address_on_first_page a f =
      let h = image_byte_has_page plan (image_start plan.image.now) m.for.sound m.for.ranges image_start_has_byte in
      let ends = page_end_of_page plan (image_start plan.image.now) h.page h.on in
      let there = page_addresses_share_page one plan (image_start plan.image.now) a h.page m.for.ranges m.apart h.on (omega (
        arith,
        h.on.low,
        f.0,
      ))
      (omega (arith, f.1, front_ends_by_page_end plan, ends)) in
      page_start_of_page plan a h.page there ∙ sym (page_start_of_page plan (image_start plan.image.now) h.page h.on)

  -- Each byte of the image before the end of the front lies on the front's page.
  pub front_byte_on_first_page : (a : ℕ) → HasByte a plan.image.now → a < front_end plan →
      page_start plan a ≡ page_start plan (image_start plan.image.now)
  front_byte_on_first_page a has less = front_address_on_first_page a (
    image_byte_after_image_start a plan.image.now
        (plan_elements_are_apart chip plan m.for) has,
    less,
  )

  -- A byte of the image that doesn't lie on the front's page lies after the front.
  pub byte_off_page_is_after_front : (a : ℕ) → HasByte a plan.image.now → IsOffFrontPage plan a → front_end plan ≤ a
  byte_off_page_is_after_front a has other = elim (cases_lt a (front_end plan)) [
    | inl w ↦ absurd (other (front_byte_on_first_page a has w))
    | inr w ↦ w
  ]

  pub first_page_fits_32_bits : page_start plan (image_start plan.image.now) % 2 ^ 32 ≡ page_start plan (image_start plan.image.now)
  first_page_fits_32_bits =
      let h = image_byte_has_page plan (image_start plan.image.now) m.for.sound m.for.ranges image_start_has_byte in
      omega (arith, page_start_of_page plan (image_start plan.image.now) h.page h.on, h.on.low, h.on.fits)
