-- Requests of a session may change only bytes on pages of the image.
use Rattle.std.proofs.Common.{◌≡◌, ℕ, ◌-◌, ◌%◌, ◌^◌, ◌<◌, ◌≤◌, Bool, true, false, cond, eqb, ltb, List, [], ◌∷◌, Option, Some, None, refl, sym, ap, ◌∙◌, subst, arith}
use Rattle.std.specs.Option.{option_map}
use Rattle.std.proofs.lemmas.Bool.{eqb-true}
use Rattle.std.proofs.lemmas.Bool.Decides.{nat_tests}
use Rattle.std.proofs.Math.Nat.{div-mul-le_self}
use Rattle.dfu_formats.specs.declared.memory.pages.Pages.{Pages}
use Rattle.dfu_formats.specs.memory.Lookups.{range_has, range_at, page_in}
use Rattle.dfuse_host.specs.declared.plan.Plan.{Plan}
use Rattle.dfuse_host.specs.declared.work.Work.{Work}
use Rattle.dfuse_host.specs.declared.work.Work.TheVariants as work
use Rattle.dfuse_host.specs.declared.place.Place.{Place}
use Rattle.dfuse_host.specs.declared.place.Place.TheVariants as place
use Rattle.dfuse_host.specs.declared.step.Step.{Step}
use Rattle.dfuse_host.specs.declared.step.Step.TheVariants as step
use Rattle.dfuse_host.specs.Plans.{page_of, page_start, write_end}
use Rattle.dfuse_host.specs.Commands.{write_command, command_of, end_of_work}
use Rattle.dfuse_host.specs.Deeds.{command_deed, deed_of_step}
use Rattle.dfuse_host.specs.ReadBack.{HasByte}
use Rattle.dfuse_host.specs.Touching.{IsTouchedPage, WorkTouchesImage, ChangesOnlyImagePages, OnlyTouchedPagesChange}
use Rattle.dfuse_host.proofs.ForCallers.{AnyCommand, commands_have_fact, set_address, erase_page, write_bytes_at}
use Rattle.dfuse_link.specs.Chips.{Chip, Order, Device}
use Rattle.dfuse_link.specs.Promises.{IsPlanFor}
use Rattle.dfuse_link.specs.Touched.{IsTrueMap}
use Rattle.dfuse_link.proofs.Changes.{OrderMayChange}
use Rattle.dfuse_link.proofs.Claims.{KnowsPointer, DeviceFitsStep}
use Rattle.dfuse_link.proofs.SentClaims.{erase_command_order}
use Rattle.dfuse_link.proofs.Safe.{DeedLeavesByte, set_address_leaves_byte, bytes_in_within_range}
use Rattle.dfuse_link.proofs.SessionTurns.{image_byte_below_address_end}

-- A page begins at or before each of its addresses.

range_begins_by_test : (a : ℕ) (p q : Pages) (ps : List Pages) (t : Bool) → range_has a p ≡ t → (range_at a ps ≡ Some q → q.start ≤ a) →
    cond t (Some p) (range_at a ps) ≡ Some q → q.start ≤ a
range_begins_by_test a p q ps true h rest e =
    let same : p ≡ q = cc in
    let low : p.start ≤ a = grind (arith, nat_tests) in
    subst (λ (x : Pages). x.start ≤ a) same low
range_begins_by_test a p q ps false h rest e = rest e

range_begins_by_address : (a : ℕ) (q : Pages) (ps : List Pages) → range_at a ps ≡ Some q → q.start ≤ a
unfolding range_at
range_begins_by_address a q [] e = cc
range_begins_by_address a q (p ∷ ps) e = range_begins_by_test a p q ps (range_has a p) refl (range_begins_by_address a q ps) e

page_of_range_begins_by_address : (a : ℕ) (o : Option Pages) → ((q : Pages) → o ≡ Some q → q.start ≤ a) →
    elim (option_map (page_in a) o) as (λ _. ℕ) [ None ↦ a | Some page ↦ page.start ] ≤ a
page_of_range_begins_by_address a None low = omega arith
page_of_range_begins_by_address a (Some q) low = omega (arith, low q refl, div-mul-le_self (a - q.start) q.size)

page_begins_by_test : (a : ℕ) (o : Option Pages) (t : Bool) → ((q : Pages) → o ≡ Some q → q.start ≤ a) →
    elim (cond t (option_map (page_in a) o) None) as (λ _. ℕ) [ None ↦ a | Some page ↦ page.start ] ≤ a
page_begins_by_test a o true low = page_of_range_begins_by_address a o low
page_begins_by_test a o false low = omega arith

page_begins_by_address : (plan : Plan) (a : ℕ) → page_start plan a ≤ a
unfolding page_of
page_begins_by_address plan a = page_begins_by_test a (range_at a plan.map.now.ranges) (ltb a (2 ^ 32)) (λ q e. range_begins_by_address a q
    plan.map.now.ranges e)

-- If the command writes bytes, the pointer is set to the address of the first one.
abbrev PointerSetForWrite : AnyCommand → (pointer : ℕ) → Type 0
PointerSetForWrite c pointer = commands_have_fact (λ _. Type 0) (λ at. Unit {0}) (λ at. Unit {0}) (λ at. pointer ≡ at % 2 ^ 32) c

pointer_set_by_test : (p at pointer : ℕ) (t : Bool) → eqb p at ≡ t → pointer ≡ p % 2 ^ 32 →
    PointerSetForWrite (cond t (write_bytes_at at) (set_address at)) pointer
pointer_set_by_test p at pointer true e k = k ∙ ap (λ (n : ℕ). n % 2 ^ 32) (eqb-true p at e)
pointer_set_by_test p at pointer false e k = tt

write_command_has_pointer : (p : Place) (at pointer : ℕ) → KnowsPointer p pointer → PointerSetForWrite (write_command p at) pointer
write_command_has_pointer place.Lost at pointer k = tt
write_command_has_pointer (place.At p) at pointer k = pointer_set_by_test p at pointer (eqb p at) refl k
write_command_has_pointer (place.Reading p) at pointer k = tt

work_command_has_pointer : (plan : Plan) (w : Work) (p : Place) (pointer : ℕ) → KnowsPointer p pointer →
    PointerSetForWrite (command_of plan w p) pointer
work_command_has_pointer plan (work.Erase at) p pointer k = tt
work_command_has_pointer plan (work.EraseAgain page end) p pointer k = tt
work_command_has_pointer plan (work.Write at end) p pointer k = write_command_has_pointer p at pointer k
work_command_has_pointer plan (work.Compare at) p pointer k = tt
work_command_has_pointer plan (work.WriteFront at) p pointer k = write_command_has_pointer p at pointer k
work_command_has_pointer plan (work.CompareFront at) p pointer k = tt
work_command_has_pointer plan work.Leave p pointer k = tt

-- The page of the address `a` has no byte of the image, and the map is true of the image's pages.
pub record IsOnOtherPage (chip : Chip) (plan : Plan) (a : ℕ) : Type 0 where
  pub page_is_untouched : IsTouchedPage plan (page_start plan a) → ⊥
  pub map : IsTrueMap chip plan

module _ (chip : Chip) (plan : Plan) (a : ℕ) (apart : IsOnOtherPage chip plan a) (for : IsPlanFor chip plan) (pointer : ℕ) where
  erase_leaves_other_page : (w : Work) (page : ℕ) → IsTouchedPage plan page →
      DeedLeavesByte chip a (command_deed plan w (erase_page page)) pointer
  erase_leaves_other_page w page t = λ may.
      let fits : page < 2 ^ 32 = omega (
        arith,
        t.is,
        page_begins_by_address plan t.byte,
        image_byte_below_address_end chip plan t.byte for
            t.has,
      ) in
      let whole : page % 2 ^ 32 ≡ page = omega (arith, fits) in
      let order = erase_command_order chip pointer page in
      let erased : chip.erases (page % 2 ^ 32) a ≡ true = subst (λ (o : Order). OrderMayChange chip o a) order may in
      let here : chip.erases (page_start plan t.byte) a ≡ true = subst (λ (n : ℕ). chip.erases n a ≡ true) (whole ∙ sym t.is) erased in
      apart.page_is_untouched (record { byte = t.byte; has = t.has; is = sym (apart.map t.byte a t.has here) })

  write_leaves_other_page : (w : Work) (at : ℕ) → ((x : ℕ) → at ≤ x → x < write_end plan at (end_of_work plan w) →
      HasByte x plan.image.now) →
      pointer ≡ at % 2 ^ 32 → DeedLeavesByte chip a (command_deed plan w (write_bytes_at at)) pointer
  write_leaves_other_page w at bytes k = λ may.
      let short = bytes_in_within_range chip plan a pointer at (write_end plan at (end_of_work plan w)) in
      let some : at < write_end plan at (end_of_work plan w) = omega (arith, may.0, may.1, short) in
      let fits : at < 2 ^ 32 = image_byte_below_address_end chip plan at for (bytes at (omega arith) some) in
      let low : at ≤ a = omega (arith, may.0, k, fits) in
      let high : a < write_end plan at (end_of_work plan w) = omega (arith, may.1, k, fits, short, some) in
      apart.page_is_untouched (record { byte = a; has = bytes a low high; is = refl })

  command_leaves_other_page : (w : Work) (c : AnyCommand) → ChangesOnlyImagePages plan (end_of_work plan w) c →
      PointerSetForWrite c pointer →
      DeedLeavesByte chip a (command_deed plan w c) pointer
  command_leaves_other_page w c =
      commands_have_fact (λ v. ChangesOnlyImagePages plan (end_of_work plan w) v → PointerSetForWrite v pointer
      → DeedLeavesByte chip a (command_deed plan w v) pointer)
      (λ at only k. set_address_leaves_byte chip plan a pointer w at) (λ page only k. erase_leaves_other_page w page only)
      (λ at only k. write_leaves_other_page w at (λ x low high. (only x low high).0) k) c

-- No request of a session may change a byte on a page without a byte of the image.
pub step_leaves_other_page : (only : OnlyTouchedPagesChange) (chip : Chip) (plan : Plan) (a : ℕ) → IsOnOtherPage chip plan a →
    IsPlanFor chip plan →
    (w : Work) (p : Place) (s : Step)
    (d : Device) → WorkTouchesImage plan w → DeviceFitsStep chip plan w p s d → DeedLeavesByte chip a (deed_of_step plan w p s) d.pointer
step_leaves_other_page only chip plan a apart for w p step.Send d touches k =
    command_leaves_other_page chip plan a apart for d.pointer w (command_of plan w p) (only plan w p touches) (work_command_has_pointer
    plan w p d.pointer k.1)
step_leaves_other_page only chip plan a apart for w p step.Close d touches k = λ may. omega (arith, may.0, may.1)
step_leaves_other_page only chip plan a apart for w p s d touches k = tt
