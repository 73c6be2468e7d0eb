-- While a session erases the first page, no request may change a byte outside the front's page. After the comparison, no request may change
-- a byte of the image outside that page. Before the end of the comparison, no request writes a byte of the front.
use Rattle.std.proofs.Common.{◌≡◌, ℕ, ◌%◌, ◌^◌, ◌<◌, ◌≤◌, inl, Bool, true, false, cond, eqb, refl, sym, ap, ◌∙◌, subst, arith}
use Rattle.std.proofs.lemmas.Bool.{eqb-true}
use Rattle.dfu_formats.specs.memory.Lookups.{AddressOnOnePage}
use Rattle.dfuse_host.specs.declared.plan.Plan.{Plan}
use Rattle.dfuse_host.specs.declared.work.Work.{Work}
use Rattle.dfuse_host.specs.declared.work.Work.TheVariants as work
use Rattle.dfuse_host.specs.declared.place.Place.{Place}
use Rattle.dfuse_host.specs.declared.place.Place.TheVariants as place
use Rattle.dfuse_host.specs.declared.step.Step.{Step}
use Rattle.dfuse_host.specs.declared.step.Step.TheVariants as step
use Rattle.dfuse_host.specs.Images.{image_start}
use Rattle.dfuse_host.specs.Plans.{page_start, front_end}
use Rattle.dfuse_host.specs.ReadBack.{HasByte}
use Rattle.dfuse_host.specs.Commands.{write_command}
use Rattle.dfuse_host.specs.Deeds.{command_deed, deed_of_step}
use Rattle.dfuse_host.proofs.ForCallers.{set_address, erase_page, write_bytes_at}
use Rattle.dfuse_link.specs.Chips.{Chip, Order, Device}
use Rattle.dfuse_link.specs.Fronts.{IsFrontAddress, IsOffFrontPage}
use Rattle.dfuse_link.proofs.Changes.{OrderMayChange}
use Rattle.dfuse_link.proofs.Claims.{KnowsPointer, DeviceFitsStep}
use Rattle.dfuse_link.proofs.SentClaims.{set_address_order, erase_command_order}
use Rattle.dfuse_link.proofs.Safe.{DeedLeavesByte, deed_leaves_read_byte}
use Rattle.dfuse_link.proofs.SessionTurns.{image_byte_below_address_end}
use Rattle.dfuse_link.proofs.Blanks.{OrderWritesNothingAt, DeedWritesNothingAt}
use Rattle.dfuse_link.proofs.FrontPages.{HasNoMixturePremises, image_start_has_byte, first_page_fits_32_bits, byte_off_page_is_after_front}
use Rattle.dfuse_link.proofs.Groups.{front_page_start, ErasesFirstPage, IsAfterComparison}

-- The work precedes the end of the comparison of the image after the front. If it writes, it writes a byte after the front.
abbrev pub IsBeforeComparison : Plan → Work → Type 0
IsBeforeComparison plan (work.Erase at) = Unit {0}
IsBeforeComparison plan (work.EraseAgain page end) = Unit {0}
IsBeforeComparison plan (work.Write at end) = HasByte at plan.image.now × (front_end plan ≤ at)
IsBeforeComparison plan (work.Compare at) = Unit {0}
IsBeforeComparison plan w = ⊥

module _ (one : AddressOnOnePage) (chip : Chip) (plan : Plan) (m : HasNoMixturePremises chip plan) (a : ℕ) where
  front_page_erase_leaves_byte : IsOffFrontPage plan a → (w : Work) (page pointer : ℕ) → page ≡ front_page_start plan →
      DeedLeavesByte chip a (command_deed plan w (erase_page page)) pointer
  front_page_erase_leaves_byte other w page pointer e = λ may.
      let erased : chip.erases (page % 2 ^ 32) a ≡ true =
      subst (λ (o : Order). OrderMayChange chip o a) (erase_command_order chip pointer page) may in
      let whole : page % 2 ^ 32 ≡ front_page_start plan = ap (λ (n : ℕ). n % 2 ^ 32) e ∙ first_page_fits_32_bits one chip plan m in
      let here : chip.erases (front_page_start plan) a ≡ true = subst (λ (n : ℕ). chip.erases n a ≡ true) whole erased in
      other (m.map (image_start plan.image.now) a (image_start_has_byte one chip plan m) here)

  first_erase_leaves_byte : IsOffFrontPage plan a → (p : Place) (s : Step) (pointer : ℕ) →
      DeedLeavesByte chip a (deed_of_step plan (work.Erase (image_start plan.image.now)) p s) pointer
  first_erase_leaves_byte other p step.Send pointer = front_page_erase_leaves_byte other (work.Erase (image_start plan.image.now))
      (front_page_start plan) pointer refl
  first_erase_leaves_byte other p step.Close pointer = λ may. omega (arith, may.0, may.1)
  first_erase_leaves_byte other p s pointer = tt

  pub erasing_leaves_other_page : IsOffFrontPage plan a → (w : Work) (p : Place) (s : Step) (d : Device) → ErasesFirstPage plan w →
      DeviceFitsStep chip plan w p s d →
      DeedLeavesByte chip a (deed_of_step plan w p s) d.pointer
  erasing_leaves_other_page other w p s d e k =
      subst (λ (v : Work). DeedLeavesByte chip a (deed_of_step plan v p s) d.pointer) (sym e) (first_erase_leaves_byte other p s d.pointer)

  erase_again_leaves_byte : IsOffFrontPage plan a → (page end : ℕ) (p : Place) (s : Step) (pointer : ℕ) → page ≡ front_page_start plan →
      DeedLeavesByte chip a (deed_of_step plan (work.EraseAgain page end) p s) pointer
  erase_again_leaves_byte other page end p step.Send pointer e = front_page_erase_leaves_byte other (work.EraseAgain page end) page pointer
      e
  erase_again_leaves_byte other page end p step.Close pointer e = λ may. omega (arith, may.0, may.1)
  erase_again_leaves_byte other page end p s pointer e = tt

  pub later_work_leaves_other_page : IsOffFrontPage plan a → HasByte a plan.image.now → (w : Work) (p : Place) (s : Step) (d : Device) →
      IsAfterComparison plan w →
      DeviceFitsStep chip plan w p s d → DeedLeavesByte chip a (deed_of_step plan w p s) d.pointer
  later_work_leaves_other_page other has (work.EraseAgain page end) p s d g k = erase_again_leaves_byte other page end p s d.pointer g
  later_work_leaves_other_page other has (work.WriteFront at) p s d g k =
      deed_leaves_read_byte chip plan a (work.WriteFront at) p s d (byte_off_page_is_after_front one chip plan m a has other) k
  later_work_leaves_other_page other has (work.CompareFront at) p s d g k =
      deed_leaves_read_byte chip plan a (work.CompareFront at) p s d (inl (byte_off_page_is_after_front one chip plan m a has other)) k
  later_work_leaves_other_page other has work.Leave p s d g k = deed_leaves_read_byte chip plan a work.Leave p s d tt k
  later_work_leaves_other_page other has w p s d g k = absurd g

  erase_writes_nothing : (w : Work) (page pointer : ℕ) → DeedWritesNothingAt chip a (command_deed plan w (erase_page page)) pointer
  erase_writes_nothing w page pointer = subst (OrderWritesNothingAt chip a) (sym (erase_command_order chip pointer page)) tt

  set_address_writes_nothing : (w : Work) (at pointer : ℕ) → DeedWritesNothingAt chip a (command_deed plan w (set_address at)) pointer
  set_address_writes_nothing w at pointer = subst (OrderWritesNothingAt chip a) (sym (set_address_order chip pointer at)) (λ x. x)

  later_write_spares_front : IsFrontAddress plan a → (at end pointer : ℕ) → HasByte at plan.image.now → front_end plan ≤ at → pointer
      ≡ at % 2 ^ 32 →
      DeedWritesNothingAt chip a (command_deed plan (work.Write at end) (write_bytes_at at)) pointer
  later_write_spares_front f at end pointer has low k = λ may.
      let fits : at < 2 ^ 32 = image_byte_below_address_end chip plan at m.for has in
      omega (arith, may.0, k, fits, low, f.1)

  write_command_by_pointer_test : IsFrontAddress plan a → (x at end pointer : ℕ) (t : Bool) → eqb x at ≡ t → pointer ≡ x % 2 ^ 32 →
      HasByte at plan.image.now →
      front_end plan ≤ at → DeedWritesNothingAt chip a (command_deed plan (work.Write at end) (cond t (write_bytes_at at) (set_address
      at))) pointer
  write_command_by_pointer_test f x at end pointer true e k has low =
      later_write_spares_front f at end pointer has low (k ∙ ap (λ (n : ℕ). n % 2 ^ 32) (eqb-true x at e))
  write_command_by_pointer_test f x at end pointer false e k has low = set_address_writes_nothing (work.Write at end) at pointer

  write_command_spares_front : IsFrontAddress plan a → (p : Place) (at end pointer : ℕ) → KnowsPointer p pointer →
      HasByte at plan.image.now →
      front_end plan ≤ at → DeedWritesNothingAt chip a (command_deed plan (work.Write at end) (write_command p at)) pointer
  write_command_spares_front f place.Lost at end pointer k has low = set_address_writes_nothing (work.Write at end) at pointer
  write_command_spares_front f (place.At x) at end pointer k has low = write_command_by_pointer_test f x at end pointer (eqb x at) refl k
      has low
  write_command_spares_front f (place.Reading x) at end pointer k has low = set_address_writes_nothing (work.Write at end) at pointer

  send_spares_front : IsFrontAddress plan a → (w : Work) (p : Place) (pointer : ℕ) → IsBeforeComparison plan w → KnowsPointer p pointer →
      DeedWritesNothingAt chip a (deed_of_step plan w p step.Send) pointer
  send_spares_front f (work.Erase at) p pointer b k = erase_writes_nothing (work.Erase at) (page_start plan at) pointer
  send_spares_front f (work.EraseAgain page end) p pointer b k = erase_writes_nothing (work.EraseAgain page end) page pointer
  send_spares_front f (work.Write at end) p pointer b k = write_command_spares_front f p at end pointer k b.0 b.1
  send_spares_front f (work.Compare at) p pointer b k = set_address_writes_nothing (work.Compare at) at pointer
  send_spares_front f w p pointer b k = absurd b

  pub early_deed_spares_front : IsFrontAddress plan a → (w : Work) (p : Place) (s : Step) (d : Device) → IsBeforeComparison plan w →
      DeviceFitsStep chip plan w p s d →
      DeedWritesNothingAt chip a (deed_of_step plan w p s) d.pointer
  early_deed_spares_front f w p step.Send d b k = send_spares_front f w p d.pointer b k.1
  early_deed_spares_front f w p step.Close d b k = λ may. omega (arith, may.0, may.1)
  early_deed_spares_front f w p s d b k = tt
