use Rattle.std.proofs.Common.{◌≡◌, ℕ, ◌+◌, ◌-◌, ◌*◌, ◌%◌, ◌≤◌, length, Option, Some, refl, sym, ◌∙◌, ap, subst, arith}
use Rattle.dfu_slots.specs.Medium.{MediumState}
use Rattle.dfu_slots.specs.Image.{gate_of, spare_at, capacity_of}
use Rattle.dfu_slots.proofs.VisibleStores.{room_is_capacity}
use Rattle.dfu_device.specs.Candidate.{candidate_length}
use Rattle.dfu_device.proofs.Candidates.{IsPutLength, candidate_length_was_put, candidate_is}
use Rattle.dfu_asks.specs.Lent.{lent}
use Rattle.dfu_asks.specs.Asks.{flash_store, device_in}
use Rattle.dfu_asks.specs.Noted.{NotedIsOnFlash, other_slot_place}
use Rattle.dfu_asks.proofs.CallResults.{no_work_if_is_some_is_false}
use Rattle.dfu_asks.proofs.ImageNotes.{slot_beside_noted_is_spare}
use Rattle.dfu_asks.proofs.asking.Asking.candidate.Goals as goal

-- The length of a candidate is at most the room for an image.
pub returns-then-len-view-clause-refused : goal.returns-then-len-view-clause-refused
returns-then-len-view-clause-refused c block held =
    let a = c.args.self.now in
    let l = lent a block held in
    let s = flash_store l c.args.flash.now in
    let med = c.in-Some.ensures.some in
    let len : candidate_length a.mode ≡ Some c.in-Some-candidate_len.len = sym c.candidate_len.ensures ∙ c.in-Some-candidate_len.is in (
      no_work_if_is_some_is_false a.work (sym c.is_some.ensures ∙ c.if-is_some.false),
      omega arith,
      subst (λ (x : MediumState). NotedIsOnFlash a.noted x) med c.in-Some-look.ensures.stands,
      λ kept.
          let n = c.in-Some-candidate_len.len in
          let fits : n ≤ capacity_of s.medium = subst (λ (k : ℕ). n ≤ k) (room_is_capacity s)
          (subst (λ (o : Option ℕ). IsPutLength o s) len (candidate_length_was_put a.mode (length l.block) s kept.is.sound)).1 in
          omega (arith, fits, c.if-len-view.true, c.in-Some-look.ensures.view.room, ap (λ (x : MediumState). capacity_of x) med),
    )

pub returns-clause-some : goal.returns-clause-some
returns-clause-some c block held kept =
    let a = c.args.self.now in
    let l = lent a block held in
    let s = flash_store l c.args.flash.now in
    let med = c.in-Some.ensures.some in
    let spare : c.in-Some-look.view.spare ≡ spare_at (gate_of s.medium) s.medium.bytes =
    c.in-Some-look.ensures.view.spare ∙ ap (λ (x : MediumState). other_slot_place a.noted x.bytes) med
    ∙ slot_beside_noted_is_spare a.noted s.medium kept.is.noted in
    candidate_is (device_in l c.args.flash.now) a.mode l.block _ c.in-Some-candidate_len.len refl kept.is.sound kept.is.store
    (sym c.candidate_len.ensures ∙ c.in-Some-candidate_len.is) (c.data_at.ensures ∙ (λ i. spare i + 2 * gate_of (med i)))
    (ap (λ (n : ℕ). c.in-Some-candidate_len.len - c.in-Some-candidate_len.len % n) c.size.ensures.value)
