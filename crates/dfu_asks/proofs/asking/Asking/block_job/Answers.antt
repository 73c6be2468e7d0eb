use Rattle.std.proofs.Common.{◌≡◌, ⊎_elim, ◌==◌, ◌&&◌, not, Bool, false, if◌then◌else◌, ℕ, [], sym, ◌∙◌, ap}
use Rattle.std.proofs.lemmas.Bool.{ne_eqb, and_parts, eqb-true}
use Rattle.dfu_slots.specs.Layout.{OPEN}
use Rattle.dfu_slots.specs.Image.{gate_of, slot_of, spare_at}
use Rattle.dfu_slots.specs.StoreView.{is_begun}
use Rattle.dfu_asks.specs.declared.pending_writes.SlotWrite.TheVariants.{Block}
use Rattle.dfu_asks.specs.Lent.{lent}
use Rattle.dfu_asks.specs.Asks.{flash_store}
use Rattle.dfu_asks.proofs.CallResults.{equal_grains_make_equal_media}
use Rattle.dfu_asks.proofs.ImageNotes.{slot_beside_noted_is_spare, gate_open_exactly_if_not_begun}
use Rattle.dfu_asks.proofs.asking.Asking.block_job.Goals as goal

pub returns-then-written-eq0-clause-job : goal.returns-then-written-eq0-clause-job
returns-then-written-eq0-clause-job c = λ block held is before.
    let a = c.args.self.now in
    let flash = c.args.medium.now.bytes.now in
    let s = flash_store (lent a block held) flash in
    let n = c.args.written in
    let none : n ≡ 0 = c.if-written-eq0.true in
    let same = equal_grains_make_equal_media flash c.requires.unit c.requires.sector in
    let spare : c.args.view.now.spare ≡ spare_at (gate_of s.medium) s.medium.bytes =
    c.requires.view.spare ∙ slot_beside_noted_is_spare a.noted s.medium is.noted in
    let gate : c.is_open.result ≡ ((n == 0) && not (is_begun s)) =
    c.is_open.ensures ∙ (λ i. (slot_of (same i) (spare i)).gate == OPEN) ∙ gate_open_exactly_if_not_begun s
    ∙ ap (λ (k : ℕ). (k == 0) && not (is_begun s)) (sym none) in
    record {
      job_is = λ i. Block (spare i) (gate i);
      end_is = sym none;
      held_is = ap (λ (k : ℕ). if k == 0 then [] else s.held) (sym none);
    }

pub returns-clause-job : goal.returns-clause-job
returns-clause-job c = λ block held is before.
    let a = c.args.self.now in
    let s = flash_store (lent a block held) c.args.medium.now.bytes.now in
    let n = c.args.written in
    let some : (n == 0) ≡ false = ne_eqb n 0 c.if-written-eq0.false in
    let spare : c.args.view.now.spare ≡ spare_at (gate_of s.medium) s.medium.bytes =
    c.requires.view.spare ∙ slot_beside_noted_is_spare a.noted s.medium is.noted in
    record {
      job_is = λ i. Block (spare i) (sym some i && not (is_begun s));
      end_is = ⊎_elim (λ none. absurd (c.if-written-eq0.false none))
          (λ put. eqb-true _ _ (and_parts (is_begun s) (s.put_end == n) put).1) before;
      held_is = ap (λ (b : Bool). if b then [] else s.held) (sym some);
    }
