use Rattle.std.proofs.Common.{◌≡◌, ◌≤◌, ◌%◌, ◌==◌, not, IsTrue, ℕ, length, sym, ◌∙◌, ap, subst, refl, arith}
use Rattle.dfu_slots.specs.Units.{unit_size}
use Rattle.std.proofs.lemmas.List.{length-take-le}
use Rattle.dfu_slots.specs.Layout.{OPEN}
use Rattle.dfu_slots.specs.Image.{gate_of, slot_of, spare_at}
use Rattle.dfu_slots.proofs.VisibleStores.{room_is_capacity}
use Rattle.dfu_device.specs.Parts.{is_filled}
use Rattle.dfu_device.proofs.PlanRows.{parts_have_mode_bytes}
use Rattle.dfu_asks.specs.Lent.{lent}
use Rattle.dfu_asks.specs.Asks.{flash_store}
use Rattle.dfu_asks.proofs.CallResults.{not_true_if_false, equal_grains_make_equal_media}
use Rattle.dfu_asks.proofs.ImageNotes.{slot_beside_noted_is_spare, begun_exactly_if_gate_closed}
use Rattle.dfu_asks.proofs.Room.{held_memory_has_held_length}
use Rattle.dfu_asks.proofs.asking.Asking.kept_fields_fit.Goals as goal

pub returns-then-not-puts_may_end_at-clause-kept : goal.returns-then-not-puts_may_end_at-clause-kept
returns-then-not-puts_may_end_at-clause-kept c = λ block held room size kept.
    let a = c.args.self.now in
    let l = lent a block held in
    let s = flash_store l c.args.medium.now.bytes.now in
    let puts = kept.is.store.puts in
    let count : length l.held ≡ a.held_len = held_memory_has_held_length a.unit a.held_len a.put_end held size puts.part in
    let fits : a.put_end ≤ c.args.view.now.room = omega (arith, puts.fits, c.requires.view.room) in
    let part : a.held_len ≡ a.put_end % unit_size a.unit = sym count ∙ puts.part in
    absurd (not_true_if_false c.puts_may_end_at.result c.if-not-puts_may_end_at.true (c.puts_may_end_at.ensures.1 (fits, part)))

pub returns-clause-kept : goal.returns-clause-kept
returns-clause-kept c = λ block held room size kept.
    let a = c.args.self.now in
    let l = lent a block held in
    let s = flash_store l c.args.medium.now.bytes.now in
    let same = equal_grains_make_equal_media c.args.medium.now.bytes.now c.requires.unit c.requires.sector in
    let there : c.args.view.now.spare ≡ spare_at (gate_of s.medium) s.medium.bytes =
    c.requires.view.spare ∙ slot_beside_noted_is_spare a.noted s.medium kept.is.noted in
    let gate : c.is_open.result ≡ ((slot_of s.medium (spare_at (gate_of s.medium) s.medium.bytes)).gate == OPEN) =
    c.is_open.ensures ∙ (λ i. (slot_of (same i) (there i)).gate == OPEN) in
    let count : length l.block ≡ a.block_len = length-take-le a.block_len block kept.fits.block in
    let is : c.is_filled.result ≡ is_filled a.mode a.block_len s =
    c.is_filled.ensures s (c.requires.view.room ∙ sym (room_is_capacity s)) (ap not gate ∙ begun_exactly_if_gate_closed s) refl in
    subst IsTrue (sym is) (subst (λ (n : ℕ). IsTrue (is_filled a.mode n s)) count
    (parts_have_mode_bytes a.mode (length l.block) s kept.is.sound))
