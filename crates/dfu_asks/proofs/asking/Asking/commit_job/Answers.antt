use Rattle.std.proofs.Common.{◌≡◌, ℕ, ◌+◌, ◌-◌, ◌*◌, ◌%◌, List, ◌++◌, length, take, slice_index, slice_range, refl, sym, ◌∙◌, ap, arith}
use Rattle.dfu_suffix.specs.Register.{register}
use Rattle.dfu_slots.specs.Layout.{generation, next_generation}
use Rattle.dfu_slots.specs.Image.{gate_of, spare_at}
use Rattle.dfu_slots.specs.StoreView.{spare_of, active_slot}
use Rattle.dfu_asks.specs.Lent.{lent}
use Rattle.dfu_asks.specs.Asks.{flash_store}
use Rattle.dfu_asks.specs.declared.pending_writes.SlotWrite.TheVariants.{Commit}
use Rattle.dfu_asks.proofs.CallResults.{equal_grains_make_equal_media}
use Rattle.dfu_asks.proofs.ImageNotes.{slot_beside_noted_is_spare}
use Rattle.dfu_asks.proofs.Room.{held_memory_has_held_length}
use Rattle.dfu_device.proofs.Candidates.{put_bytes_are_medium_and_held}
use Rattle.dfu_asks.proofs.asking.Asking.commit_job.Goals as goal

pub returns : goal.returns
returns c = λ block is.
    let a = c.args.self.now in
    let l = lent a block c.args.held.now in
    let flash = c.args.medium.now.bytes.now in
    let s = flash_store l flash in
    let same = equal_grains_make_equal_media flash c.requires.unit c.requires.sector in
    let spare : c.args.view.now.spare ≡ spare_at (gate_of s.medium) s.medium.bytes =
    c.requires.view.spare ∙ slot_beside_noted_is_spare a.noted s.medium is.noted in
    let gen : (slice_index a.noted.header 0 + 1) % 256 ≡ next_generation (generation (active_slot s)) =
    ap (λ (h : List ℕ). (slice_index h 0 + 1) % 256) is.noted.header in
    let from : c.data_at-from.result ≡ spare_at (gate_of s.medium) s.medium.bytes + 2 * gate_of s.medium =
    omega (arith, c.data_at-from.ensures, spare, ap gate_of same) in
    let held : a.held_len ≡ length l.held =
    sym (held_memory_has_held_length a.unit a.held_len a.put_end c.args.held.now c.requires.memory is.store.puts.part) in
    let size : a.put_end - a.held_len ≡ s.put_end - length s.held = omega (arith, held) in
    let reg : c.register_of.result ≡ register (take s.put_end (spare_of s)) = c.register_of.ensures
    ∙ (λ i. register (slice_range flash (from i) (from i + size i) ++ c.held_in.ensures.bytes i))
    ∙ ap register (sym (put_bytes_are_medium_and_held s is.store)) in
    record { job_is = λ i. Commit (spare i) (gen i) (reg i); end_is = refl; held_is = refl }
