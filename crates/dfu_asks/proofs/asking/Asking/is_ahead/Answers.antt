use Rattle.std.proofs.Common.{◌≡◌, ◌+◌, ◌*◌, length, sym, ◌∙◌, ap, arith}
use Rattle.dfu_slots.specs.Image.{gate_of, spare_at}
use Rattle.dfu_slots.specs.StoreView.{data_place, held_data_place}
use Rattle.dfu_asks.specs.Lent.{lent}
use Rattle.dfu_asks.specs.Asks.{flash_store}
use Rattle.dfu_asks.proofs.CallResults.{equal_grains_make_equal_media}
use Rattle.dfu_asks.proofs.ImageNotes.{slot_beside_noted_is_spare}
use Rattle.dfu_asks.proofs.Room.{held_memory_has_held_length}
use Rattle.dfu_asks.proofs.asking.Asking.is_ahead.Goals as goal

pub returns : goal.returns
returns c = λ block held room is.
    let a = c.args.self.now in
    let l = lent a block held in
    let flash = c.args.medium.now.bytes.now in
    let s = flash_store l flash in
    let same = equal_grains_make_equal_media flash c.requires.unit c.requires.sector in
    let spare : c.args.view.now.spare ≡ spare_at (gate_of s.medium) s.medium.bytes =
    c.requires.view.spare ∙ slot_beside_noted_is_spare a.noted s.medium is.noted in
    let from : c.data_at.result ≡ spare_at (gate_of s.medium) s.medium.bytes + 2 * gate_of s.medium =
    omega (arith, c.data_at.ensures, spare, ap gate_of same) in
    let count : a.held_len ≡ length l.held =
    sym (held_memory_has_held_length a.unit a.held_len a.put_end held room is.store.puts.part) in
    let place : c.from.result ≡ data_place s (held_data_place s) = omega (arith, c.from.ensures, from, count) in
    c.is_erased_to_sector.ensures.1 (λ some p low high inside none.
    is.store.puts.ahead some p (omega (arith, low, place)) inside (λ q lo hi. none q (omega (arith, lo, place)) hi))
