use Rattle.dfu_slots.specs.StoreView.{SlotsState, store_of}
use Rattle.dfu_slots.proofs.AfterPut.{put_keeps_places}
use Rattle.dfu_slots.proofs.slots.Slots.put.Goals as goal

pub invariant_of-self : goal.invariant_of-self
invariant_of-self g c =
    let now : SlotsState = store_of (g.M.Medium.state c.put.new.medium) c.put.new.puts.held.items c.put.new.puts.end in
    let left = c.put.ensures in
    (put_keeps_places c.self.view_is c.self.invariant now c.args.at c.args.bytes.now c.requires.place c.put.result left.not_begun
    left.too_large
    left.changes).0

pub returns : goal.returns
returns g c =
    let now : SlotsState = store_of (g.M.Medium.state c.put.new.medium) c.put.new.puts.held.items c.put.new.puts.end in
    let left = c.put.ensures in
    (put_keeps_places c.self.view_is c.self.invariant now c.args.at c.args.bytes.now c.requires.place c.put.result left.not_begun
    left.too_large
    left.changes).1
