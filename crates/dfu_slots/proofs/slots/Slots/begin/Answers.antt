use Rattle.dfu_slots.specs.StoreView.{SlotsState, store_of}
use Rattle.dfu_slots.proofs.AfterBegin.{begin_keeps_places}
use Rattle.dfu_slots.proofs.slots.Slots.begin.Goals as goal

pub invariant_of-self : goal.invariant_of-self
invariant_of-self g c =
    let now : SlotsState = store_of (g.M.Medium.state c.begin.new.medium) c.begin.new.puts.held.items c.begin.new.puts.end in
    (begin_keeps_places c.self.view_is c.self.invariant now c.begin.result c.begin.ensures.fault c.begin.ensures.changes).0

pub returns : goal.returns
returns g c =
    let now : SlotsState = store_of (g.M.Medium.state c.begin.new.medium) c.begin.new.puts.held.items c.begin.new.puts.end in
    (begin_keeps_places c.self.view_is c.self.invariant now c.begin.result c.begin.ensures.fault c.begin.ensures.changes).1
