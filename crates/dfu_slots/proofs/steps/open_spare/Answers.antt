use Rattle.std.proofs.Common.{ℕ, sym, subst}
use Rattle.dfu_slots.proofs.Sectors.{IsSectorEdge}
use Rattle.dfu_slots.proofs.Edges.{spare_begins_at_edge}
use Rattle.dfu_slots.proofs.SpareOpening.{held_bytes_within_medium, spare_opened_by_commit}
use Rattle.dfu_slots.proofs.steps.open_spare.Goals as goal

pub open_slot-requires-clause-sector : goal.open_slot-requires-clause-sector
open_slot-requires-clause-sector g c =
    let m = g.M.Medium.state c.args.medium.now in
    subst (λ (n : ℕ). IsSectorEdge m.grain.sector n) (sym c.requires.spare) (spare_begins_at_edge m c.requires.sized)

pub open_slot-requires-clause-within : goal.open_slot-requires-clause-within
open_slot-requires-clause-within g c = held_bytes_within_medium (g.M.Medium.state c.args.medium.now) c.args.puts.now.held.items
    c.args.puts.now.end
    c.requires.sized c.requires.puts c.requires.spare c.as_slice-held.ensures.value

pub returns : goal.returns
returns g c = spare_opened_by_commit (g.M.Medium.state c.args.medium.now) c.args.puts.now.held.items c.args.puts.now.end
    c.requires.sized c.requires.puts c.requires.spare c.as_slice-held.ensures.value (g.M.Medium.state c.open_slot.new.medium)
    c.open_slot.result c.args.places.active c.generation-next.result c.args.len c.register_of_put-register.result c.requires.active
    c.generation-next.ensures c.register_of_put-register.ensures
    (c.open_slot.ensures _ c.args.len c.register_of_put-register.result c.make_header-head.ensures)
