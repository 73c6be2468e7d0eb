use Rattle.std.proofs.Common.{ℕ, ◌/◌, sym, ap, subst}
use Rattle.dfu_slots.proofs.Stands.{sized_medium_has_two_slots}
use Rattle.dfu_slots.proofs.Sectors.{IsSectorEdge}
use Rattle.dfu_slots.proofs.Edges.{second_slot_begins_sector}
use Rattle.dfu_slots.proofs.format.close_gates.Goals as goal

pub close_gate-requires-clause-sector : goal.close_gate-requires-clause-sector
close_gate-requires-clause-sector g c =
    let m = g.M.Medium.state c.args.medium.now in
    subst (λ (n : ℕ). IsSectorEdge m.grain.sector n) (sym (ap (λ (n : ℕ). n / 2) c.len-second.ensures))
    (second_slot_begins_sector m.grain m.bytes (sized_medium_has_two_slots m c.requires) c.requires.whole)
