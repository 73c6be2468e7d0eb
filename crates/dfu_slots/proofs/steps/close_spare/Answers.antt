use Rattle.std.proofs.Common.{ℕ, sym, subst}
use Rattle.dfu_slots.proofs.Sectors.{IsSectorEdge}
use Rattle.dfu_slots.proofs.Edges.{spare_begins_at_edge}
use Rattle.dfu_slots.proofs.steps.close_spare.Goals as goal

pub close_gate-requires-clause-sector : goal.close_gate-requires-clause-sector
close_gate-requires-clause-sector g c =
    let m = g.M.Medium.state c.args.medium.now in
    subst (λ (n : ℕ). IsSectorEdge m.grain.sector n) (sym c.requires.spare) (spare_begins_at_edge m c.requires.sized)
