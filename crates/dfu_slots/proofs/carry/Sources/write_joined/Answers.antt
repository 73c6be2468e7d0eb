use Rattle.std.proofs.Common.{◌≤◌, List, ℕ, length, sym, subst, arith}
use Rattle.dfu_slots.specs.Writes.{write_some}
use Rattle.dfu_slots.specs.inside.Series.{Series}
use Rattle.dfu_slots.proofs.Ranges.{range_within_block}
use Rattle.dfu_slots.proofs.carry.Sources.write_joined.Goals as goal

pub returns : goal.returns
returns g c =
    let m = g.M.Medium.state c.args.medium.now in
    let low : length c.args.self.held.now ≤ c.args.skip = omega (arith, c.if-skip-held.false) in
    subst (λ (l : List ℕ). Series m (write_some m.grain.sector c.args.at l) c.write_some.result (g.M.Medium.state c.write_some.new.medium))
    (sym (range_within_block c.args.self.held.now c.args.self.block.now c.args.skip c.args.len low (c.requires.hand.0 low)))
    c.write_some.ensures
