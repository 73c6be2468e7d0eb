use Rattle.std.proofs.Common.{List, subst}
use Rattle.dfu_slots.specs.Medium.{Write}
use Rattle.dfu_slots.specs.inside.Series.{Series}
use Rattle.dfu_slots.proofs.AllowedOperations.{may_carry_close}
use Rattle.dfu_slots.proofs.Sequences.{close_ops_make_writes}
use Rattle.dfu_slots.proofs.gates.close_gate.Goals as goal

pub carry_out-requires : goal.carry_out-requires
carry_out-requires g c = may_carry_close (g.M.Medium.state c.args.medium.now) c.args.slot _ _ _ c.requires.sized c.requires.within
    c.requires.place c.requires.sector

pub returns : goal.returns
returns g c =
    let m = g.M.Medium.state c.args.medium.now in
    subst (λ (ws : List Write). Series m ws c.carry_out.result (g.M.Medium.state c.carry_out.new.medium))
    (close_ops_make_writes m.grain _ _ _ c.args.slot) c.carry_out.ensures
