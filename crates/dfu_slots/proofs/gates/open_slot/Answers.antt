use Rattle.std.proofs.Common.{List, [], subst}
use Rattle.dfu_slots.specs.Medium.{Write}
use Rattle.dfu_slots.specs.inside.Series.{Series}
use Rattle.dfu_slots.proofs.AllowedOperations.{may_carry_commit}
use Rattle.dfu_slots.proofs.Sequences.{commit_ops_make_writes}
use Rattle.dfu_slots.proofs.gates.open_slot.Goals as goal

pub carry_out-requires : goal.carry_out-requires
carry_out-requires g c =
    let q = c.requires in
    may_carry_commit (g.M.Medium.state c.args.medium.now) c.args.slot c.args.end c.args.held.now c.args.head.now q.sized q.slot q.place
    q.sector
    q.few q.ahead q.within q.whole

pub returns : goal.returns
returns g c = λ gen len crc is.
    let m = g.M.Medium.state c.args.medium.now in
    subst (λ (ws : List Write). Series m ws c.carry_out.result (g.M.Medium.state c.carry_out.new.medium))
    (commit_ops_make_writes m.grain c.args.held.now [] c.args.head.now c.args.slot c.args.end gen len crc c.requires.few is)
    c.carry_out.ensures
