use Rattle.std.proofs.Common.{◌≡◌, ℕ, List, length, replicate, sym, ◌∙◌, ap, subst}
use Rattle.dfu_slots.specs.declared.sequence.Sequence.TheVariants.{Put}
use Rattle.dfu_slots.specs.Medium.{Write, AllWrites, BrokenWrites}
use Rattle.dfu_slots.specs.Writes.{put_writes}
use Rattle.dfu_slots.specs.Operations.{ops_writes, held_from, operations}
use Rattle.dfu_slots.specs.inside.Carry.{MayCarryAll}
use Rattle.dfu_slots.proofs.AllowedOperations.{may_carry_put}
use Rattle.dfu_slots.proofs.Sequences.{put_ops_make_writes}
use Rattle.dfu_slots.proofs.puts.put_units.Given as given
use Rattle.dfu_slots.proofs.puts.put_units.Goals.{After-carry_out}
use Rattle.dfu_slots.proofs.puts.put_units.Goals as goal

-- The operations of this Put sequence make the writes of the put.
are : (g : given.Over) (c : goal.After-carry_out g) → let m = g.M.Medium.state c.args.medium.now in
    let block = c.args.bytes.now in
    let held = c.args.held.now.items in
    let front = c.as_slice-front.result.now in
    ops_writes m.grain.sector front block (replicate 16 0) (operations m.grain (Put c.args.slot c.args.end (length front) (length block)))
    ≡ put_writes m.grain (held_from m.grain c.args.slot c.args.end (length held)) held block
are g c =
    let m = g.M.Medium.state c.args.medium.now in
    let block = c.args.bytes.now in
    ap (λ (h : List ℕ). ops_writes m.grain.sector h block (replicate 16 0)
    (operations m.grain (Put c.args.slot c.args.end (length h) (length block)))) c.as_slice-front.ensures.value
    ∙ put_ops_make_writes m.grain c.args.held.now.items block (replicate 16 0) c.args.slot c.args.end

pub carry_out-requires : goal.carry_out-requires
carry_out-requires g c =
    let m = g.M.Medium.state c.args.medium.now in
    let block = c.args.bytes.now in
    let q = c.requires in
    subst (λ (h : List ℕ). MayCarryAll m h block (replicate 16 0)
    (operations m.grain (Put c.args.slot c.args.end (length h) (length block)))) (sym c.as_slice-front.ensures.value)
    (may_carry_put m c.args.slot c.args.end c.args.held.now.items block (replicate 16 0) q.sized q.part q.ahead q.within q.place)

pub returns-in-Err-clause-writes : goal.returns-in-Err-clause-writes
returns-in-Err-clause-writes g c = subst
    (λ (ws : List Write). BrokenWrites c.in-Err.fault (g.M.Medium.state c.args.medium.now) ws (g.M.Medium.state c.carry_out.new.medium))
    (are g (goal.at.returns-in-Err-clause-writes g c).After-carry_out) c.in-Err.ensures

pub returns-in-Ok-clause-writes : goal.returns-in-Ok-clause-writes
returns-in-Ok-clause-writes g c = subst
    (λ (ws : List Write). AllWrites (g.M.Medium.state c.args.medium.now) ws (g.M.Medium.state c.carry_out.new.medium))
    (are g (goal.at.returns-in-Ok-clause-writes g c).After-carry_out) c.in-Ok.ensures
