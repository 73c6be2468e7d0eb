use Rattle.std.proofs.Common.{◌≡◌, ◌∙◌, sym, ap}
use Rattle.dfu_slots.specs.Units.{Grain}
use Rattle.dfu_slots.specs.Operations.{op_at, operations}
use Rattle.dfu_slots.proofs.SuccessiveOperations.{next_op_may_be_carried, next_op_carried, next_op_broke_off}
use Rattle.dfu_slots.proofs.carry.Sources.carry_out.Goals as goal

pub carry_op-requires : goal.carry_op-requires
carry_op-requires g c =
    let m = g.M.Medium.state c.args.medium.now in
    let grain : record { unit = c.unit-unit.result; sector = c.sector-sector.result } ≡ m.grain =
    λ i. record { unit = c.unit-unit.ensures i; sector = c.sector-sector.ensures i } in
    next_op_may_be_carried c.loop-index.invariant c.in-Some.op
    (ap (λ (w : Grain). op_at (operations w c.args.sequence) c.loop-index.index) (sym grain) ∙ sym c.operation.ensures.value ∙ c.in-Some.is)

pub returns-in-Err : goal.returns-in-Err
returns-in-Err g c =
    let m = g.M.Medium.state c.args.medium.now in
    let grain : record { unit = c.unit-unit.result; sector = c.sector-sector.result } ≡ m.grain =
    λ i. record { unit = c.unit-unit.ensures i; sector = c.sector-sector.ensures i } in
    next_op_broke_off c.loop-index.invariant c.in-Some.op (g.M.Medium.state c.carry_op.new.medium) c.in-Err.fault
    (ap (λ (w : Grain). op_at (operations w c.args.sequence) c.loop-index.index) (sym grain) ∙ sym c.operation.ensures.value ∙ c.in-Some.is)
    c.in-Err.ensures

pub loop-index-preserved : goal.loop-index-preserved
loop-index-preserved g c =
    let m = g.M.Medium.state c.args.medium.now in
    let grain : record { unit = c.unit-unit.result; sector = c.sector-sector.result } ≡ m.grain =
    λ i. record { unit = c.unit-unit.ensures i; sector = c.sector-sector.ensures i } in
    next_op_carried c.loop-index.invariant c.in-Some.op (g.M.Medium.state c.carry_op.new.medium)
    (ap (λ (w : Grain). op_at (operations w c.args.sequence) c.loop-index.index) (sym grain) ∙ sym c.operation.ensures.value ∙ c.in-Some.is)
    c.in-Ok.ensures
