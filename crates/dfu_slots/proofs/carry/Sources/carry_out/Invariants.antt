use Rattle.dfu_slots.specs.Operations.{operations}
use Rattle.dfu_slots.proofs.SuccessiveOperations.{FirstOpsCarried}
use Rattle.dfu_slots.proofs.carry.Sources.carry_out.Given as goal

abbrev pub invariant-loop-index : goal.invariant-loop-index
invariant-loop-index g l =
    let m = g.M.Medium.state l.fn.medium in
    FirstOpsCarried m (g.M.Medium.state l.medium) l.self.held.now l.self.block.now l.self.header.now (operations m.grain l.sequence) l.index
