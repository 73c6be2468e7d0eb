use Rattle.std.proofs.Common.{◌≡◌, ◌+◌, List, subst}
use Rattle.dfu_slots.specs.declared.operation.Op.TheVariants.{Program}
use Rattle.dfu_asks.specs.Steps.{Step, step_writes}
use Rattle.dfu_asks.specs.Carried.{total, IsStepPiece}
use Rattle.dfu_asks.specs.Cuts.{step_of_cut}
use Rattle.dfu_asks.proofs.OpPieces.{found_op_has_steps}
use Rattle.dfu_asks.proofs.next_piece.numbered_piece.Goals as goal

pub returns-in-Some-Program-clause-found : goal.returns-in-Some-Program-clause-found
returns-in-Some-Program-clause-found c = λ yes.
    let s = c.args.cut.now.inputs in
    let front = c.args.cut.now.front in
    let o = c.in-Some-Program in
    subst (λ (ss : List Step). IsStepPiece ss c.args.cut.now.rest (step_of_cut c.write_piece.new.cut))
    (found_op_has_steps s front c.args.sequence c.args.index c.size.result c.operation.result o.field-0 (Program o.at o.source o.skip o.len)
    c.size.ensures.value c.operation.ensures.value o.is o.field-0-is) (c.write_piece.ensures.found yes)

pub returns-in-Some-Program-clause-behind : goal.returns-in-Some-Program-clause-behind
returns-in-Some-Program-clause-behind c = λ no.
    let s = c.args.cut.now.inputs in
    let front = c.args.cut.now.front in
    let o = c.in-Some-Program in
    subst (λ (ss : List Step). total (step_writes ss) + c.write_piece.new.cut.rest ≡ c.args.cut.now.rest)
    (found_op_has_steps s front c.args.sequence c.args.index c.size.result c.operation.result o.field-0 (Program o.at o.source o.skip o.len)
    c.size.ensures.value c.operation.ensures.value o.is o.field-0-is) (c.write_piece.ensures.behind no)
