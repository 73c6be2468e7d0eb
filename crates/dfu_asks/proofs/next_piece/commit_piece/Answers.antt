use Rattle.std.proofs.Common.{◌≡◌, ◌+◌, List, subst, arith}
use Rattle.dfu_asks.specs.Steps.{Step, step_writes}
use Rattle.dfu_asks.specs.Carried.{total, IsStepPiece}
use Rattle.dfu_asks.specs.Cuts.{step_of_cut}
use Rattle.dfu_asks.proofs.SequenceSteps.{commit_ops_are_steps}
use Rattle.dfu_asks.proofs.next_piece.commit_piece.Goals as goal

pub returns-clause-found : goal.returns-clause-found
returns-clause-found c = λ yes.
    let before = c.args.cut.now in
    subst (λ (ss : List Step). IsStepPiece ss before.rest (step_of_cut c.sequence_piece.new.cut))
    (commit_ops_are_steps before.inputs c.make_header-cut.result c.args.spare before.inputs.put_end c.args.generation c.args.register
    c.requires.held
    c.make_header-cut.ensures) (c.sequence_piece.ensures.found yes)

pub returns-clause-none : goal.returns-clause-none
returns-clause-none c = λ no.
    let before = c.args.cut.now in
    let count = subst (λ (ss : List Step). total (step_writes ss) + c.sequence_piece.new.cut.rest ≡ before.rest)
    (commit_ops_are_steps before.inputs c.make_header-cut.result c.args.spare before.inputs.put_end c.args.generation c.args.register
    c.requires.held
    c.make_header-cut.ensures) (c.sequence_piece.ensures.behind no) in
    omega (arith, count)
