use Rattle.std.proofs.Common.{List, [], sym, ◌∙◌, subst}
use Rattle.std.proofs.lemmas.Bool.{cond-true}
use Rattle.dfu_asks.specs.Steps.{Step}
use Rattle.dfu_asks.specs.Carried.{IsStepPiece}
use Rattle.dfu_asks.specs.Cuts.{step_of_cut}
use Rattle.dfu_asks.proofs.SequenceSteps.{close_ops_are_step}
use Rattle.dfu_asks.proofs.next_piece.close_piece.Goals as goal

pub returns-then-close-clause-found : goal.returns-then-close-clause-found
returns-then-close-clause-found c = λ yes.
    let before = c.args.cut.now in
    subst (λ (ss : List Step). IsStepPiece ss before.rest (step_of_cut c.sequence_piece.new.cut))
    (close_ops_are_step before.inputs before.front c.args.spare ∙ sym (cond-true c.args.close _ [] c.if-close.true))
    (c.sequence_piece.ensures.found yes)
