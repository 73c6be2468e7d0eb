use Rattle.std.proofs.Common.{◌≡◌, ◌+◌, List, not, subst, ℕ, IsTrue}
use Rattle.dfu_slots.specs.declared.sequence.Sequence.TheVariants.{Commit}
use Rattle.dfu_slots.specs.Operations.{operations}
use Rattle.dfu_asks.specs.Steps.{step_writes}
use Rattle.dfu_asks.specs.Carried.{total, IsStepPiece}
use Rattle.dfu_asks.specs.Jobs.{input_grain}
use Rattle.dfu_asks.specs.Cuts.{step_of_cut}
use Rattle.dfu_asks.specs.OpSteps.{op_steps_at}
use Rattle.dfu_asks.proofs.format_piece.open_piece.Goals as goal

pub returns-clause-found : goal.returns-clause-found
returns-clause-found c =
    let s = c.args.cut.now.inputs in
    subst (λ (f : List ℕ). IsTrue c.numbered_piece.result
    → IsStepPiece (op_steps_at s f (operations (input_grain s) (Commit 0 0 0)) c.args.index)
    c.args.cut.now.rest (step_of_cut c.numbered_piece.new.cut)) c.make_header-cut.ensures c.numbered_piece.ensures.found

pub returns-clause-behind : goal.returns-clause-behind
returns-clause-behind c =
    let s = c.args.cut.now.inputs in
    subst (λ (f : List ℕ). IsTrue (not c.numbered_piece.result)
    → total (step_writes (op_steps_at s f (operations (input_grain s) (Commit 0 0 0)) c.args.index)) + c.numbered_piece.new.cut.rest
    ≡ c.args.cut.now.rest) c.make_header-cut.ensures c.numbered_piece.ensures.behind
