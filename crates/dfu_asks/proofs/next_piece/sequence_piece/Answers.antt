use Rattle.std.proofs.Common.{not, ap}
use Rattle.dfu_asks.specs.Cuts.{step_of_cut}
use Rattle.dfu_asks.proofs.OpPieces.{piece_of_next_op_found, search_passes_next_op}
use Rattle.dfu_asks.proofs.next_piece.sequence_piece.Goals as goal

pub returns-then-numbered_piece-clause-found : goal.returns-then-numbered_piece-clause-found
returns-then-numbered_piece-clause-found c = λ yes.
    piece_of_next_op_found c.loop-index.invariant (step_of_cut c.numbered_piece.new.cut) (c.numbered_piece.ensures.found
    c.if-numbered_piece.true)

pub loop-index-preserved : goal.loop-index-preserved
loop-index-preserved c =
    let no = ap not c.if-numbered_piece.false in
    search_passes_next_op c.loop-index.invariant c.numbered_piece.new.cut c.numbered_piece.ensures.same_inputs
    (c.numbered_piece.ensures.behind no)
    (c.numbered_piece.ensures.past no)
