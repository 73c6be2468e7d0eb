use Rattle.dfu_asks.proofs.OpPieces.{OpsSearched}
use Rattle.dfu_asks.proofs.next_piece.sequence_piece.Given as goal

abbrev pub invariant-loop-index : goal.invariant-loop-index
invariant-loop-index l = OpsSearched l.sequence l.initial.cut l.cut l.index
