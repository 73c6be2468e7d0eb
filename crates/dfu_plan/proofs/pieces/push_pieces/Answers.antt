use Rattle.std.proofs.Common.{arith}
use Rattle.dfu_plan.specs.Pieces.{piece_text}
use Rattle.dfu_plan.proofs.PieceLaws.{piece_is_joined}
use Rattle.dfu_plan.proofs.pieces.push_pieces.Goals as goal

pub loop-piece-preserved : goal.loop-piece-preserved
loop-piece-preserved c = piece_is_joined piece_text c.args.pieces.now c.loop-piece.piece-index _ _ _ _
    (omega (arith, c.loop-piece-test.true)) c.loop-piece.invariant c.in_ok-push_piece.ensures
