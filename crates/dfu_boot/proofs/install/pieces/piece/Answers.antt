use Rattle.dfu_boot.proofs.PieceBytes.{filled_rest_is_piece}
use Rattle.dfu_boot.proofs.install.pieces.piece.Goals as goal

pub returns : goal.returns
returns c =
    filled_rest_is_piece c.args.image.now c.fill_up.new.out c.args.at c.min.result c.min-2.result c.min.ensures c.min-2.ensures
    c.fill_up.ensures
