use Rattle.dfu_boot.proofs.PieceBytes.{buffer_is_filled_with_ff}
use Rattle.dfu_boot.proofs.install.pieces.fill_up.Goals as goal

pub returns : goal.returns
returns c = buffer_is_filled_with_ff c.args.bytes.now c.read_flash.new.out 256 c.read_flash.ensures
