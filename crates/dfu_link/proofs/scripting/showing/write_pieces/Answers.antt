use Rattle.std.proofs.Common.{arith}
use Rattle.dfu_slots.specs.StoreView.{image_of}
use Rattle.dfu_link.proofs.HexLaws.{no_digits_are_written, written_piece_adds_digits, piece_stops_digits}
use Rattle.dfu_link.proofs.scripting.showing.write_pieces.Goals as goal

pub loop-at-init : goal.loop-at-init
loop-at-init g c = record { within = omega arith; told = no_digits_are_written (g.W.Write.contents c.args.writer.now) }

pub returns-in_err-write_piece : goal.returns-in_err-write_piece
returns-in_err-write_piece g c =
    piece_stops_digits (image_of c.args.slots.now) c.loop-at.at c.min-len.result c.loop-at.invariant.told c.in_err-write_piece.ensures
    c.from_residual.ensures.1

pub loop-at-preserved : goal.loop-at-preserved
loop-at-preserved g c = record {
  within = omega arith;
  told = written_piece_adds_digits (image_of c.args.slots.now) c.loop-at.at c.min-len.result c.loop-at.invariant.told
      c.in_ok-write_piece.ensures;
}
