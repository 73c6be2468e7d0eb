use Rattle.std.proofs.Common.{arith}
use Rattle.dfu_link.proofs.HexLaws.{no_digits_are_written, written_piece_adds_digits, piece_stops_digits}
use Rattle.dfu_link.proofs.scripting.output.write_all_digits.Goals as goal

pub loop-at-init : goal.loop-at-init
loop-at-init g c = record { within = omega arith; told = no_digits_are_written (g.W.Write.contents c.args.writer.now) }

pub returns-in_err-write_digits : goal.returns-in_err-write_digits
returns-in_err-write_digits g c =
    piece_stops_digits c.args.bytes.now c.loop-at.at c.min-len.result c.loop-at.invariant.told c.in_err-write_digits.ensures
    c.from_residual.ensures.1

pub loop-at-preserved : goal.loop-at-preserved
loop-at-preserved g c = record {
  within = omega arith;
  told = written_piece_adds_digits c.args.bytes.now c.loop-at.at c.min-len.result c.loop-at.invariant.told c.in_ok-write_digits.ensures;
}
