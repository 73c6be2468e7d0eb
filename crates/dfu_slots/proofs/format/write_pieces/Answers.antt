use Rattle.std.proofs.Common.{length, ap, arith}
use Rattle.dfu_slots.specs.declared.layout.Unit.{Unit as WriteUnit}
use Rattle.dfu_slots.specs.Units.{fill_size}
use Rattle.dfu_slots.proofs.ImagePieces.{no_image_piece_written, next_image_piece_written, broken_piece_breaks_image, all_image_pieces_written, next_piece_may_be_written}
use Rattle.dfu_slots.proofs.Formatting.{first_data_is_writable_ahead}
use Rattle.dfu_slots.proofs.format.write_pieces.Goals as goal

pub loop-from-init : goal.loop-from-init
loop-from-init g c =
    let m = g.M.Medium.state c.args.medium.now in
    no_image_piece_written m c.args.image.now (first_data_is_writable_ahead m c.requires.sized)

pub write_piece-requires : goal.write_piece-requires
write_piece-requires g c =
    let fill = ap (λ (u : WriteUnit). fill_size u (length c.args.image.now)) c.unit.ensures in
    next_piece_may_be_written c.requires c.loop-from.invariant (omega (arith, c.loop-from-test.true, c.fill_size.ensures.value, fill))

pub returns-in-Err : goal.returns-in-Err
returns-in-Err g c =
    let fill = ap (λ (u : WriteUnit). fill_size u (length c.args.image.now)) c.unit.ensures in
    broken_piece_breaks_image c.requires c.loop-from.invariant (omega (arith, c.loop-from-test.true, c.fill_size.ensures.value, fill))
    c.in-Err.fault (g.M.Medium.state c.write_piece.new.medium) c.in-Err.ensures

pub loop-from-preserved : goal.loop-from-preserved
loop-from-preserved g c =
    let fill = ap (λ (u : WriteUnit). fill_size u (length c.args.image.now)) c.unit.ensures in
    next_image_piece_written c.requires c.loop-from.invariant (omega (arith, c.loop-from-test.true, c.fill_size.ensures.value, fill))
    (g.M.Medium.state c.write_piece.new.medium) c.in-Ok.ensures

pub returns : goal.returns
returns g c =
    let fill = ap (λ (u : WriteUnit). fill_size u (length c.args.image.now)) c.unit.ensures in
    all_image_pieces_written c.requires c.loop-from.invariant (omega (arith, c.loop-from-test.false, c.fill_size.ensures.value, fill))
