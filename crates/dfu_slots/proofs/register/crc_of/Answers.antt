use Rattle.std.proofs.Common.{take, length, arith}
use Rattle.std.proofs.lemmas.List.{length-take-le}
use Rattle.dfu_slots.specs.Image.{slot_of}
use Rattle.dfu_slots.proofs.Registering.{piece_extends_register, register_is_of_whole_front}
use Rattle.dfu_slots.proofs.register.crc_of.Goals as goal

pub loop-at-preserved : goal.loop-at-preserved
loop-at-preserved g c =
    let bytes = (slot_of (g.M.Medium.state c.args.medium.now) c.args.slot_at).data_bytes in
    piece_extends_register bytes c.args.len c.loop-at.at c.min-size.result
    (length (take c.min-size.result c.loop-at.buffer)) c.take_piece.new.crc
    c.read_data.new.out (omega (arith, c.min-size.ensures, c.loop-at-test.true))
    (length-take-le c.min-size.result c.loop-at.buffer (omega (arith, c.min-size.ensures, c.min-size.array_long)))
    c.read_data.ensures (c.take_piece.ensures (take c.loop-at.at bytes) c.loop-at.invariant.register_is)

pub returns : goal.returns
returns g c =
    let bytes = (slot_of (g.M.Medium.state c.args.medium.now) c.args.slot_at).data_bytes in
    register_is_of_whole_front bytes c.args.len c.loop-at.at c.loop-at.crc c.loop-at-test.false c.loop-at.invariant
