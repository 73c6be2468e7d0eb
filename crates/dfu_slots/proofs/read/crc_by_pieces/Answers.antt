use Rattle.std.proofs.Common.{take, length, refl, ◌∙◌, ap, arith, take_all}
use Rattle.dfu_suffix.specs.Register.{register}
use Rattle.dfu_slots.proofs.Registering.{piece_extends_register, register_is_of_whole_front}
use Rattle.dfu_slots.proofs.read.crc_by_pieces.Goals as goal

pub loop-at-preserved : goal.loop-at-preserved
loop-at-preserved c =
    let flash = c.args.flash.now in
    piece_extends_register flash
    (length flash) c.loop-at.at c.min-size.result c.min-size.result c.update_small.new.self c.read_flash.new.out
    (omega (arith, c.min-size.ensures, c.loop-at-test.true)) refl c.read_flash.ensures
    (c.update_small.ensures.more (take c.loop-at.at flash) c.loop-at.invariant.register_is)

pub returns : goal.returns
returns c =
    let flash = c.args.flash.now in
    register_is_of_whole_front flash (length flash) c.loop-at.at c.loop-at.crc c.loop-at-test.false c.loop-at.invariant
    ∙ ap register (take_all (length flash) flash (omega arith))
