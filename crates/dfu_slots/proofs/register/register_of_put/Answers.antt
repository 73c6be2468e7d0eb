use Rattle.std.proofs.Common.{◌∙◌, ap, take, arith}
use Rattle.dfu_suffix.specs.Register.{register}
use Rattle.dfu_slots.specs.Image.{gate_of, slot_of}
use Rattle.dfu_slots.proofs.Parts.{data_length}
use Rattle.dfu_slots.proofs.HeldRest.{front_splits_at_held_bytes}
use Rattle.dfu_slots.proofs.register.register_of_put.Goals as goal

pub returns : goal.returns
returns g c =
    let m = g.M.Medium.state c.args.medium.now in
    let stored = (slot_of m c.args.slot_at).data_bytes in
    let size = data_length (gate_of m) m.bytes c.args.slot_at c.requires.slot (omega (arith, c.requires.sized.room)) in
    c.value.ensures ∙ c.take_piece.ensures (take c.min-front.result stored) c.crc_of-crc.ensures
    ∙ ap register (front_splits_at_held_bytes stored c.args.held.now c.args.at c.args.len c.min-front.result c.min-front.ensures
    (omega (arith, size, c.requires.within)) c.requires.front)
