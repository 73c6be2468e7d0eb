use Rattle.dfu_suffix.proofs.Residues.{tap_registers_make_residue}
use Rattle.dfu_suffix.proofs.folding.register_of.Goals as goal

pub returns : goal.returns
returns c =
    tap_registers_make_residue c.after_bytes-first.result c.after_bytes-second.result c.after_bytes-third.result c.after_bytes-fourth.result
    c.after_bytes-fifth.result c.after_bytes-whole.result c.args.room.now c.after_bytes-first.ensures c.after_bytes-second.ensures
    c.after_bytes-third.ensures c.after_bytes-fourth.ensures c.after_bytes-fifth.ensures c.after_bytes-whole.ensures
