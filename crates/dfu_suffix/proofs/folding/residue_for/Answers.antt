use Rattle.std.proofs.Common.{◌∙◌, refl, arith}
use Rattle.dfu_suffix.proofs.Residues.{register_bytes_are_residue, register_is_four_byte_number}
use Rattle.dfu_suffix.proofs.folding.residue_for.Goals as goal

pub returns : goal.returns
returns c =
    let xs = c.copy_from_slice.new.self in
    let four = register_is_four_byte_number c.args.register xs (omega arith) (c.copy_from_slice.ensures.after ∙ c.to_le_bytes.ensures) in
    register_bytes_are_residue 6060 c.args.register xs _ four (omega arith) refl
