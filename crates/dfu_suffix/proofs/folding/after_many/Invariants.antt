use Rattle.std.proofs.Common.{◌≡◌, length, take}
use Rattle.dfu_suffix.specs.Register.{after_bits, bits_of}
use Rattle.dfu_suffix.specs.inside.Folding.{register_of_residue}
use Rattle.dfu_suffix.proofs.folding.after_many.Given as goal

-- The remaining bytes change the register of the residue to the register after all bytes.
abbrev pub invariant-loop-rest : goal.invariant-loop-rest
invariant-loop-rest l = after_bits (register_of_residue (take 1968 l.room)) (bits_of l.rest) ≡ after_bits l.start (bits_of l.bytes)

abbrev pub decreases-loop-rest : goal.decreases-loop-rest
decreases-loop-rest l = length l.rest
