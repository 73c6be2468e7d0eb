use Rattle.std.proofs.Common.{◌≡◌, length}
use Rattle.dfu_suffix.specs.Register.{after_bits, bits_of}
use Rattle.dfu_suffix.proofs.crc.after_bytes.Given as goal

-- The remaining bytes change the current register to the register after all bytes.
abbrev pub invariant-loop-front : goal.invariant-loop-front
invariant-loop-front l = after_bits l.register (bits_of l.rest) ≡ after_bits l.start (bits_of l.bytes)

abbrev pub decreases-loop-front : goal.decreases-loop-front
decreases-loop-front l = length l.rest
