use Rattle.std.proofs.Common.{◌≡◌, take}
use Rattle.dfu_suffix.specs.Register.{after_bits, bits_of}
use Rattle.dfu_suffix.proofs.small.after_bytes.Given as goal

abbrev pub invariant-loop-byte : goal.invariant-loop-byte
invariant-loop-byte l = l.register ≡ after_bits l.start (bits_of (take l.byte-index l.bytes))
