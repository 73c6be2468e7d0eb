use Rattle.std.proofs.Common.{arith}
use Rattle.std.proofs.Math.Nat.{pow-le-pow_right}
use Rattle.dfu_formats.proofs.images.srec_line.number.Goals as goal

pub overflow_mul-value : goal.overflow_mul-value
overflow_mul-value c =
    let most = pow-le-pow_right {n = 256} (omega arith) {i = c.loop-byte.byte-index} {j = 3} (omega (arith, c.loop-byte-test.true, c.requires)) in
    omega (arith, c.loop-byte.invariant.1, most)
