use Rattle.std.proofs.Common.{arith}
use Rattle.dfu_suffix.proofs.UndoLaws.{xor_polynomial_clears_high_bit, shift_undoes_odd_step}
use Rattle.dfu_suffix.proofs.findings.unshifted.Goals as goal

pub overflow_mul-result-else-register-lt2147483648 : goal.overflow_mul-result-else-register-lt2147483648
overflow_mul-result-else-register-lt2147483648 c =
    let large = c.if-register-lt2147483648.false in
    omega (arith, xor_polynomial_clears_high_bit c.args.register (omega arith) c.ranges.register.fits)

pub overflow_add-result : goal.overflow_add-result
overflow_add-result c =
    let large = c.if-register-lt2147483648.false in
    omega (arith, xor_polynomial_clears_high_bit c.args.register (omega arith) c.ranges.register.fits)

pub returns-else-register-lt2147483648 : goal.returns-else-register-lt2147483648
returns-else-register-lt2147483648 c = shift_undoes_odd_step c.args.register
