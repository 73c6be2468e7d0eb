use Rattle.std.proofs.Common.{◌+◌, sym, ap, ◌*◌, ℕ, arith, length}
use Rattle.dfu_formats.proofs.DigitLaws.{digit_at_extends_number, no_digits_leave_number, next_power_of_17_is_17_times, powers_of_17_rise, base_product_at_most_16_times}
use Rattle.dfu_formats.proofs.memory.digits.said.Goals as goal

pub loop-byte-init : goal.loop-byte-init
loop-byte-init c = (sym (no_digits_leave_number c.args.base 0 c.args.digits.now), omega arith)

pub overflow_mul-value : goal.overflow_mul-value
overflow_mul-value c =
    let most = powers_of_17_rise c.loop-byte.byte-index 8 (omega (arith, c.loop-byte-test.true, c.requires.few)) in
    omega (arith, c.loop-byte.invariant.1, most, base_product_at_most_16_times c.args.base c.loop-byte.value c.requires.base)

pub overflow_add-value : goal.overflow_add-value
overflow_add-value c =
    let most = powers_of_17_rise c.loop-byte.byte-index 8 (omega (arith, c.loop-byte-test.true, c.requires.few)) in
    omega (
      arith,
      c.loop-byte.invariant.1,
      most,
      base_product_at_most_16_times c.args.base c.loop-byte.value c.requires.base,
      c.digit_value.ensures.small,
    )

pub loop-byte-preserved : goal.loop-byte-preserved
loop-byte-preserved c =
    let i = c.loop-byte.byte-index in
    let more = digit_at_extends_number c.args.base 0 c.args.digits.now i (i + 1) (omega arith) c.loop-byte-test.true in
    let times = ap (λ (k : ℕ). c.args.base * k) c.loop-byte.invariant.0 in (
      omega (arith, times, more, c.digit_value.ensures.value),
      omega (
        arith,
        c.loop-byte.invariant.1,
        next_power_of_17_is_17_times i (i + 1) (omega arith),
        base_product_at_most_16_times c.args.base
            c.loop-byte.value c.requires.base,
        c.digit_value.ensures.small,
      ),
    )

pub returns-clause-small : goal.returns-clause-small
returns-clause-small c =
    let most = powers_of_17_rise c.loop-byte.byte-index (length c.args.digits.now) (omega arith) in
    omega (arith, c.loop-byte.invariant.1, most)
