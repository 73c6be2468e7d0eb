use Rattle.std.proofs.Common.{◌+◌, ◌∙◌, ap, arith, get_or, ℕ}
use Rattle.dfu_formats.specs.memory.Reading.{digit_value}
use Rattle.dfu_formats.proofs.DigitLaws.{digit_count_moves_on, digits_end_at_other_byte, no_digits_past_end}
use Rattle.dfu_formats.proofs.memory.digits.digits_in.Goals as goal

pub returns-then-digit_value-base-clause-value : goal.returns-then-digit_value-base-clause-value
returns-then-digit_value-base-clause-value c =
    let i = c.loop-byte.invariant in
    let same = ap (λ (k : ℕ). digit_value (get_or c.args.text.now k 0)) i.0 in
    let none = digits_end_at_other_byte c.args.base c.args.text.now c.loop-byte.count (omega (arith, i.0, c.loop-byte-test.true))
    (omega (arith, same, c.digit_value.ensures.value, c.if-digit_value-base.true)) in
    omega (arith, i.1, none)

pub loop-byte-preserved : goal.loop-byte-preserved
loop-byte-preserved c =
    let i = c.loop-byte.invariant in
    let same = ap (λ (k : ℕ). digit_value (get_or c.args.text.now k 0)) i.0 in
    let more = digit_count_moves_on c.args.base c.args.text.now c.loop-byte.count (c.loop-byte.count + 1) (omega arith)
    (omega (arith, i.0, c.loop-byte-test.true)) (omega (arith, same, c.digit_value.ensures.value, c.if-digit_value-base.false)) in
    (omega (arith, i.0), i.1 ∙ more)

pub returns-clause-value : goal.returns-clause-value
returns-clause-value c =
    let i = c.loop-byte.invariant in
    let none = no_digits_past_end c.args.base c.args.text.now c.loop-byte.count (omega (arith, i.0, c.loop-byte-test.false)) in
    omega (arith, i.1, none)
