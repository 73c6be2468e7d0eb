use Rattle.std.proofs.Common.{length, arith}
use Rattle.dfu_formats.proofs.DigitLaws.{powers_of_17_rise}
use Rattle.dfu_formats.proofs.memory.digits.take_number.Goals as goal

pub returns-clause-small : goal.returns-clause-small
returns-clause-small c =
    let most = powers_of_17_rise (length c.split_at.result.0.now) c.args.most (omega (arith, c.split_at.ensures.front_len)) in
    omega (arith, c.said.ensures.small, most)
