use Rattle.std.proofs.Common.{◌≡◌, bit_xor, arith}
use Rattle.dfu_suffix.specs.Register.{shifts}
use Rattle.dfu_suffix.proofs.SmallTable.{two_half_steps_take_byte}
use Rattle.dfu_suffix.proofs.small.after_byte.Goals as goal

pub returns : goal.returns
returns c =
    let first : c.after_4_zeros.result ≡ shifts 4 (bit_xor c.args.register c.args.byte) = cc in
    two_half_steps_take_byte c.args.register c.args.byte c.after_4_zeros.result c.after_4_zeros-2.result (omega arith) first
    c.after_4_zeros-2.ensures
