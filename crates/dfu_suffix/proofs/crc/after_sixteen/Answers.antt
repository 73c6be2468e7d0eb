use Rattle.dfu_suffix.proofs.Tables.{register_in_two_parts}
use Rattle.dfu_suffix.proofs.crc.after_sixteen.Goals as goal

pub returns : goal.returns
returns c =
    let p = c.split_at.ensures in
    register_in_two_parts 8 c.args.register c.after_eight.result c.after_eight-2.result c.split_at.result.0.now c.split_at.result.1.now
    c.args.bytes.now p.front p.back c.after_eight.ensures c.after_eight-2.ensures
