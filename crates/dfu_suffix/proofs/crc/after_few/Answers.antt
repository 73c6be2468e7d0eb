use Rattle.dfu_suffix.proofs.Tables.{register_in_two_parts}
use Rattle.dfu_suffix.proofs.crc.after_few.Goals as goal

pub returns-in-Some : goal.returns-in-Some
returns-in-Some c =
    let p = c.in-Some.ensures.cases in
    register_in_two_parts 8 c.args.register c.after_eight.result c.after_each.result c.in-Some.eight.now c.in-Some.more.now c.args.bytes.now
    p.0 p.1 c.after_eight.ensures c.after_each.ensures
