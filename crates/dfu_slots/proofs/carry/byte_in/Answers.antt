use Rattle.std.proofs.Common.{◌-◌, ◌++◌, length, replicate, sym, ◌∙◌, arith, length-append}
use Rattle.std.proofs.lemmas.List.{get_or-replicate}
use Rattle.std.proofs.Math.Seq.{get_or-append_right}
use Rattle.dfu_slots.proofs.carry.byte_in.Goals as goal

pub returns-else-behind-back : goal.returns-else-behind-back
returns-else-behind-back c =
    let f = c.args.front.now in
    let b = c.args.back.now in
    let n = length-append f b in
    sym (get_or-append_right (f ++ b) (replicate 256 0) c.args.at 0 (omega (arith, n, c.if-at-front.false, c.if-behind-back.false))
    ∙ get_or-replicate 256 (c.args.at - length (f ++ b)) 0 0 (omega (arith, n, c.requires, c.if-at-front.false, c.if-behind-back.false)))
