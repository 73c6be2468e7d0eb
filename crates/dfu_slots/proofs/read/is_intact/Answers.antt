use Rattle.std.proofs.Common.{arith}
use Rattle.dfu_slots.specs.Image.{gate_of}
use Rattle.dfu_slots.proofs.Comparing.{long_header_not_intact, compared_header_is_intact}
use Rattle.dfu_slots.proofs.read.is_intact.Goals as goal

pub returns-then-len-capacity_of : goal.returns-then-len-capacity_of
returns-then-len-capacity_of g c =
    let m = g.M.Medium.state c.args.medium.now in
    let sized = c.requires.sized in
    long_header_not_intact (gate_of m) m.bytes c.args.at c.requires.within (omega (arith, sized.room)) c.header_of-header.result
    c.header_of-header.ensures c.length_in-len.result c.length_in-len.ensures
    (omega (arith, c.if-len-capacity_of.true, c.capacity_of.ensures))

pub returns : goal.returns
returns g c =
    let m = g.M.Medium.state c.args.medium.now in
    let sized = c.requires.sized in
    compared_header_is_intact (gate_of m) m.bytes c.args.at c.requires.within (omega (arith, sized.room)) c.header_of-header.result
    c.header_of-header.ensures c.length_in-len.result c.length_in-len.ensures
    (omega (arith, c.if-len-capacity_of.false, c.capacity_of.ensures)) c.is_header.result c.register_of.result
    c.register_of.ensures c.is_header.ensures
