use Rattle.std.proofs.Common.{refl, ◌∙◌}
use Rattle.dfu_suffix.specs.Register.{after_bits, bits_of}
use Rattle.dfu_suffix.proofs.Tables.{register_in_two_parts}
use Rattle.dfu_suffix.proofs.crc.after_bytes.Goals as goal

pub loop-front-preserved : goal.loop-front-preserved
loop-front-preserved c =
    let p = c.in-Some.ensures.cases in
    let t = c.after_sixteen-register.result in
    let more = c.in-Some.more.now in
    register_in_two_parts 16 c.loop-front.register t (after_bits t (bits_of more)) c.in-Some.front.now more c.loop-front.rest.now p.0 p.1
    c.after_sixteen-register.ensures refl
    ∙ c.loop-front.invariant
