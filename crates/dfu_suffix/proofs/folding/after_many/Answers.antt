use Rattle.std.proofs.Common.{refl, take, ◌∙◌}
use Rattle.dfu_suffix.specs.Register.{after_bits, bits_of}
use Rattle.dfu_suffix.specs.inside.Folding.{register_of_residue}
use Rattle.dfu_suffix.proofs.Tables.{register_in_two_parts}
use Rattle.dfu_suffix.proofs.folding.after_many.Goals as goal

pub loop-rest-preserved : goal.loop-rest-preserved
loop-rest-preserved c =
    let p = c.split_at.ensures in
    let t = register_of_residue (take 1968 c.fold.new.room) in
    let more = c.split_at.result.1.now in
    register_in_two_parts 4096 (register_of_residue (take 1968 c.loop-rest.room)) t
    (after_bits t (bits_of more)) c.split_at.result.0.now more
    c.loop-rest.rest.now p.front p.back c.fold.ensures refl
    ∙ c.loop-rest.invariant
