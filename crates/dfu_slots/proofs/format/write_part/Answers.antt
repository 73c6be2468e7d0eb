use Rattle.std.proofs.Common.{List, ℕ, sym, subst}
use Rattle.dfu_slots.specs.Writes.{write_some}
use Rattle.dfu_slots.specs.inside.Series.{Series}
use Rattle.dfu_slots.proofs.Ranges.{image_range_into_zeros}
use Rattle.dfu_slots.proofs.format.write_part.Goals as goal

pub returns-then-len-image : goal.returns-then-len-image
returns-then-len-image g c =
    let m = g.M.Medium.state c.args.medium.now in
    let now = g.M.Medium.state c.write_padded.new.medium in
    subst (λ (l : List ℕ). Series m (write_some m.grain.sector c.args.at l) c.write_padded.result now)
    (sym (image_range_into_zeros c.args.image.now c.args.skip c.args.len c.requires.front)) c.write_padded.ensures
