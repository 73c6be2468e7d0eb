use Rattle.std.proofs.Common.{List, ℕ, subst}
use Rattle.dfu_slots.specs.Writes.{write_some}
use Rattle.dfu_slots.specs.inside.Series.{Series}
use Rattle.dfu_slots.proofs.FilledBuffers.{copied_buffer_is_padded, buffer_front_is_bytes_and_zeros}
use Rattle.dfu_slots.proofs.format.write_padded.Goals as goal

pub returns : goal.returns
returns g c =
    let m = g.M.Medium.state c.args.medium.now in
    let q = c.requires in
    subst (λ (l : List ℕ). Series m (write_some m.grain.sector c.args.at l) c.write_some.result (g.M.Medium.state c.write_some.new.medium))
    (buffer_front_is_bytes_and_zeros c.args.bytes.now _ c.args.len q.short q.fits q.few
    (copied_buffer_is_padded c.args.bytes.now c.copy_from_slice.new.self 4096 c.copy_from_slice.ensures.after)) c.write_some.ensures
