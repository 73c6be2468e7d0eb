use Rattle.std.proofs.Common.{◌+◌, ℕ, List, slice_range, ◌∙◌}
use Rattle.dfu_boot.specs.trial.Marks.{is_marked, is_mark_set}
use Rattle.dfu_boot.proofs.trial.marks.is_set.Goals as goal

pub returns : goal.returns
unfolding is_mark_set
returns g c =
    let bytes : List ℕ = (g.M.Medium.state c.args.medium.now).bytes in
    c.is_marked.ensures ∙ (λ i. is_marked (slice_range bytes (c.mark_at.ensures i) (c.mark_at.ensures i + c.mark_size.ensures.value i)))
