use Rattle.std.specs.Prelude.{◌≡◌, ℕ, false, slice_index_or}
use Rattle.std.proofs.Common.{ap, ◌∙◌, arith}
use Rattle.dfu_conformance.specs.inside.Stepped.{passes_below}
use Rattle.dfu_conformance.specs.inside.DfuseStep.{has_any_place}
use Rattle.dfu_conformance.proofs.dfuse.stands.is_anywhere.Goals as goal

pub returns : goal.returns
unfolding has_any_place
returns c = let e : c.loop-n.n ≡ 12 = omega arith in
    c.loop-n.invariant ∙ ap (λ (k : ℕ). passes_below (λ (n : ℕ). slice_index_or c.args.at.now n false) k) e
