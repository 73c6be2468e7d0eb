use Rattle.std.specs.Prelude.{◌≡◌, ℕ, [], slice_index_or}
use Rattle.std.proofs.Common.{ap, ◌∙◌, arith}
use Rattle.dfu_conformance.specs.inside.Stepped.{passes_below, has_candidate, is_held_anywhere}
use Rattle.dfu_conformance.proofs.held.is_any_held.Goals as goal

pub returns : goal.returns
unfolding is_held_anywhere
returns c = let e : c.loop-n.n ≡ 12 = omega arith in
    c.loop-n.invariant ∙ ap (λ (k : ℕ). passes_below (λ (n : ℕ). has_candidate (slice_index_or c.args.places.now n []) c.args.readings) k) e
