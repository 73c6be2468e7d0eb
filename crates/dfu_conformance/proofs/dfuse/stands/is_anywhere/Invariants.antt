use Rattle.std.specs.Prelude.{◌≡◌, ℕ, false, slice_index_or}
use Rattle.dfu_conformance.specs.inside.Stepped.{passes_below}
use Rattle.dfu_conformance.proofs.dfuse.stands.is_anywhere.Given as goal

-- `is_some` is true exactly if the list contains a state with an index below `n`.
abbrev pub invariant-loop-n : goal.invariant-loop-n
invariant-loop-n l = l.is_some ≡ passes_below (λ (n : ℕ). slice_index_or l.at n false) l.n
