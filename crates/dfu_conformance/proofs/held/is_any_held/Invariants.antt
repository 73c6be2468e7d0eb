use Rattle.std.specs.Prelude.{◌≡◌, ℕ, [], slice_index_or}
use Rattle.dfu_conformance.specs.inside.Stepped.{passes_below, has_candidate}
use Rattle.dfu_conformance.proofs.held.is_any_held.Given as goal

-- `is_some` is true exactly if a device with these habits is a candidate in a state with an index below `n`.
abbrev pub invariant-loop-n : goal.invariant-loop-n
invariant-loop-n l = l.is_some ≡ passes_below (λ (n : ℕ). has_candidate (slice_index_or l.places n []) l.readings) l.n
