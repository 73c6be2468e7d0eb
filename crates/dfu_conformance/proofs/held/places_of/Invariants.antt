use Rattle.std.specs.Prelude.{◌≡◌, ℕ, ◌<◌, length, slice_index_or, [], false}
use Rattle.dfu_conformance.specs.inside.Stepped.{has_candidate}
use Rattle.dfu_conformance.proofs.held.places_of.Given as goal

-- The list contains a state with an index below `n` exactly if a device with these habits is a candidate in this state.
abbrev pub invariant-loop-n : goal.invariant-loop-n
invariant-loop-n l = record {
  size : length l.at ≡ 12;
  done : (n : ℕ) → n < l.n → slice_index_or l.at n false ≡ has_candidate (slice_index_or l.places n []) l.readings;
}
