use Rattle.std.specs.Prelude.{◌≡◌, ◌<◌, ℕ, [], false, length, slice_index_or}
use Rattle.dfu_conformance.specs.Candidates.{holds_device}
use Rattle.dfu_conformance.proofs.held.taken.Given as goal

-- If the list lacks a state with an index below `n`, no device is a candidate in this state.
abbrev pub invariant-loop-n : goal.invariant-loop-n
invariant-loop-n l = record {
  size : length l.at ≡ 12;
  done : (n a r : ℕ) → n < l.n → a < 16 → r < 64 → slice_index_or l.at n false ≡ false
      → holds_device (slice_index_or l.places n []) a r ≡ false;
}
