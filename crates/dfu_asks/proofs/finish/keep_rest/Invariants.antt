use Rattle.std.proofs.Common.{◌≡◌, ◌+◌, ◌≤◌, ◌<◌, ◌++◌, ℕ, length, take, slice_index}
use Rattle.dfu_asks.proofs.finish.keep_rest.Given as goal

abbrev pub invariant-loop-i : goal.invariant-loop-i
invariant-loop-i l = (length l.held ≡ length l.initial.held)
    × ((k : ℕ) → k < l.i → slice_index l.held k ≡ slice_index (take l.held_len l.initial.held ++ l.block) (l.from + k))
    × ((k : ℕ) → l.i ≤ k → slice_index l.held k ≡ slice_index l.initial.held k)
