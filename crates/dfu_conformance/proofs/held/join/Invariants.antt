use Rattle.std.specs.Prelude.{◌≡◌, ℕ, ◌<◌, ◌≤◌, ◌||◌, ◌&&◌, length, slice_index}
use Rattle.dfu_conformance.specs.Candidates.{applies_to, holds_device}
use Rattle.dfu_conformance.proofs.held.join.Given as goal

-- The words before index `a` are joined, and the words from `a` on are still those of `to`.
abbrev pub invariant-loop-a : goal.invariant-loop-a
invariant-loop-a l = record {
  size : length l.after ≡ 16;
  done : (a r : ℕ) → a < l.a → r < 64 → holds_device l.after a r ≡
      (holds_device l.to a r || (holds_device l.from a r && applies_to l.when a r));
  kept : (a : ℕ) → l.a ≤ a → slice_index l.after a ≡ slice_index l.to a;
}
