use Rattle.std.specs.Prelude.{◌≡◌, ◌<◌, ℕ, slice_get, Some}
use Rattle.dfu_conformance.specs.captures.Joining.{HasSameId}
use Rattle.dfu_conformance.specs.declared.captures.pending.Pending.{Pending}
use Rattle.dfu_conformance.proofs.captures.pending.PendingTransfers.take.Given as goal

-- The list is unchanged, and no transfer before index `place` has the id and bus of the event.
abbrev pub invariant-loop-place : goal.invariant-loop-place
invariant-loop-place l =
    (l.self ≡ l.initial.self) × ((l.place-end ≡ l.initial.place-end)
    × ((i : ℕ) (p : Pending) → i < l.place → slice_get l.self.all.items i ≡ Some p → HasSameId p.submission l.event → ⊥))
