-- The pending transfers of a capture.
use Rattle.std.specs.Prelude.{◌≡◌, ◌⊎◌, ℕ, List, slice_get, Some}
use Rattle.std.specs.List.{swap_remove}
use Rattle.dfu_conformance.specs.captures.Joining.{HasSameId, IsSameTransfer}
use Rattle.dfu_conformance.specs.declared.captures.event.UsbEvent.{UsbEvent}
use Rattle.dfu_conformance.specs.declared.captures.pending.Pending.{Pending}

-- No pending transfer has the id and the bus of the event.
abbrev pub LacksId : UsbEvent → List Pending → Type 0
LacksId event all = (i : ℕ) (p : Pending) → slice_get all i ≡ Some p → HasSameId p.submission event → ⊥

-- The transfer `p` is removed from the list, and the last transfer moves to its index.
abbrev pub PendingWithout : Pending → (before after : List Pending) → Type 0
PendingWithout p before after = (i : ℕ) × (slice_get before i ≡ Some p) × (after ≡ swap_remove before i p)

-- No pending transfer belongs to the event. Either none has its id, and the list is unchanged, or the one with its id is another transfer,
-- which is removed because the event shows that it has ended.
abbrev pub LacksSameTransfer : UsbEvent → (before after : List Pending) → Type 0
LacksSameTransfer event before after =
    (LacksId event before × (after ≡ before)) ⊎ ((p : Pending) × PendingWithout p before after × ¬ IsSameTransfer p.submission event)
