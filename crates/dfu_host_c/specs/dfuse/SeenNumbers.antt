-- Results of DfuSe actions by their numbers.
use Rattle.std.specs.Prelude.{ℕ, List, [], ◌∷◌, Option, Some, None, slice_index_or}
use Rattle.std.specs.Borrow.{Bor}
use Rattle.dfuse_host.specs.declared.seen.Seen.{Seen}
use Rattle.dfuse_host.specs.declared.seen.Seen.TheVariants as seen

-- Results in the order of their numbers in C, 0 to 6; number 1 has the given bytes. A DfuSe session doesn't reset the bus, so number 5 is
-- not used.
abbrev dfuse_seen_in_order : (bytes : Bor (List ℕ)) → List (Option Seen)
dfuse_seen_in_order bytes =
    Some seen.Ack ∷ Some (seen.Bytes bytes) ∷ Some seen.Stall ∷ Some seen.Nothing ∷ Some seen.Waited ∷ None ∷ Some seen.Restarted ∷ []

-- Result of an action with this number; None if no result has the number.
abbrev pub dfuse_seen_at : (number : ℕ) → (bytes : Bor (List ℕ)) → Option Seen
dfuse_seen_at number bytes = slice_index_or (dfuse_seen_in_order bytes) number None
