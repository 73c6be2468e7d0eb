-- Results of actions by their numbers.
use Rattle.std.specs.Prelude.{ℕ, List, [], ◌∷◌, Option}
use Rattle.std.specs.List.{slice_get}
use Rattle.std.specs.Borrow.{Bor}
use Rattle.dfu_host.specs.declared.seen.Seen.{Seen}
use Rattle.dfu_host.specs.declared.seen.Seen.TheVariants as seen

-- Results in the order of their numbers in C, 0 to 7; number 1 has the given bytes.
abbrev seen_in_order : (bytes : Bor (List ℕ)) → List Seen
seen_in_order bytes =
    seen.Ack ∷ seen.Bytes bytes ∷ seen.Stall ∷ seen.Nothing ∷ seen.Waited ∷ seen.WasReset ∷ seen.Restarted ∷ seen.Left ∷ []

-- Result of an action with this number; None for a number over 7.
abbrev pub seen_at : (number : ℕ) → (bytes : Bor (List ℕ)) → Option Seen
seen_at number bytes = slice_get (seen_in_order bytes) number
