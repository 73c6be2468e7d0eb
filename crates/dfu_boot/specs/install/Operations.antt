-- Bytes that an operation may change, and bytes that it leaves on a medium without failures.
use Rattle.std.specs.Prelude.{◌≡◌, ◌⊎◌, ℕ, ◌+◌, ◌≤◌, ◌<◌, List, length, slice_index}
use Rattle.dfu_boot.specs.declared.install.due.Due.{Due}
use Rattle.dfu_boot.specs.declared.install.due.Due.TheVariants.{Refuse, Erase, Program, Start}
use Rattle.dfu_boot.specs.install.Area.{RangeIsBlank, program_piece}

-- First offset of an operation's range; 0 for a `Due` that is not an operation.
abbrev pub operation_start : Due → ℕ
operation_start (Erase at) = at
operation_start (Program at) = at
operation_start (Refuse refusal) = 0
operation_start Start = 0

-- End of an operation's range; the range is empty for a `Due` that is not an operation.
abbrev pub operation_end : ℕ → Due → ℕ
operation_end sector (Erase at) = at + sector
operation_end sector (Program at) = at + 256
operation_end sector (Refuse refusal) = 0
operation_end sector Start = 0

-- All bytes outside a range are unchanged.
pub record OutsideUnchanged (before after : List ℕ) (from to : ℕ) : Type 0 where
  pub size : length after ≡ length before
  pub others : (i : ℕ) → (i < from) ⊎ (to ≤ i) → slice_index after i ≡ slice_index before i

-- The range of an operation holds the bytes that the operation writes.
abbrev pub HasDueBytes : List ℕ → List ℕ → ℕ → Due → Type 0
HasDueBytes image run sector (Erase at) = RangeIsBlank run at (at + sector)
HasDueBytes image run sector (Program at) = (i : ℕ) → i < 256 → slice_index run (at + i) ≡ slice_index (program_piece image at) i
HasDueBytes image run sector (Refuse refusal) = ⊥
HasDueBytes image run sector Start = ⊥
