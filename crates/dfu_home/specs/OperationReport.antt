-- Success of an operation that was due, and the offset to remember after it.
use Rattle.std.specs.Prelude.{◌≡◌, ℕ, ◌+◌, ◌≤◌, ◌<◌, ◌^◌, Bool, false, List, length, take, slice_range, Option, Some, None}
use Rattle.dfu_boot.specs.install.Area.{RangeIsBlank}
use Rattle.dfu_home.specs.declared.due.Due.{Due}
use Rattle.dfu_home.specs.declared.due.Due.TheVariants.{Refuse, Home, Erase, Program}
use Rattle.dfu_home.specs.Laws.{place_of}

-- An operation succeeded, according to the flash that is read back. Its range is not empty and lies in a flash of less than 2^32 bytes. The
-- erased sector is FFh, or the range has the programmed bytes, 256 at most.
abbrev pub HomeDueWorked : List ℕ → ℕ → Due → List ℕ → Type 0
HomeDueWorked flash sector (Erase at) bytes =
    (length flash < 2 ^ 32) × (0 < sector) × (at + sector ≤ length flash) × RangeIsBlank flash at (at + sector)
HomeDueWorked flash sector (Program at len) bytes =
    (length flash < 2 ^ 32) × (0 < len) × (len ≤ 256) × (at + len ≤ length flash) × (slice_range flash at (at + len) ≡ take len bytes)
HomeDueWorked flash sector (Refuse refusal) bytes = ⊥
HomeDueWorked flash sector Home bytes = ⊥

-- The offset to remember is that of the operation if it succeeded and was not reported as failed; else it is None.
abbrev pub IsNoteOfHomeDue : List ℕ → ℕ → Due → List ℕ → Bool → Option ℕ → Type 0
IsNoteOfHomeDue flash sector due bytes failed (Some at) = (failed ≡ false) × (at ≡ place_of due) × HomeDueWorked flash sector due bytes
IsNoteOfHomeDue flash sector due bytes failed None = failed ≡ false → ¬ HomeDueWorked flash sector due bytes
