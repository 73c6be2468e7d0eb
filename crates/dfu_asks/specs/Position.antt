-- Position of a search in a write and the erases before it.
use Rattle.std.specs.Prelude.{◌≡◌, ℕ, ◌+◌, ◌*◌, ◌^◌, ◌≤◌, ◌<◌, true, List, length}
use Rattle.dfu_slots.specs.Writes.{sector_erases}
use Rattle.dfu_asks.specs.declared.sector.Position.{Position}
use Rattle.dfu_asks.specs.declared.sector.Position.TheVariants.{Erase, Program, Behind}
use Rattle.dfu_asks.specs.Steps.{Step, step_writes, steps_of_writes, erase_step, program_step, write_some_steps}
use Rattle.dfu_asks.specs.Carried.{total, IsPieceOfStep, IsStepPiece}

-- A position after `done` bytes of the erases of the sectors that begin in a range lies in an erase, or after all erases.
abbrev pub IsPositionInErases : ℕ → ℕ → ℕ → ℕ → Position → Type 0
IsPositionInErases sector at n done (Erase place len) =
    IsStepPiece (steps_of_writes true (sector_erases sector at n)) done (erase_step place len)
    × (0 < len) × (done + len ≤ n + sector) × (place < 2 ^ 42) × (len ≤ sector)
IsPositionInErases sector at n done (Program from) = ⊥
IsPositionInErases sector at n done (Behind rest) = (total (sector_erases sector at n) + rest ≡ done) × (done ≤ rest + n + sector)

-- A position after `done` bytes of a write of n bytes and the erases before it lies in an erase, in the program, or after the program.
abbrev pub IsPositionInWrite : ℕ → ℕ → ℕ → ℕ → Position → Type 0
IsPositionInWrite sector at n done (Erase place len) =
    ((bytes : List ℕ) → length bytes ≡ n → IsStepPiece (write_some_steps sector at bytes) done (erase_step place len))
    × (0 < len) × (done + len ≤ n + sector) × (place < 2 ^ 42) × (len ≤ sector)
IsPositionInWrite sector at n done (Program from) =
    ((bytes : List ℕ) (p : Step) → length bytes ≡ n → IsPieceOfStep (program_step at bytes) from p
    → IsStepPiece (write_some_steps sector at bytes) done p)
    × (from < n) × (done ≤ from + n + sector)
IsPositionInWrite sector at n done (Behind rest) =
    ((bytes : List ℕ) → length bytes ≡ n → total (step_writes (write_some_steps sector at bytes)) + rest ≡ done)
    × (done ≤ rest + 2 * n + sector)

-- A position after `done` bytes of a write of n bytes without erases lies in the program, or after it.
abbrev pub IsPositionInPlainWrite : ℕ → ℕ → Position → Type 0
IsPositionInPlainWrite n done (Erase place len) = ⊥
IsPositionInPlainWrite n done (Program from) = (from ≡ done) × (from < n)
IsPositionInPlainWrite n done (Behind rest) = n + rest ≡ done
