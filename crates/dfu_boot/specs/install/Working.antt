-- Number of operations on a medium without failures.
use Rattle.std.specs.Prelude.{◌≡◌, ℕ, ◌+◌, ◌*◌, ◌≤◌, false, List, [], ◌∷◌, length, Option}
use Rattle.dfu_boot.specs.declared.install.due.Due.{Due}
use Rattle.dfu_boot.specs.declared.install.due.Due.TheVariants.{Start}
use Rattle.dfu_boot.specs.install.Area.{AreaStores}
use Rattle.dfu_boot.specs.install.Next.{IsNextDue, IsNotRefused}
use Rattle.dfu_boot.specs.install.OperationReport.{IsNoteOfDue}
use Rattle.dfu_boot.specs.install.Operations.{operation_start, operation_end, OutsideUnchanged, HasDueBytes}

-- The next operation is carried out on a medium without failures.
pub record MediumCarriesOut (image run run' : List ℕ) (sector : ℕ) (last last' : Option ℕ) (due : Due) : Type 0 where
  pub does : IsNextDue image run sector last due
  pub leaves : OutsideUnchanged run run' (operation_start due) (operation_end sector due)
  pub bytes : HasDueBytes image run' sector due
  pub took : IsNoteOfDue image run' sector due false last'

-- A medium without failures carries out these operations, and each is the next operation for the run area at that time.
abbrev pub AllOperationsWork : List ℕ → ℕ → List ℕ → Option ℕ → List Due → Type 0
AllOperationsWork image sector run last [] = Unit {0}
AllOperationsWork image sector run last (due ∷ rest) =
    (run' : List ℕ) × ((last' : Option ℕ) × (MediumCarriesOut image run run' sector last last' due
    × AllOperationsWork image sector run' last' rest))

-- An image in n sectors of k pieces takes at most n * (1 + k) + k operations, for any bytes of the run area.
abbrev pub FewOperations : Type 0
FewOperations = (image run : List ℕ) (n k : ℕ) (last : Option ℕ) (dues : List Due) → length image ≤ n * (256 * k) →
    AllOperationsWork image (256 * k) run last dues → length dues ≤ n * (1 + k) + k

-- If the run area holds the image, the next operation is the start.
abbrev pub FilledAreaStarts : Type 0
FilledAreaStarts = (image run : List ℕ) (sector : ℕ) (last : Option ℕ) (due : Due) → IsNotRefused image run sector → AreaStores run image →
    IsNextDue image run sector last due → due ≡ Start
