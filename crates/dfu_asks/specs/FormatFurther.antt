-- Advance of a format by one piece.
use Rattle.std.specs.Prelude.{◌≡◌, ℕ, ◌+◌, List, ◌++◌, length}
use Rattle.dfu_asks.specs.declared.formatting.Formatting.{Formatting}
use Rattle.dfu_asks.specs.declared.formatting.FormatProgress.{FormatProgress}
use Rattle.dfu_asks.specs.declared.formatting.FormatProgress.TheVariants.{Asks}
use Rattle.dfu_asks.specs.Steps.{Step, step_writes}
use Rattle.dfu_asks.specs.Carried.{total, IsStepPiece}
use Rattle.dfu_asks.specs.Phases.{remaining_steps}

-- A format on flash of `size` bytes advanced by n bytes. `front` lists the steps that it completed.
pub record FormatAdvancedBy (f f' : Formatting) (size : ℕ) (image : List ℕ) (n : ℕ) : Type 0 where
  pub front : List Step
  pub series : remaining_steps f size image ≡ front ++ remaining_steps f' size image
  pub place : f.done + n ≡ total (step_writes front) + f'.done

-- If a report is answered by a request for the next write, the format advanced by the reported piece.
abbrev pub FormatPieceAdvances : Formatting → ℕ → List ℕ → FormatProgress → Formatting → Type 0
FormatPieceAdvances f size image r f' = r ≡ Asks → (p : Step) → IsStepPiece (remaining_steps f size image) f.done p
    → FormatAdvancedBy f f' size image (length p.write.bytes)
