-- Lines that end with a number.
use Rattle.std.specs.Prelude.{◌⊎◌, ℕ, List, [], ◌∷◌, ◌++◌, Option}
use Rattle.std.specs.Fmt.{decimal}
use Rattle.dfu_suffix.specs.declared.fault.SuffixFault.TheVariants as suffix
use Rattle.dfu_output.specs.declared.exit.Exit.{Exit}
use Rattle.dfu_output.specs.declared.exit.Exit.TheVariants.{Refused}
use Rattle.dfu_output.specs.AnswerLines.{fault_line}
use Rattle.dfu_output.specs.Output.{TextIsOut}

-- The command writes a line with `text` and the number `n`, or `refused NoMemory` if there is no memory for this line. The result is
-- Refused, or Fault if the writer fails.
abbrev pub NumberedLineIsOut : List ℕ → ℕ → Option (List ℕ) → Option (List ℕ) → Exit → Type 0
NumberedLineIsOut text n old new result =
    TextIsOut old new (text ++ decimal n ++ 10 ∷ []) Refused result ⊎ TextIsOut old new (fault_line suffix.NoMemory) Refused result
