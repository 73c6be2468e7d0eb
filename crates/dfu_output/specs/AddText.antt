-- Text that `dfu add` writes.
use Rattle.std.specs.Prelude.{◌⊎◌, ℕ, List, [], ◌∷◌, ◌++◌, Option, IfSome, Result, IsOk, codes}
use Rattle.std.specs.Fmt.{decimal}
use Rattle.dfu_suffix.specs.Adding.{AddResult, UnchangedAtFault}
use Rattle.dfu_wire.specs.declared.ids.Ids.{Ids}
use Rattle.dfu_suffix.specs.declared.fault.SuffixFault.{SuffixFault}
use Rattle.dfu_suffix.specs.declared.fault.SuffixFault.TheVariants.{NoMemory}
use Rattle.dfu_output.specs.declared.exit.Exit.{Exit}
use Rattle.dfu_output.specs.declared.exit.Exit.TheVariants.{Refused}
use Rattle.dfu_output.specs.AnswerLines.{IsFaultOf, exit_of_answer, line_of_answer, fault_line}
use Rattle.dfu_output.specs.Output.{TextIsOut}

-- Line for a written file: `wrote N`, where N is the file's number of bytes.
unfoldable pub wrote_line : ℕ → List ℕ
wrote_line count = codes "wrote" ++ (codes " " ++ decimal count) ++ 10 ∷ []

-- The command adds a suffix to all bytes of the reader, stores the result in the file, and writes the line for the outcome. If there is no
-- memory for `wrote N`, it writes `refused NoMemory` instead. A fault other than Write leaves the file unchanged.
abbrev pub WritesAddLine : (given : Option (List ℕ)) → Ids → (file written old new : Option (List ℕ)) → Exit → Type 0
WritesAddLine given ids file written old new result =
    (answer : Result ℕ SuffixFault) × IfSome given (λ all. AddResult all ids file written answer) × UnchangedAtFault file written answer
    × (TextIsOut old new (line_of_answer wrote_line answer) (exit_of_answer answer) result
    ⊎ (IsOk answer × TextIsOut old new (fault_line NoMemory) Refused result))

-- `fault` is the fault of adding a suffix to all bytes of the reader. After a success it is None, or NoMemory if there was no memory for
-- the line.
abbrev pub HasAddFault : (given : Option (List ℕ)) → Ids → (file written : Option (List ℕ)) → Option SuffixFault → Type 0
HasAddFault given ids file written fault =
    (answer : Result ℕ SuffixFault) × IfSome given (λ all. AddResult all ids file written answer) × IsFaultOf answer fault
