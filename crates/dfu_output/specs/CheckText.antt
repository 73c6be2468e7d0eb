-- Text that `dfu check` writes.
use Rattle.std.specs.Prelude.{◌⊎◌, ℕ, List, Option, IfSome, Result, IsOk}
use Rattle.dfu_suffix.specs.Checking.{CheckResult, FindingsOfFile, UnlessReadFault}
use Rattle.dfu_suffix.specs.declared.findings.Findings.{Findings}
use Rattle.dfu_suffix.specs.declared.summary.Summary.{Summary}
use Rattle.dfu_suffix.specs.declared.fault.SuffixFault.{SuffixFault}
use Rattle.dfu_suffix.specs.declared.fault.SuffixFault.TheVariants.{NoMemory}
use Rattle.dfu_output.specs.declared.exit.Exit.{Exit}
use Rattle.dfu_output.specs.declared.exit.Exit.TheVariants.{Refused}
use Rattle.dfu_output.specs.AnswerLines.{IsFaultOf, exit_of_answer, line_of_answer, fault_line, ok_line}
use Rattle.dfu_output.specs.Output.{TextIsOut}

-- The command checks all bytes of the reader and writes the line for the result. If there is no memory for the line of a valid file, it
-- writes `refused NoMemory` instead.
abbrev pub WritesCheckLine : Option (List ℕ) → Option (List ℕ) → Option (List ℕ) → Exit → Type 0
WritesCheckLine given old new result =
    (answer : Result Summary SuffixFault) × IfSome given (λ all. UnlessReadFault answer (CheckResult all answer))
    × (TextIsOut old new (line_of_answer ok_line answer) (exit_of_answer answer) result
    ⊎ (IsOk answer × TextIsOut old new (fault_line NoMemory) Refused result))

-- `fault` is the fault of checking all bytes of the reader. For a valid file it is None, or NoMemory if there was no memory for the line.
abbrev pub HasCheckFault : Option (List ℕ) → Option SuffixFault → Type 0
HasCheckFault given fault =
    (answer : Result Summary SuffixFault) × IfSome given (λ all. UnlessReadFault answer (CheckResult all answer)) × IsFaultOf answer fault

-- The findings are those of all bytes of the reader. If the fault is Read, they may have any values.
abbrev pub HasFindings : Option (List ℕ) → Option SuffixFault → Findings → Type 0
HasFindings given fault findings =
    (answer : Result Summary SuffixFault) × IfSome given (λ all. UnlessReadFault answer (FindingsOfFile all findings))
    × IsFaultOf answer fault
