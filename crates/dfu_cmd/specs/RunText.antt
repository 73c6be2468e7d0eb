-- Text that `dfu run` writes.
use Rattle.std.specs.Prelude.{◌≡◌, ℕ, List, Option, IfSome, codes}
use Rattle.dfu_suffix.specs.declared.fault.SuffixFault.TheVariants as suffix
use Rattle.dfu_link.specs.declared.scripting.fault.ScriptFault.{ScriptFault}
use Rattle.dfu_link.specs.declared.scripting.fault.ScriptFault.TheVariants.{BadLine, LateConfig, BadConfig, Expected, NonePrinted, TooLarge, NoMemory, Read, Write}
use Rattle.dfu_link.specs.ScriptRun.{RunIsOut}
use Rattle.dfu_link.specs.Falls.{ScriptFails}
use Rattle.dfu_link.specs.Printed.{WholeIsPrinted, PartIsPrinted}
use Rattle.dfu_output.specs.declared.exit.Exit.{Exit}
use Rattle.dfu_output.specs.declared.exit.Exit.TheVariants.{Done, Refused, Fault}
use Rattle.dfu_output.specs.AnswerLines.{fault_line}
use Rattle.dfu_output.specs.Output.{TextIsOut}
use Rattle.dfu_cmd.specs.NumberText.{NumberedLineIsOut}

-- After the output of a script that stopped, the command writes the line for the fault, or nothing if the fault is Write. If the script
-- printed a line other than the expected one, a line feed ends that line first.
abbrev pub StopLineIsOut : ScriptFault → Option (List ℕ) → Option (List ℕ) → Exit → Type 0
StopLineIsOut (BadLine n) old new result = NumberedLineIsOut (codes "refused BadLine ") n old new result
StopLineIsOut (LateConfig n) old new result = NumberedLineIsOut (codes "refused LateConfig ") n old new result
StopLineIsOut BadConfig old new result = TextIsOut old new (codes "refused BadConfig\n") Refused result
StopLineIsOut (Expected n) old new result = NumberedLineIsOut (codes "\nrefused Expected ") n old new result
StopLineIsOut (NonePrinted n) old new result = NumberedLineIsOut (codes "refused Expected ") n old new result
StopLineIsOut TooLarge old new result = TextIsOut old new (fault_line suffix.TooLarge) Refused result
StopLineIsOut NoMemory old new result = TextIsOut old new (fault_line suffix.NoMemory) Refused result
StopLineIsOut Read old new result = TextIsOut old new (fault_line suffix.Read) Fault result
StopLineIsOut Write old new result = (new ≡ old) × (result ≡ Fault)

-- The script `given` ran with the bytes `file` as FILE. It ran to its end and nothing more is written, or it stopped and the line for its
-- fault follows its output.
pub data IsRunText (file given old new : Option (List ℕ)) (result : Exit) : Type 0 where
  ran_to_end : IfSome given (λ text. RunIsOut file text old new) → result ≡ Done → IsRunText file given old new result
  stopped_at_fault : (mid : Option (List ℕ)) (fault : ScriptFault) →
      IfSome given (λ text. ScriptFails file text old mid fault) → StopLineIsOut fault mid new result → IsRunText file given old new result

-- Either `WholeIsPrinted` of dfu_link holds for the output of the whole script, and nothing more is written. Or the script stopped,
-- `PartIsPrinted` holds for its output up to the fault, and the line for the fault follows.
pub data HeadlineIsOut (file given old new : Option (List ℕ)) (result : Exit) : Type 0 where
  whole_text_is_printed : IfSome given (λ text. WholeIsPrinted file text old new) → result ≡ Done → HeadlineIsOut file given old new result
  text_part_is_printed : (mid : Option (List ℕ)) (fault : ScriptFault) →
      IfSome given (λ text. PartIsPrinted file text old mid) → StopLineIsOut fault mid new result → HeadlineIsOut file given old new result
