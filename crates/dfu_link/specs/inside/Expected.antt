-- Results of writing a text, and of printing it while a line is expected.
use Rattle.std.specs.Prelude.{◌≡◌, ℕ, List, Option, Some, None, Result, OnOk, OnErr, IfErr}
use Rattle.std.specs.Io.KnownBytes.{Appends}
use Rattle.dfu_host.specs.declared.limits.Limits.{Limits}
use Rattle.dfu_sim.specs.LinkView.{LinkView}
use Rattle.dfu_suffix.specs.Writing.{IsPartlyWritten}
use Rattle.dfu_link.specs.Expecting.{Expectation, MeetsExpectation, expectation_left, IsPrintFault}
use Rattle.dfu_link.specs.LineContent.{given_bytes}
use Rattle.dfu_link.specs.ScriptRun.{ScriptPoint}
use Rattle.dfu_link.specs.declared.scripting.expectation.Expectation.{Expectation as ExpectationHeld}
use Rattle.dfu_link.specs.declared.scripting.expectation.ScriptContext.{ScriptContext}
use Rattle.dfu_link.specs.declared.scripting.fault.ScriptFault.{ScriptFault}
use Rattle.dfu_link.specs.declared.scripting.fault.ScriptFault.TheVariants.{NonePrinted, NoMemory, Write}

-- Result of writing a text: with Ok the text was written; with a fault the writer failed, and a prefix of the text was written, but not all
-- of it.
pub record WriteEnds (text : List ℕ) (old new : Option (List ℕ)) (r : Result Unit ScriptFault) : Type 0 where
  pub ok : OnOk r (Appends old new text)
  pub err : OnErr r (IsPartlyWritten old new text)
  pub fault : IfErr r (λ f. f ≡ Write)

-- The `Expectation` of the code as plain data: the number of its line, and its text.
abbrev pub expectation_of : Option ExpectationHeld → Option Expectation
expectation_of None = None
expectation_of (Some e) = Some (record { number = e.number; text = e.text.items })

-- Point of a script with the bytes that FILE stands for, the bytes of a check, the limits, the expected line, and the link.
abbrev pub point_of_parts : (given : Option (List ℕ)) → (check : List ℕ) → Limits → Option Expectation → LinkView → ScriptPoint
point_of_parts given check limits next at = record { given = given; check = check; limits = limits; next = next; at = at }

-- Point of a script by the code's context and a link.
abbrev pub point_of_context : ScriptContext → LinkView → ScriptPoint
point_of_context a at = point_of_parts (given_bytes a.given) a.check.now a.limits (expectation_of a.next) at

-- A text was printed as expected: it was written, and `e'` is the expectation after it.
pub record TextPrinted (e : Option Expectation) (old : Option (List ℕ)) (text : List ℕ) (e' : Option Expectation) (new : Option (List ℕ))
    : Type 0 where
  pub told : Appends old new text
  pub meets : MeetsExpectation e text
  pub left : e' ≡ expectation_left e text

-- Result of printing the next text: with Ok the text was written as expected; with a fault a prefix of it was written, but not all of it.
pub record PrintEnds (e : Option Expectation) (old : Option (List ℕ)) (text : List ℕ) (e' : Option Expectation) (new : Option (List ℕ))
    (r : Result Unit ScriptFault) : Type 0 where
  pub ok : OnOk r (TextPrinted e old text e' new)
  pub err : OnErr r (IsPartlyWritten old new text)
  pub fault : IfErr r (λ f. IsPrintFault e text old new f)

-- Fault of an `expect` line: NonePrinted with the number of the line whose text is expected already, or NoMemory.
abbrev pub IsExpectFault : Option Expectation → ScriptFault → Type 0
IsExpectFault e NoMemory = Unit {0}
IsExpectFault (Some e) (NonePrinted n) = n ≡ e.number
IsExpectFault e fault = ⊥
