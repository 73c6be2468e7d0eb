-- The line that must be printed next, if a script expects one.
use Rattle.std.specs.Prelude.{◌≡◌, ◌≢◌, ℕ, List, [], ◌∷◌, ◌++◌, Option, Some, None}
use Rattle.std.specs.Io.KnownBytes.{Appends}
use Rattle.dfu_link.specs.declared.scripting.fault.ScriptFault.{ScriptFault}
use Rattle.dfu_link.specs.declared.scripting.fault.ScriptFault.TheVariants.{Expected, NoMemory, Write}

-- Number of an `expect` line, and the line that it expects, without its line feed.
pub record Expectation : Type 0 where
  pub number : ℕ
  pub text : List ℕ

-- The text begins with the expected line.
pub record HasExpectedFront (e : Expectation) (text : List ℕ) : Type 0 where
  pub rest : List ℕ
  pub is : text ≡ (e.text ++ 10 ∷ []) ++ rest

-- A text meets the expectation: no line is expected, the text is empty, or it begins with the expected line.
abbrev pub MeetsExpectation : Option Expectation → (text : List ℕ) → Type 0
MeetsExpectation None text = Unit {0}
MeetsExpectation (Some e) [] = Unit {0}
MeetsExpectation (Some e) (byte ∷ bytes) = HasExpectedFront e (byte ∷ bytes)

-- Expectation after a text was printed: unchanged if the text is empty, else None.
abbrev pub expectation_left : Option Expectation → (text : List ℕ) → Option Expectation
expectation_left e [] = e
expectation_left e (byte ∷ bytes) = None

-- The text differs from the expected line, and all of it but its last byte was written.
pub record IsUnexpected (e : Expectation) (text : List ℕ) (old new : Option (List ℕ)) : Type 0 where
  pub front : List ℕ
  pub last : ℕ
  pub whole : text ≡ front ++ last ∷ []
  pub other : text ≢ e.text ++ 10 ∷ []
  pub told : Appends old new front

-- Fault of a text that was not written completely: the writer failed; or a line is expected, and the text differs from it, or there was no
-- memory to compare them.
abbrev pub IsPrintFault : Option Expectation → (text : List ℕ) → (old new : Option (List ℕ)) → ScriptFault → Type 0
IsPrintFault e text old new Write = Unit {0}
IsPrintFault (Some e) text old new NoMemory = Unit {0}
IsPrintFault (Some e) text old new (Expected n) = (n ≡ e.number) × IsUnexpected e text old new
IsPrintFault e text old new fault = ⊥
