-- Text that `dfu judge` writes about a log.
use Rattle.std.specs.Prelude.{◌≡◌, ◌⊎◌, ℕ, ◌+◌, Bool, List, [], ◌∷◌, ◌++◌, length, Option, Some, None, IfSome, codes}
use Rattle.std.specs.Fmt.{decimal}
use Rattle.std.specs.Io.KnownBytes.{Appends}
use Rattle.dfu_suffix.specs.Writing.{IsPartlyWritten}
use Rattle.dfu_suffix.specs.declared.fault.SuffixFault.TheVariants as suffix
use Rattle.dfu_output.specs.declared.exit.Exit.{Exit}
use Rattle.dfu_output.specs.declared.exit.Exit.TheVariants.{Done, Refused, Fault}
use Rattle.dfu_output.specs.AnswerLines.{fault_line}
use Rattle.dfu_output.specs.Output.{TextIsOut}
use Rattle.dfu_conformance.specs.declared.verdict.Verdict.{Verdict}
use Rattle.dfu_conformance.specs.declared.verdict.Verdict.TheVariants.{Kept, KeptBy}
use Rattle.dfu_conformance.specs.Verdict.{IsVerdict, ArePlacesAfter}
use Rattle.dfu_output.specs.declared.judge.fault.LogFault.{LogFault}
use Rattle.dfu_output.specs.declared.judge.fault.LogFault.TheVariants.{BadLine, TooLarge, NoMemory, Read, Write}
use Rattle.dfu_output.specs.judge.Lines.{IsBadLine}
use Rattle.dfu_output.specs.judge.Course.{LogCourse, CourseOfText}
use Rattle.dfu_output.specs.judge.Texts.{verdict_text}

-- The next byte of a log after `front` can't be judged because of this fault: its line is bad, or the log is too large.
abbrev pub CannotJudgeByte : (interface : ℕ) (front : List ℕ) → LogCourse → (rest : List ℕ) → LogFault → Type 0
CannotJudgeByte interface front c rest (BadLine n why) = (n ≡ c.number + 1) × IsBadLine interface c.line rest why
CannotJudgeByte interface front c rest TooLarge = length front ≡ 1099511627776
CannotJudgeByte interface front c rest fault = ⊥

-- Judging stopped at this fault. The text printed so far is written, or only a part of it if the writer failed. For BadLine and TooLarge,
-- the next byte can't be judged.
abbrev pub HasOutputAtStop : (interface : ℕ) (front : List ℕ) → LogCourse → (rest : List ℕ) (old new : Option (List ℕ)) → LogFault → Type 0
HasOutputAtStop interface front c rest old new NoMemory = Appends old new c.out
HasOutputAtStop interface front c rest old new Read = Appends old new c.out
HasOutputAtStop interface front c rest old new Write = IsPartlyWritten old new c.out
HasOutputAtStop interface front c rest old new fault = Appends old new c.out × CannotJudgeByte interface front c rest fault

-- Judging a text stopped at this fault. A prefix of the text was judged, and the output satisfies `HasOutputAtStop` for this fault.
pub record LogStops (interface : ℕ) (old new : Option (List ℕ)) (text : List ℕ) (fault : LogFault) : Type 0 where
  -- Prefix that was judged.
  pub front : List ℕ
  -- Bytes that were not judged.
  pub rest : List ℕ
  -- The text consists of the prefix and the remaining bytes.
  pub split : text ≡ front ++ rest
  -- Course after judging the prefix.
  pub course : LogCourse
  -- Judging the prefix leads to this course.
  pub judged : CourseOfText interface front course
  -- The output and the next byte satisfy `HasOutputAtStop` for this fault.
  pub stops : HasOutputAtStop interface front course rest old new fault

-- Line for a bad line of a log: `refused BadLine N`, where N is the number of the bad line.
unfoldable pub bad_line : ℕ → List ℕ
bad_line n = codes "refused BadLine " ++ decimal n ++ 10 ∷ []

-- After a stop, the command writes the line for the fault, or nothing if the writer failed. If there is no memory for `refused BadLine N`,
-- it writes `refused NoMemory`.
abbrev pub WritesLineOfStop : LogFault → Option (List ℕ) → Option (List ℕ) → Exit → Type 0
WritesLineOfStop (BadLine n why) old new result =
    TextIsOut old new (bad_line n) Refused result ⊎ TextIsOut old new (fault_line suffix.NoMemory) Refused result
WritesLineOfStop TooLarge old new result = TextIsOut old new (fault_line suffix.TooLarge) Refused result
WritesLineOfStop NoMemory old new result = TextIsOut old new (fault_line suffix.NoMemory) Refused result
WritesLineOfStop Read old new result = TextIsOut old new (fault_line suffix.Read) Fault result
WritesLineOfStop Write old new result = (new ≡ old) × (result ≡ Fault)

-- Number of the set of habits in a verdict: the one of `KeptBy`, or 0 for no habits.
abbrev pub readings_of : Verdict → ℕ
readings_of (KeptBy readings) = readings
readings_of verdict = 0

-- Exit for a verdict: Done for `Kept`, and Refused otherwise.
abbrev pub exit_of : Verdict → Exit
exit_of Kept = Done
exit_of verdict = Refused

-- After the departures the command writes the verdict on the events, with the states in which the device may be. If there is no memory for
-- the line, it writes `refused NoMemory`.
pub record WritesVerdict (c : LogCourse) (old new : Option (List ℕ)) (result : Exit) : Type 0 where
  -- Verdict on all events.
  pub verdict : Verdict
  -- The verdict is correct for these events.
  pub is : IsVerdict verdict c.events
  -- States in which a device with the habits of the verdict may be after the events.
  pub at : List Bool
  -- The list contains exactly these states.
  pub places : ArePlacesAfter (readings_of verdict) c.events at
  -- Output before the line of the verdict.
  pub mid : Option (List ℕ)
  -- The output before the verdict contains the lines of the departures.
  pub told : Appends old mid c.out
  -- The line of the verdict follows, or `refused NoMemory` if memory ran out.
  pub wrote : TextIsOut mid new (verdict_text verdict at (length c.events) c.single) (exit_of verdict) result
      ⊎ TextIsOut mid new (fault_line suffix.NoMemory) Refused result

-- Either a log was judged to its end, where its last line ends too, and the verdict is written. Or judging stopped at a fault, and the line
-- for the fault follows the departures.
pub data WritesJudgment (interface : ℕ) (given old new : Option (List ℕ)) (result : Exit) (stop : Option LogFault) : Type 0 where
  -- All bytes and the end of the last line were judged, and the verdict is written.
  judged_to_end : IfSome given (λ text. (c : LogCourse) × CourseOfText interface (text ++ 10 ∷ []) c × WritesVerdict c old new result)
      → stop ≡ None
      → WritesJudgment interface given old new result stop
  -- Judging stopped at a fault, and the line for the fault is written.
  judged_to_stop : (mid : Option (List ℕ)) (fault : LogFault) → IfSome given (λ text. LogStops interface old mid (text ++ 10 ∷ []) fault)
      → WritesLineOfStop fault mid new result → stop ≡ Some fault → WritesJudgment interface given old new result stop

-- The command writes the departures of a log, and then the verdict or the line for the fault at which judging stopped.
abbrev pub WritesAboutLog : (interface : ℕ) (given old new : Option (List ℕ)) → Exit → Type 0
WritesAboutLog interface given old new result = (stop : Option LogFault) × WritesJudgment interface given old new result stop

-- A departure wasn't written because of this fault. After NoMemory none of its text is written, and after Write only a proper prefix.
abbrev pub DepartureUnwritten : (text : List ℕ) (old new : Option (List ℕ)) → LogFault → Type 0
DepartureUnwritten text old new NoMemory = new ≡ old
DepartureUnwritten text old new Write = IsPartlyWritten old new text
DepartureUnwritten text old new fault = ⊥
