-- Numbers that the library writes for a phase.
use Rattle.std.specs.Prelude.{ℕ}
use Rattle.dfu_host.specs.declared.phase.Phase.{Phase}
use Rattle.dfu_host.specs.declared.phase.Phase.TheVariants as phase
use Rattle.dfu_host_core.specs.ReportNumbers.{report_numbers}
use Rattle.dfu_host_core.specs.declared.encoded.EncodedPhase.{EncodedPhase}

-- Numbers of a phase: its own, that of its block, part or report, and its poll time or status code.
abbrev encoded_phase : (which number more : ℕ) → EncodedPhase
encoded_phase which number more = record { which = which; number = number; more = more }

-- Numbers of each phase, as `phase_at` reads them; 0 for those that the phase doesn't use.
abbrev pub numbers_in : Phase → EncodedPhase
numbers_in phase.Find = encoded_phase 0 0 0
numbers_in phase.FindAgain = encoded_phase 1 0 0
numbers_in phase.Detach = encoded_phase 2 0 0
numbers_in phase.Enter = encoded_phase 3 0 0
numbers_in phase.Clear = encoded_phase 4 0 0
numbers_in phase.Quit = encoded_phase 5 0 0
numbers_in (phase.WaitFind poll) = encoded_phase 6 0 poll
numbers_in phase.ResetFind = encoded_phase 7 0 0
numbers_in (phase.Block n) = encoded_phase 8 n 0
numbers_in (phase.Ask n) = encoded_phase 9 n 0
numbers_in (phase.Poll n) = encoded_phase 10 n 0
numbers_in (phase.WaitPoll n poll) = encoded_phase 11 n poll
numbers_in phase.Close = encoded_phase 12 0 0
numbers_in phase.AskLast = encoded_phase 13 0 0
numbers_in phase.Manifest = encoded_phase 14 0 0
numbers_in (phase.WaitManifest poll) = encoded_phase 15 0 poll
numbers_in (phase.WaitLast poll) = encoded_phase 16 0 poll
numbers_in phase.Trouble = encoded_phase 17 0 0
numbers_in (phase.Fetch k) = encoded_phase 18 k 0
numbers_in (phase.Compare k) = encoded_phase 19 k 0
numbers_in (phase.Last report) = encoded_phase 20 (report_numbers report).0 (report_numbers report).1
numbers_in phase.LastUploaded = encoded_phase 21 0 0
numbers_in phase.GiveUp = encoded_phase 22 0 0
numbers_in (phase.Over report) = encoded_phase 23 (report_numbers report).0 (report_numbers report).1
numbers_in phase.OverUploaded = encoded_phase 24 0 0
