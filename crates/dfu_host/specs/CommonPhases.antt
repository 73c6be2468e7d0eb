-- The phases that every session has, and the conditions under which a property of phases holds after each of them.
use Rattle.std.specs.Prelude.{ℕ}
use Rattle.dfu_wire.specs.declared.codes.Code.{Code}
use Rattle.dfu_wire.specs.declared.states.State.TheVariants.{DfuIdle}
use Rattle.dfu_host.specs.declared.report.Report.{Report}
use Rattle.dfu_host.specs.declared.report.Report.TheVariants.{Aborted, Refused, Unconfirmed}
use Rattle.dfu_host.specs.Phases.{Task, Phase, Find, FindAgain, Trouble, Last, Over, Heard, Status}
use Rattle.dfu_host.specs.PhaseClasses.{Common, Sending, Closing, Manifesting, Fetching, Comparing, Ending, EndingUpload, Ended, EndedUpload, class_of}
use Rattle.dfu_host.specs.Table.{work_start}

-- The phase is common to all sessions: it finds the device's state, brings the device to dfuIDLE or appIDLE, or ends an aborted session.
abbrev pub IsCommonPhase : Phase → Type 0
IsCommonPhase phase = elim (class_of phase) [
  | Common ↦ Unit {0}
  | Sending n ↦ ⊥
  | Closing ↦ ⊥
  | Manifesting ↦ ⊥
  | Fetching k kept ↦ ⊥
  | Comparing k ↦ ⊥
  | Ending report ↦ ⊥
  | EndingUpload kept ↦ ⊥
  | Ended report ↦ ⊥
  | EndedUpload kept ↦ ⊥
]

-- The phase belongs to a download: it is common, sends or installs blocks, is before the last reset with a report that satisfies `Ends`, or
-- is over with a report that satisfies `Over_with`.
abbrev pub IsPhaseOfDownload : (Ends Over_with : Report → Type 0) → Phase → Type 0
IsPhaseOfDownload Ends Over_with phase = elim (class_of phase) [
  | Common ↦ Unit {0}
  | Sending n ↦ Unit {0}
  | Closing ↦ Unit {0}
  | Manifesting ↦ Unit {0}
  | Fetching k kept ↦ ⊥
  | Comparing k ↦ ⊥
  | Ending report ↦ Ends report
  | EndingUpload kept ↦ ⊥
  | Ended report ↦ Over_with report
  | EndedUpload kept ↦ ⊥
]

-- The phase belongs to a download before its last reset.
abbrev pub IsDownloading : Phase → Type 0
IsDownloading phase = IsPhaseOfDownload (λ report. ⊥) (λ report. ⊥) phase

-- The phase is common and requests the status; the state in the answer decides the next phase.
abbrev pub IsSeekingPhase : Phase → Type 0
IsSeekingPhase Find = Unit {0}
IsSeekingPhase FindAgain = Unit {0}
IsSeekingPhase Trouble = Unit {0}
IsSeekingPhase phase = ⊥

-- The property holds in the common phases, in the first phase of the work after a status dfuIDLE, and in the two final phases to which
-- common phases lead. A proof may use the fact `Known` about the result.
pub record CommonInvariant (task : Task) (P : Phase → Type 0) (Known : Heard → Type 0) : Type 0 where
  pub holds_in_each_phase : (phase : Phase) → IsCommonPhase phase → P phase
  pub begins : (code : Code) (poll : ℕ) → Known (Status code poll DfuIdle) → P (work_start task.goal)
  pub refused : (code : Code) → P (Over (Refused code))
  pub aborted : P (Over Aborted)

-- No fact about the result is known.
abbrev pub NoKnownFact : Heard → Type 0
NoKnownFact heard = Unit {0}

-- The property holds in the phases of a download, in the first phase of the work, and at the ends that may follow, except the confirmed
-- install.
pub record DownloadInvariant (task : Task) (P : Phase → Type 0) : Type 0 where
  pub holds_in_each_phase : (phase : Phase) → IsDownloading phase → P phase
  pub begins : P (work_start task.goal)
  pub refused : (code : Code) → P (Over (Refused code))
  pub aborted : P (Over Aborted)
  pub unconfirmed : P (Last Unconfirmed)
