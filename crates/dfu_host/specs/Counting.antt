-- Number of bytes that an upload keeps: k full parts while part k is fetched, and fewer bytes than 65,535 full parts at the end. No other
-- session keeps bytes or ends as Uploaded.
use Rattle.std.specs.Prelude.{◌≡◌, ◌*◌, ◌<◌, List, length}
use Rattle.dfu_host.specs.declared.report.Report.{Report}
use Rattle.dfu_host.specs.declared.report.Report.TheVariants as report
use Rattle.dfu_host.specs.declared.seen.Seen.{Seen}
use Rattle.dfu_host.specs.Phases.{FetchGoal, Task, Phase}
use Rattle.dfu_host.specs.PhaseClasses.{Common, Sending, Closing, Manifesting, Fetching, Comparing, Ending, EndingUpload, Ended, EndedUpload, class_of}
use Rattle.dfu_host.specs.Host.{HostState, HostRows}

-- The report is any but Uploaded, and so has no bytes.
abbrev pub ReportsNoBytes : Report → Type 0
ReportsNoBytes report.Uploaded = ⊥
ReportsNoBytes report.Installed = Unit {0}
ReportsNoBytes report.Unconfirmed = Unit {0}
ReportsNoBytes report.Aborted = Unit {0}
ReportsNoBytes report.GaveUp = Unit {0}
ReportsNoBytes (report.Refused code) = Unit {0}
ReportsNoBytes report.RestartsSpent = Unit {0}
ReportsNoBytes report.TooManyBlocks = Unit {0}
ReportsNoBytes report.NoMemory = Unit {0}
ReportsNoBytes report.Verified = Unit {0}
ReportsNoBytes report.Different = Unit {0}

-- The number of kept bytes matches the phase: k full parts of an upload while part k is fetched, and at the end fewer bytes than 65,535
-- full parts. No other phase ends as Uploaded.
abbrev pub KeptBytesAreCounted : Task → Phase → Type 0
KeptBytesAreCounted task phase = elim (class_of phase) [
  | Common ↦ Unit {0}
  | Sending n ↦ Unit {0}
  | Closing ↦ Unit {0}
  | Manifesting ↦ Unit {0}
  | Fetching k kept ↦ (task.goal ≡ FetchGoal) × (k < 65535) × (length kept ≡ k * task.transfer)
  | Comparing k ↦ Unit {0}
  | Ending report ↦ ReportsNoBytes report
  | EndingUpload kept ↦ (task.goal ≡ FetchGoal) × (length kept < 65535 * task.transfer)
  | Ended report ↦ ReportsNoBytes report
  | EndedUpload kept ↦ (task.goal ≡ FetchGoal) × (length kept < 65535 * task.transfer)
]

-- If the number of kept bytes matches the phase and the transfer size is over 0, the number also matches the phase after any results. It
-- matches at the beginning of a session and after an abort.
abbrev pub KeptBytesStayCounted : Type 0
KeptBytesStayCounted =
    (h h' : HostState) (seens : List Seen) → 0 < h.task.transfer → KeptBytesAreCounted h.task h.phase → HostRows h seens h'
    → KeptBytesAreCounted h'.task h'.phase
