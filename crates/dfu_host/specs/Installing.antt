-- Rows of a session that lead to the reports Installed and Verified.
use Rattle.std.specs.Prelude.{◌≡◌, ◌⊎◌, ℕ, ◌<◌, true, List, [], length, slice_index_or}
use Rattle.dfu_wire.specs.declared.codes.Code.TheVariants as code
use Rattle.dfu_wire.specs.declared.states.State.TheVariants as state
use Rattle.dfu_host.specs.declared.report.Report.{Report}
use Rattle.dfu_host.specs.declared.report.Report.TheVariants as report
use Rattle.dfu_host.specs.Phases.{Task, Phase, Manifest, Compare, Heard, Status, Part}
use Rattle.dfu_host.specs.PhaseClasses.{Common, Sending, Closing, Manifesting, Fetching, Comparing, Ending, EndingUpload, Ended, EndedUpload, class_of}
use Rattle.dfu_host.specs.Table.{session_blocks, host_row}

abbrev pub IsInstalledReport : Report → Type 0
IsInstalledReport r = r ≡ report.Installed

abbrev pub IsVerifiedReport : Report → Type 0
IsVerifiedReport r = r ≡ report.Verified

-- The session is about to end with a report that satisfies P, or has ended with one.
abbrev pub IsEndingPhase : (Report → Type 0) → Phase → Type 0
IsEndingPhase P phase = elim (class_of phase) [
  | Common ↦ ⊥
  | Sending n ↦ ⊥
  | Closing ↦ ⊥
  | Manifesting ↦ ⊥
  | Fetching k kept ↦ ⊥
  | Comparing k ↦ ⊥
  | Ending report ↦ P report
  | EndingUpload kept ↦ ⊥
  | Ended report ↦ P report
  | EndedUpload kept ↦ ⊥
]

-- A tolerant device reported dfuIDLE with OK after the close.
pub record DfuIdleReported (task : Task) (phase : Phase) (heard : Heard) : Type 0 where
  pub closed : phase ≡ Manifest
  pub tolerant : task.tolerant ≡ true
  pub poll : ℕ
  pub told : heard ≡ Status code.Ok poll state.DfuIdle

-- A row leads to Installed only if the phase had that report already, or if a tolerant device confirms the install in this row.
abbrev pub InstalledOnlyIfConfirmed : Type 0
InstalledOnlyIfConfirmed =
    (task : Task) (phase : Phase) (heard : Heard)
    → IsEndingPhase IsInstalledReport (host_row task phase heard) →
    (IsEndingPhase IsInstalledReport phase) ⊎ DfuIdleReported task phase heard

-- In a comparison, the device returned the last part of the payload: the shorter last block, or no byte after a full last block.
pub record LastPartMatched (task : Task) (phase : Phase) (heard : Heard) : Type 0 where
  pub k : ℕ
  pub bytes : List ℕ
  pub compares : phase ≡ Compare k
  pub came : heard ≡ Part bytes
  pub same : bytes ≡ slice_index_or (session_blocks task) k []
  pub last : length bytes < task.transfer

-- A row leads to Verified only if the phase had that report already, or if the device returns the last part of the payload in this row.
abbrev pub VerifiedOnlyIfMatched : Type 0
VerifiedOnlyIfMatched =
    (task : Task) (phase : Phase) (heard : Heard)
    → IsEndingPhase IsVerifiedReport (host_row task phase heard) → (IsEndingPhase IsVerifiedReport phase) ⊎ LastPartMatched task phase heard
