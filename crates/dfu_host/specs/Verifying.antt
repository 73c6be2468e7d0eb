-- Phases and reports of a session that verifies the payload that it installs.
use Rattle.std.specs.Prelude.{◌≡◌, ◌⊎◌, ℕ, List}
use Rattle.dfu_host.specs.declared.report.Report.{Report}
use Rattle.dfu_host.specs.declared.report.Report.TheVariants as report
use Rattle.dfu_host.specs.declared.seen.Seen.{Seen}
use Rattle.dfu_host.specs.Phases.{VerifyGoal, CompareGoal, Phase, Compare, Last, Over}
use Rattle.dfu_host.specs.CommonPhases.{IsCommonPhase, IsPhaseOfDownload}
use Rattle.dfu_host.specs.Host.{HostState, HostRows}

-- A session that verifies may end with this report, which is any but Installed, Unconfirmed, Uploaded and NoMemory.
abbrev pub IsVerifyReport : Report → Type 0
IsVerifyReport report.Installed = ⊥
IsVerifyReport report.Unconfirmed = ⊥
IsVerifyReport report.Uploaded = ⊥
IsVerifyReport report.Aborted = Unit {0}
IsVerifyReport report.GaveUp = Unit {0}
IsVerifyReport (report.Refused code) = Unit {0}
IsVerifyReport report.RestartsSpent = Unit {0}
IsVerifyReport report.TooManyBlocks = Unit {0}
IsVerifyReport report.NoMemory = ⊥
IsVerifyReport report.Verified = Unit {0}
IsVerifyReport report.Different = Unit {0}

-- The phase belongs to a session that verifies and hasn't compared yet: it is a phase of a download up to the last reset, or an end with a
-- report that satisfies `IsVerifyReport`.
abbrev pub IsInstallingPhase : Phase → Type 0
IsInstallingPhase phase = IsPhaseOfDownload (λ report. Unit {0}) IsVerifyReport phase

-- The phase belongs to a comparison: it is common, compares a part, or is before the last reset or over, with a report that satisfies
-- `IsVerifyReport`.
abbrev pub IsComparingPhase : Phase → Type 0
IsComparingPhase (Compare k) = Unit {0}
IsComparingPhase (Last report) = IsVerifyReport report
IsComparingPhase (Over report) = IsVerifyReport report
IsComparingPhase phase = IsCommonPhase phase

-- The session verifies the payload, which is still being installed, or is compared with the device's image.
abbrev pub VerifiesPayload : List ℕ → HostState → Type 0
VerifiesPayload payload h =
    ((h.task.goal ≡ VerifyGoal payload) × IsInstallingPhase h.phase) ⊎ ((h.task.goal ≡ CompareGoal payload) × IsComparingPhase h.phase)

-- After any results, a session that verifies has the same payload, and is over only with a report that satisfies `IsVerifyReport`.
abbrev pub VerifyEndsWithVerifyReport : Type 0
VerifyEndsWithVerifyReport =
    (payload : List ℕ) (h h' : HostState) (seens : List Seen) → VerifiesPayload payload h → HostRows h seens h' → VerifiesPayload payload h'
