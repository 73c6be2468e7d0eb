-- Only a tolerant device that confirms the install leads to Installed, and only a device that returns the last part of the payload leads to
-- Verified.
use Rattle.std.proofs.Common.{◌⊎◌, ℕ, suc, nat_lt, ◌==◌, List, length, subst, inl, inr}
use Rattle.dfu_host.specs.declared.report.Report.{Report}
use Rattle.dfu_host.specs.declared.report.Report.TheVariants as report
use Rattle.dfu_host.specs.Phases.{Goal, LoadGoal, FetchGoal, VerifyGoal, CompareGoal, Task, Phase, Fetch, LastUploaded, Compare, Last, Over, OverUploaded, Heard, Part, NoRoom, WasReset}
use Rattle.dfu_host.specs.Table.{work_start, on_reset, after_last, on_part, host_row}
use Rattle.dfu_host.specs.CommonPhases.{IsDownloading, DownloadInvariant}
use Rattle.dfu_host.specs.RowLaws.{choice_gives_property, compared_part_gives_property, reset_has_property, download_phase_gives_property}
use Rattle.dfu_host.specs.Installing.{IsInstalledReport, IsVerifiedReport, IsEndingPhase, DfuIdleReported, InstalledOnlyIfConfirmed, LastPartMatched, VerifiedOnlyIfMatched}

-- The report is neither Installed nor Verified.
abbrev IsNotInPlaceReport : Report → Type 0
IsNotInPlaceReport report.Installed = ⊥
IsNotInPlaceReport report.Verified = ⊥
IsNotInPlaceReport r = Unit {0}

-- Laws for a class P of reports that contains no report other than Installed and Verified.
module _ (P : Report → Type 0) (none : (r : Report) → IsNotInPlaceReport r → P r → ⊥) (task : Task) where
  -- The session is neither about to end with a report that satisfies P, nor has it ended with one.
  abbrev IsNotEndingPhase : Phase → Type 0
  IsNotEndingPhase phase = IsEndingPhase P phase → ⊥

  -- The first phase of the work doesn't end with a report that satisfies P.
  first_phase_is_not_ending : (goal : Goal) → IsNotEndingPhase (work_start goal)
  first_phase_is_not_ending (LoadGoal payload) h = h
  first_phase_is_not_ending FetchGoal h = h
  first_phase_is_not_ending (VerifyGoal payload) h = h
  first_phase_is_not_ending (CompareGoal payload) h = h

  -- No phase of a download before its last reset ends with a report that satisfies P.
  download_phase_is_not_ending : (phase : Phase) → IsDownloading phase → IsNotEndingPhase phase
  download_phase_is_not_ending (Last r) d = elim d [ ]
  download_phase_is_not_ending (Over r) d = elim d [ ]
  download_phase_is_not_ending phase d = λ h. h

  -- Any claim about reports that satisfy P holds in the phases of a download, because no such phase ends with one of these reports.
  any_claim_is_download_invariant : (Q : Type 0) → DownloadInvariant task (λ phase. IsEndingPhase P phase → Q)
  any_claim_is_download_invariant Q = record {
    holds_in_each_phase = λ phase d h. absurd (download_phase_is_not_ending phase d h);
    begins = λ h. absurd (first_phase_is_not_ending task.goal h);
    refused = λ c h. absurd (none (report.Refused c) tt h);
    aborted = λ h. absurd (none report.Aborted tt h);
    unconfirmed = λ h. absurd (none report.Unconfirmed tt h);
  }

  -- The phase after a part of an upload doesn't end with a report that satisfies P.
  phase_after_part_is_not_ending : (t k : ℕ) (kept : List ℕ) (heard : Heard) → IsNotEndingPhase (on_part t k kept heard)
  phase_after_part_is_not_ending t k kept (Part bytes) =
      choice_gives_property IsNotEndingPhase (length bytes == t) _ _
      (λ e. choice_gives_property IsNotEndingPhase (suc k == 65535) _ _ (λ f. none report.TooManyBlocks tt) (λ f. λ h. h))
      (λ e. choice_gives_property IsNotEndingPhase (nat_lt (length bytes) t) _ _ (λ f. λ h. h) (λ f. λ h. h))
  phase_after_part_is_not_ending t k kept NoRoom = none report.NoMemory tt
  phase_after_part_is_not_ending t k kept heard = λ h. h

  -- The last reset leads to a report that satisfies P only if the session was about to end with that report.
  last_reset_keeps_its_report : (goal : Goal) (r : Report) (heard : Heard) → IsEndingPhase P (on_reset heard (after_last goal r) (Last r))
      → P r
  last_reset_keeps_its_report (VerifyGoal payload) r WasReset h = absurd h
  last_reset_keeps_its_report goal r WasReset h = h
  last_reset_keeps_its_report goal r heard h = h

  -- The phase ends with a report that satisfies P already, or the device confirms the install, or returns the last matching part.
  abbrev ReportHasCause : Phase → Heard → Type 0
  ReportHasCause phase heard = (IsEndingPhase P phase)
      ⊎ ((P report.Installed × DfuIdleReported task phase heard) ⊎ (P report.Verified × LastPartMatched task phase heard))

  -- A row leads to a report that satisfies P only for a cause in `ReportHasCause`.
  row_ends_only_with_cause : (phase : Phase) (heard : Heard) → IsEndingPhase P (host_row task phase heard) → ReportHasCause phase heard
  row_ends_only_with_cause (Compare k) heard h = compared_part_gives_property task (λ next. IsEndingPhase P next →
      ReportHasCause (Compare k) heard) k heard (λ f. absurd f)
      (λ f. absurd (none report.Different tt f)) (λ f. absurd (none report.TooManyBlocks tt f)) (λ f. absurd f)
      (λ matched verified. inr (inr (verified, matched))) h
  row_ends_only_with_cause (Last r) heard h = inl (last_reset_keeps_its_report task.goal r heard h)
  row_ends_only_with_cause (Over r) heard h = inl h
  row_ends_only_with_cause (OverUploaded kept) heard h = absurd h
  row_ends_only_with_cause (Fetch k kept) heard h = absurd (phase_after_part_is_not_ending task.transfer k kept heard h)
  row_ends_only_with_cause (LastUploaded kept) heard h =
      absurd (reset_has_property IsNotEndingPhase heard (OverUploaded kept) (LastUploaded kept) (λ x. x) (λ x. x) h)
  row_ends_only_with_cause phase heard h = download_phase_gives_property task (λ next. IsEndingPhase P next →
      ReportHasCause phase heard) (any_claim_is_download_invariant (ReportHasCause phase heard))
      phase heard tt (λ confirmed installed. inr (inl (installed, confirmed))) h

other_report_is_not_installed : (r : Report) → IsNotInPlaceReport r → IsInstalledReport r → ⊥
other_report_is_not_installed r o i = subst IsNotInPlaceReport i o

other_report_is_not_verified : (r : Report) → IsNotInPlaceReport r → IsVerifiedReport r → ⊥
other_report_is_not_verified r o i = subst IsNotInPlaceReport i o

pub installed_only_if_confirmed : InstalledOnlyIfConfirmed
installed_only_if_confirmed task phase heard h =
    elim (row_ends_only_with_cause IsInstalledReport other_report_is_not_installed task phase heard
    h) [
      | inl told ↦ inl told
      | inr (inl confirmed) ↦ inr confirmed.1
      | inr (inr (verified, matched)) ↦ absurd cc
    ]

pub verified_only_if_matched : VerifiedOnlyIfMatched
verified_only_if_matched task phase heard h =
    elim (row_ends_only_with_cause IsVerifiedReport other_report_is_not_verified task phase heard h) [
      | inl told ↦ inl told
      | inr (inl (installed, confirmed)) ↦ absurd cc
      | inr (inr matched) ↦ inr matched.1
    ]
