-- A session that verifies keeps its payload, and is over only with a report that satisfies `IsVerifyReport`.
use Rattle.std.proofs.Common.{◌≡◌, ◌⊎◌, ℕ, IsTrue, List, refl, sym, subst, inl, inr}
use Rattle.dfu_host.specs.declared.report.Report.{Report}
use Rattle.dfu_host.specs.declared.report.Report.TheVariants as report
use Rattle.dfu_host.specs.Phases.{Goal, VerifyGoal, CompareGoal, Task, Phase, Find, Manifest, WaitManifest, WaitLast, Fetch, LastUploaded, Compare, Last, Over, OverUploaded, Heard, WasReset}
use Rattle.dfu_host.specs.BehindClose.{is_behind_close}
use Rattle.dfu_host.specs.Table.{work_start, on_reset, after_last, goal_after, host_row}
use Rattle.dfu_host.specs.CommonPhases.{NoKnownFact, IsCommonPhase, IsDownloading, CommonInvariant, DownloadInvariant}
use Rattle.dfu_host.specs.RowLaws.{compared_part_gives_property, common_phase_gives_property, download_phase_gives_property}
use Rattle.dfu_host.specs.HostLaws.{IsEarlyEndReport, RowsPreserve, host_rows_preserve_property}
use Rattle.dfu_host.specs.Verifying.{IsVerifyReport, IsInstallingPhase, IsComparingPhase, VerifyEndsWithVerifyReport}

-- The goal and the phase belong to a session that verifies the payload p.
abbrev IsVerifySession : List ℕ → Goal → Phase → Type 0
IsVerifySession p g phase = ((g ≡ VerifyGoal p) × IsInstallingPhase phase) ⊎ ((g ≡ CompareGoal p) × IsComparingPhase phase)

-- Laws of a session that still installs the payload.
module _ (p : List ℕ) (task : Task) (is : task.goal ≡ VerifyGoal p) where
  -- Every phase of a download before its last reset is an installing phase.
  download_phase_installs : (phase : Phase) → IsDownloading phase → IsInstallingPhase phase
  download_phase_installs (Fetch k kept) c = elim c [ ]
  download_phase_installs (LastUploaded kept) c = elim c [ ]
  download_phase_installs (Compare k) c = elim c [ ]
  download_phase_installs (Over r) c = elim c [ ]
  download_phase_installs (OverUploaded kept) c = elim c [ ]
  download_phase_installs phase c = tt

  -- `IsInstallingPhase` is an invariant of the phases of a download.
  installing_is_download_invariant : DownloadInvariant task IsInstallingPhase
  installing_is_download_invariant = record {
    holds_in_each_phase = download_phase_installs;
    begins = subst (λ (g : Goal). IsInstallingPhase (work_start g)) (sym is) tt;
    refused = λ c. tt;
    aborted = tt;
    unconfirmed = tt;
  }

  -- The last reset after an install leads to a phase of a session that verifies the payload.
  verify_reset_keeps_payload : (r : Report) (heard : Heard)
      → IsVerifySession p (goal_after (VerifyGoal p) (Last r) heard) (on_reset heard (after_last (VerifyGoal p) r) (Last r))
  verify_reset_keeps_payload r WasReset = inr (refl, tt)
  verify_reset_keeps_payload r heard = inl (refl, tt)

  -- From each installing phase, the row leads to a phase of a session that verifies the payload.
  installing_row_keeps_payload : (phase : Phase) (heard : Heard) → IsInstallingPhase phase →
      IsVerifySession p (goal_after task.goal phase heard) (host_row task phase heard)
  installing_row_keeps_payload (Last r) heard h = subst (λ (g : Goal). IsVerifySession p (goal_after g (Last r) heard) (on_reset heard
      (after_last g r) (Last r)))
      (sym is) (verify_reset_keeps_payload r heard)
  installing_row_keeps_payload (Fetch k kept) heard h = elim h [ ]
  installing_row_keeps_payload (LastUploaded kept) heard h = elim h [ ]
  installing_row_keeps_payload (Compare k) heard h = elim h [ ]
  installing_row_keeps_payload (OverUploaded kept) heard h = elim h [ ]
  installing_row_keeps_payload (Over r) heard h = inl (is, h)
  installing_row_keeps_payload phase heard h = inl (
    is,
    download_phase_gives_property task IsInstallingPhase installing_is_download_invariant phase
        heard tt (λ confirmed. tt),
  )

-- Laws of a session that compares the payload.
module _ (p : List ℕ) (task : Task) (is : task.goal ≡ CompareGoal p) where
  -- Every common phase is a comparing phase.
  common_phase_compares : (phase : Phase) → IsCommonPhase phase → IsComparingPhase phase
  common_phase_compares (Compare k) c = tt
  common_phase_compares (Last r) c = elim c [ ]
  common_phase_compares (Over r) c = elim c [ ]
  common_phase_compares phase c = c

  -- `IsComparingPhase` is an invariant of the common phases.
  comparing_is_common_invariant : CommonInvariant task IsComparingPhase NoKnownFact
  comparing_is_common_invariant = record {
    holds_in_each_phase = common_phase_compares;
    begins = λ c poll k. subst (λ (g : Goal). IsComparingPhase (work_start g)) (sym is) tt;
    refused = λ c. tt;
    aborted = tt;
  }

  -- The last reset after the comparison leads to a phase of a session that verifies the payload.
  compare_reset_keeps_payload : (r : Report) (heard : Heard) → IsVerifyReport r
      → IsVerifySession p (goal_after (CompareGoal p) (Last r) heard) (on_reset heard (after_last (CompareGoal p) r) (Last r))
  compare_reset_keeps_payload r WasReset h = inr (refl, h)
  compare_reset_keeps_payload r heard h = inr (refl, h)

  -- From each comparing phase, the row leads to a phase of a session that verifies the payload.
  comparing_row_keeps_payload : (phase : Phase) (heard : Heard) → IsComparingPhase phase →
      IsVerifySession p (goal_after task.goal phase heard) (host_row task phase heard)
  comparing_row_keeps_payload (Compare k) heard h = inr (
    is,
    compared_part_gives_property task IsComparingPhase k heard tt tt tt tt (λ matched.
        tt),
  )
  comparing_row_keeps_payload (Last r) heard h = subst (λ (g : Goal). IsVerifySession p (goal_after g (Last r) heard) (on_reset heard
      (after_last g r) (Last r)))
      (sym is) (compare_reset_keeps_payload r heard h)
  comparing_row_keeps_payload (Over r) heard h = inr (is, h)
  comparing_row_keeps_payload phase heard h = inr (
    is,
    common_phase_gives_property task IsComparingPhase NoKnownFact comparing_is_common_invariant
        phase heard h (λ x. tt),
  )

module _ (p : List ℕ) where
  -- No comparing phase is a phase after the close.
  comparing_is_not_behind_close : (from : Phase) → IsTrue (is_behind_close (CompareGoal p) from) → IsComparingPhase from → ⊥
  comparing_is_not_behind_close Manifest behind c = c
  comparing_is_not_behind_close (WaitManifest poll) behind c = c
  comparing_is_not_behind_close (WaitLast poll) behind c = c
  comparing_is_not_behind_close from behind c = absurd cc

  -- From each phase of a session that verifies the payload, the row leads to another such phase.
  row_keeps_verified_payload : (task : Task) (phase : Phase) (heard : Heard) → IsVerifySession p task.goal phase
      → IsVerifySession p (goal_after task.goal phase heard) (host_row task phase heard)
  row_keeps_verified_payload task phase heard (inl h) = installing_row_keeps_payload p task h.0 phase heard h.1
  row_keeps_verified_payload task phase heard (inr h) = comparing_row_keeps_payload p task h.0 phase heard h.1

  -- If the budget, the restarts or an abort end a session, its report satisfies `IsVerifyReport`.
  cut_short_report_is_verify_report : (report : Report) → IsEarlyEndReport report → IsVerifyReport report
  cut_short_report_is_verify_report report.GaveUp is = tt
  cut_short_report_is_verify_report report.RestartsSpent is = tt
  cut_short_report_is_verify_report report.Aborted is = tt
  cut_short_report_is_verify_report report is = elim is [ ]

  -- A session that returns to phase Find still verifies its payload.
  find_verifies_payload : (g : Goal) (from : Phase) → IsVerifySession p g from → IsVerifySession p g Find
  find_verifies_payload g from (inl h) = inl (h.0, tt)
  find_verifies_payload g from (inr h) = inr (h.0, tt)

  -- A session that ended with a report that satisfies `IsVerifyReport` still counts as one that verifies its payload.
  verify_end_keeps_payload : (g : Goal) (from : Phase) (r : Report) → IsVerifyReport r → IsVerifySession p g from →
      IsVerifySession p g (Over r)
  verify_end_keeps_payload g from r own (inl h) = inl (h.0, own)
  verify_end_keeps_payload g from r own (inr h) = inr (h.0, own)

  -- If the device leaves after the close, the session was still installing, so it still verifies its payload.
  unconfirmed_end_keeps_payload : (g : Goal) (from : Phase) → IsTrue (is_behind_close g from) → IsVerifySession p g from →
      IsVerifySession p g (Last report.Unconfirmed)
  unconfirmed_end_keeps_payload g from behind (inl h) = inl (h.0, tt)
  unconfirmed_end_keeps_payload g from behind (inr h) = absurd (comparing_is_not_behind_close from (subst (λ (x : Goal). IsTrue
      (is_behind_close x from)) h.0 behind) h.1)

  -- Rows, restarts and early ends preserve a session that verifies the payload.
  rows_preserve_verified_payload : RowsPreserve (λ task phase. IsVerifySession p task.goal phase)
  rows_preserve_verified_payload = record {
    next = row_keeps_verified_payload;
    anew = λ task phase f. find_verifies_payload task.goal phase f;
    short = λ task phase report is f. verify_end_keeps_payload task.goal phase report (cut_short_report_is_verify_report report is) f;
    leaves = λ task phase behind f. unconfirmed_end_keeps_payload task.goal phase behind f;
  }

pub verify_ends_with_verify_report : VerifyEndsWithVerifyReport
verify_ends_with_verify_report p h h' seens f rows = host_rows_preserve_property (λ task phase. IsVerifySession p task.goal phase)
    (rows_preserve_verified_payload p) h h' seens rows f
