-- After every result, the number of bytes that an upload keeps matches its phase.
use Rattle.std.proofs.Common.{◌≡◌, ℕ, suc, ◌*◌, ◌<◌, ◌≤◌, nat_lt, ◌==◌, List, length, refl, arith, length-append}
use Rattle.std.proofs.Math.Nat.{suc-mul, mul-le-mul_right}
use Rattle.std.proofs.lemmas.Bool.{eqb-true, eqb-false, ltb-true}
use Rattle.dfu_host.specs.declared.report.Report.{Report}
use Rattle.dfu_host.specs.declared.report.Report.TheVariants as report
use Rattle.dfu_host.specs.Phases.{Goal, LoadGoal, FetchGoal, VerifyGoal, CompareGoal, Task, Phase, Fetch, LastUploaded, Compare, Last, Over, OverUploaded, Heard, Part}
use Rattle.dfu_host.specs.Table.{work_start, after_last, on_part, host_row, task_after}
use Rattle.dfu_host.specs.Host.{HostState, after}
use Rattle.dfu_host.specs.CommonPhases.{IsDownloading, DownloadInvariant}
use Rattle.dfu_host.specs.RowLaws.{choice_gives_property, reset_has_property, compared_part_gives_property, download_phase_gives_property}
use Rattle.dfu_host.specs.HostLaws.{IsEarlyEndReport, RowsPreserve, heard_result_preserves_property, host_rows_preserve_property}
use Rattle.dfu_host.specs.Counting.{ReportsNoBytes, KeptBytesAreCounted, KeptBytesStayCounted}

-- In the first phase of the work, the number of kept bytes matches the phase.
work_start_is_counted : (task : Task) (goal : Goal) → task.goal ≡ goal → KeptBytesAreCounted task (work_start goal)
work_start_is_counted task (LoadGoal payload) e = tt
work_start_is_counted task FetchGoal e = (e, omega arith, omega arith)
work_start_is_counted task (VerifyGoal payload) e = tt
work_start_is_counted task (CompareGoal payload) e = tt

-- In every phase of a download before its last reset, the number of kept bytes matches the phase.
download_phase_is_counted : (task : Task) (phase : Phase) → IsDownloading phase → KeptBytesAreCounted task phase
download_phase_is_counted task (Fetch k kept) h = elim h [ ]
download_phase_is_counted task (LastUploaded kept) h = elim h [ ]
download_phase_is_counted task (Last r) h = elim h [ ]
download_phase_is_counted task (Over r) h = elim h [ ]
download_phase_is_counted task (OverUploaded kept) h = elim h [ ]
download_phase_is_counted task phase h = tt

-- `KeptBytesAreCounted` is an invariant of the phases of a download.
counted_is_download_invariant : (task : Task) → DownloadInvariant task (KeptBytesAreCounted task)
counted_is_download_invariant task = record {
  holds_in_each_phase = download_phase_is_counted task;
  begins = work_start_is_counted task task.goal refl;
  refused = λ c. tt;
  aborted = tt;
  unconfirmed = tt;
}

-- If the number of kept bytes matches part k before the part is fetched, it also matches the phase after the part.
phase_after_part_is_counted : (task : Task) (k : ℕ) (kept : List ℕ) (heard : Heard) → 0 < task.transfer →
    KeptBytesAreCounted task (Fetch k kept)
    → KeptBytesAreCounted task (on_part task.transfer k kept heard)
phase_after_part_is_counted task k kept (Part bytes) some c =
    let t = task.transfer in
    choice_gives_property (KeptBytesAreCounted task) (length bytes == t) _ _
    (λ full. choice_gives_property (KeptBytesAreCounted task) (suc k == 65535) _ _ (λ e. tt) (λ more.
    let f : length bytes ≡ t = eqb-true _ _ full in
    let n : suc k ≡ 65535 → ⊥ = eqb-false _ _ more in
    let g : suc k < 65535 = omega (arith, c.1, n) in
    (c.0, g, omega (arith, c.2, f, length-append kept bytes, suc-mul k t))))
    (λ other. choice_gives_property (KeptBytesAreCounted task) (nat_lt (length bytes) t) _ _
    (λ short.
    let f : length bytes < t = ltb-true _ _ short in
    let g : suc k * t ≤ 65535 * t = mul-le-mul_right t (omega (arith, c.1)) in
    (c.0, omega (arith, c.2, f, g, length-append kept bytes, suc-mul k t)))
    (λ long. tt))
phase_after_part_is_counted task k kept heard some c = tt

-- If the report is not Uploaded, the number of kept bytes matches the phase after the last reset.
phase_after_last_is_counted : (task : Task) (goal : Goal) (r : Report) → ReportsNoBytes r → KeptBytesAreCounted task (after_last goal r)
phase_after_last_is_counted task (VerifyGoal payload) r c = tt
phase_after_last_is_counted task goal r c = c

-- If the number of kept bytes matches a phase, it also matches the phase after the row.
phase_after_row_is_counted : (task : Task) (phase : Phase) (heard : Heard) → 0 < task.transfer → KeptBytesAreCounted task phase
    → KeptBytesAreCounted (task_after task phase heard) (host_row task phase heard)
phase_after_row_is_counted task (Fetch k kept) heard some c = phase_after_part_is_counted task k kept heard some c
phase_after_row_is_counted task (LastUploaded kept) heard some c = reset_has_property (KeptBytesAreCounted task) heard (OverUploaded kept)
    (LastUploaded kept) c c
phase_after_row_is_counted task (Compare k) heard some c = compared_part_gives_property task (KeptBytesAreCounted task) k heard tt tt tt tt
    (λ matched. tt)
phase_after_row_is_counted task (Last r) heard some c = let next = task_after task (Last r) heard in
    reset_has_property (KeptBytesAreCounted next) heard (after_last task.goal r) (Last r) (phase_after_last_is_counted next task.goal r c) c
phase_after_row_is_counted task (Over r) heard some c = c
phase_after_row_is_counted task (OverUploaded kept) heard some c = c
phase_after_row_is_counted task phase heard some c = download_phase_gives_property task (KeptBytesAreCounted task)
    (counted_is_download_invariant task) phase heard tt (λ confirmed. tt)

-- If the budget, the restarts or an abort end a session, its report is not Uploaded.
cut_short_report_has_no_bytes : (report : Report) → IsEarlyEndReport report → ReportsNoBytes report
cut_short_report_has_no_bytes report.GaveUp is = tt
cut_short_report_has_no_bytes report.RestartsSpent is = tt
cut_short_report_has_no_bytes report.Aborted is = tt
cut_short_report_has_no_bytes report is = elim is [ ]

-- The number of kept bytes matches the phase, and the transfer size is over 0.
abbrev PartsAreCounted : Task → Phase → Type 0
PartsAreCounted task phase = (0 < task.transfer) × KeptBytesAreCounted task phase

-- After rows, restarts and early ends, the number of kept bytes still matches the phase.
rows_preserve_counted_parts : RowsPreserve PartsAreCounted
rows_preserve_counted_parts = record {
  next = λ task phase heard c. (c.0, phase_after_row_is_counted task phase heard c.0 c.1);
  anew = λ task phase c. (c.0, tt);
  short = λ task phase report is c. (c.0, cut_short_report_has_no_bytes report is);
  leaves = λ task phase behind c. (c.0, tt);
}

-- If the transfer size of a host is over 0, the number of its kept bytes still matches its phase after a result.
pub heard_host_stays_counted : (h : HostState) (heard : Heard) → 0 < h.task.transfer → KeptBytesAreCounted h.task h.phase
    → KeptBytesAreCounted (after h heard).task (after h heard).phase
heard_host_stays_counted h heard some c = (heard_result_preserves_property PartsAreCounted rows_preserve_counted_parts h heard (some, c)).1

pub kept_bytes_stay_counted : KeptBytesStayCounted
kept_bytes_stay_counted h h' seens some c rows = (host_rows_preserve_property PartsAreCounted rows_preserve_counted_parts h h' seens rows
    (some, c)).1
