-- If the table's rows preserve a property of a host, so do the budget, the restarts and a device that leaves.
use Rattle.std.proofs.Common.{◌≡◌, ℕ, zero, suc, pred, Bool, true, false, IsTrue, List, [], ◌∷◌, refl, sym, subst}
use Rattle.dfu_host.specs.declared.report.Report.{Report}
use Rattle.dfu_host.specs.declared.report.Report.TheVariants.{Aborted, GaveUp, RestartsSpent, Unconfirmed}
use Rattle.dfu_host.specs.declared.seen.Seen.{Seen}
use Rattle.dfu_host.specs.Phases.{Task, Phase, Find, Last, GiveUp, Over, OverUploaded, Heard, WasReset, Restarted, Left}
use Rattle.dfu_host.specs.BehindClose.{is_behind_close}
use Rattle.dfu_host.specs.Table.{host_row, task_after}
use Rattle.dfu_host.specs.Host.{HostState, HostRows, phase_in_budget, host_after_restart, host_by_row, host_after_leaving, host_after_result, host_after_phase, after, seen_all, sees}

-- The budget, the restarts or an abort can end a session with this report.
abbrev pub IsEarlyEndReport : Report → Type 0
IsEarlyEndReport GaveUp = Unit {0}
IsEarlyEndReport RestartsSpent = Unit {0}
IsEarlyEndReport Aborted = Unit {0}
IsEarlyEndReport report = ⊥

-- The rows preserve a property of a host's task and phase. If it holds in a phase, it also holds in Find and in an early end, and, after
-- the close, in the last reset that confirms nothing.
pub record RowsPreserve (Q : Task → Phase → Type 0) : Type 0 where
  pub next : (task : Task) (phase : Phase) (heard : Heard) → Q task phase → Q (task_after task phase heard) (host_row task phase heard)
  pub anew : (task : Task) (phase : Phase) → Q task phase → Q task Find
  pub short : (task : Task) (phase : Phase) (report : Report) → IsEarlyEndReport report → Q task phase → Q task (Over report)
  pub leaves : (task : Task) (phase : Phase) → IsTrue (is_behind_close task.goal phase) → Q task phase → Q task (Last Unconfirmed)

module _ (Q : Task → Phase → Type 0) (keep : RowsPreserve Q) where
  -- If the property holds in a phase, it holds after the budget check.
  budget_preserves_property : (task : Task) (left : ℕ) (phase : Phase) → Q task phase → Q task (phase_in_budget left phase)
  budget_preserves_property task left (Over r) q = q
  budget_preserves_property task left (OverUploaded kept) q = q
  budget_preserves_property task zero phase q = keep.short task phase GaveUp tt q
  budget_preserves_property task (suc left) phase q = q

  -- If the property holds before a restart, it holds afterwards.
  restart_preserves_property : (h : HostState) (phase : Phase) (restarts : ℕ) → Q h.task phase
      → let g = host_after_restart h phase restarts in Q g.task g.phase
  restart_preserves_property h GiveUp restarts q = keep.short h.task GiveUp Aborted tt q
  restart_preserves_property h phase zero q = keep.short h.task phase RestartsSpent tt q
  restart_preserves_property h phase (suc restarts) q = budget_preserves_property h.task (pred h.actions) Find (keep.anew h.task phase q)

  -- If the property holds before a row, it holds after the row.
  row_preserves_property : (h : HostState) (phase : Phase) (heard : Heard) → Q h.task phase →
      let g = host_by_row h phase heard in Q g.task g.phase
  row_preserves_property h phase heard q =
      budget_preserves_property (task_after h.task phase heard) (pred h.actions) (host_row h.task phase heard) (keep.next h.task phase
      heard q)

  -- If the property holds before the device leaves, it holds afterwards.
  leaving_preserves_property : (h : HostState) (phase : Phase) (behind : Bool) → is_behind_close h.task.goal phase ≡ behind → Q h.task phase
      → let g = host_after_leaving h phase behind in Q g.task g.phase
  leaving_preserves_property h phase true e q = row_preserves_property h (Last Unconfirmed) WasReset (keep.leaves h.task phase e q)
  leaving_preserves_property h phase false e q = restart_preserves_property h phase h.restarts q

  -- If the property holds for a live host, it holds after a result.
  heard_row_preserves_property : (h : HostState) (phase : Phase) (heard : Heard) → Q h.task phase →
      let g = host_after_result h phase heard in Q g.task g.phase
  heard_row_preserves_property h phase Restarted q = restart_preserves_property h phase h.restarts q
  heard_row_preserves_property h phase Left q = leaving_preserves_property h phase (is_behind_close h.task.goal phase) refl q
  heard_row_preserves_property h phase heard q = row_preserves_property h phase heard q

  -- If the property holds for a host in a phase, it holds after a result in that phase.
  phase_preserves_property : (h : HostState) (phase : Phase) (heard : Heard) → h.phase ≡ phase → Q h.task phase
      → let g = host_after_phase h phase heard in Q g.task g.phase
  phase_preserves_property h (Over r) heard same q = rw same q
  phase_preserves_property h (OverUploaded kept) heard same q = rw same q
  phase_preserves_property h Find heard same q = heard_row_preserves_property h Find heard q
  phase_preserves_property h phase heard same q = heard_row_preserves_property h phase heard q

  -- If the property holds for a host, it holds after any result.
  pub heard_result_preserves_property : (h : HostState) (heard : Heard) → Q h.task h.phase → Q (after h heard).task (after h heard).phase
  heard_result_preserves_property h heard q = phase_preserves_property h h.phase heard refl q

  -- If the property holds for a host, it holds after any list of results.
  pub host_rows_preserve_property : (h h' : HostState) (seens : List Seen) → HostRows h seens h' → Q h.task h.phase → Q h'.task h'.phase
  host_rows_preserve_property h h' [] seen_all q = q
  host_rows_preserve_property h h' (seen ∷ more) (sees {mid = mid} step rows) q = host_rows_preserve_property mid h' more rows
      (subst (λ (z : HostState). Q z.task z.phase) (sym step.same) (heard_result_preserves_property h step.heard q))
