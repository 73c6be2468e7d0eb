-- A device that leaves by itself after the close counts as reset for the last time; before the close, it counts as restarted.
use Rattle.std.proofs.Common.{◌≡◌, pred, true, false, IsTrue, sym, ap, ◌∙◌, refl}
use Rattle.dfu_host.specs.declared.report.Report.TheVariants as report
use Rattle.dfu_host.specs.declared.seen.Seen.TheVariants as seen
use Rattle.dfu_host.specs.Phases.{Goal, Phase, Over, OverUploaded, Restarted, Left}
use Rattle.dfu_host.specs.Table.{after_last, goal_after_reset}
use Rattle.dfu_host.specs.BehindClose.{is_behind_close}
use Rattle.dfu_host.specs.Host.{HostState, HostRow, phase_in_budget, host_after_leaving, host_after_phase, after}
use Rattle.dfu_host.specs.Departure.{CloseIsDone, NothingConfirmsAfterClose, CompareFollowsClose, LeavingBeforeCloseIsRestart}

-- After the close, a device that leaves counts as reset for the last time.
leaving_after_close_is_reset : (h : HostState) (phase : Phase) → IsTrue (is_behind_close h.task.goal phase)
    → host_after_phase h phase Left ≡ host_after_leaving h phase true
leaving_after_close_is_reset h (Over r) is = absurd cc
leaving_after_close_is_reset h (OverUploaded kept) is = absurd cc
leaving_after_close_is_reset h phase is = ap (host_after_leaving h phase) is

-- Before the close, a device that leaves counts as restarted.
leaving_before_close_is_restart : (h : HostState) (phase : Phase) → is_behind_close h.task.goal phase ≡ false
    → host_after_phase h phase Left ≡ host_after_phase h phase Restarted
leaving_before_close_is_restart h (Over r) e = refl
leaving_before_close_is_restart h (OverUploaded kept) e = refl
leaving_before_close_is_restart h phase e = ap (host_after_leaving h phase) e

-- The host after its last reset with report Unconfirmed, in a session with this goal.
abbrev host_after_last_reset : HostState → Goal → HostState
host_after_last_reset h goal = record {
  task = record h.task { goal = goal_after_reset goal };
  phase = phase_in_budget (pred h.actions) (after_last goal report.Unconfirmed);
  actions = pred h.actions;
  restarts = h.restarts;
}

-- After the close, a device that leaves has the same effect on the host as the last reset.
leaving_is_last_reset : (h h' : HostState) (goal : Goal) → h.task.goal ≡ goal → CloseIsDone h → HostRow h seen.Left h' → h'
    ≡ host_after_last_reset h goal
leaving_is_last_reset h h' goal e behind step =
    step.same ∙ ap (after h) step.hears ∙ leaving_after_close_is_reset h h.phase behind ∙ ap (host_after_last_reset h) e

-- After the close, a device that leaves ends a download as Unconfirmed.
pub nothing_confirms_after_close : NothingConfirmsAfterClose
nothing_confirms_after_close payload h h' e behind step =
    leaving_is_last_reset h h' _ e behind step
    ∙ ap (λ (goal : Goal). record h {
      task = record h.task { goal = goal };
      phase = Over report.Unconfirmed;
      actions = pred h.actions;
    }) (sym e)

-- After the close, a device that leaves returns a verified download to Find to compare, or ends the session if no action is left.
pub compare_follows_close : CompareFollowsClose
compare_follows_close payload h h' e behind step = leaving_is_last_reset h h' _ e behind step

-- Before the close is done, a device that leaves by itself counts as restarted, in every phase.
pub restart_before_close : LeavingBeforeCloseIsRestart
restart_before_close h h' e step = record {
  heard = Restarted;
  hears = refl;
  room = λ none. absurd cc;
  same = step.same ∙ ap (after h) step.hears ∙ leaving_before_close_is_restart h h.phase e;
}
