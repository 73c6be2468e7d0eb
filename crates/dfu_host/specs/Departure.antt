-- A session whose device left by itself.
use Rattle.std.specs.Prelude.{◌≡◌, ℕ, pred, false, IsTrue, List}
use Rattle.dfu_host.specs.declared.report.Report.TheVariants as report
use Rattle.dfu_host.specs.declared.seen.Seen.TheVariants as seen
use Rattle.dfu_host.specs.Phases.{LoadGoal, VerifyGoal, CompareGoal, Find, Over}
use Rattle.dfu_host.specs.BehindClose.{is_behind_close}
use Rattle.dfu_host.specs.Host.{HostState, HostRow, phase_in_budget}

-- The session is in a phase after the close.
abbrev pub CloseIsDone : HostState → Type 0
CloseIsDone h = IsTrue (is_behind_close h.task.goal h.phase)

-- If the device leaves after the close, a download that isn't verified ends as Unconfirmed, because nothing confirms the install.
abbrev pub NothingConfirmsAfterClose : Type 0
NothingConfirmsAfterClose =
    (payload : List ℕ) (h h' : HostState) → h.task.goal ≡ LoadGoal payload → CloseIsDone h → HostRow h seen.Left h'
    → h' ≡ record h { phase = Over report.Unconfirmed; actions = pred h.actions }

-- If the device leaves after the close, a verified download returns to Find to compare, with the restarts that it had, or gives up if no
-- action is left.
abbrev pub CompareFollowsClose : Type 0
CompareFollowsClose =
    (payload : List ℕ) (h h' : HostState) → h.task.goal ≡ VerifyGoal payload → CloseIsDone h → HostRow h seen.Left h'
    → h' ≡ record {
      task = record h.task { goal = CompareGoal payload };
      phase = phase_in_budget (pred h.actions) Find;
      actions = pred h.actions;
      restarts = h.restarts;
    }

-- If the device leaves by itself in a phase before the close is done, it counts as restarted.
abbrev pub LeavingBeforeCloseIsRestart : Type 0
LeavingBeforeCloseIsRestart =
    (h h' : HostState) → is_behind_close h.task.goal h.phase ≡ false → HostRow h seen.Left h' → HostRow h seen.Restarted h'
