use Rattle.std.proofs.Common.{◌-◌, ◌≡◌, ◌+◌, ◌≤◌}
use Rattle.dfu_boot.specs.trial.Marks.{marks_set_in_row, recorded_starts}
use Rattle.dfu_boot.proofs.trial.marks.starts.Given as goal

abbrev pub invariant-loop-done : goal.invariant-loop-done
invariant-loop-done g l =
    let m = g.M.Medium.state l.medium in
    (l.done ≤ l.tries) × (recorded_starts m l.tries l.at ≡ l.done + marks_set_in_row m l.at (l.done + 1) (l.tries - l.done))

abbrev pub decreases-loop-done : goal.decreases-loop-done
decreases-loop-done g l = l.tries - l.done
