use Rattle.std.proofs.Common.{◌-◌, ◌≤◌}
use Rattle.dfu_slots.specs.Medium.{IsBlank}
use Rattle.dfu_slots.proofs.erasing.is_blank.Given as goal

abbrev pub invariant-loop-done : goal.invariant-loop-done
invariant-loop-done g l = (l.done ≤ l.len) × IsBlank (g.M.Medium.state l.medium).bytes l.at l.done

abbrev pub decreases-loop-done : goal.decreases-loop-done
decreases-loop-done g l = l.len - l.done
