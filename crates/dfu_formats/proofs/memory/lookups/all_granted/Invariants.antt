use Rattle.std.proofs.Common.{◌-◌, ◌≤◌}
use Rattle.dfu_formats.specs.memory.Lookups.{AllGranted}
use Rattle.dfu_formats.proofs.memory.lookups.all_granted.Given as goal

abbrev pub invariant-loop-at : goal.invariant-loop-at
invariant-loop-at l = record {
  ahead : l.start ≤ l.at;
  granted : AllGranted l.wanted l.start l.at l.ranges;
}

abbrev pub decreases-loop-at : goal.decreases-loop-at
decreases-loop-at l = l.end - l.at
