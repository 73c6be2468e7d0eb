use Rattle.std.specs.Prelude.{◌≡◌, ◌||◌, take}
use Rattle.std.specs.List.{list_any}
use Rattle.dfu_conformance.specs.declared.row.StandardState.{StandardState}
use Rattle.dfu_conformance.specs.dfuse.Verdicts.{has_place}
use Rattle.dfu_conformance.specs.inside.DfuseStep.{drift_leads_to}
use Rattle.dfu_conformance.proofs.dfuse.stands.drift.Given as goal

-- `after` contains the states of `before`, and those to which the moves so far lead from them.
abbrev pub invariant-loop-one : goal.invariant-loop-one
invariant-loop-one l = (n : StandardState)
    → has_place l.after n ≡ (has_place l.before n || list_any (drift_leads_to l.before n) (take l.one-index l.moves))
