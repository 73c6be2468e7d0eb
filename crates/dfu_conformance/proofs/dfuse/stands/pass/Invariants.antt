use Rattle.std.specs.Prelude.{◌≡◌, ◌||◌, take}
use Rattle.std.specs.List.{list_any}
use Rattle.dfu_conformance.specs.declared.row.StandardState.{StandardState}
use Rattle.dfu_conformance.specs.dfuse.Verdicts.{has_place}
use Rattle.dfu_conformance.specs.inside.DfuseStep.{row_leads_to}
use Rattle.dfu_conformance.proofs.dfuse.stands.pass.Given as goal

-- `after` contains its states at the start, and those to which the rows so far lead from the states of `before`.
abbrev pub invariant-loop-row : goal.invariant-loop-row
invariant-loop-row l = (n : StandardState)
    → has_place l.after n ≡ (has_place l.initial.after n || list_any (row_leads_to l.before l.event n) (take l.row-index l.rows))
