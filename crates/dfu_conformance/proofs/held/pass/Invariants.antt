use Rattle.std.specs.Prelude.{◌≡◌, ℕ, ◌<◌, ◌||◌, take}
use Rattle.std.specs.List.{list_any}
use Rattle.dfu_conformance.specs.declared.row.StandardState.{StandardState}
use Rattle.dfu_conformance.specs.Candidates.{is_held_at}
use Rattle.dfu_conformance.specs.inside.Stepped.{row_leads}
use Rattle.dfu_conformance.proofs.held.pass.Given as goal

-- `after` contains its candidates at the start, and those that result from applying the rows so far to the candidates of `before`.
abbrev pub invariant-loop-row : goal.invariant-loop-row
invariant-loop-row l = (n : StandardState) (a r : ℕ) → a < 16 → r < 64
    → is_held_at l.after n a r ≡ (is_held_at l.initial.after n a r || list_any (row_leads l.before l.event n a r) (take l.row-index l.rows))
