use Rattle.std.specs.Prelude.{◌≡◌, ℕ, ◌<◌, ◌||◌, take}
use Rattle.std.specs.List.{list_any}
use Rattle.dfu_conformance.specs.declared.row.StandardState.{StandardState}
use Rattle.dfu_conformance.specs.Candidates.{is_held_at}
use Rattle.dfu_conformance.specs.inside.Stepped.{drift_leads}
use Rattle.dfu_conformance.proofs.held.drift.Given as goal

-- `after` contains the candidates of `before`, and those that result from the moves so far.
abbrev pub invariant-loop-one : goal.invariant-loop-one
invariant-loop-one l = (n : StandardState) (a r : ℕ) → a < 16 → r < 64
    → is_held_at l.after n a r ≡ (is_held_at l.before n a r || list_any (drift_leads l.before n a r) (take l.one-index l.moves))
