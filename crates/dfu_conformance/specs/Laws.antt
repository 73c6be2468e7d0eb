-- Laws of the moves that a device makes by itself.
use Rattle.std.specs.Prelude.{ℕ, List}
use Rattle.dfu_conformance.specs.declared.row.StandardState.{StandardState}
use Rattle.dfu_conformance.specs.declared.event.LogEvent.{LogEvent}
use Rattle.dfu_conformance.specs.MayAnswer.{MayMove, Run}

-- If a device may reach a state in two moves, it may reach it in one.
abbrev pub TwoMovesAreOne : Type 0
TwoMovesAreOne = (a r : ℕ) (p q s : StandardState) → MayMove a r p q → MayMove a r q s → MayMove a r p s

-- If a device moves from one state to another, each run from the second state is also a run from the first.
abbrev pub MovedRunIsRun : Type 0
MovedRunIsRun =
    (a r : ℕ) (p q : StandardState) (events : List LogEvent) (last : StandardState) → MayMove a r p q → Run a r q events last
    → Run a r p events last
