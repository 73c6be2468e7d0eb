use Rattle.std.specs.Prelude.{◌≡◌, ◌≤◌, ◌+◌, ◌-◌, ◌++◌, ℕ, List, Option, length, take}
use Rattle.dfu_output.specs.judge.inside.JudgeState.{JudgedSoFar}
use Rattle.dfu_output.proofs.judge.reading.feed.Given as goal

-- The bytes of the piece before index `at` were judged, and the log's room has decreased by their number.
abbrev pub invariant-loop-at : goal.invariant-loop-at
invariant-loop-at g l = record {
  within : l.at ≤ length l.piece;
  going : (old : Option (List ℕ)) (text : List ℕ) → JudgedSoFar l.interface old (g.W.Write.contents l.fn.writer) text l.fn.judging
      → JudgedSoFar l.interface old (g.W.Write.contents l.writer) (text ++ take l.at l.piece) l.judging;
  room : l.judging.lines.room + l.at ≡ l.fn.judging.lines.room;
}

-- Each step leaves fewer bytes of the piece.
abbrev pub decreases-loop-at : goal.decreases-loop-at
decreases-loop-at g l = length l.piece - l.at
