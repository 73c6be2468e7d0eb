use Rattle.std.specs.Prelude.{ℕ, List, [], Option}
use Rattle.std.specs.Io.KnownBytes.{Consumes}
use Rattle.dfu_output.specs.judge.inside.JudgeState.{JudgedSoFar}
use Rattle.dfu_output.proofs.judge.reading.judge_all.Given as goal

-- All bytes that were read so far, `front`, were judged.
abbrev pub invariant-pieces : goal.invariant-pieces
invariant-pieces g l =
    (front : List ℕ) × Consumes (g.R.Read.remaining l.fn.reader) (g.R.Read.remaining l.reader) front
    × ((old : Option (List ℕ)) → JudgedSoFar l.interface old (g.W.Write.contents l.fn.writer) [] l.fn.judging
    → JudgedSoFar l.interface old (g.W.Write.contents l.writer) front l.judging)

-- Each piece that is judged leaves less room in the log.
abbrev pub decreases-pieces : goal.decreases-pieces
decreases-pieces g l = l.judging.lines.room
