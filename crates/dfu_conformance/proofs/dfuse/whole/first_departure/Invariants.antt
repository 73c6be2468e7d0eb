use Rattle.std.specs.Prelude.{take}
use Rattle.dfu_conformance.specs.dfuse.Runs.{DfuseCanAnswer}
use Rattle.dfu_conformance.specs.dfuse.Verdicts.{PlacesExact}
use Rattle.dfu_conformance.proofs.dfuse.whole.first_departure.Given as goal

-- A DfuSe device may have answered the first `n` events, and the judge's states are exact for them.
abbrev pub invariant-loop-n : goal.invariant-loop-n
invariant-loop-n l = record {
  can : DfuseCanAnswer (take l.n l.events);
  held : PlacesExact l.judge.at (take l.n l.events);
}
