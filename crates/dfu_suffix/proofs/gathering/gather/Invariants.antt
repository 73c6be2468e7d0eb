use Rattle.dfu_suffix.proofs.GatherLaws.{GatheredSoFar}
use Rattle.dfu_suffix.proofs.gathering.gather.Given as goal

abbrev pub invariant-loop-turn : goal.invariant-loop-turn
invariant-loop-turn g l = GatheredSoFar l.limit (g.R.Read.remaining l.fn.reader) (g.R.Read.remaining l.reader) l.turn l.bytes.items
