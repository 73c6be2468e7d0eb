use Rattle.std.proofs.Common.{length}
use Rattle.dfu_slots.proofs.ReadBack.{ReadBack}
use Rattle.dfu_slots.proofs.read.stands_at.Given as goal

abbrev pub invariant-loop-rest : goal.invariant-loop-rest
invariant-loop-rest g l = ReadBack (g.M.Medium.state l.medium).bytes l.at l.bytes l.ahead l.rest

abbrev pub decreases-loop-rest : goal.decreases-loop-rest
decreases-loop-rest g l = length l.rest
