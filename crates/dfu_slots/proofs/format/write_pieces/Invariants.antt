use Rattle.std.proofs.Common.{◌-◌}
use Rattle.dfu_slots.proofs.ImagePieces.{ImageWrittenUpTo}
use Rattle.dfu_slots.proofs.format.write_pieces.Given as goal

abbrev pub invariant-loop-from : goal.invariant-loop-from
invariant-loop-from g l = ImageWrittenUpTo (g.M.Medium.state l.fn.medium) (g.M.Medium.state l.medium) l.image l.from

abbrev pub decreases-loop-from : goal.decreases-loop-from
decreases-loop-from g l = l.end - l.from
