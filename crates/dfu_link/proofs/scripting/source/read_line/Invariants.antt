use Rattle.std.proofs.Common.{◌≤◌, vec_capacity}
use Rattle.dfu_link.proofs.SourceLaws.{LineReadSoFar}
use Rattle.dfu_link.proofs.scripting.source.read_line.Given as goal

abbrev pub invariant-pieces : goal.invariant-pieces
invariant-pieces g l = record {
  line : LineReadSoFar l.fn.pieces.left l.fn.room l.pieces.left l.room l.line.items;
  capacity : vec_capacity l.fn.line ≤ vec_capacity l.line;
}

abbrev pub decreases-pieces : goal.decreases-pieces
decreases-pieces g l = l.room
