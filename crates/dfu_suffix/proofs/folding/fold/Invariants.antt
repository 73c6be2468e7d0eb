use Rattle.dfu_suffix.specs.inside.Folding.{register_of_residue}
use Rattle.dfu_suffix.proofs.FoldRooms.{FoldedSoFar}
use Rattle.std.proofs.Common.{take}
use Rattle.dfu_suffix.proofs.folding.fold.Given as goal

-- The residue at offset `place` represents the register after the first `place` bytes.
abbrev pub invariant-loop-place : goal.invariant-loop-place
invariant-loop-place l = FoldedSoFar (register_of_residue (take 1968 l.fn.room)) l.bytes l.room l.place
