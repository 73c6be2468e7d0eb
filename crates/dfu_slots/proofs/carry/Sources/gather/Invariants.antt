use Rattle.std.proofs.Common.{◌≡◌, ◌<◌, ◌+◌, ℕ, length, slice_index, ◌++◌, replicate}
use Rattle.dfu_slots.specs.Operations.{source_content}
use Rattle.dfu_slots.proofs.carry.Sources.gather.Given as goal

abbrev pub invariant-loop-i : goal.invariant-loop-i
invariant-loop-i l = (length l.out ≡ 256)
    × ((k : ℕ) → k < l.i → slice_index l.out k ≡ slice_index
    (source_content l.source l.self.held.now l.self.block.now l.self.header.now ++ replicate 256 0) (l.skip + k))
