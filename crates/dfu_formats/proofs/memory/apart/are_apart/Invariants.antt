use Rattle.std.proofs.Common.{◌≡◌, drop}
use Rattle.dfu_formats.specs.memory.Ranges.{are_apart}
use Rattle.dfu_formats.proofs.memory.apart.are_apart.Given as goal

abbrev pub invariant-loop-one : goal.invariant-loop-one
invariant-loop-one l = (l.count ≡ l.one-index) × (are_apart l.ranges ≡ are_apart (drop l.one-index l.ranges))
