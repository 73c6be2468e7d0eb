use Rattle.std.proofs.Common.{◌≡◌, drop}
use Rattle.dfu_formats.specs.memory.Lookups.{range_at}
use Rattle.dfu_formats.proofs.memory.lookups.range_at.Given as goal

abbrev pub invariant-loop-pages : goal.invariant-loop-pages
invariant-loop-pages l = range_at l.address l.ranges ≡ range_at l.address (drop l.pages-index l.ranges)
