use Rattle.std.proofs.Common.{◌≤◌, length}
use Rattle.dfu_formats.proofs.BareLaws.{OnlyBlanksFollow}
use Rattle.dfu_formats.proofs.images.lines.bare.Given as goal

abbrev pub invariant-loop-end : goal.invariant-loop-end
invariant-loop-end l = record {
  within : l.end ≤ length l.from_first;
  blank : OnlyBlanksFollow l.from_first l.end;
}

abbrev pub decreases-loop-end : goal.decreases-loop-end
decreases-loop-end l = l.end
