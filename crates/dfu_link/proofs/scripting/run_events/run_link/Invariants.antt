use Rattle.std.proofs.Common.{◌≤◌}
use Rattle.dfu_link.specs.inside.Source.{SourceState, SourceLine}
use Rattle.dfu_link.specs.inside.Expected.{point_of_context}
use Rattle.dfu_link.specs.inside.Moving.{LinesDone}
use Rattle.dfu_link.proofs.scripting.run_events.run_link.Given as goal

abbrev pub invariant-lines : goal.invariant-lines
invariant-lines g l = record {
  room : l.source.room ≤ l.fn.source.room;
  moves : (s : SourceState) → SourceLine s l.fn.source
      → LinesDone (point_of_context l.fn.context l.fn.world.bench) s (g.W.Write.contents l.fn.writer)
      (point_of_context l.context l.world.bench) l.source
      (g.W.Write.contents l.writer);
}

abbrev pub decreases-lines : goal.decreases-lines
decreases-lines g l = l.source.room
