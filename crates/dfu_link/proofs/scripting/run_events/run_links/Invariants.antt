use Rattle.dfu_link.specs.ScriptRun.{link_at_rest}
use Rattle.dfu_link.specs.inside.Expected.{point_of_context}
use Rattle.dfu_link.specs.inside.Moving.{IsUnarmed}
use Rattle.dfu_link.proofs.RestLaws.{DoneSinceFirstLine}
use Rattle.dfu_link.proofs.scripting.run_events.run_links.Given as goal

abbrev pub invariant-links : goal.invariant-links
invariant-links g l = record {
  unarmed : IsUnarmed l.device;
  moves : DoneSinceFirstLine l.fn.source (point_of_context l.fn.context (link_at_rest l.fn.device)) (g.W.Write.contents l.fn.writer)
      (point_of_context l.context (link_at_rest l.device)) l.source (g.W.Write.contents l.writer);
}

abbrev pub decreases-links : goal.decreases-links
decreases-links g l = l.source.room
