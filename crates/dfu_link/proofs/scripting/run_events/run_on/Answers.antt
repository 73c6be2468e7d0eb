use Rattle.dfu_link.specs.ScriptRun.{link_at_rest}
use Rattle.dfu_link.specs.inside.Expected.{point_of_context}
use Rattle.dfu_link.proofs.RestLaws.{image_line_exhausts_source, image_line_breaks_off}
use Rattle.dfu_link.proofs.scripting.run_events.run_on.Goals as goal

pub returns-then-given-clause-ok : goal.returns-then-given-clause-ok
returns-then-given-clause-ok g c = rw c.if-given.true c.run_links.ensures.ok

pub returns-then-given-clause-fault : goal.returns-then-given-clause-fault
returns-then-given-clause-fault g c = rw c.if-given.true c.run_links.ensures.fault

pub returns-else-given-clause-ok : goal.returns-else-given-clause-ok
returns-else-given-clause-ok g c = rw c.if-given.false
    (image_line_exhausts_source c.image_next.result (point_of_context c.args.context (link_at_rest c.args.device)) c.image_next.ensures)

pub returns-else-given-clause-fault : goal.returns-else-given-clause-fault
returns-else-given-clause-fault g c = rw c.if-given.false
    (image_line_breaks_off c.image_next.result (point_of_context c.args.context (link_at_rest c.args.device)) c.image_next.ensures)
