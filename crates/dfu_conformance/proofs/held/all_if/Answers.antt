use Rattle.dfu_conformance.proofs.Words.{each_set_has_bit, none}
use Rattle.dfu_conformance.proofs.held.all_if.Goals as goal

pub returns-then-yes : goal.returns-then-yes
returns-then-yes c = rw c.if-yes.true each_set_has_bit

pub returns-else-yes : goal.returns-else-yes
returns-else-yes c = rw c.if-yes.false none
