use Rattle.std.proofs.Common.{arith}
use Rattle.dfu_output.specs.judge.Texts.{allowed_text}
use Rattle.dfu_output.proofs.LogLists.{next_text_extends_line, line_begins_without_texts}
use Rattle.dfu_output.proofs.judge.texts.push_allowed.Goals as goal

pub loop-row-init : goal.loop-row-init
loop-row-init c = line_begins_without_texts _ _

pub loop-row-preserved : goal.loop-row-preserved
loop-row-preserved c = next_text_extends_line (allowed_text c.args.departure.now) _ c.loop-row.row-index _ _ _ _
    (omega arith) c.loop-row.invariant c.in_ok-push_if_allowed.ensures
