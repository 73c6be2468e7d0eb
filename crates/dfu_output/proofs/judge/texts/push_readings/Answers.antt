use Rattle.std.proofs.Common.{arith}
use Rattle.dfu_output.specs.judge.Texts.{reading_text}
use Rattle.dfu_output.proofs.LogLists.{next_text_extends_line, line_begins_without_texts}
use Rattle.dfu_output.proofs.judge.texts.push_readings.Goals as goal

pub loop-reading-init : goal.loop-reading-init
loop-reading-init c = line_begins_without_texts _ _

pub loop-reading-preserved : goal.loop-reading-preserved
loop-reading-preserved c = next_text_extends_line (reading_text c.args.readings) _ c.loop-reading.reading-index _ _ _ _
    (omega arith) c.loop-reading.invariant c.in_ok-push_reading.ensures
