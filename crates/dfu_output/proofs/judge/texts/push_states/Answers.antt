use Rattle.std.proofs.Common.{arith}
use Rattle.dfu_output.specs.judge.Texts.{spaced_state}
use Rattle.dfu_output.proofs.LogLists.{next_text_extends_line, line_begins_without_texts}
use Rattle.dfu_output.proofs.judge.texts.push_states.Goals as goal

pub loop-place-init : goal.loop-place-init
loop-place-init c = line_begins_without_texts _ _

pub loop-place-preserved : goal.loop-place-preserved
loop-place-preserved c =
    next_text_extends_line (spaced_state c.args.at.now) _ c.loop-place.place-index _ _ _ _ (omega arith) c.loop-place.invariant
    c.in_ok-push_state.ensures
