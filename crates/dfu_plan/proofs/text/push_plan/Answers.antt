use Rattle.dfu_plan.proofs.PieceLaws.{three_texts_are_added}
use Rattle.dfu_plan.proofs.text.push_plan.Goals as goal

pub returns : goal.returns
returns c = three_texts_are_added c.push_lines-2.result _ _ _ _ _ _ _ c.in_ok-push_lines.ensures c.in_ok-push_note.ensures
    c.push_lines-2.ensures
