use Rattle.dfu_plan.proofs.PieceLaws.{three_texts_are_added}
use Rattle.dfu_plan.proofs.text.push_second.Goals as goal

pub returns : goal.returns
returns c = three_texts_are_added c.push_data.result _ _ _ _ _ _ _ c.in_ok-push_place.ensures c.in_ok-push_place-2.ensures
    c.push_data.ensures
