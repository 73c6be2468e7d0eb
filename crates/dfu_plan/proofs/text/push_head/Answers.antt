use Rattle.dfu_plan.specs.PlanText.{head_text}
use Rattle.dfu_plan.proofs.PieceLaws.{head_text_in_c_is_added}
use Rattle.dfu_plan.proofs.text.push_head.Goals as goal

pub returns-in-Arguments : goal.returns-in-Arguments
unfolding head_text
returns-in-Arguments c =
    head_text_in_c_is_added c.push_pieces-in-Arguments.result c.args.form c.args.areas c.args.plan.now _ _ c.in-Arguments.is
    c.push_pieces-in-Arguments.ensures
