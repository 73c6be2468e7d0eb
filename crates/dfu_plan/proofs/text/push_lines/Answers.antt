use Rattle.std.proofs.Common.{◌∙◌, ◌++◌, ℕ, ap}
use Rattle.std.specs.String.{string_bytes}
use Rattle.dfu_plan.specs.PlanText.{head_text}
use Rattle.dfu_plan.proofs.PieceLaws.{three_texts_are_added}
use Rattle.dfu_plan.proofs.text.push_lines.Goals as goal

pub returns : goal.returns
returns c =
    let areas = ap (λ (n : ℕ). string_bytes c.args.text.now ++ head_text c.args.form n c.args.plan.now) c.area_count.ensures in
    three_texts_are_added c.push_run.result _ _ _ _ _ _ _ (c.in_ok-push_head.ensures ∙ areas) c.in_ok-push_places.ensures c.push_run.ensures
