use Rattle.std.proofs.Common.{sym, ap, ◌∙◌, refl}
use Rattle.dfu_formats.specs.dfuse.Images.{all_targets_for}
use Rattle.dfu_formats.proofs.ImageLaws.{matching_target_leaves_test, other_target_fails_test, empty_list_passes_setting_test, one_setting_if_all_match, no_setting_if_one_differs}
use Rattle.dfu_formats.proofs.dfuse.file.File.setting.Goals as goal

pub returns-then-target-first : goal.returns-then-target-first
returns-then-target-first c =
    let s = c.in-Some.target.setting in
    let no = other_target_fails_test s _ _ c.loop-target.targets c.in-Some-next_target.ensures c.if-target-first.true in
    sym (no_setting_if_one_differs _ c.next_target.new.self _ s (sym c.targets-targets.ensures
    ∙ c.in-Some.ensures) refl (sym c.loop-target.invariant ∙ no))

pub loop-target-preserved : goal.loop-target-preserved
loop-target-preserved c =
    let s = c.in-Some.target.setting in
    sym (matching_target_leaves_test s _ _ c.loop-target.targets c.in-Some-next_target.ensures c.if-target-first.false)
    ∙ c.loop-target.invariant

pub returns : goal.returns
returns c =
    let s = c.in-Some.target.setting in
    let none = c.in_default.ensures.0 in
    let all = sym c.loop-target.invariant ∙ (ap (all_targets_for s) none ∙ empty_list_passes_setting_test s) in
    sym (one_setting_if_all_match _ c.next_target.new.self _ s (sym c.targets-targets.ensures ∙ c.in-Some.ensures) refl all)
