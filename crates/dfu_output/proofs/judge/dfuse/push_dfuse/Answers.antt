use Rattle.std.proofs.Common.{◌∙◌, ◌++◌, ℕ, List, ap}
use Rattle.dfu_conformance.specs.declared.habits.TheConstants.{HABITS}
use Rattle.dfu_conformance.specs.declared.dfuse.rows.TheConstants.{DFUSE}
use Rattle.dfu_output.specs.judge.Texts.{texts_of_each}
use Rattle.dfu_output.specs.judge.Dfuse.{dfuse_allowed_text, stall_text_if_allowed}
use Rattle.dfu_output.proofs.judge.dfuse.push_dfuse.Goals as goal

pub returns : goal.returns
returns c =
    let d = c.args.departure.now in
    let habits = c.in_ok-push_rows-2.ensures ∙ ap (λ (t : List ℕ). t ++ texts_of_each (dfuse_allowed_text d) HABITS)
    c.in_ok-push_rows.ensures in
    let dfuse = c.in_ok-push_rows-3.ensures ∙ ap (λ (t : List ℕ). t ++ texts_of_each (dfuse_allowed_text d) DFUSE) habits in
    c.in_ok-push_stalled.ensures ∙ ap (λ (t : List ℕ). t ++ stall_text_if_allowed d.event) dfuse
