use Rattle.std.proofs.Common.{◌∙◌, ◌++◌, ℕ, List, ap}
use Rattle.dfu_conformance.specs.declared.standard.TheConstants.{STANDARD}
use Rattle.dfu_conformance.specs.declared.habits.TheConstants.{HABITS}
use Rattle.dfu_conformance.specs.declared.dfuse.rows.TheConstants.{DFUSE}
use Rattle.dfu_output.specs.judge.Texts.{texts_of_each}
use Rattle.dfu_output.specs.judge.Dfuse.{dfuse_allowed_text, dfuse_departure_text, stall_text_if_allowed}
use Rattle.dfu_output.proofs.judge.dfuse.dfuse_departure_text.Goals as goal

pub returns : goal.returns
unfolding dfuse_departure_text
returns c =
    let d = c.args.departure.now in
    c.in_ok-push_dfuse.ensures
    ∙ ap (λ (t : List ℕ). t ++ texts_of_each (dfuse_allowed_text d) STANDARD ++ texts_of_each (dfuse_allowed_text d) HABITS
    ++ texts_of_each (dfuse_allowed_text d) DFUSE ++ stall_text_if_allowed d.event) c.in_ok-line.ensures
