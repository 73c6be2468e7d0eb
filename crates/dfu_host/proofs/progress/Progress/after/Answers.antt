use Rattle.std.proofs.Common.{◌∙◌}
use Rattle.dfu_host.specs.inside.View.{host_of_progress}
use Rattle.dfu_host.proofs.Steps.{live_host_takes_result_by_row}
use Rattle.dfu_host.proofs.progress.Progress.after.Goals as goal

pub returns-in-Restarted-clause-state : goal.returns-in-Restarted-clause-state
returns-in-Restarted-clause-state c = λ memory memory' part keeps compares.
    c.restarted.ensures.state c.args.task.now memory' memory
    ∙ rw c.in-Restarted.is
    (live_host_takes_result_by_row (host_of_progress memory c.args.task.now c.args.self) memory c.args.self.phase _
    c.in_default.not-Over c.in_default.not-OverUploaded)

pub returns-in-Restarted-clause-within : goal.returns-in-Restarted-clause-within
returns-in-Restarted-clause-within c = c.restarted.ensures.within c.args.task.now

pub returns-in-Left-clause-state : goal.returns-in-Left-clause-state
returns-in-Left-clause-state c = λ memory memory' part keeps compares.
    c.left.ensures.state memory' memory
    ∙ rw c.in-Left.is
    (live_host_takes_result_by_row (host_of_progress memory c.args.task.now c.args.self) memory c.args.self.phase _
    c.in_default.not-Over c.in_default.not-OverUploaded)
