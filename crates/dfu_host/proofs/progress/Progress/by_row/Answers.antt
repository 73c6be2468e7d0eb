use Rattle.std.proofs.Common.{◌≡◌, ◌∙◌, ap, sym, refl}
use Rattle.dfu_host.specs.inside.View.{host_of_progress, meaning_of_heard, task_of_session}
use Rattle.dfu_host.specs.Table as table
use Rattle.dfu_host.proofs.progress.Progress.by_row.Goals as goal

pub returns-clause-state : goal.returns-clause-state
returns-clause-state c = λ memory memory' part keeps compares.
    let before = host_of_progress memory c.args.task.now c.args.self in
    let goes : task_of_session c.go_on.new.self ≡ table.task_after before.task before.phase (meaning_of_heard part c.args.heard) =
    c.go_on.ensures.task
    ∙ ap (λ (g : table.Goal). record before.task { goal = g }) (sym (c.is_last_done-done.ensures before.task.goal memory part)) in
    c.spent.ensures.state c.go_on.new.self memory' memory
    ∙ rw (goes, c.row-next.ensures.next memory memory' part keeps compares) refl

pub returns-clause-within : goal.returns-clause-within
returns-clause-within c = c.spent.ensures.within c.go_on.new.self (c.go_on.ensures.within _ c.row-next.ensures.within)
