use Rattle.std.proofs.Common.{◌≡◌, ◌∙◌, true, [], refl, sym}
use Rattle.dfu_host.specs.BehindClose.{is_behind_close}
use Rattle.dfu_host.specs.Goals.{goal_of}
use Rattle.dfu_host.specs.InParts.{phase_of}
use Rattle.dfu_host.proofs.progress.Progress.left.Goals as goal

pub returns-then-not-is_behind_close-clause-within : goal.returns-then-not-is_behind_close-clause-within
returns-then-not-is_behind_close-clause-within c = c.restarted.ensures.within c.args.task.now

pub returns-clause-state : goal.returns-clause-state
returns-clause-state c = λ memory old.
    let behind : is_behind_close (goal_of c.args.task.now.goal) (phase_of old c.args.self.phase) ≡ true =
    sym (c.is_behind_close.ensures old) ∙ c.if-not-is_behind_close.false in
    c.spent.ensures.state c.go_on.new.self memory old
    ∙ rw (behind, c.go_on.ensures.task, c.after_last-next.ensures.next memory []) refl

pub returns-clause-within : goal.returns-clause-within
returns-clause-within c = c.spent.ensures.within c.go_on.new.self (c.go_on.ensures.within _ c.after_last-next.ensures.within)
