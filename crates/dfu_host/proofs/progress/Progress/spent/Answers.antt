use Rattle.std.proofs.Common.{◌≡◌, pred, refl, arith}
use Rattle.dfu_host.proofs.progress.Progress.spent.Goals as goal

pub returns-clause-state : goal.returns-clause-state
returns-clause-state c = λ task memory old.
    let e : c.saturating_sub-actions.result ≡ pred c.args.self.actions = omega (arith, c.saturating_sub-actions.ensures) in
    rw (c.budgeted.ensures.next memory, e) refl
