use Rattle.std.proofs.Common.{◌≡◌, max, arith}
use Rattle.dfu_host.proofs.task.Task.entering.Goals as goal

pub returns-then-self-clause-spells : goal.returns-then-self-clause-spells
returns-then-self-clause-spells c =
    let e : c.max.result ≡ max 1 c.args.self.now.detach_ms = omega (arith, c.max.ensures) in
    rw c.if-self.true e

pub returns-else-self-clause-spells : goal.returns-else-self-clause-spells
returns-else-self-clause-spells c = rw c.if-self.false tt
