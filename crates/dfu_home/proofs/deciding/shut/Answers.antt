use Rattle.std.proofs.Common.{arith}
use Rattle.std.proofs.lemmas.Grind.{common_steps}
use Rattle.dfu_slots.specs.Medium.{MediumState}
use Rattle.dfu_home.proofs.Asked.{copy_due_is_next_due}
use Rattle.dfu_home.proofs.deciding.shut.Goals as goal

pub returns-clause-does : goal.returns-clause-does
returns-clause-does g c =
    let m : MediumState = g.M.Medium.state c.args.medium.now in
    copy_due_is_next_due m c.args.progress c.copy.result
    (record {
      looked = c.is_looked.ensures.looked (grind (arith, common_steps, c.if-not-is_looked.false));
      left = omega (arith, c.most_operations.ensures, c.if-progress-most_operations.false);
    })
    (c.is_copying.ensures.copying (grind (arith, common_steps, c.if-not-is_copying.false))) c.copy.ensures.due
