use Rattle.dfu_sim.specs.inside.Acting.{delivery_of_given}
use Rattle.dfu_sim.proofs.ActionClauses.{elapsed_wait_is_delivered}
use Rattle.dfu_sim.proofs.acting.wait.Goals as goal

pub returns-clause-hears : goal.returns-clause-hears
returns-clause-hears g c = elapsed_wait_is_delivered _ _ _ (delivery_of_given c.args.delivery) c.elapse.ensures.row c.time_of.ensures
    c.seen_after.ensures
