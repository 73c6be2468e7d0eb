use Rattle.dfu_sim.specs.inside.Acting.{delivery_of_given}
use Rattle.dfu_sim.proofs.ActionClauses.{bus_reset_is_delivered}
use Rattle.dfu_sim.proofs.acting.reset_bus.Goals as goal

pub returns-clause-hears : goal.returns-clause-hears
returns-clause-hears g c = bus_reset_is_delivered _ _ (delivery_of_given c.args.delivery) c.usb_reset.ensures c.slip.ensures
    c.seen_after.ensures
