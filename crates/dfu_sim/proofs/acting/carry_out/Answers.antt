use Rattle.dfu_sim.proofs.ActionClauses.{armed_action_follows_fate}
use Rattle.dfu_sim.proofs.acting.carry_out.Goals as goal

pub returns : goal.returns
returns g c = armed_action_follows_fate c.delivery_by-delivery.ensures.delivery c.delivery_by-delivery.ensures.harm c.arm.ensures
    c.act-out.ensures
    c.settle.ensures
