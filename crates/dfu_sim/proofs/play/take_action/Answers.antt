use Rattle.dfu_sim.specs.Delivery.{delivery_of}
use Rattle.dfu_sim.specs.Happening.{fate_of, harm_of_fate, fate_with_refusal}
use Rattle.dfu_sim.proofs.Counted.{acting_host_stays_counted}
use Rattle.dfu_sim.proofs.Events.{action_event_has_result, action_without_host_is_refused}
use Rattle.dfu_sim.proofs.play.take_action.Goals as goal

pub returns-in-None : goal.returns-in-None
returns-in-None g c = rw c.in-None.is (action_without_host_is_refused _ _ _ c.args.gave.now)

pub end-requires : goal.end-requires
end-requires g c =
    acting_host_stays_counted (delivery_of (fate_with_refusal c.args.refusing (fate_of c.args.fate))) _ _ _ _ (rw c.in-Some.is at
    c.requires.sized)
    (rw c.in-Some.is at c.requires.counted)
    c.carry_out.ensures.acted

pub returns : goal.returns
returns g c = rw c.in-Some.is
    (action_event_has_result (fate_with_refusal c.args.refusing (fate_of c.args.fate)) (harm_of_fate c.args.fate) _ _ _ _ _ c.args.gave.now
    c.end.new.gave _
    (rw c.in-Some.is at c.requires.sized) (rw c.in-Some.is at c.requires.counted) c.requires.unarmed c.carry_out.ensures
    c.end.ensures.session c.end.ensures.given c.end.ensures.report)
