use Rattle.std.proofs.Common.{refl}
use Rattle.dfu_sim.specs.Happening.{Resets, Cuts}
use Rattle.dfu_sim.proofs.Events.{time_event_has_result, refusal_event_has_result, restart_event_has_result}
use Rattle.dfu_sim.proofs.Uploads.{abort_event_has_result}
use Rattle.dfu_sim.proofs.play.apply_event.Goals as goal

pub returns-in-Time : goal.returns-in-Time
returns-in-Time g c = rw c.in-Time.is (time_event_has_result _ _ _ _ c.args.gave.now c.requires.unarmed c.elapse.ensures.row)

pub returns-in-Abort : goal.returns-in-Abort
returns-in-Abort g c = rw c.in-Abort.is (abort_event_has_result _ _ _ c.args.gave.now _ c.requires.unarmed c.abort.ensures.session
    c.abort.ensures.told)

pub returns-in-Reset : goal.returns-in-Reset
returns-in-Reset g c = rw c.in-Reset.is (restart_event_has_result Resets _ _ _ _ c.args.gave.now c.restart.new.gave _ refl tt (λ k. tt)
    c.requires.sized c.requires.counted c.requires.unarmed
    ((λ i. record { device = c.usb_reset.ensures i; session = c.restart.ensures.session i }), refl)
    c.restart.ensures.given c.restart.ensures.report)

pub returns-in-Cut : goal.returns-in-Cut
returns-in-Cut g c = rw c.in-Cut.is (restart_event_has_result Cuts _ _ _ _ c.args.gave.now c.restart-in-Cut.new.gave _ refl tt (λ k. tt)
    c.requires.sized c.requires.counted c.requires.unarmed
    ((λ i. record { device = c.power_cycle.ensures i; session = c.restart-in-Cut.ensures.session i }), refl)
    c.restart-in-Cut.ensures.given c.restart-in-Cut.ensures.report)

pub returns-in-Refuse : goal.returns-in-Refuse
returns-in-Refuse g c = rw c.in-Refuse.is (refusal_event_has_result _ _ _ _ c.args.gave.now c.requires.unarmed c.refuse.ensures)
