-- No event changes the setting of the device.
use Rattle.std.proofs.Common.{◌≡◌, ℕ, List, [], Option, Some, None, inl, inr, refl, ap, ◌∙◌}
use Rattle.dfu_device.specs.declared.objection.Objection.{Objection}
use Rattle.dfu_device.specs.declared.answer.Answer.{Answer}
use Rattle.dfu_device.specs.declared.answer.Answer.TheVariants as answer
use Rattle.dfu_device.specs.Table.{time_plan}
use Rattle.dfu_device.specs.DeviceView.{DeviceView, profile}
use Rattle.dfu_device.specs.Rows.{asked_length, setup_plan, Handles, handled_by_reading, Elapses}
use Rattle.dfu_host.specs.Phases.{Deed, Send, Wait, Reset, Done as IsDone, Heard}
use Rattle.dfu_host.specs.Table.{deed}
use Rattle.dfu_sim.specs.declared.delivery.Response.{Response}
use Rattle.dfu_sim.specs.declared.delivery.Handled.{Handled}
use Rattle.dfu_sim.specs.declared.delivery.Handled.TheVariants.{Late}
use Rattle.dfu_sim.specs.declared.delivery.MediumFault.{MediumFault}
use Rattle.dfu_sim.specs.declared.delivery.MediumFault.TheVariants.{CutsPower}
use Rattle.dfu_sim.specs.Delivery.{Delivery, delivery_of}
use Rattle.dfu_sim.specs.Happening.{Happening, Goes, Passes}
use Rattle.dfu_sim.specs.Play.{wait_by_handling, Answered}
use Rattle.dfu_sim.specs.Bytes.{fuse_of, armed_device, device_after_bus_reset, SetupResult, ReachesDevice, unseen, once, again, late, SlipsTime, ActionDelivered, device_after_action, HappensOnBench}
use Rattle.dfu_sim.specs.LinkView.{LinkView}
use Rattle.dfu_sim.proofs.DoneOnce.{done_plan_has_ending}

-- A setup does not change the setting.
handling_keeps_config : {setup body out : List ℕ} {w w' : DeviceView} {a : Answer} → Handles setup body w a out w' → w'.config ≡ w.config
handling_keeps_config {body = body} {out = out} {w = w} {w' = w'} {a = a} (handled_by_reading p q reads asks done) =
    (done_plan_has_ending (setup_plan w p q body) (asked_length q) w a out w' done).config

-- The passing of time does not change the setting.
elapsed_time_keeps_config : (ms : ℕ) (w w' : DeviceView) → Elapses ms w w' → w'.config ≡ w.config
elapsed_time_keeps_config ms w w' h = (done_plan_has_ending (time_plan (profile w) w.stage ms) 0 w answer.Ack [] w' h).config

-- A setup does not change the setting, even if the program refuses the image of the closed download.
setup_result_keeps_config : (x : Option Objection) (setup body out : List ℕ) (w w' : DeviceView) (a : Answer) →
    SetupResult x setup body w a out w'
    → w'.config ≡ w.config
setup_result_keeps_config None setup body out w w' a h = handling_keeps_config h
setup_result_keeps_config (Some why) setup body out w w' a (inl (stalls, none, closing, same)) = ap (λ (x : DeviceView). x.config) same
setup_result_keeps_config (Some why) setup body out w w' a (inr (other, h)) = handling_keeps_config h

-- A request does not change the setting, however often the device handles it.
reached_device_keeps_config : {x : Option Objection} {setup body : List ℕ} {how : Handled} {w w' : DeviceView} {came : Response} {out :
    List ℕ}
    → ReachesDevice x setup body how w came out w' → w'.config ≡ w.config
reached_device_keeps_config unseen = refl
reached_device_keeps_config {x = x} (once h) = setup_result_keeps_config x _ _ _ _ _ _ h
reached_device_keeps_config {x = x} (again mid a out h k) = handling_keeps_config k ∙ setup_result_keeps_config x _ _ _ _ _ _ h
reached_device_keeps_config {x = x} {w' = w'} (late {ms = ms} mid h k) = elapsed_time_keeps_config ms mid w' k
    ∙ setup_result_keeps_config x _ _ _ _ _ _ h

-- The time of a slip does not change the setting.
slipped_time_keeps_config : (how : Handled) (w w' : DeviceView) → SlipsTime how w w' → w'.config ≡ w.config
slipped_time_keeps_config (Late ms) w w' h = elapsed_time_keeps_config ms w w' h
slipped_time_keeps_config how w w' h = ap (λ (x : DeviceView). x.config) h

-- An action of the host does not change the setting.
action_keeps_config : (d : Deed) (f : Delivery) (w w' : DeviceView) (heard : Heard) → ActionDelivered d f w w' heard → w'.config ≡ w.config
action_keeps_config (Send q body) f w w' heard h = reached_device_keeps_config h.2.reaches
action_keeps_config (Wait ms) f w w' heard h = elapsed_time_keeps_config (wait_by_handling f.handling ms) w w' h.0
action_keeps_config Reset f w w' heard h = slipped_time_keeps_config f.handling (device_after_bus_reset w) w' h.0
action_keeps_config (IsDone report) f w w' heard h = elim h [ ]

-- The end of an action does not change the setting.
action_end_keeps_config : (harming : MediumFault) (w : DeviceView) → (device_after_action harming w).config ≡ w.config
action_end_keeps_config CutsPower w = refl
action_end_keeps_config harming w = refl

-- No event changes the setting of a device.
pub event_keeps_config : (event : Happening) (b b' : LinkView) (answer : Answered) → HappensOnBench event b b' answer
    → b'.device.config ≡ b.device.config
event_keeps_config (Goes fate harm) b b' answer g =
    ap (λ (x : DeviceView). x.config) g.gone.device ∙ action_end_keeps_config (delivery_of fate).harming g.gone.last
    ∙ action_keeps_config (deed g.host.task g.host.phase) (delivery_of fate)
    (armed_device b.device (fuse_of (delivery_of fate).harming harm)) g.gone.last
    g.gone.acted.heard g.gone.acted.acts
event_keeps_config (Passes ms) b b' answer (e, s, n) = elapsed_time_keeps_config ms b.device b'.device e
event_keeps_config event b b' answer h = ap (λ (x : LinkView). x.device.config) h.0
