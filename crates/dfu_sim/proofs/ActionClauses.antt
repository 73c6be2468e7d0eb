-- Proofs that an action of the host is delivered, from the contracts of its parts.
use Rattle.std.proofs.Common.{◌≡◌, ℕ, List, sym, subst}
use Rattle.std.specs.Borrow.{Bor}
use Rattle.dfu_slots.specs.Medium.Fuse.{Whole}
use Rattle.dfu_wire.specs.declared.requests.Request.{Request as Asked}
use Rattle.dfu_device.specs.DeviceView.{DeviceView}
use Rattle.dfu_device.specs.Rows.{Elapses}
use Rattle.dfu_host.specs.declared.action.Action.TheVariants as action
use Rattle.dfu_host.specs.declared.seen.Seen.{Seen}
use Rattle.dfu_host.specs.declared.seen.Seen.TheVariants as seen
use Rattle.dfu_host.specs.Host.{HostState}
use Rattle.dfu_host.specs.Phases.{Deed, Send, Wait, Reset, Heard, Waited, WasReset}
use Rattle.dfu_host.specs.Wire.{SpellsDeed, SeenMeaning}
use Rattle.dfu_sim.specs.declared.delivery.Response.{Response}
use Rattle.dfu_sim.specs.declared.delivery.MediumFault.{MediumFault}
use Rattle.dfu_sim.specs.declared.delivery.MediumFault.TheVariants.{CutsPower}
use Rattle.dfu_sim.specs.Delivery.{Delivery}
use Rattle.dfu_sim.specs.Happening.{WriteHarm}
use Rattle.dfu_sim.specs.Play.{heard_after_action, wait_by_handling}
use Rattle.dfu_sim.specs.Bytes.{fuse_of, armed_device, device_after_bus_reset, HeardOfResponse, ReachesDevice, response_if_delivered, response_if_powered, RequestDelivered, WaitDelivered, SlipsTime, BusResetDelivered, ActionDelivered, device_after_action, HostActs, HostActsArmed}
use Rattle.dfu_sim.specs.inside.Acting.{seen_after_action}

-- If the device handles a request according to its delivery, and the host gets the response that the delivery lets through, the request is
-- delivered.
pub row_request_is_delivered : {setup body out : List ℕ} {w w' : DeviceView} (delivery : Delivery) {came b : Response} →
    ReachesDevice delivery.refusing setup body delivery.handling w came out w'
    → b ≡ response_if_powered delivery.harming (response_if_delivered delivery.back came) → (q : Asked) (heard : Heard)
    → HeardOfResponse (Send q body) b out heard
    → RequestDelivered q setup body delivery w w' heard
row_request_is_delivered {body = body} {out = out} delivery {came = came} h e q heard r = record {
  came = came;
  out = out;
  reaches = h;
  hears = subst (λ (x : Response). HeardOfResponse (Send q body) x out heard) e r;
}

-- At the end of an action a host receives the meaning of its result, or Restarted after a cut of the power.
seen_end_is_heard : (harming : MediumFault) (d : Deed) (s : Seen) (heard x : Heard) → (SeenMeaning d s heard → heard ≡ x)
    → SeenMeaning d (seen_after_action harming s) heard → heard ≡ heard_after_action harming x
seen_end_is_heard CutsPower d s heard x f h = h
seen_end_is_heard harming d s heard x f h = f h

-- If the time of a wait has passed, and the host's result is the end of the wait or the restart after a cut, the wait is delivered.
pub elapsed_wait_is_delivered : {time : ℕ} (ms : ℕ) (w w' : DeviceView) (delivery : Delivery) {seen_is : Seen}
    → Elapses time w w' → time ≡ wait_by_handling delivery.handling ms
    → seen_is ≡ seen_after_action delivery.harming seen.Waited → (d : Deed) (heard : Heard) → SeenMeaning d seen_is heard
    → WaitDelivered ms delivery w w' heard
elapsed_wait_is_delivered ms w w' delivery e t k d heard h = (
  subst (λ (n : ℕ). Elapses n w w') t e,
  seen_end_is_heard delivery.harming d seen.Waited heard Waited (λ h. h) (subst (λ (x : Seen). SeenMeaning d x heard) k h),
)

-- If the time of a slip has passed after a reset of the bus, and the host's result is the end of the reset or the restart after a cut, the
-- reset is delivered.
pub bus_reset_is_delivered : {mid : DeviceView} (w w' : DeviceView) (delivery : Delivery) {seen_is : Seen} → mid ≡ device_after_bus_reset w
    → SlipsTime delivery.handling mid w'
    → seen_is ≡ seen_after_action delivery.harming seen.WasReset → (d : Deed) (heard : Heard) → SeenMeaning d seen_is heard
    → BusResetDelivered delivery w w' heard
bus_reset_is_delivered w w' delivery r e k d heard h = (
  subst (λ (x : DeviceView). SlipsTime delivery.handling x w') r e,
  seen_end_is_heard delivery.harming d seen.WasReset heard WasReset (λ h. h) (subst (λ (x : Seen). SeenMeaning d x heard) k h),
)

-- Lemmas about requests, waits and resets in the types of the code.

-- If the setup and the body of the code's request encode a deed, the delivery of that request is the delivery of the deed.
pub send_action_delivered : (d : Deed) (delivery : Delivery) (setup : List ℕ) (given : Bor (List ℕ)) (heard : Heard) (b : Response) {out
    last : List ℕ}
    {w w' : DeviceView} → SpellsDeed d (action.Send setup given)
    → ((q : Asked) (heard : Heard) → HeardOfResponse (Send q given.now) b out heard
    → RequestDelivered q setup given.now delivery w w' heard)
    → last ≡ out → HeardOfResponse d b last heard → ActionDelivered d delivery w w' heard
send_action_delivered (Send q body) delivery setup given heard b {out = out} {w = w} {w' = w'} e s same h =
    let sent = subst (λ (x : List ℕ). (q : Asked) (heard : Heard) → HeardOfResponse (Send q x) b out heard
    → RequestDelivered q setup x delivery w w' heard)
    e.1 s in
    (setup, e.0, sent q heard (subst (λ (x : List ℕ). HeardOfResponse (Send q body) b x heard) same h))
send_action_delivered d delivery setup given heard b e s same h = elim e [ ]

-- If a wait of the code encodes a deed, the delivery of that wait is the delivery of the deed.
pub wait_action_delivered : (d : Deed) (f : Delivery) (given : ℕ) (w w' : DeviceView) (heard : Heard) → SpellsDeed d (action.Wait given)
    → WaitDelivered given f w w' heard
    → ActionDelivered d f w w' heard
wait_action_delivered (Wait ms) f given w w' heard e h = subst (λ (n : ℕ). WaitDelivered n f w w' heard) e h
wait_action_delivered d f given w w' heard e h = elim e [ ]

-- If a reset of the code encodes a deed, the delivery of that reset is the delivery of the deed.
pub reset_action_delivered : (d : Deed) (f : Delivery) (w w' : DeviceView) (heard : Heard) → SpellsDeed d action.Reset →
    BusResetDelivered f w w' heard
    → ActionDelivered d f w w' heard
reset_action_delivered Reset f w w' heard e h = h
reset_action_delivered d f w w' heard e h = elim e [ ]

-- Lemmas about the medium before and after an action.

-- A device with a whole fuse stays the same if it is armed with a whole fuse.
pub unarmed_device_stays : (w : DeviceView) → w.slots.medium.fuse ≡ Whole → armed_device w Whole ≡ w
unarmed_device_stays w e = λ i. record w { slots = record w.slots { medium = record w.slots.medium { fuse = sym e i } } }

-- If the medium was armed for a delivery before the action, and the device is restarted or disarmed afterwards, the host acted by that
-- delivery.
pub armed_action_follows_fate : {delivery c : Delivery} {harm x : WriteHarm} {h h' : HostState} {w start last w' : DeviceView} → c
    ≡ delivery → x ≡ harm
    → start ≡ armed_device w (fuse_of c.harming x) → HostActs h c start last h' → w' ≡ device_after_action c.harming last
    → HostActsArmed h delivery harm w w' h'
armed_action_follows_fate {c = c} {harm = harm} {x = x} {h = h} {h' = h'} {w = w} {last = last} {w' = w'} e k start acted left =
    subst (λ (d : Delivery). HostActsArmed h d harm w w' h') e (subst (λ (y : WriteHarm). HostActsArmed h c y w w' h') k
    (record { last = last; acted = subst (λ (z : DeviceView). HostActs h c z last h') start acted; device = left }))
