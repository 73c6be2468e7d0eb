-- An action in which a write is harmed has one result.
use Rattle.std.proofs.Common.{◌≡◌, ℕ, Bool, true, List, [], Option, refl, sym, ap, ◌∙◌, subst}
use Rattle.dfu_wire.specs.declared.requests.Request.{Request as Asked}
use Rattle.dfu_slots.specs.StoreView.{image_of}
use Rattle.dfu_slots.specs.OneWrite.{IsKnownFuse}
use Rattle.dfu_device.specs.declared.answer.Answer.{Answer}
use Rattle.dfu_device.specs.declared.answer.Answer.TheVariants as answer
use Rattle.dfu_device.specs.declared.objection.Objection.{Objection}
use Rattle.dfu_device.specs.Table.{time_plan}
use Rattle.dfu_device.specs.Outcome.{plan_outcome}
use Rattle.dfu_device.specs.DeviceView.{DeviceView, profile}
use Rattle.dfu_device.specs.Rows.{asked_length}
use Rattle.dfu_host.specs.Phases.{Deed, Send, Wait, Reset, Done as IsDone, Heard, Waited, WasReset, Restarted}
use Rattle.dfu_host.specs.Table.{deed}
use Rattle.dfu_host.specs.Host.{HostState}
use Rattle.dfu_host.specs.Wire.{IsSetupOf}
use Rattle.dfu_sim.specs.declared.delivery.Response.{Response}
use Rattle.dfu_sim.specs.declared.delivery.Response.TheVariants as response
use Rattle.dfu_sim.specs.declared.delivery.Handled.{Handled}
use Rattle.dfu_sim.specs.declared.delivery.Handled.TheVariants.{Once, Late}
use Rattle.dfu_sim.specs.declared.delivery.MediumFault.{MediumFault}
use Rattle.dfu_sim.specs.declared.delivery.MediumFault.TheVariants.{NoWrite, CutsPower}
use Rattle.dfu_sim.specs.Delivery.{delivery_of}
use Rattle.dfu_sim.specs.Happening.{Fate, CutInWrite, Fail, Lie, Refusing, WriteHarm, Happening}
use Rattle.dfu_sim.specs.LinkView.{HostSession, LinkView}
use Rattle.dfu_sim.specs.Play.{Answered, host_outcome, heard_of_reply, heard_with_room, heard_after_action, wait_by_handling}
use Rattle.dfu_sim.specs.Bytes.{fuse_of, armed_device, device_after_bus_reset, HeardOfResponse, SetupResult, ReachesDevice, once, RequestDelivered, SlipsTime, ActionDelivered, device_after_action, NextAction, HappensOnBench}
use Rattle.dfu_sim.specs.EventResults.{happens}
use Rattle.dfu_sim.specs.OneAnswer.{SameDevice, AreOneResult, HarmsAWrite, HarmedActionHasOneResult}
use Rattle.dfu_sim.proofs.FateEffects.{memory_keeps_heard_meaning}
use Rattle.dfu_sim.proofs.DoneOnce.{equal_devices_are_same, powered_devices_stay_same, disarmed_devices_stay_same, DoneOnce, plan_ends_in_one_way}
use Rattle.dfu_sim.proofs.Replies.{IsHostRequest, IsHostDeed, phase_has_host_deed, plan_answer_is_heard}
use Rattle.dfu_sim.proofs.Actions.{plan_with_objection, setup_result_is_row}

-- Two results of an action agree: the devices are equal but for failed writes, and the host receives equal meanings, unless memory for a
-- part is missing.
record ResultsAgree (w' v' : DeviceView) (heard other : Heard) : Type 0 where
  device : SameDevice w' v'
  hears : Heard
  first : (room : Bool) × (heard ≡ heard_with_room hears room)
  second : (room : Bool) × (other ≡ heard_with_room hears room)

-- Two results agree if the host receives one meaning in both, and the devices are equal but for failed writes.
equal_heard_agrees : {w' v' : DeviceView} {heard other : Heard} (x : Heard) → SameDevice w' v' → heard ≡ x → other ≡ x →
    ResultsAgree w' v' heard other
equal_heard_agrees x same e f =
    record {
      device = same;
      hears = x;
      first = (true, e ∙ memory_keeps_heard_meaning x);
      second = (
        true,
        f
            ∙ memory_keeps_heard_meaning x,
      );
    }

-- If the device handles a request once, the response is an answer, which is the result of the setup.
request_reached_once_has_answer : {x : Option Objection} {setup body : List ℕ} {w w' : DeviceView} {came : Response} {out : List ℕ}
    → ReachesDevice x setup body Once w came out w' → (a : Answer) × (came ≡ response.Answered a) × SetupResult x setup body w a out w'
request_reached_once_has_answer (once {a = a} h) = (a, refl, h)

module _ (q : Asked) (body : List ℕ) (is : IsHostRequest q body) (w : DeviceView) (known : IsKnownFuse w.slots.medium.fuse)
    (x : Option Objection) where
  -- On a device with a known fuse, the results of two setups that encode one request agree.
  setup_results_agree : (setup setup2 : List ℕ) (w' v' : DeviceView) (a b : Answer) (out other : List ℕ) → IsSetupOf q setup →
      IsSetupOf q setup2
      → SetupResult x setup body w a out w' → SetupResult x setup2 body w b other v'
      → DoneOnce (plan_with_objection q body x w) (asked_length q) w w' v' a b out other
  setup_results_agree setup setup2 w' v' a b out other asked asked2 h k =
      plan_ends_in_one_way (plan_with_objection q body x w) (asked_length q) w w' v' a b out other known
      (setup_result_is_row q setup body is asked x w w' a out h) (setup_result_is_row q setup2 body is asked2 x w v' b other k)

  -- If the host gets the answer, two results of one request agree.
  heard_answers_agree : (setup setup2 : List ℕ) (w' v' : DeviceView) (heard heard2 : Heard) (came came2 : Response) (out out2 : List ℕ)
      → IsSetupOf q setup → IsSetupOf q setup2 → ReachesDevice x setup body Once w came out w' →
      ReachesDevice x setup2 body Once w came2 out2 v'
      → HeardOfResponse (Send q body) came out heard → HeardOfResponse (Send q body) came2 out2 heard2 → ResultsAgree w' v' heard heard2
  heard_answers_agree setup setup2 w' v' heard heard2 came came2 out out2 asked asked2 h k says says2 =
      let a = request_reached_once_has_answer h in
      let b = request_reached_once_has_answer k in
      let y = setup_results_agree setup setup2 w' v' a.0 b.0 out out2 asked asked2 a.2 b.2 in
      record {
        device = y.device;
        hears = heard_of_reply (plan_outcome (image_of w.slots) (plan_with_objection q body x w) y.luck).reply;
        first = plan_answer_is_heard x q body (profile w) (image_of w.slots) w.stage y.luck a.0 out heard is y.first
            (subst (λ (c : Response). HeardOfResponse (Send q body) c out heard) a.1 says);
        second = plan_answer_is_heard x q body (profile w) (image_of w.slots) w.stage y.luck b.0 out2 heard2 is y.second
            (subst (λ (c : Response). HeardOfResponse (Send q body) c out2 heard2) b.1 says2);
      }

  -- Two results of a request in which a write is harmed agree, for any setups that encode it.
  harmed_requests_agree : (fate : Fate) (setup setup2 : List ℕ) (w' v' : DeviceView) (heard heard2 : Heard) →
      HarmsAWrite (delivery_of fate).harming
      → IsSetupOf q setup → IsSetupOf q setup2 → RequestDelivered q setup body (record (delivery_of fate) { refusing = x }) w w' heard
      → RequestDelivered q setup2 body (record (delivery_of fate) { refusing = x }) w v' heard2
      → ResultsAgree w' v' heard heard2
  harmed_requests_agree CutInWrite setup setup2 w' v' heard heard2 harms asked asked2 h k =
      let a = request_reached_once_has_answer h.reaches in
      let b = request_reached_once_has_answer k.reaches in
      let y = setup_results_agree setup setup2 w' v' a.0 b.0 h.out k.out asked asked2 a.2 b.2 in
      equal_heard_agrees Restarted y.device h.hears k.hears
  harmed_requests_agree Fail setup setup2 w' v' heard heard2 harms asked asked2 h k =
      heard_answers_agree setup setup2 w' v' heard heard2 h.came k.came h.out k.out asked asked2 h.reaches k.reaches h.hears k.hears
  harmed_requests_agree Lie setup setup2 w' v' heard heard2 harms asked asked2 h k =
      heard_answers_agree setup setup2 w' v' heard heard2 h.came k.came h.out k.out asked asked2 h.reaches k.reaches h.hears k.hears
  harmed_requests_agree (Refusing why fate) setup setup2 w' v' heard heard2 harms asked asked2 h k =
      harmed_requests_agree fate setup setup2 w' v' heard heard2 harms asked asked2 h k
  harmed_requests_agree fate setup setup2 w' v' heard heard2 harms asked asked2 h k = elim harms [ ]

-- If the fuse is known, the devices after the time of a slip are equal but for failed writes.
slipped_times_agree : (how : Handled) (w w' v' : DeviceView) → IsKnownFuse w.slots.medium.fuse → SlipsTime how w w' → SlipsTime how w v'
    → SameDevice w' v'
slipped_times_agree (Late ms) w w' v' known h k =
    (plan_ends_in_one_way (time_plan (profile w) w.stage ms) 0 w w' v' answer.Ack answer.Ack [] [] known h k).device
slipped_times_agree how w w' v' known h k = equal_devices_are_same (h ∙ sym k)

-- If a write is harmed in an action, two results of that action from one device agree.
harmed_actions_agree : (d : Deed) (fate : Fate) (w w' v' : DeviceView) (heard heard2 : Heard) → IsHostDeed d
    → HarmsAWrite (delivery_of fate).harming → IsKnownFuse w.slots.medium.fuse → ActionDelivered d (delivery_of fate) w w' heard
    → ActionDelivered d (delivery_of fate) w v' heard2 → ResultsAgree w' v' heard heard2
harmed_actions_agree (Send q body) fate w w' v' heard heard2 is harms known (setup, asked, h) (setup2, asked2, k) =
    harmed_requests_agree q body is w known (delivery_of fate).refusing fate setup setup2 w' v' heard heard2 harms asked asked2 h k
harmed_actions_agree (Wait ms) fate w w' v' heard heard2 is harms known (h, e) (k, f) =
    let time = time_plan (profile w) w.stage (wait_by_handling (delivery_of fate).handling ms) in
    equal_heard_agrees (heard_after_action (delivery_of fate).harming Waited)
    (plan_ends_in_one_way time 0 w w' v' answer.Ack answer.Ack [] [] known h k).device e f
harmed_actions_agree Reset fate w w' v' heard heard2 is harms known (h, e) (k, f) =
    equal_heard_agrees (heard_after_action (delivery_of fate).harming WasReset)
    (slipped_times_agree (delivery_of fate).handling (device_after_bus_reset w) w' v' known h k) e f
harmed_actions_agree (IsDone report) fate w w' v' heard heard2 is harms known h k = absurd h

-- If a write is harmed in an action, the fuse is known.
harmed_action_has_known_fuse : (harming : MediumFault) (harm : WriteHarm) → HarmsAWrite harming → IsKnownFuse (fuse_of harming harm)
harmed_action_has_known_fuse NoWrite harm harms = elim harms [ ]
harmed_action_has_known_fuse harming harm harms = tt

-- If two devices are equal but for failed writes, they remain so at the end of an action.
action_ends_leave_same_device : (harming : MediumFault) {w v : DeviceView} → SameDevice w v
    → SameDevice (device_after_action harming w) (device_after_action harming v)
action_ends_leave_same_device CutsPower same = powered_devices_stay_same same
action_ends_leave_same_device harming same = disarmed_devices_stay_same same

-- If two sessions are equal, they have the same host.
hosted_session_has_one_host : (h k : HostState) → HostSession h ≡ HostSession k → k ≡ h
hosted_session_has_one_host h k e = sym cc

-- If a write is harmed in the host's next action, that action has one result.
harmed_next_actions_agree : (fate : Fate) (harm : WriteHarm) (b c d : LinkView) (x y : Answered) →
    HarmsAWrite (delivery_of fate).harming
    → NextAction b.session fate harm b c x → NextAction b.session fate harm b d y → AreOneResult c d x y
harmed_next_actions_agree fate harm b c d x y harms g k =
    let harming = (delivery_of fate).harming in
    let w = armed_device b.device (fuse_of harming harm) in
    let same : k.host ≡ g.host = hosted_session_has_one_host g.host k.host (sym g.live ∙ k.live) in
    let acts : ActionDelivered (deed g.host.task g.host.phase) (delivery_of fate) w k.gone.last k.gone.acted.heard = subst
    (λ (h : HostState). ActionDelivered (deed h.task h.phase) (delivery_of fate) w k.gone.last k.gone.acted.heard) same k.gone.acted.acts in
    let one = harmed_actions_agree (deed g.host.task g.host.phase) fate w g.gone.last k.gone.last g.gone.acted.heard k.gone.acted.heard
    (phase_has_host_deed g.host.task g.host.phase) harms
    (harmed_action_has_known_fuse harming harm harms) g.gone.acted.acts acts in
    record {
      device = subst (λ (z : DeviceView). SameDevice z d.device) (sym g.gone.device)
          (subst (λ (z : DeviceView). SameDevice (device_after_action harming g.gone.last) z) (sym k.gone.device)
          (action_ends_leave_same_device harming one.device));
      rule = λ room. host_outcome g.host (heard_with_room one.hears room);
      first = (
        one.first.0,
        ap (λ (z : Heard). host_outcome g.host z) (sym one.first.1) ∙
            (λ i. record { session = sym g.session i; answer = sym g.answered i }),
      );
      second = (
        one.second.0,
        ap (λ (z : Heard). host_outcome g.host z) (sym one.second.1) ∙ ap (λ (h : HostState). host_outcome h k.gone.acted.heard) (sym same)
            ∙ (λ i. record { session = sym k.session i; answer = sym k.answered i }),
      );
    }

-- An action in which a write is harmed has one result.
pub harmed_action_has_one_result : HarmedActionHasOneResult
harmed_action_has_one_result b c d fate harm x y harms (happens {event = event} means play) (happens {event = other} same again) =
    harmed_next_actions_agree fate harm b c d x y harms
    (subst (λ (e : Happening). HappensOnBench e b c x) means play.happens)
    (subst (λ (e : Happening). HappensOnBench e b d y) same again.happens)
