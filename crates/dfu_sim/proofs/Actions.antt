-- An action in bytes is an action of the table of fates.
use Rattle.std.proofs.Common.{◌≡◌, ℕ, Bool, true, false, List, Option, Some, None, refl, sym, ap, ◌∙◌, subst, inl, inr}
use Rattle.dfu_wire.specs.declared.requests.Request.{Request as Asked}
use Rattle.dfu_slots.specs.Medium.{Fuse}
use Rattle.dfu_slots.specs.Medium.Fuse.{Whole}
use Rattle.dfu_slots.specs.StoreView.{image_of, fuse_changes_nothing_visible}
use Rattle.dfu_device.specs.declared.answer.Answer.{Answer}
use Rattle.dfu_device.specs.declared.objection.Objection.{Objection}
use Rattle.dfu_device.specs.Stage.{Profile, Reply}
use Rattle.dfu_device.specs.Table.{Plan, error_plan, plan, objection_code}
use Rattle.dfu_device.specs.Outcome.{Situation, Luck, Works, Outcome, plan_outcome, handled, situation_after_ms}
use Rattle.dfu_device.specs.DeviceView.{DeviceView, profile, situation}
use Rattle.dfu_device.specs.Rows.{request_for_table, asked_length, ReplyAnswer, Done as RowDone, ClosesDownload, Handles}
use Rattle.dfu_device.specs.PlanOutcomes.{close_setup_asks_for_close, PlanOutcome, came, row_follows_reading, times_have_outcomes}
use Rattle.dfu_host.specs.Phases.{Deed, Send, Wait, Reset, Done, Heard, Waited, WasReset}
use Rattle.dfu_host.specs.Wire.{IsSetupOf}
use Rattle.dfu_sim.specs.declared.delivery.Response.{Response}
use Rattle.dfu_sim.specs.declared.delivery.Handled.{Handled}
use Rattle.dfu_sim.specs.declared.delivery.Handled.TheVariants.{Late}
use Rattle.dfu_sim.specs.declared.delivery.MediumFault.{MediumFault}
use Rattle.dfu_sim.specs.declared.delivery.MediumFault.TheVariants.{CutsPower}
use Rattle.dfu_sim.specs.Delivery.{Delivery}
use Rattle.dfu_sim.specs.Play.{heard_of_reply, heard_with_room, reached, heard_back, heard_after_action, situation_after_harm, wait_by_handling, situation_after_slip, plan_with_refusal, action_result}
use Rattle.dfu_sim.specs.Bytes.{armed_device, device_after_bus_reset, HeardOfAnswer, HeardOfResponse, SetupResult, ReachesDevice, unseen, once, again, late, response_if_delivered, response_if_powered, RequestDelivered, WaitDelivered, SlipsTime, BusResetDelivered, ActionDelivered}
use Rattle.dfu_sim.proofs.FateEffects.{memory_keeps_heard_meaning}
use Rattle.dfu_sim.proofs.Replies.{IsHostRequest, IsHostDeed, plan_answer_is_heard, served}
use Rattle.dfu_sim.proofs.Closing.{closeless_request_goes_by_table, refused_close_is_error, host_close_request_closes, other_host_request_closes_nothing}

-- Arming a medium does not change the device's profile.
pub arming_keeps_profile : (w : DeviceView) (fuse : Fuse) → profile (armed_device w fuse) ≡ profile w
arming_keeps_profile w fuse = λ k. record (profile w) {
  capacity = (fuse_changes_nothing_visible w.slots fuse w.slots.held
      w.slots.put_end).room k;
}

-- Arming a medium does not change the device's situation.
pub arming_keeps_situation : (w : DeviceView) (fuse : Fuse) → situation (armed_device w fuse) ≡ situation w
arming_keeps_situation w fuse = λ k. record {
  image = (fuse_changes_nothing_visible w.slots fuse w.slots.held w.slots.put_end).image k;
  stage = w.stage;
}

-- The device changes its situation according to the table, for some luck of the medium. If the fuse is whole, no write fails.
pub record Went (fuse : Fuse) (c : Profile) (s : Situation) (d : Deed) (delivery : Delivery) (w' : DeviceView) (heard : Heard)
    : Type 0 where
  pub first : Luck
  pub second : Luck
  pub room : Bool
  pub device : (action_result c s d delivery first second).device ≡ situation_after_harm delivery.harming (situation w')
  pub hears : heard ≡ heard_with_room (action_result c s d delivery first second).heard room
  pub fixed : profile w' ≡ c
  pub works_with_whole_fuse : fuse ≡ Whole → (first ≡ Works) × (second ≡ Works)

-- The host receives the response of the device, Nothing if the response was lost, and Restarted if the power was cut.
heard_matches_delivery : (d : Deed) (harming : MediumFault) (back : Bool) (came : Response) (out : List ℕ) (heard x : Heard)
    → ((h : Heard) → HeardOfResponse d came out h → (room : Bool) × (h ≡ heard_with_room x room))
    → HeardOfResponse d (response_if_powered harming (response_if_delivered back came)) out heard
    → (room : Bool) × (heard ≡ heard_with_room (heard_after_action harming (heard_back back x)) room)
heard_matches_delivery d CutsPower back came out heard x f h = (true, h)
heard_matches_delivery d harming true came out heard x f h = f heard h
heard_matches_delivery d harming false came out heard x f h = (true, h)

-- Plan of a request, even if the program refuses the image of the download that the request closes.
abbrev pub plan_with_objection : Asked → (body : List ℕ) → Option Objection → DeviceView → Plan
plan_with_objection q body x w = plan_with_refusal x (profile w) (image_of w.slots) w.stage (request_for_table q body)

module _ (q : Asked) (setup body : List ℕ) (is : IsHostRequest q body) (asked : IsSetupOf q setup) where
  -- If the setup closes the download and the program refuses the image, the device answers with an error.
  refused_close_fails : (why : Objection) (w : DeviceView) → ClosesDownload setup w → plan_with_objection q body (Some why) w
      ≡ error_plan (objection_code why)
  refused_close_fails why w (close, may) =
      refused_close_is_error why (profile w) (image_of w.slots) w.stage (request_for_table q body)
      (host_close_request_closes q body w.config.least w.stage is (close_setup_asks_for_close setup asked.setup q asked.fields asked.asks
      close) may)

  -- If the setup does not close the download, the plan is the table's.
  no_close_keeps_plan : (why : Objection) (w : DeviceView) → (ClosesDownload setup w → ⊥)
      → plan_with_objection q body (Some why) w ≡ plan (profile w) (image_of w.slots) w.stage (request_for_table q body)
  no_close_keeps_plan why w other =
      closeless_request_goes_by_table (Some why) (profile w) (image_of w.slots) w.stage (request_for_table q body)
      (other_host_request_closes_nothing q body w.config.least w.stage is (λ close may. other (
        (
          asked.setup,
          q,
          asked.fields,
          asked.asks,
          close,
        ),
        may,
      )))

  -- If a device handles a setup that encodes a request, the device carries out the table's plan of that request.
  request_makes_row_of_plan : (w w' : DeviceView) (a : Answer) (out : List ℕ) → Handles setup body w a out w'
      → RowDone (plan (profile w) (image_of w.slots) w.stage (request_for_table q body)) (asked_length q) w a out w'
  request_makes_row_of_plan w w' a out h =
      rw (served asked.setup q body is asked.asks) at (row_follows_reading asked.setup q setup body w a out w' asked.fields asked.asks h)

  -- The result of a setup is a row of the plan of `plan_with_objection`.
  pub setup_result_is_row : (x : Option Objection) (w w' : DeviceView) (a : Answer) (out : List ℕ) → SetupResult x setup body w a out w'
      → RowDone (plan_with_objection q body x w) (asked_length q) w a out w'
  setup_result_is_row None w w' a out h = request_makes_row_of_plan w w' a out h
  setup_result_is_row (Some why) w w' a out (inl (stalls, none, closing, same)) =
      subst (λ (p : Plan). RowDone p (asked_length q) w a out w') (sym (refused_close_fails why w closing)) ((stalls, none), same)
  setup_result_is_row (Some why) w w' a out (inr (other, h)) =
      subst (λ (p : Plan). RowDone p (asked_length q) w a out w') (sym (no_close_keeps_plan why w other)) (request_makes_row_of_plan w w' a
      out h)

  -- The result of a setup is the outcome of its plan, for some luck of the medium.
  setup_result_has_outcome : (x : Option Objection) (w w' : DeviceView) (a : Answer) (out : List ℕ) → SetupResult x setup body w a out w'
      → PlanOutcome (plan_with_objection q body x w) (asked_length q) w a out w'
  setup_result_has_outcome x w w' a out h = came (plan_with_objection q body x w) (asked_length q) w a out w' (setup_result_is_row x w w' a
      out h)

  -- The host reads the answer of a setup with the meaning of the plan's reply.
  row_answer_is_heard : (x : Option Objection) (w w' : DeviceView) (a : Answer) (out : List ℕ) (heard : Heard)
      (y : PlanOutcome (plan_with_objection q body x w) (asked_length q) w a out w')
      → HeardOfAnswer (Send q body) a out heard
      → (room : Bool) × (heard ≡ heard_with_room (heard_of_reply (plan_outcome (image_of w.slots) (plan_with_objection q body x w)
      y.luck).reply) room)
  row_answer_is_heard x w w' a out heard y h =
      plan_answer_is_heard x q body (profile w) (image_of w.slots) w.stage y.luck a out heard is
      (subst (λ (r : Reply). ReplyAnswer (asked_length q) r a out) (sym (ap (λ (o : Outcome). o.reply) y.same)) y.answers) h

  -- The device handled a request. The device's situation changed according to the table, for some luck of the medium, and the host receives
  -- the table's meaning of the answer.
  record RequestMovesByTable (x : Option Objection) (w w' : DeviceView) (how : Handled) (came : Response) (out : List ℕ) : Type 0 where
    first : Luck
    second : Luck
    device : (reached (profile w) (situation w) (request_for_table q body) (plan_with_objection q body x w) how first second).device
        ≡ situation w'
    hears : (heard : Heard) → HeardOfResponse (Send q body) came out heard → (room : Bool) × (heard ≡ heard_with_room (reached (profile w)
        (situation w) (request_for_table q body) (plan_with_objection q body x w) how first second).heard room)
    fixed : profile w' ≡ profile w
    works_with_whole_fuse : w.slots.medium.fuse ≡ Whole → (first ≡ Works) × (second ≡ Works)

  -- A request that reaches the device changes the device's situation according to the table.
  reached_request_moves_situation : {x : Option Objection} {w w' : DeviceView} {how : Handled} {came : Response} {out : List ℕ}
      → ReachesDevice x setup body how w came out w' → RequestMovesByTable x w w' how came out
  reached_request_moves_situation unseen = record {
    first = Works;
    second = Works;
    device = refl;
    hears = λ heard h. (true, h);
    fixed = refl;
    works_with_whole_fuse = λ e. (refl, refl);
  }
  reached_request_moves_situation {x = x} (once {w = w} {w' = w'} {a = a} {out = out} h) =
      let y = setup_result_has_outcome x w w' a out h in
      record {
        first = y.luck;
        second = Works;
        device = ap (λ (o : Outcome). o.after) y.same;
        hears = λ heard r. row_answer_is_heard x w w' a out heard y r;
        fixed = y.fixed;
        works_with_whole_fuse = λ e. ((y.unarmed e).0, refl);
      }
  reached_request_moves_situation {x = x} (again {w = w} {w' = w'} {b = b} {last = last} mid a out h k) =
      let y = setup_result_has_outcome x w mid a out h in
      let z = setup_result_has_outcome None mid w' b last k in
      let again : handled (profile w) (plan_outcome (image_of w.slots) (plan_with_objection q body x w) y.luck).after (request_for_table q
      body) z.luck
      ≡ handled (profile mid) (situation mid) (request_for_table q body) z.luck =
      λ j. handled (sym y.fixed j) (y.same j).after (request_for_table q body) z.luck in
      record {
        first = y.luck;
        second = z.luck;
        device = ap (λ (o : Outcome). o.after) again ∙ ap (λ (o : Outcome). o.after) z.same;
        hears = λ heard r. let said = row_answer_is_heard None mid w' b last heard z r in
            (said.0, said.1 ∙ sym (ap (λ (o : Outcome). heard_with_room (heard_of_reply o.reply) said.0) again));
        fixed = z.fixed ∙ y.fixed;
        works_with_whole_fuse = λ e. let k = y.unarmed e in (k.0, (z.unarmed k.1).0);
      }
  reached_request_moves_situation {x = x} (late {w = w} {w' = w'} {a = a} {out = out} {ms = ms} mid h e) =
      let y = setup_result_has_outcome x w mid a out h in
      let z = times_have_outcomes ms mid w' e in
      record {
        first = y.luck;
        second = z.luck;
        device = (λ j. situation_after_ms (sym y.fixed j) (y.same j).after ms z.luck) ∙ ap (λ (o : Outcome). o.after) z.same;
        hears = λ heard r. row_answer_is_heard x w mid a out heard y r;
        fixed = z.fixed ∙ y.fixed;
        works_with_whole_fuse = λ e. let k = y.unarmed e in (k.0, (z.unarmed k.1).0);
      }

  -- A delivered request changes the situation according to the table.
  request_moves_device : (delivery : Delivery) (w w' : DeviceView) (heard : Heard) → RequestDelivered q setup body delivery w w' heard
      → Went w.slots.medium.fuse (profile w) (situation w) (Send q body) delivery w' heard
  request_moves_device delivery w w' heard s =
      let x = reached_request_moves_situation s.reaches in
      let h = heard_matches_delivery (Send q body) delivery.harming delivery.back s.came s.out heard _ x.hears s.hears in
      record {
        first = x.first;
        second = x.second;
        room = h.0;
        device = ap (situation_after_harm delivery.harming) x.device;
        hears = h.1;
        fixed = x.fixed;
        works_with_whole_fuse = x.works_with_whole_fuse;
      }

-- A delivered wait changes the situation according to the table.
wait_moves_device : (ms : ℕ) (delivery : Delivery) (w w' : DeviceView) (heard : Heard) → WaitDelivered ms delivery w w' heard
    → Went w.slots.medium.fuse (profile w) (situation w) (Wait ms) delivery w' heard
wait_moves_device ms delivery w w' heard (e, h) = let y = times_have_outcomes (wait_by_handling delivery.handling ms) w w' e in
    record {
      first = y.luck;
      second = Works;
      room = true;
      device = ap (λ (o : Outcome). situation_after_harm delivery.harming o.after) y.same;
      hears = h ∙ memory_keeps_heard_meaning (heard_after_action delivery.harming Waited);
      fixed = y.fixed;
      works_with_whole_fuse = λ whole. ((y.unarmed whole).0, refl);
    }

-- The time of a slip changed the device's situation according to the table, for some luck of the medium.
record SlippedTimeMovesByTable (fuse : Fuse) (c : Profile) (s : Situation) (how : Handled) (w' : DeviceView) : Type 0 where
  luck : Luck
  device : situation_after_slip c s how luck ≡ situation w'
  fixed : profile w' ≡ c
  works_with_whole_fuse : fuse ≡ Whole → luck ≡ Works

-- The time of a slip changes the situation according to the table.
slip_moves_device : (how : Handled) (w w' : DeviceView) → SlipsTime how w w' →
    SlippedTimeMovesByTable w.slots.medium.fuse (profile w) (situation w) how w'
slip_moves_device (Late ms) w w' e = let y = times_have_outcomes ms w w' e in
    record {
      luck = y.luck;
      device = ap (λ (o : Outcome). o.after) y.same;
      fixed = y.fixed;
      works_with_whole_fuse = λ whole. (y.unarmed
          whole).0;
    }
slip_moves_device how w w' e = record {
  luck = Works;
  device = sym (ap situation e);
  fixed = ap profile e;
  works_with_whole_fuse = λ
      whole. refl;
}

-- A delivered reset of the bus changes the situation according to the table.
bus_reset_follows_table : (delivery : Delivery) (w w' : DeviceView) (heard : Heard) → BusResetDelivered delivery w w' heard
    → Went w.slots.medium.fuse (profile w) (situation w) Reset delivery w' heard
bus_reset_follows_table delivery w w' heard (e, h) = let y = slip_moves_device delivery.handling (device_after_bus_reset w) w' e in
    record {
      first = y.luck;
      second = Works;
      room = true;
      device = ap (situation_after_harm delivery.harming) y.device;
      hears = h ∙ memory_keeps_heard_meaning (heard_after_action delivery.harming WasReset);
      fixed = y.fixed;
      works_with_whole_fuse = λ whole. (y.works_with_whole_fuse whole, refl);
    }

-- An action of a host in bytes changes the situation according to the table, by its delivery.
pub action_moves_device : (d : Deed) (delivery : Delivery) (w w' : DeviceView) (heard : Heard) → IsHostDeed d →
    ActionDelivered d delivery w w' heard
    → Went w.slots.medium.fuse (profile w) (situation w) d delivery w' heard
action_moves_device (Send q body) delivery w w' heard is (setup, asked, h) = request_moves_device q setup body is asked delivery w w'
    heard h
action_moves_device (Wait ms) delivery w w' heard is h = wait_moves_device ms delivery w w' heard h
action_moves_device Reset delivery w w' heard is h = bus_reset_follows_table delivery w w' heard h
action_moves_device (Done report) delivery w w' heard is h = elim h [ ]
