-- If the fuse is known, a plan that is carried out from one device has one reply and leads to one device, except for the number of failed
-- writes.
use Rattle.std.proofs.Common.{◌≡◌, inl, inr, ℕ, List, ◌∷◌, [], length, refl, sym, ap, ◌∙◌, subst}
use Rattle.dfu_slots.specs.Medium.Fuse.{Whole}
use Rattle.dfu_slots.specs.StoreView.{SlotsState, image_of, StoreCall, Commit, Ending, AllWorked, BrokenBy, CallsEnd}
use Rattle.dfu_slots.specs.OneWrite.{IsKnownFuse}
use Rattle.dfu_slots.specs.Determined.{SameStore, same_calls_same_ending, same_calls_same_store}
use Rattle.dfu_device.specs.declared.answer.Answer.{Answer}
use Rattle.dfu_device.specs.Table.{Plan, Sure, Writes, Commits}
use Rattle.dfu_device.specs.Outcome.{Luck, Works, FailsOld, plan_outcome}
use Rattle.dfu_device.specs.DeviceView.{DeviceView}
use Rattle.dfu_device.specs.Rows.{ReplyAnswer, block_calls, Done}
use Rattle.dfu_sim.specs.Bytes.{armed_device, device_after_power_cycle}
use Rattle.dfu_sim.specs.OneAnswer.{SameDevice}

-- `SameStore` is reflexive.
store_is_same_as_itself : (s : SlotsState) → SameStore s s
store_is_same_as_itself s = record { medium = record { bytes = refl; fuse = refl; grain = refl }; held = refl; put_end = refl }

-- Equal devices are the same in the sense of `SameDevice`.
pub equal_devices_are_same : {w v : DeviceView} → w ≡ v → SameDevice w v
equal_devices_are_same {w = w} e = subst (λ (z : DeviceView). SameDevice w z) e (record {
  config = refl;
  stage = refl;
  store = store_is_same_as_itself
      w.slots;
})

-- Two devices that are equal but for failed writes remain so after a power cycle.
pub powered_devices_stay_same : {w v : DeviceView} → SameDevice w v → SameDevice (device_after_power_cycle w) (device_after_power_cycle v)
powered_devices_stay_same same = record {
  config = same.config;
  stage = refl;
  store = record {
    medium = record { bytes = same.store.medium.bytes; fuse = refl; grain = same.store.medium.grain };
    held = refl;
    put_end = refl;
  };
}

-- Two devices that are equal but for failed writes remain so after their media are disarmed.
pub disarmed_devices_stay_same : {w v : DeviceView} → SameDevice w v → SameDevice (armed_device w Whole) (armed_device v Whole)
disarmed_devices_stay_same same = record {
  config = same.config;
  stage = same.stage;
  store = record {
    medium = record { bytes = same.store.medium.bytes; fuse = refl; grain = same.store.medium.grain };
    held = same.store.held;
    put_end = same.store.put_end;
  };
}

-- Two results of one plan from one device agree: they have one reply, and the devices are equal but for the count of failed writes.
pub record DoneOnce (p : Plan) (len : ℕ) (w w' v' : DeviceView) (a b : Answer) (out other : List ℕ) : Type 0 where
  pub luck : Luck
  pub first : ReplyAnswer len (plan_outcome (image_of w.slots) p luck).reply a out
  pub second : ReplyAnswer len (plan_outcome (image_of w.slots) p luck).reply b other
  pub device : SameDevice w' v'

-- Calls of the slot store that a plan makes, in their order.
abbrev store_calls_of_plan : Plan → List StoreCall
store_calls_of_plan (Sure reply stage) = []
store_calls_of_plan (Writes before block reply stage bad) = block_calls before block
store_calls_of_plan (Commits taken reply stage bad) = Commit (length taken) ∷ []

-- Luck of a plan, by the ending of its calls. A failed commit may leave the old image or the new one; here it counts as leaving the old
-- one.
abbrev luck_of_ending : Ending → Luck
luck_of_ending AllWorked = Works
luck_of_ending (BrokenBy fault) = FailsOld fault

-- A plan was carried out, and its calls ended with `ending`.
pub record Ended (p : Plan) (len : ℕ) (w : DeviceView) (a : Answer) (out : List ℕ) (w' : DeviceView) : Type 0 where
  pub ending : Ending
  pub answers : ReplyAnswer len (plan_outcome (image_of w.slots) p (luck_of_ending ending)).reply a out
  pub config : w'.config ≡ w.config
  pub stage : w'.stage ≡ (plan_outcome (image_of w.slots) p (luck_of_ending ending)).after.stage
  pub called : CallsEnd w.slots (store_calls_of_plan p) ending w'.slots

-- Each plan that was carried out has an ending.
pub done_plan_has_ending : (p : Plan) (len : ℕ) (w : DeviceView) (a : Answer) (out : List ℕ) (w' : DeviceView) → Done p len w a out w'
    → Ended p len w a out w'
done_plan_has_ending (Sure reply stage) len w a out w' h = record {
  ending = AllWorked;
  answers = h.0;
  config = ap (λ (x : DeviceView). x.config) h.1;
  stage = ap (λ (x : DeviceView). x.stage) h.1;
  called = ap (λ (x : DeviceView). x.slots) h.1;
}
done_plan_has_ending p len w a out w' (inl (says, h)) =
    record { ending = AllWorked; answers = says; config = h.config_is; stage = h.stage_is; called = h.calls }
done_plan_has_ending p len w a out w' (inr (fault, says, h)) =
    record { ending = BrokenBy fault; answers = says; config = h.config_is; stage = h.stage_is; called = h.calls }

-- If the fuse of the device is known, a plan has only one result, except for the count of failed writes.
pub plan_ends_in_one_way : (p : Plan) (len : ℕ) (w w' v' : DeviceView) (a b : Answer) (out other : List ℕ) → IsKnownFuse w.slots.medium.fuse
    → Done p len w a out w' → Done p len w b other v' → DoneOnce p len w w' v' a b out other
plan_ends_in_one_way p len w w' v' a b out other known h k =
    let x = done_plan_has_ending p len w a out w' h in
    let y = done_plan_has_ending p len w b other v' k in
    let same : x.ending ≡ y.ending = same_calls_same_ending (store_calls_of_plan p) x.ending y.ending w.slots w.slots w'.slots v'.slots
    (store_is_same_as_itself w.slots) known
    x.called y.called in
    record {
      luck = luck_of_ending x.ending;
      first = x.answers;
      second = subst (λ (e : Ending). ReplyAnswer len (plan_outcome (image_of w.slots) p (luck_of_ending e)).reply b other) (sym same)
          y.answers;
      device = record {
        config = x.config ∙ sym y.config;
        stage = x.stage ∙ ap (λ (e : Ending). (plan_outcome (image_of w.slots) p (luck_of_ending e)).after.stage) same ∙ sym y.stage;
        store = same_calls_same_store (store_calls_of_plan p) x.ending w.slots w.slots w'.slots v'.slots (store_is_same_as_itself w.slots)
            known x.called
            (subst (λ (e : Ending). CallsEnd w.slots (store_calls_of_plan p) e v'.slots) (sym same) y.called);
      };
    }
