-- A play in bytes is a play of the links that the benches show.
use Rattle.std.proofs.Common.{◌≡◌, Bool, true, false, IsTrue, refl, sym, ap, ◌∙◌, subst}
use Rattle.dfu_slots.specs.Medium.{Fuse}
use Rattle.dfu_slots.specs.Medium.Fuse.{Whole}
use Rattle.std.specs.Prelude.{[]}
use Rattle.dfu_slots.specs.StoreView.{fuse_changes_nothing_visible}
use Rattle.dfu_device.specs.Stage.{Profile, InAppIdle}
use Rattle.dfu_device.specs.Outcome.{Situation, Luck, Works, Outcome, situation_after_ms, situation_after_power}
use Rattle.dfu_device.specs.DeviceView.{DeviceView, profile, situation}
use Rattle.dfu_device.specs.PlanOutcomes.{times_have_outcomes}
use Rattle.dfu_host.specs.Phases.{Phase, Fetch, Deed, Heard, Part, NoRoom}
use Rattle.dfu_host.specs.Table.{deed}
use Rattle.dfu_host.specs.Host.{wants_memory}
use Rattle.dfu_sim.specs.Happening.{Fate, WriteHarm, Happening, Goes, Passes, Cuts}
use Rattle.dfu_sim.specs.declared.delivery.MediumFault.{MediumFault}
use Rattle.dfu_sim.specs.declared.delivery.MediumFault.TheVariants.{CutsPower}
use Rattle.dfu_sim.specs.Delivery.{Delivery, delivery_of}
use Rattle.dfu_sim.specs.Play.{Answered, heard_with_room, has_room, situation_after_harm, action_result, host_outcome, notify_restart, play_of_event, next_action_result, MayHappen}
use Rattle.dfu_sim.specs.LinkView.{Session, LinkView}
use Rattle.dfu_sim.specs.Bytes.{fuse_of, armed_device, device_after_power_cycle, device_after_action, link_of_bench, NextAction, HappensOnBench, BytePlay}
use Rattle.dfu_sim.specs.Understood.{PlayIsShown, PlaysMatchLinks}
use Rattle.dfu_sim.proofs.Replies.{phase_has_host_deed}
use Rattle.dfu_sim.proofs.Actions.{arming_keeps_profile, arming_keeps_situation, Went, action_moves_device}

-- If an action follows the table for the device with an armed medium, it follows the table for the device before the medium was armed.
armed_action_goes_as_unarmed : (d : Deed) (delivery : Delivery) (fuse : Fuse) (w w' : DeviceView) (heard : Heard)
    → Went fuse (profile (armed_device w fuse)) (situation (armed_device w fuse)) d delivery w' heard
    → Went fuse (profile w) (situation w) d delivery w' heard
armed_action_goes_as_unarmed d delivery fuse w w' heard x =
    subst (λ (s : Situation). Went fuse (profile w) s d delivery w' heard) (arming_keeps_situation w fuse)
    (subst (λ (c : Profile). Went fuse c (situation (armed_device w fuse)) d delivery w' heard) (arming_keeps_profile w fuse) x)

-- After a power cycle a device is in the situation that the table gives after a loss of power.
power_cycle_moves_situation : (w : DeviceView) → situation (device_after_power_cycle w) ≡ situation_after_power (situation w)
power_cycle_moves_situation w = λ k. record { image = (fuse_changes_nothing_visible w.slots Whole [] 0).image k; stage = InAppIdle }

-- A power cycle does not change the profile of the device.
power_cycle_keeps_profile : (w : DeviceView) → profile (device_after_power_cycle w) ≡ profile w
power_cycle_keeps_profile w = λ k. record (profile w) { capacity = (fuse_changes_nothing_visible w.slots Whole [] 0).room k }

-- At the end of an action a device is in the situation that the table gives after the harm to a write.
action_end_moves_situation : (harming : MediumFault) (w : DeviceView) → situation (device_after_action harming w)
    ≡ situation_after_harm harming (situation w)
action_end_moves_situation CutsPower w = power_cycle_moves_situation w
action_end_moves_situation harming w = arming_keeps_situation w Whole

-- The end of an action does not change the profile of the device.
action_end_keeps_profile : (harming : MediumFault) (w : DeviceView) → profile (device_after_action harming w) ≡ profile w
action_end_keeps_profile CutsPower w = power_cycle_keeps_profile w
action_end_keeps_profile harming w = arming_keeps_profile w Whole

-- At the end of an action the fuse of the medium is whole.
action_end_leaves_fuse_whole : (harming : MediumFault) (w : DeviceView) → (device_after_action harming w).slots.medium.fuse ≡ Whole
action_end_leaves_fuse_whole CutsPower w = refl
action_end_leaves_fuse_whole harming w = refl

-- Fuse of the medium in an event: whole, except in an action in which a write is harmed.
abbrev pub fuse_of_event : Happening → Fuse
fuse_of_event (Goes fate harm) = fuse_of (delivery_of fate).harming harm
fuse_of_event event = Whole

-- The event is a play of the links that the benches show. With a whole fuse it follows the table of fates for a medium that works.
record EventIsShown (b : LinkView) (event : Happening) (fuse : Fuse) (b' : LinkView) (answer : Answered) : Type 0 where
  shown : PlayIsShown b event b' answer
  sure : fuse ≡ Whole → (room : Bool) × (play_of_event (profile b.device) (link_of_bench b) event Works Works room
      ≡ record { link = link_of_bench b'; answer = answer })

-- If the host receives NoRoom only in phases that need memory, memory changes the received meaning only in those phases.
pub heard_in : (phase : Phase) (heard x : Heard) (room : Bool) → heard ≡ heard_with_room x room
    → (heard ≡ NoRoom → IsTrue (wants_memory phase)) → heard ≡ heard_with_room x (has_room phase room)
heard_in (Fetch k kept) heard x room e h = e
heard_in phase heard x true e h = e
heard_in phase heard (Part bytes) false e h = let none : false ≡ true = h e in absurd cc
heard_in phase heard x false e h = e

-- The host's next action on a bench is a play of the links that the benches show.
next_action_is_shown : (fate : Fate) (harm : WriteHarm) (b b' : LinkView) (answer : Answered) → MayHappen b.session (Goes fate harm)
    → NextAction b.session fate harm b b' answer → EventIsShown b (Goes fate harm) (fuse_of (delivery_of fate).harming harm) b' answer
next_action_is_shown fate harm b b' answer allowed g =
    let d = deed g.host.task g.host.phase in
    let delivery = delivery_of fate in
    let x = armed_action_goes_as_unarmed d delivery (fuse_of delivery.harming harm) b.device g.gone.last g.gone.acted.heard
    (action_moves_device d delivery (armed_device b.device (fuse_of delivery.harming harm)) g.gone.last g.gone.acted.heard
    (phase_has_host_deed g.host.task g.host.phase) g.gone.acted.acts) in
    let hears = heard_in g.host.phase g.gone.acted.heard _ x.room x.hears g.gone.acted.room in
    let there : (action_result (profile b.device) (situation b.device) d delivery x.first x.second).device ≡ situation b'.device = x.device
    ∙ sym (action_end_moves_situation delivery.harming g.gone.last) ∙ sym (ap situation g.gone.device) in
    let same : play_of_event (profile b.device) (link_of_bench b) (Goes fate harm) x.first x.second x.room
    ≡ record { link = link_of_bench b'; answer = answer } =
    ap (λ (z : Session). next_action_result (profile b.device) (link_of_bench b) z fate x.first x.second x.room) g.live
    ∙ (λ i. record {
      link = record { device = there i; session = (ap (λ (h : Heard). (host_outcome g.host h).session) (sym hears) ∙ sym g.session) i };
      answer = (ap (λ (h : Heard). (host_outcome g.host h).answer) (sym hears) ∙ sym g.answered) i;
    }) in
    record {
      shown = record {
        play = record { allowed = allowed; first = x.first; second = x.second; room = x.room; same = same };
        fixed = ap profile g.gone.device ∙ action_end_keeps_profile delivery.harming g.gone.last ∙ x.fixed;
        unarmed = ap (λ (w : DeviceView). w.slots.medium.fuse) g.gone.device ∙ action_end_leaves_fuse_whole delivery.harming g.gone.last;
      };
      sure = λ whole. (
        x.room,
        subst (λ (k : Luck). play_of_event (profile b.device) (link_of_bench b) (Goes fate harm) Works k x.room ≡ record
            { link = link_of_bench b'; answer = answer })
            (x.works_with_whole_fuse whole).1
            (subst (λ (l : Luck). play_of_event (profile b.device) (link_of_bench b) (Goes fate harm) l x.second x.room
            ≡ record { link = link_of_bench b'; answer = answer }) (x.works_with_whole_fuse whole).0 same),
      );
    }

-- If an event follows the table for a medium that works, keeps the profile, and leaves the fuse whole, it is a play of the links that the
-- benches show.
working_event_is_shown : (b b' : LinkView) (event : Happening) (answer : Answered) → MayHappen b.session event
    → play_of_event (profile b.device) (link_of_bench b) event Works Works true ≡ record { link = link_of_bench b'; answer = answer }
    → profile b'.device ≡ profile b.device → b'.device.slots.medium.fuse ≡ Whole → EventIsShown b event Whole b' answer
working_event_is_shown b b' event answer allowed same fixed whole = record {
  shown = record {
    play = record { allowed = allowed; first = Works; second = Works; room = true; same = same };
    fixed = fixed;
    unarmed = whole;
  };
  sure = λ always. (true, same);
}

-- If the bench and the answer after an event equal those that the table gives for a medium that works, the event is a play of the links
-- that the benches show.
unharmed_event_is_shown : (b b' now : LinkView) (event : Happening) (answer said : Answered) → MayHappen b.session event
    → play_of_event (profile b.device) (link_of_bench b) event Works Works true ≡ record { link = link_of_bench now; answer = said }
    → profile now.device ≡ profile b.device → now.device.slots.medium.fuse ≡ Whole
    → b' ≡ now → answer ≡ said → EventIsShown b event Whole b' answer
unharmed_event_is_shown b b' now event answer said allowed same fixed whole e f =
    working_event_is_shown b b' event answer allowed (same ∙ (λ i. record { link = link_of_bench (sym e i); answer = sym f i }))
    (ap (λ (z : LinkView). profile z.device) e ∙ fixed) (ap (λ (z : LinkView). z.device.slots.medium.fuse) e ∙ whole)

-- Each event on a bench whose medium is not armed is a play of the links that the benches show.
event_on_bench_is_shown : (event : Happening) (b b' : LinkView) (answer : Answered) → MayHappen b.session event →
    b.device.slots.medium.fuse ≡ Whole
    → HappensOnBench event b b' answer → EventIsShown b event (fuse_of_event event) b' answer
event_on_bench_is_shown (Goes fate harm) b b' answer allowed unarmed g = next_action_is_shown fate harm b b' answer allowed g
event_on_bench_is_shown (Passes ms) b b' answer allowed unarmed (e, s, n) =
    let y = times_have_outcomes ms b.device b'.device e in
    let works = y.unarmed unarmed in
    let there : situation_after_ms (profile b.device) (situation b.device) ms Works
    ≡ situation b'.device = ap (λ (l : Luck). situation_after_ms (profile b.device) (situation b.device) ms l) (sym works.0)
    ∙ ap (λ (o : Outcome). o.after) y.same in
    working_event_is_shown b b' (Passes ms) answer allowed
    (λ i. record { link = record { device = there i; session = sym s i }; answer = sym n i }) y.fixed works.1
event_on_bench_is_shown Cuts b b' answer allowed unarmed (e, f) =
    unharmed_event_is_shown b b' _ Cuts answer _ allowed (λ i. let t = notify_restart b.session in
    record { link = record { device = sym (power_cycle_moves_situation b.device) i; session = t.session }; answer = t.answer })
    (power_cycle_keeps_profile b.device) refl e f
event_on_bench_is_shown event b b' answer allowed unarmed h = unharmed_event_is_shown b b' _ event answer _ allowed refl refl unarmed h.0
    h.1

-- Each play in bytes is a play of the links that the benches show.
pub bytes_show : PlaysMatchLinks
bytes_show b b' event answer p = (event_on_bench_is_shown event b b' answer p.allowed p.unarmed p.happens).shown

-- If the fuse is whole in an event, its play in bytes follows the table of fates for a medium that works.
pub unharmed_play_works : (b b' : LinkView) (event : Happening) (answer : Answered) → BytePlay b event b' answer
    → fuse_of_event event ≡ Whole
    → (room : Bool) × (play_of_event (profile b.device) (link_of_bench b) event Works Works room
    ≡ record { link = link_of_bench b'; answer = answer })
unharmed_play_works b b' event answer p whole = (event_on_bench_is_shown event b b' answer p.allowed p.unarmed p.happens).sure whole
