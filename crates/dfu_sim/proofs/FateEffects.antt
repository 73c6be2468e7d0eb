-- Effect of a request, a wait or a reset on the device, for each fate.
use Rattle.std.proofs.Common.{◌≡◌, ℕ, Bool, true, false, List, refl, sym, subst}
use Rattle.dfu_device.specs.Stage.{Request, Profile}
use Rattle.dfu_device.specs.Table.{Plan, plan, reset_stage}
use Rattle.dfu_device.specs.Outcome.{Situation, Luck, handled, after_reset, situation_after_power}
use Rattle.dfu_host.specs.Phases.{Phase, Heard, Part, Nothing, Restarted}
use Rattle.dfu_sim.specs.declared.delivery.Handled.{Handled}
use Rattle.dfu_sim.specs.declared.delivery.Handled.TheVariants.{Unseen, Once, Again, Late}
use Rattle.dfu_sim.specs.declared.delivery.MediumFault.{MediumFault}
use Rattle.dfu_sim.specs.declared.delivery.MediumFault.TheVariants.{CutsPower}
use Rattle.dfu_sim.specs.Delivery.{Delivery}
use Rattle.dfu_sim.specs.Play.{heard_of_reply, heard_with_room, ActionResult, reached, heard_back, situation_after_harm, action_end_by_harm, situation_after_slip, wait_by_handling, request_result_of_plan, send_result, waited, bus_reset}
use Rattle.dfu_sim.specs.LinkAgreement.{ClosedWasOffered}
use Rattle.dfu_sim.specs.Fact.{PhaseFact}
use Rattle.dfu_sim.proofs.MovesWithoutBlocks.{stays, pending_forgotten, IsQuiet, IsBlocklessRequest, blockless_request_is_quiet, passing_time_is_quiet, bus_reset_is_quiet, quiet_situations_compose}
use Rattle.dfu_sim.proofs.AnswerFacts.{ToldByHeard, Asks, time_keeps_heard_state, asked_answer_tells_state}
use Rattle.dfu_sim.proofs.Kept.{request_keeps_phase_fact, time_keeps_phase_fact}
use Rattle.dfu_sim.proofs.Closing.{closeless_request_goes_by_table, blockless_request_closes_nothing}

-- The property holds for the result that a host receives, unless that result is a restart.
abbrev pub UnlessRestarted : Heard → (Heard → Type 0) → Type 0
UnlessRestarted Restarted P = Unit {0}
UnlessRestarted heard P = P heard

-- If a property holds for the received result, it holds unless the host learns of a restart.
pub heard_fact_holds_unless_restart : (heard : Heard) (P : Heard → Type 0) → P heard → UnlessRestarted heard P
heard_fact_holds_unless_restart Restarted P h = tt
heard_fact_holds_unless_restart heard P h = h

-- A property that holds before the end of an action holds after it, unless the host learns of a restart.
pub action_end_keeps_fact : (harming : MediumFault) (d : ActionResult) (P : Heard → Situation → Type 0) → P d.heard d.device
    → UnlessRestarted (action_end_by_harm harming d).heard (λ heard. P heard (action_end_by_harm harming d).device)
action_end_keeps_fact CutsPower d P h = tt
action_end_keeps_fact harming d P h = heard_fact_holds_unless_restart d.heard (λ heard. P heard d.device) h

-- If P implies Q for each result, and P holds unless the host learns of a restart, Q holds under the same condition.
pub heard_fact_weakens : {P Q : Heard → Type 0} (heard : Heard) → ((x : Heard) → P x → Q x) → UnlessRestarted heard P →
    UnlessRestarted heard Q
heard_fact_weakens Restarted f h = tt
heard_fact_weakens heard f h = f heard h

-- If a property holds for all results, it holds for the received one, unless the host learns of a restart.
pub fact_of_all_holds_of_heard : (heard : Heard) (P : Heard → Type 0) → ((x : Heard) → P x) → UnlessRestarted heard P
fact_of_all_holds_of_heard Restarted P f = tt
fact_of_all_holds_of_heard heard P f = f heard

-- If there is memory, a host receives each meaning unchanged.
pub memory_keeps_heard_meaning : (x : Heard) → x ≡ heard_with_room x true
memory_keeps_heard_meaning (Part bytes) = refl
memory_keeps_heard_meaning x = refl

module _ (c : Profile) (offers : List (List ℕ)) where
  -- A cut of the power is a quiet change of the situation.
  pub power_cut_is_quiet : (s : Situation) → IsQuiet offers s (situation_after_power s)
  power_cut_is_quiet s = record { moves = pending_forgotten; sound = tt }

  -- If closed bytes are an offer, an unchanged situation is a quiet change.
  pub unchanged_situation_is_quiet : (s : Situation) → ClosedWasOffered offers s.stage → IsQuiet offers s s
  unchanged_situation_is_quiet s h = record { moves = stays; sound = h }

  -- If an action is a quiet change, it still is one if the power is cut at its end.
  action_end_is_quiet : (s d : Situation) (harming : MediumFault) → IsQuiet offers s d → IsQuiet offers s (situation_after_harm harming d)
  action_end_is_quiet s d CutsPower q = quiet_situations_compose q (power_cut_is_quiet _)
  action_end_is_quiet s d harming q = q

  -- If closed bytes are an offer, a request that transfers no block is a quiet change, however often the device handles it.
  blockless_reach_is_quiet : (s : Situation) (r : Request) (how : Handled) (l k : Luck) → IsBlocklessRequest r →
      ClosedWasOffered offers s.stage
      → IsQuiet offers s (reached c s r (plan c s.image s.stage r) how l k).device
  blockless_reach_is_quiet s r Unseen l k p h = unchanged_situation_is_quiet s h
  blockless_reach_is_quiet s r Once l k p h = blockless_request_is_quiet c offers s.image r s.stage p h l
  blockless_reach_is_quiet s r Again l k p h = let q = blockless_request_is_quiet c offers s.image r s.stage p h l in let o =
      (handled c s r l).after in
      quiet_situations_compose q (blockless_request_is_quiet c offers o.image r o.stage p q.sound k)
  blockless_reach_is_quiet s r (Late ms) l k p h = let q = blockless_request_is_quiet c offers s.image r s.stage p h l in let o =
      (handled c s r l).after in
      quiet_situations_compose q (passing_time_is_quiet c offers o.image ms o.stage q.sound k)

  -- A reset of the bus, followed by the time of a slip, is a quiet change.
  slipped_time_is_quiet : (s : Situation) (how : Handled) (l : Luck) → IsQuiet offers s (situation_after_slip c (after_reset s) how l)
  slipped_time_is_quiet s (Late ms) l = let q = bus_reset_is_quiet c offers s.image s.stage in let o = after_reset s in
      quiet_situations_compose q (passing_time_is_quiet c offers o.image ms o.stage q.sound l)
  slipped_time_is_quiet s how l = bus_reset_is_quiet c offers s.image s.stage

  -- If closed bytes are an offer, a request that transfers no block is a quiet change, with any delivery.
  pub blockless_delivery_is_quiet : (s : Situation) (r : Request) (delivery : Delivery) (l k : Luck) → IsBlocklessRequest r →
      ClosedWasOffered offers s.stage
      → IsQuiet offers s (send_result c s r delivery l k).device
  blockless_delivery_is_quiet s r delivery l k p h =
      subst (λ (x : Plan). IsQuiet offers s (request_result_of_plan c s r x delivery l k).device)
      (sym (closeless_request_goes_by_table delivery.refusing c s.image s.stage r (blockless_request_closes_nothing c.least s.stage r p)))
      (action_end_is_quiet s _ delivery.harming (blockless_reach_is_quiet s r delivery.handling l k p h))

  -- If closed bytes are an offer, a wait is a quiet change, with any delivery.
  pub delivered_wait_is_quiet : (s : Situation) (ms : ℕ) (delivery : Delivery) (l : Luck) → ClosedWasOffered offers s.stage
      → IsQuiet offers s (waited c s ms delivery l).device
  delivered_wait_is_quiet s ms delivery l h =
      action_end_is_quiet s _ delivery.harming (passing_time_is_quiet c offers s.image (wait_by_handling delivery.handling ms) s.stage h l)

  -- A reset of the bus is a quiet change, with any delivery.
  pub delivered_reset_is_quiet : (s : Situation) (delivery : Delivery) (l : Luck) → IsQuiet offers s (bus_reset c s delivery l).device
  delivered_reset_is_quiet s delivery l = action_end_is_quiet s _ delivery.harming (slipped_time_is_quiet s delivery.handling l)

  -- Facts of a phase after its request: the fact of the phase holds, and the device is in the state that it reported.
  pub record PhaseKnows (p : List ℕ) (phase : Phase) (d : Situation) (heard : Heard) : Type 0 where
    pub fact : PhaseFact c p phase d
    pub told : ToldByHeard heard d.stage

  -- The facts of a phase hold after an action, unless the host learns of a restart.
  abbrev pub KnowsUnlessRestarted : List ℕ → Phase → ActionResult → Type 0
  KnowsUnlessRestarted p phase d = UnlessRestarted d.heard (λ heard. PhaseKnows p phase d.device heard)

  -- If the facts of a phase hold before the end of its action, they hold after it, with the answer or without it, unless the host learns of
  -- a restart.
  sent_request_keeps_knowledge : (p : List ℕ) (phase : Phase) (harming : MediumFault) (back : Bool) (d : ActionResult) →
      PhaseKnows p phase d.device d.heard
      → KnowsUnlessRestarted p phase (action_end_by_harm harming (record { device = d.device; heard = heard_back back d.heard }))
  sent_request_keeps_knowledge p phase harming true d k = action_end_keeps_fact harming d (λ heard x. PhaseKnows p phase x heard) k
  sent_request_keeps_knowledge p phase harming false d k = action_end_keeps_fact harming (record { device = d.device; heard = Nothing })
      (λ heard x. PhaseKnows p phase x heard) (record { fact = k.fact; told = tt })

  -- If the fact of a phase holds before the phase's request, the facts of the phase hold after it, however often the device handles the
  -- request.
  asked_request_reaches_knowledge : (r : Request) (p : List ℕ) (phase : Phase) (s : Situation) (how : Handled) (l k : Luck) → Asks r phase
      → PhaseFact c p phase s → let d = reached c s r (plan c s.image s.stage r) how l k in PhaseKnows p phase d.device d.heard
  asked_request_reaches_knowledge r p phase s Unseen l k a h = record { fact = h; told = tt }
  asked_request_reaches_knowledge r p phase s Once l k a h = record {
    fact = request_keeps_phase_fact c s.image r p phase s.stage a h l;
    told = asked_answer_tells_state c s.image r phase s.stage a l;
  }
  asked_request_reaches_knowledge r p phase s Again l k a h = let o = (handled c s r l).after in
      record {
        fact = request_keeps_phase_fact c o.image r p phase o.stage a (request_keeps_phase_fact c s.image r p phase s.stage a h l) k;
        told = asked_answer_tells_state c o.image r phase o.stage a k;
      }
  asked_request_reaches_knowledge r p phase s (Late ms) l k a h = let o = handled c s r l in
      record {
        fact = time_keeps_phase_fact c o.after.image p phase ms o.after.stage (request_keeps_phase_fact c s.image r p phase s.stage a h
            l) k;
        told = time_keeps_heard_state c o.after.image (heard_of_reply o.reply) o.after.stage ms k (asked_answer_tells_state c s.image r
            phase s.stage a l);
      }

  -- If the request of a phase transfers no block, and the fact of the phase holds before it, the facts of the phase hold after it, with any
  -- delivery.
  pub asked_delivery_keeps_knowledge : (r : Request) (p : List ℕ) (phase : Phase) (s : Situation) (delivery : Delivery) (l k : Luck) →
      IsBlocklessRequest r
      → Asks r phase → PhaseFact c p phase s → KnowsUnlessRestarted p phase (send_result c s r delivery l k)
  asked_delivery_keeps_knowledge r p phase s delivery l k polite a h =
      subst (λ (x : Plan). KnowsUnlessRestarted p phase (request_result_of_plan c s r x delivery l k))
      (sym (closeless_request_goes_by_table delivery.refusing c s.image s.stage r
      (blockless_request_closes_nothing c.least s.stage r polite)))
      (sent_request_keeps_knowledge p phase delivery.harming delivery.back _ (asked_request_reaches_knowledge r p phase s delivery.handling
      l k a h))

  -- If the fact of a phase holds after a reset of the bus, it holds after the time of a slip too.
  pub slipped_time_keeps_phase_fact : (p : List ℕ) (phase : Phase) (s : Situation) (how : Handled) (l : Luck) →
      PhaseFact c p phase (after_reset s)
      → PhaseFact c p phase (situation_after_slip c (after_reset s) how l)
  slipped_time_keeps_phase_fact p phase s (Late ms) l h = time_keeps_phase_fact c s.image p phase ms (reset_stage s.stage) h l
  slipped_time_keeps_phase_fact p phase s how l h = h
