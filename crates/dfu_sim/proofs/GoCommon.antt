-- One action of the host, with each fate, in a phase that sessions of every goal have.
use Rattle.std.proofs.Common.{ℕ, max, List, []}
use Rattle.dfu_device.specs.Stage.{Request, Detach as AskDetach, GetStatus, ClrStatus, Abort, Profile}
use Rattle.dfu_device.specs.Outcome.{Situation, Luck, situation_after_ms, after_reset}
use Rattle.dfu_device.specs.Cases.{holds_in_both_branches}
use Rattle.dfu_host.specs.Phases.{Goal, Phase, Find, FindAgain, Detach, Enter, Clear, Quit, WaitFind, ResetFind, Trouble, GiveUp, Heard}
use Rattle.dfu_host.specs.Table.{deed, on_waited, on_reset, host_row}
use Rattle.dfu_host.specs.CommonPhases.{IsCommonPhase, IsSeekingPhase}
use Rattle.dfu_host.specs.RowLaws.{common_phase_gives_property}
use Rattle.dfu_sim.specs.Delivery.{Delivery}
use Rattle.dfu_sim.specs.Opening.{task_for}
use Rattle.dfu_sim.specs.Play.{ActionResult, situation_after_slip, wait_by_handling, send_result, waited, bus_reset, action_result}
use Rattle.dfu_sim.specs.LinkAgreement.{ClosedWasOffered}
use Rattle.dfu_sim.specs.Fact.{PhaseFact, GoalFact, HasBlocks}
use Rattle.dfu_sim.proofs.MovesWithoutBlocks.{IsQuiet, IsBlocklessRequest}
use Rattle.dfu_sim.proofs.AnswerFacts.{ToldByHeard, Asks}
use Rattle.dfu_sim.proofs.FateEffects.{UnlessRestarted, action_end_keeps_fact, heard_fact_weakens, fact_of_all_holds_of_heard, PhaseKnows, blockless_delivery_is_quiet, delivered_wait_is_quiet, delivered_reset_is_quiet, asked_delivery_keeps_knowledge}
use Rattle.dfu_sim.proofs.CommonFacts.{goal_has_common_facts}

module _ (c : Profile) (offers : List (List ℕ)) (g : Goal) where
  -- The result of an action is quiet: the change of the image and the pending bytes is quiet, and the fact of the next phase holds unless
  -- the host learns of a restart.
  pub record GoesQuietly (follows : Heard → Phase) (s : Situation) (d : ActionResult) : Type 0 where
    pub quiet : IsQuiet offers s d.device
    pub next : UnlessRestarted d.heard (λ heard. GoalFact c g (follows heard) d.device)

  -- If the fact of the next phase holds after the time of a wait, and closed bytes are an offer, the result of the wait is quiet.
  pub wait_goes_quietly : (next again : Phase) (s : Situation) (ms : ℕ) (delivery : Delivery) (l : Luck)
      → GoalFact c g next (situation_after_ms c s (wait_by_handling delivery.handling ms) l) → ClosedWasOffered offers s.stage
      → GoesQuietly (λ heard. on_waited heard next again) s (waited c s ms delivery l)
  wait_goes_quietly next again s ms delivery l f q = record {
    quiet = delivered_wait_is_quiet c offers s ms delivery l q;
    next = action_end_keeps_fact delivery.harming _ (λ heard x. GoalFact c g (on_waited heard next again) x) f;
  }

  -- If the fact of the next phase holds after a reset of the bus and the time of a slip, the result of the reset is quiet.
  pub reset_goes_quietly : (next again : Phase) (s : Situation) (delivery : Delivery) (l : Luck)
      → GoalFact c g next (situation_after_slip c (after_reset s) delivery.handling l)
      → GoesQuietly (λ heard. on_reset heard next again) s (bus_reset c s delivery l)
  reset_goes_quietly next again s delivery l f = record {
    quiet = delivered_reset_is_quiet c offers s delivery l;
    next = action_end_keeps_fact delivery.harming _ (λ heard x. GoalFact c g (on_reset heard next again) x) f;
  }

  -- If the facts of a phase after its answer imply the fact of the next phase, the result of the phase's request is quiet.
  pub asking_phase_goes_quietly : (r : Request) (p : List ℕ) (phase : Phase) (follows : Heard → Phase) (s : Situation) →
      IsBlocklessRequest r → Asks r phase
      → PhaseFact c p phase s → ClosedWasOffered offers s.stage → (delivery : Delivery) (l k : Luck)
      → ((d : Situation) (heard : Heard) → PhaseKnows c offers p phase d heard → GoalFact c g (follows heard) d)
      → GoesQuietly follows s (send_result c s r delivery l k)
  asking_phase_goes_quietly r p phase follows s polite a h q delivery l k f = let d = send_result c s r delivery l k in
      record {
        quiet = blockless_delivery_is_quiet c offers s r delivery l k polite q;
        next = heard_fact_weakens {P = PhaseKnows c offers p phase d.device} {Q = λ heard. GoalFact c g (follows heard) d.device} d.heard
            (f d.device) (asked_delivery_keeps_knowledge c offers r p phase s delivery l k polite a h);
      }

  module _ (some : HasBlocks c g) where
    -- Next phase, by the result that the host receives.
    abbrev PhaseThatFollows : Phase → Heard → Phase
    PhaseThatFollows phase = host_row (task_for c g) phase

    -- In a common phase that sends GETSTATUS, nothing is known about the device. If closed bytes are an offer, the result of the phase is
    -- quiet.
    seeking_phase_goes_quietly : (phase : Phase) (s : Situation) → IsCommonPhase phase → ClosedWasOffered offers s.stage →
        (delivery : Delivery) (l k : Luck)
        → GoesQuietly (PhaseThatFollows phase) s (send_result c s GetStatus delivery l k)
    seeking_phase_goes_quietly phase s a q delivery l k = asking_phase_goes_quietly GetStatus [] Find (PhaseThatFollows phase) s tt tt tt q
        delivery l k
        (λ d heard w. common_phase_gives_property (task_for c g) (λ x. GoalFact c g x d) (λ x. ToldByHeard x d.stage)
        (goal_has_common_facts c g some d) phase heard a
        (λ x. w.told))

    -- If a common phase does not send GETSTATUS, and its action is a quiet change, the result of the phase is quiet.
    brings : (phase : Phase) (s : Situation) (d : ActionResult) → IsCommonPhase phase → (IsSeekingPhase phase → ⊥)
        → IsQuiet offers s d.device
        → GoesQuietly (PhaseThatFollows phase) s d
    brings phase s d a n q = record {
      quiet = q;
      next = fact_of_all_holds_of_heard d.heard (λ heard. GoalFact c g (PhaseThatFollows phase heard) d.device)
          (λ heard. common_phase_gives_property (task_for c g) (λ x. GoalFact c g x d.device) (λ x. ToldByHeard x d.device.stage)
          (goal_has_common_facts c g some d.device) phase heard a (λ x. elim (n x) [ ]));
    }

    -- If closed bytes are an offer, the result of each common phase is quiet, with any delivery.
    pub common_phase_goes_quietly : (phase : Phase) (s : Situation) → IsCommonPhase phase → ClosedWasOffered offers s.stage
        → (delivery : Delivery) (l k : Luck)
        → GoesQuietly (PhaseThatFollows phase) s (action_result c s (deed (task_for c g) phase) delivery l k)
    common_phase_goes_quietly Find s a q delivery l k = seeking_phase_goes_quietly Find s tt q delivery l k
    common_phase_goes_quietly FindAgain s a q delivery l k = seeking_phase_goes_quietly FindAgain s tt q delivery l k
    common_phase_goes_quietly Trouble s a q delivery l k = seeking_phase_goes_quietly Trouble s tt q delivery l k
    common_phase_goes_quietly Detach s a q delivery l k =
        brings Detach s _ tt (λ x. x) (blockless_delivery_is_quiet c offers s (AskDetach c.detach_ms) delivery l k tt q)
    common_phase_goes_quietly Enter s a q delivery l k = brings Enter s _ tt (λ x. x)
        (holds_in_both_branches (λ a. IsQuiet offers s (action_result c s a delivery l k).device) c.will_detach _ _
        (delivered_wait_is_quiet c offers s (max 1 c.detach_ms) delivery l q) (delivered_reset_is_quiet c offers s delivery l))
    common_phase_goes_quietly Clear s a q delivery l k = brings Clear s _ tt (λ x. x) (blockless_delivery_is_quiet c offers s ClrStatus
        delivery l k tt q)
    common_phase_goes_quietly Quit s a q delivery l k =
        brings Quit s _ tt (λ x. x) (blockless_delivery_is_quiet c offers s Abort delivery l k
        tt q)
    common_phase_goes_quietly (WaitFind poll) s a q delivery l k = brings (WaitFind poll) s _ tt (λ x. x) (delivered_wait_is_quiet c offers
        s poll delivery l q)
    common_phase_goes_quietly ResetFind s a q delivery l k = brings ResetFind s _ tt (λ x. x) (delivered_reset_is_quiet c offers s delivery
        l)
    common_phase_goes_quietly GiveUp s a q delivery l k =
        brings GiveUp s _ tt (λ x. x) (blockless_delivery_is_quiet c offers s Abort delivery
        l k tt q)
    common_phase_goes_quietly phase s a q delivery l k = elim a [ ]
