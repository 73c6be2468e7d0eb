-- Each event of the link is a step of the session machine.
use Rattle.std.proofs.Common.{◌≡◌, ℕ, ◌<◌, Bool, List, ◌∷◌, length, None, refl, sym, subst, arith, inl, inr}
use Rattle.dfu_device.specs.Stage.{Profile, Stage, InAppIdle, InAppDetach, InManifestSync, InManifest}
use Rattle.dfu_device.specs.Table.{reset_stage}
use Rattle.dfu_device.specs.Outcome.{Situation, Luck}
use Rattle.dfu_host.specs.Blocks.{blocks}
use Rattle.dfu_host.specs.BlockLaws.{started_block_is_counted}
use Rattle.dfu_host.specs.Phases.{FetchGoal, Phase, Find, GiveUp, Over, OverUploaded, Restarted}
use Rattle.dfu_host.specs.Host.{HostState, IsLivePhase, host_given_up_in_phase}
use Rattle.dfu_sim.specs.declared.offering.Purpose.{Purpose}
use Rattle.dfu_sim.specs.declared.offering.Purpose.TheVariants.{Install, Verify}
use Rattle.dfu_sim.specs.Session.{Machine, LiveSession, NothingLive, LoadingPayload, ReportStep, reports_nothing, OfferKind, RestartKind, MachineStep, offered, uploads, aborts, restarts, refuses}
use Rattle.dfu_sim.specs.Happening.{Happening, Offers, Uploads, Aborts, Goes, Passes, Resets, Cuts, Refuses}
use Rattle.dfu_sim.specs.Opening.{goal_of_purpose}
use Rattle.dfu_sim.specs.Play.{kind_of, Link, Answered, silent, uploaded_after, PlayResult, host_outcome, restart_play_result, play_of_event, MayHappen, Play}
use Rattle.dfu_sim.specs.LinkView.{Session, NoLiveSession, HostSession}
use Rattle.dfu_sim.specs.LinkAgreement.{pending_of, ClosedWasOffered, Agrees}
use Rattle.dfu_sim.specs.Agreement.{live_session_of_goal, live_session_of, IsLiveOffer}
use Rattle.dfu_sim.specs.Fact.{HasBlocks, SessionFact}
use Rattle.dfu_sim.specs.Simulation.{StepIsFollowed}
use Rattle.dfu_sim.proofs.CommonFacts.{common_phase_has_goal_fact}
use Rattle.dfu_sim.proofs.HeardResults.{shown, restart_outcome_holds, restart_report_promises_nothing, task_goes_by_descriptor}
use Rattle.dfu_sim.proofs.MachineReports.{in_place_step_had_live_payload}
use Rattle.dfu_sim.proofs.PassingTime.{time_installs_or_stays, time_keeps_session_fact}
use Rattle.dfu_sim.proofs.RefusedImages.{refusal_may_drop_pending, refusal_keeps_closed_offer, refusal_keeps_session_fact}
use Rattle.dfu_sim.proofs.ActionSteps.{IsSimulated, host_action_simulated}

module _ (c : Profile) (offers : List (List ℕ)) where
  -- After a reset of the bus no bytes are pending.
  reset_leaves_nothing_pending : (stage : Stage) → pending_of (reset_stage stage) ≡ None
  reset_leaves_nothing_pending (InAppDetach timer passed) = refl
  reset_leaves_nothing_pending stage = refl

  -- After a reset of the bus no closed bytes wait, so the condition that closed bytes are an offer holds.
  nothing_closed_after_reset : (stage : Stage) → ClosedWasOffered offers (reset_stage stage)
  nothing_closed_after_reset (InAppDetach timer passed) = tt
  nothing_closed_after_reset stage = tt

  -- A restart that no action of the host caused, and after which no bytes are pending, is a step of the session machine, and the facts of
  -- the link still hold after it.
  outside_restart_simulated : (s : Situation) (next : Stage) (session : Session) (up : List ℕ) → pending_of next ≡ None
      → ClosedWasOffered offers next
      → IsLiveOffer offers (live_session_of session) → SessionFact c s session
      → IsSimulated c offers (record { device = s; session = session }) up RestartKind
      (restart_play_result (record { image = s.image; stage = next }) session) offers
  outside_restart_simulated s next NoLiveSession up n q o f =
      record {
        step = restarts (subst (λ r. ReportStep c.tolerant (shown offers s.image None NothingLive up) None (shown offers s.image r
            NothingLive up))
            (sym n) reports_nothing) tt;
        sound = q;
        offer = tt;
        fact = tt;
        done = λ x. elim x [ ];
      }
  outside_restart_simulated s next (HostSession h) up n q o f =
      let taken = host_outcome h Restarted in
      let t = restart_outcome_holds c offers (record { image = s.image; stage = next }) h up f.on f.task_is o f.some in
      record {
        step = restarts (subst (λ r. ReportStep c.tolerant (shown offers s.image r (live_session_of_goal h.task.goal) up)
            taken.answer.report
            (shown offers s.image (pending_of next) (live_session_of taken.session) (uploaded_after taken.answer.gave up))) n t.says)
            (restart_report_promises_nothing c offers h f.on);
        sound = q;
        offer = t.offer;
        fact = t.fact;
        done = t.done;
      }

  -- If the closed bytes are an offer, they are still one after another offer.
  closed_offer_stays_with_more : (p : List ℕ) (stage : Stage) → ClosedWasOffered offers stage → ClosedWasOffered (p ∷ offers) stage
  closed_offer_stays_with_more p (InManifestSync taken) h = inr h
  closed_offer_stays_with_more p (InManifest taken passed) h = inr h
  closed_offer_stays_with_more p stage h = tt

-- The session that an offer begins loads the offer's payload.
offered_goal_is_loaded : (purpose : Purpose) (payload : List ℕ) → live_session_of_goal (goal_of_purpose purpose payload)
    ≡ LoadingPayload payload
offered_goal_is_loaded Install payload = refl
offered_goal_is_loaded Verify payload = refl

-- Offers after an event; the payload of a new offer is the first.
abbrev offers_after_event : Happening → List (List ℕ) → List (List ℕ)
offers_after_event (Offers purpose payload limits) offers = payload ∷ offers
offers_after_event event offers = offers

-- The transfer size is at least one byte if the event needs one. Such events are an offer without a live session, and an action of a live
-- host.
abbrev pub IsSized : Profile → Session → Happening → Type 0
IsSized c NoLiveSession (Offers purpose payload limits) = 0 < c.transfer
IsSized c (HostSession h) (Goes fate harm) = 0 < c.transfer
IsSized c session event = Unit {0}

-- If the transfer size is at least one byte, it is large enough for each event.
pub event_has_needed_transfer : (c : Profile) (session : Session) (event : Happening) → 0 < c.transfer → IsSized c session event
event_has_needed_transfer c NoLiveSession (Offers purpose payload limits) h = h
event_has_needed_transfer c (HostSession host) (Goes fate harm) h = h
event_has_needed_transfer c session event h = tt

-- An aborted live host is in the phase GiveUp.
aborted_live_host_gives_up : (h : HostState) (phase : Phase) → IsLivePhase phase → host_given_up_in_phase h phase
    ≡ record h { phase = GiveUp }
aborted_live_host_gives_up h (Over r) on = elim on [ ]
aborted_live_host_gives_up h (OverUploaded kept) on = elim on [ ]
aborted_live_host_gives_up h phase on = refl

module _ (c : Profile) where
  -- If the transfer size is at least one byte, a payload of at least one byte has a block.
  payload_has_blocks : (p : List ℕ) → 0 < c.transfer → 0 < length p → 0 < length (blocks p c.transfer)
  payload_has_blocks p sized h = started_block_is_counted p c.transfer 0 sized (omega (arith, h))

  -- If the transfer size and the payload of an offer are at least one byte each, the payload has a block.
  offered_goal_has_blocks : (purpose : Purpose) (p : List ℕ) → 0 < c.transfer → 0 < length p → HasBlocks c (goal_of_purpose purpose p)
  offered_goal_has_blocks Install p sized h = payload_has_blocks p sized h
  offered_goal_has_blocks Verify p sized h = payload_has_blocks p sized h

  -- Each event of a play is a step of the session machine, and the facts of the link still hold after it.
  event_play_simulated : (offers : List (List ℕ)) (s : Situation) (session : Session) (up : List ℕ) (event : Happening) (l k : Luck) (room
      : Bool)
      → IsSized c session event → MayHappen session event → ClosedWasOffered offers s.stage → IsLiveOffer offers (live_session_of session)
      → SessionFact c s session
      → let w : Link = record { device = s; session = session } in
      IsSimulated c offers w up (kind_of event) (play_of_event c w event l k room) (offers_after_event event offers)
  event_play_simulated offers s NoLiveSession up (Offers purpose payload limits) l k room z a q o f =
      record {
        step = subst (λ (x : LiveSession). MachineStep c.tolerant c.transfer (OfferKind payload)
            (shown offers s.image (pending_of s.stage) NothingLive up) None
            (shown (payload ∷ offers) s.image (pending_of s.stage) x up)) (sym (offered_goal_is_loaded purpose payload)) (offered refl);
        sound = closed_offer_stays_with_more c offers payload s.stage q;
        offer = subst (IsLiveOffer (payload ∷ offers)) (sym (offered_goal_is_loaded purpose payload)) (inl refl);
        fact = record {
          task_is = task_goes_by_descriptor c (goal_of_purpose purpose payload);
          on = tt;
          some = offered_goal_has_blocks purpose payload z a;
          fact = common_phase_has_goal_fact c (goal_of_purpose purpose payload) s Find tt;
        };
        done = λ e. elim e [ ];
      }
  event_play_simulated offers s NoLiveSession up (Uploads limits) l k room z a q o f =
      record {
        step = uploads refl;
        sound = q;
        offer = tt;
        fact = record { task_is = task_goes_by_descriptor c FetchGoal; on = tt; some = tt; fact = tt };
        done = λ e. elim e [ ];
      }
  event_play_simulated offers s (HostSession h) up Aborts l k room z a q o f =
      subst (λ (x : HostState). IsSimulated c offers (record { device = s; session = HostSession h }) up (kind_of Aborts)
      (record { link = record { device = s; session = HostSession x }; answer = silent }) offers) (sym (aborted_live_host_gives_up h
      h.phase f.on))
      (record {
        step = aborts;
        sound = q;
        offer = o;
        fact = record {
          task_is = f.task_is;
          on = tt;
          some = f.some;
          fact = common_phase_has_goal_fact c h.task.goal s GiveUp tt;
        };
        done = λ e. elim e [ ];
      })
  event_play_simulated offers s (HostSession h) up (Goes fate harm) l k room z a q o f = host_action_simulated c z offers s h up fate l k
      room q o f
  event_play_simulated offers s session up (Passes ms) l k room z a q o f =
      let t = time_installs_or_stays c offers s.image ms s.stage (live_session_of session) up q in
      record { step = t.0; sound = t.1; offer = o; fact = time_keeps_session_fact c offers s ms session f; done = λ e. elim e [ ] }
  event_play_simulated offers s session up Resets l k room z a q o f =
      outside_restart_simulated c offers s (reset_stage s.stage) session up (reset_leaves_nothing_pending c offers s.stage)
      (nothing_closed_after_reset c offers s.stage) o f
  event_play_simulated offers s session up Cuts l k room z a q o f = outside_restart_simulated c offers s InAppIdle session up refl tt o f
  event_play_simulated offers s session up (Refuses why) l k room z a q o f = record {
    step = refuses (refusal_may_drop_pending why offers s.image s.stage (live_session_of session) up);
    sound = refusal_keeps_closed_offer why offers s.stage q;
    offer = o;
    fact = refusal_keeps_session_fact c why s session f;
    done = λ e. elim e [ ];
  }
  event_play_simulated offers s session up event l k room z a q o f = elim a [ ]

  -- If a machine agrees with a link, the machine's image, pending bytes, live session and last upload are those of the link.
  agreeing_machine_is_shown : (w : Link) (up : List ℕ) (m : Machine) → Agrees w up m
      → shown m.offers w.device.image (pending_of w.device.stage) (live_session_of w.session) up ≡ m
  agreeing_machine_is_shown w up m a = λ i. record {
    cur = sym a.cur i;
    offers = m.offers;
    pending = sym a.pending i;
    live = sym a.live i;
    up = sym a.up_is i;
  }

  -- If an event is simulated, the session machine of the link follows it.
  simulated_play_is_followed : (w : Link) (up : List ℕ) (offers offers' : List (List ℕ)) (event : Happening) (r : PlayResult)
      → IsSimulated c offers w up (kind_of event) r offers' → StepIsFollowed c
      (shown offers w.device.image (pending_of w.device.stage) (live_session_of w.session) up) event r.link
      (uploaded_after r.answer.gave up) r.answer.report
  simulated_play_is_followed w up offers offers' event r s =
      record {
        after =
            shown offers' r.link.device.image (pending_of r.link.device.stage) (live_session_of r.link.session) (uploaded_after
            r.answer.gave up);
        step = s.step;
        agrees = record { cur = refl; pending = refl; live = refl; up_is = refl; sound = s.sound; offered = s.offer };
        fact = s.fact;
        in_place = λ e. (s.done e, in_place_step_had_live_payload s.step e);
      }

  -- If the transfer size is large enough for an event, the session machine follows its play.
  pub sized_play_is_followed : (w w' : Link) (up : List ℕ) (m : Machine) (event : Happening) (answer : Answered) → IsSized c w.session event
      → SessionFact c w.device w.session → Agrees w up m → Play c w event w' answer
      → StepIsFollowed c m event w' (uploaded_after answer.gave up) answer.report
  sized_play_is_followed w w' up m event answer z f a p =
      let r : PlayResult = play_of_event c w event p.first p.second p.room in
      let s = event_play_simulated m.offers w.device w.session up event p.first p.second p.room z p.allowed a.sound a.offered f in
      let e = simulated_play_is_followed w up m.offers (offers_after_event event m.offers) event r s in
      subst (λ (q : PlayResult). StepIsFollowed c m event q.link (uploaded_after q.answer.gave up) q.answer.report) p.same
      (subst (λ (n : Machine). StepIsFollowed c n event r.link (uploaded_after r.answer.gave up) r.answer.report)
      (agreeing_machine_is_shown w up m a) e)

module _ (c : Profile) (sized : 0 < c.transfer) where
  -- If the transfer size is at least one byte, each session machine that agrees with a link follows each of its plays.
  pub follows : (w w' : Link) (up : List ℕ) (m : Machine) (event : Happening) (answer : Answered) → SessionFact c w.device w.session
      → Agrees w up m → Play c w event w' answer → StepIsFollowed c m event w' (uploaded_after answer.gave up) answer.report
  follows w w' up m event answer f a p = sized_play_is_followed c w w' up m event answer (event_has_needed_transfer c w.session event
      sized) f a p
