-- Facts of a board and its host, which each event over the link preserves.
use Rattle.std.specs.Prelude.{◌≡◌, ◌⊎◌, ℕ, ◌<◌, Bool, List, [], ◌∷◌, Option, Some}
use Rattle.std.proofs.Common.{inl, inr, refl, sym, ap, ◌∙◌, subst}
use Rattle.dfu_slots.specs.StoreView.{image_of}
use Rattle.dfu_device.specs.Stage.{Profile, InAppIdle}
use Rattle.dfu_device.specs.Outcome.{Situation, Outcome, situation_after_ms}
use Rattle.dfu_device.specs.DeviceView.{DeviceView, profile, situation}
use Rattle.dfu_device.specs.Rows.{Cause, Transfer, Passing, BusReset, Refusing}
use Rattle.dfu_device.specs.PlanOutcomes.{times_have_outcomes}
use Rattle.dfu_host.specs.Phases.{Send, Deed, Nothing as NothingHeard, Waited, WasReset}
use Rattle.dfu_sim.specs.Session.{LoadingPayload, IsOneOf, IsInPlaceReport}
use Rattle.dfu_sim.specs.Happening.{Pass, Slip}
use Rattle.dfu_sim.specs.Delivery.{delivery_of}
use Rattle.dfu_sim.specs.Play.{Answered, HostOutcome, host_outcome, notify_restart}
use Rattle.dfu_sim.specs.LinkView.{Session, HostSession}
use Rattle.dfu_sim.specs.Bytes.{ActionDelivered}
use Rattle.dfu_sim.specs.Agreement.{live_session_of, IsLiveOffer}
use Rattle.dfu_sim.specs.LinkAgreement.{ClosedWasOffered}
use Rattle.dfu_sim.specs.Fact.{SessionFact}
use Rattle.dfu_sim.specs.Simulation.{Simulation, ActiveImageWasOffered}
use Rattle.dfu_sim.proofs.RefusedImages.{refusal_keeps_closed_offer, refusal_keeps_session_fact}
use Rattle.dfu_laws.specs.board.Board.{Board, Handle, Elapse, UsbReset, Refuse, Restart, Event, BoardReply, BoardStep}
use Rattle.dfu_laws.specs.board.Happens.{IsRun}
use Rattle.dfu_laws.specs.board.Refines.{IsIdleBoard, IdleRunsRefineTable}
use Rattle.dfu_laws.specs.link.Calls.{CallReaches, lost, behind}
use Rattle.dfu_laws.specs.link.LinkSteps.{BoardLink, CallMayBeUnderWay, link_after_outcome, BoardLinkStep, passes, sends, refuses, waits, resets, is_reset_by_other_cause, restarts, leaves, restarts_at_reset, marks}
use Rattle.dfu_laws.proofs.link.BoardCalls.{IsCallOfCause, served}
use Rattle.dfu_laws.proofs.link.Fixed.{row_keeps_profile}
use Rattle.dfu_laws.proofs.link.Timed.{ImageKeptOrOffered, any_time_keeps_session_fact}
use Rattle.dfu_laws.proofs.link.ActionFacts.{FactsAfterAction, action_keeps_session_facts, told_host_keeps_facts, zero_time_keeps_device}
use Rattle.dfu_laws.proofs.link.FactsAfterRestart.{idle_board_restarts_in_app_idle, enter_fact_of_any_device, enter_reset_keeps_facts, own_reset_keeps_facts}
use Rattle.dfu_laws.proofs.link.BoardsAfterMarks.{mark_keeps_device}
use Rattle.dfu_laws.proofs.link.BoardsAfterWaits.{BoardImageKeptOrOffered, board_kept_or_offered_then, reset_call_keeps_image, reached_elapse_keeps_or_offers, elapsed_time_keeps_or_offers}
use Rattle.dfu_laws.proofs.link.Stopped.{cut_off_call_keeps_or_offers}
use Rattle.dfu_laws.proofs.link.Sent.{any_reply_may_be_lost, request_keeps_facts, refused_image_keeps_facts}

-- The board represents the device d, without pending writes, and the session facts hold. The active image satisfies `first`, or was
-- offered. If an image is pending, it was offered. The payload of the live session was offered, and is that of the last session.
pub record BoardAndHostFacts (c : Profile) (first : List ℕ → Type 0) (past : List (List ℕ)) (last : Option (List ℕ)) (l : BoardLink)
    (d : DeviceView) : Type 0 where
  pub idle : IsIdleBoard l.board d
  pub profile_is : profile d ≡ c
  pub fact : SessionFact c (situation d) l.session
  pub live : (payload : List ℕ) → live_session_of l.session ≡ LoadingPayload payload → last ≡ Some payload
  pub offered : IsLiveOffer past (live_session_of l.session)
  pub sound : ClosedWasOffered past d.stage
  pub known : first (image_of d.slots) ⊎ IsOneOf (image_of d.slots) past

-- The facts hold after the event. After Installed or Verified, the last payload is the image of a device in appIDLE. The bytes of a report
-- are the image.
pub record FactsAfterEvent (c : Profile) (first : List ℕ → Type 0) (past : List (List ℕ)) (last : Option (List ℕ)) (answer : Answered)
    (l' : BoardLink) : Type 0 where
  pub device : DeviceView
  pub stands : BoardAndHostFacts c first past last l' device
  pub done : IsInPlaceReport answer.report → (device.stage ≡ InAppIdle) × (last ≡ Some (image_of device.slots))
  pub gives : (bytes : List ℕ) → answer.gave ≡ Some bytes → bytes ≡ image_of device.slots

known_image_stays_known : (first : List ℕ → Type 0) (past : List (List ℕ)) (s s' : Situation) → first s.image ⊎ IsOneOf s.image past
    → ImageKeptOrOffered past s s' → first s'.image ⊎ IsOneOf s'.image past
known_image_stays_known first past s s' known w = elim (w.image) [
  | inl same ↦ elim known [
    | inl here ↦ inl (subst first (sym same) here)
    | inr one ↦ inr (subst (λ (i : List ℕ). IsOneOf i past) (sym same) one)
  ]
  | inr one ↦ inr one
]

-- A host's action, or a restart that the host receives, preserves the facts.
host_action_keeps_facts : (c : Profile) (first : List ℕ → Type 0) (past : List (List ℕ)) (last : Option (List ℕ)) (l : BoardLink) (d d' :
    DeviceView)
    (b' : Board) (t : HostOutcome) → BoardAndHostFacts c first past last l d → IsIdleBoard b' d' → profile d' ≡ c
    → FactsAfterAction c past l.session (situation d) (situation d') t →
    FactsAfterEvent c first past last t.answer (link_after_outcome b' t)
host_action_keeps_facts c first past last l d d' b' t s idle fixed w = record {
  device = d';
  stands = record {
    idle = idle;
    profile_is = fixed;
    fact = w.fact;
    live = λ payload e. elim (w.live) [
      | inl same ↦ s.live payload (sym same ∙ e)
      | inr none ↦ absurd (cc)
    ];
    offered = w.offered;
    sound = w.device.sound;
    known = known_image_stays_known first past (situation d) (situation d') s.known w.device;
  };
  done = λ e. let x = w.done e in (x.0, s.live (image_of d'.slots) x.1);
  gives = w.gives;
}

-- A call that may be under way has a cause in the device table.
pub call_under_way_has_cause : (session : Session) (call : Event) → CallMayBeUnderWay session call → (cause : Cause)
    × IsCallOfCause call cause
call_under_way_has_cause session (Elapse ms) way = (Passing ms, refl)
call_under_way_has_cause (HostSession h) (Handle setup body) way = (Transfer setup body, refl)
call_under_way_has_cause session call way = elim way [ ]

module _ (refines : IdleRunsRefineTable) (simulation : Simulation) (only : ActiveImageWasOffered) (c : Profile) (sized : 0 < c.transfer)
    (past : List (List ℕ)) where
  -- If a call that was under way ends, the image is unchanged, or one that was offered.
  pub ended_call_keeps_or_offers : (session : Session) (call : Event) (b b' : Board) (d : DeviceView) (steps : List BoardStep) (says :
      BoardReply)
      → IsIdleBoard b d
      → profile d ≡ c → ClosedWasOffered past d.stage → IsLiveOffer past (live_session_of session) → SessionFact c (situation d) session
      → CallMayBeUnderWay session call → CallReaches call b steps says b' → BoardImageKeptOrOffered c past (situation d) b'
  ended_call_keeps_or_offers session (Elapse ms) b b' d steps says k e sound offered f way reaches = reached_elapse_keeps_or_offers refines
      c past ms b b' d steps says k e sound reaches
  ended_call_keeps_or_offers (HostSession h) (Handle setup body) b b' d steps says k e sound offered f (q, is, asked) reaches =
      let x = request_keeps_facts refines simulation only c sized past h q setup body is asked d e sound offered f b b' steps says
      NothingHeard k reaches
      (any_reply_may_be_lost (Send q body) says) (λ none. absurd (cc)) in
      record { device = x.device; idle = x.idle; profile_is = x.profile_is; well = x.acted.device }
  ended_call_keeps_or_offers session call b b' d steps says k e sound offered f way reaches = elim way [ ]

  -- After a restart with no call under way, the image is unchanged, or one that was offered.
  restart_keeps_or_offers : (l : BoardLink) (b' : Board) (d : DeviceView) (power : BoardStep) (begins : Bool) → IsIdleBoard l.board d →
      profile d ≡ c
      → ClosedWasOffered past d.stage → IsLiveOffer past (live_session_of l.session) → SessionFact c (situation d) l.session
      → IsRun l.board (power ∷ []) b' → power.event ≡ Restart begins → BoardImageKeptOrOffered c past (situation d) b'
  restart_keeps_or_offers l b' d power begins k e sound offered f run event =
      cut_off_call_keeps_or_offers refines past c l.board b' d (Elapse 0) (Passing 0) (power ∷ []) k e sound refl
      (λ mid more says reaches. ended_call_keeps_or_offers l.session (Elapse 0) l.board mid d more says k e sound offered f tt reaches)
      (behind power begins lost run event)

  -- Each event over the link preserves the facts.
  pub event_keeps_facts : (first : List ℕ → Type 0) (last : Option (List ℕ)) (l l' : BoardLink) (d : DeviceView) (steps : List BoardStep)
      (answer : Answered) → BoardAndHostFacts c first past last l d → BoardLinkStep l steps answer l' →
      FactsAfterEvent c first past last answer l'
  event_keeps_facts first last l _ d steps _ s (passes {ms = ms} {a = a} {out = out} {b' = b'} serves) =
      let x = served refines l.board b' d (Elapse ms) (Passing ms) steps a out refl s.idle serves in
      let y = times_have_outcomes ms d x.device x.row.2 in
      let there : situation_after_ms c (situation d) ms y.luck ≡ situation x.device =
      ap (λ (p : Profile). situation_after_ms p (situation d) ms y.luck) (sym s.profile_is) ∙ ap (λ (o : Outcome). o.after) y.same in
      let w = elapsed_time_keeps_or_offers refines c past ms d x.device s.profile_is s.sound x.row.2 in
      record {
        device = x.device;
        stands = record {
          idle = x.idle;
          profile_is = y.fixed ∙ s.profile_is;
          fact = subst (λ (z : Situation). SessionFact c z l.session) there (any_time_keeps_session_fact c (situation d) ms y.luck l.session
              s.fact);
          live = s.live;
          offered = s.offered;
          sound = w.sound;
          known = known_image_stays_known first past (situation d) (situation x.device) s.known w;
        };
        done = λ e. elim e [ ];
        gives = λ bytes e. absurd (cc);
      }
  event_keeps_facts first last l _ d steps _ s (sends {h = h} {q = q} {setup = setup} {body = body} {says = says} {b' = b'} {heard = heard}
      live is asked (inl reaches) hears room) =
      let f = subst (λ (x : Session). SessionFact c (situation d) x) live s.fact in
      let o = subst (λ (x : Session). IsLiveOffer past (live_session_of x)) live s.offered in
      let x = request_keeps_facts refines simulation only c sized past h q setup body is asked d s.profile_is s.sound o f l.board b' steps
      says heard s.idle reaches hears room in
      host_action_keeps_facts c first past last l d x.device b' (host_outcome h heard) s x.idle x.profile_is
      (subst (λ (y : Session). FactsAfterAction c past y (situation d) (situation x.device) (host_outcome h heard)) (sym live) x.acted)
  event_keeps_facts first last l _ d steps _ s (sends {h = h} {q = q} {setup = setup} {body = body} {says = says} {b' = b'}
      {heard = heard} live is asked (inr (why, refused)) hears room) =
      let f = subst (λ (x : Session). SessionFact c (situation d) x) live s.fact in
      let o = subst (λ (x : Session). IsLiveOffer past (live_session_of x)) live s.offered in
      let x = refused_image_keeps_facts refines simulation only c sized past h q setup body is asked d s.profile_is s.sound o f why l.board
      b' steps says
      heard s.idle refused hears room in
      host_action_keeps_facts c first past last l d x.device b' (host_outcome h heard) s x.idle x.profile_is
      (subst (λ (y : Session). FactsAfterAction c past y (situation d) (situation x.device) (host_outcome h heard)) (sym live) x.acted)
  event_keeps_facts first last l _ d steps _ s (refuses {why = why} {a = a} {out = out} {b' = b'} serves) =
      let x = served refines l.board b' d (Refuse why) (Refusing why) steps a out refl s.idle serves in
      let same = x.row.2 in
      record {
        device = x.device;
        stands = record {
          idle = x.idle;
          profile_is = row_keeps_profile d x.device (Refusing why) a out x.row ∙ s.profile_is;
          fact = subst (λ (z : DeviceView). SessionFact c (situation z) l.session) (sym same)
              (refusal_keeps_session_fact c why (situation d) l.session s.fact);
          live = s.live;
          offered = s.offered;
          sound = subst (λ (z : DeviceView). ClosedWasOffered past z.stage) (sym same) (refusal_keeps_closed_offer why past d.stage
              s.sound);
          known = subst (λ (z : DeviceView). first (image_of z.slots) ⊎ IsOneOf (image_of z.slots) past) (sym same) s.known;
        };
        done = λ e. elim e [ ];
        gives = λ bytes e. absurd (cc);
      }
  event_keeps_facts first last l _ d _ _ s (waits {h = h} {ms = ms} live is) =
      let f = subst (λ (x : Session). SessionFact c (situation d) x) live s.fact in
      let o = subst (λ (x : Session). IsLiveOffer past (live_session_of x)) live s.offered in
      let w = action_keeps_session_facts simulation only c sized past d d h Waited (Slip 0) s.profile_is s.sound o f refl
      (subst (λ (x : Deed). ActionDelivered x (delivery_of (Slip 0)) d d Waited) (sym is) (zero_time_keeps_device d, refl)) (λ e. absurd
      (cc)) in
      host_action_keeps_facts c first past last l d d l.board (host_outcome h Waited) s s.idle s.profile_is
      (subst (λ (y : Session). FactsAfterAction c past y (situation d) (situation d) (host_outcome h Waited)) (sym live) w)
  event_keeps_facts first last l _ d steps _ s (resets {h = h} {a = a} {out = out} {b' = b'} live is serves) =
      let f = subst (λ (x : Session). SessionFact c (situation d) x) live s.fact in
      let o = subst (λ (x : Session). IsLiveOffer past (live_session_of x)) live s.offered in
      let x = served refines l.board b' d UsbReset BusReset steps a out refl s.idle serves in
      let w = action_keeps_session_facts simulation only c sized past d x.device h WasReset Pass s.profile_is s.sound o f refl
      (subst (λ (y : Deed). ActionDelivered y (delivery_of Pass) d x.device WasReset) (sym is) (x.row.2, refl)) (λ e. absurd (cc)) in
      host_action_keeps_facts c first past last l d x.device b' (host_outcome h WasReset) s x.idle
      (row_keeps_profile d x.device BusReset a out x.row ∙ s.profile_is)
      (subst (λ (y : Session). FactsAfterAction c past y (situation d) (situation x.device) (host_outcome h WasReset)) (sym live) w)
  event_keeps_facts first last l _ d _ _ s (is_reset_by_other_cause {call = call} {steps = steps} {more = more} {says = says} {a = a} {out
      = out} {mid = mid} {b' = b'} way
      reaches serves) =
      let x = ended_call_keeps_or_offers l.session call l.board mid d steps says s.idle s.profile_is s.sound s.offered s.fact way reaches in
      let y = board_kept_or_offered_then refines c past (situation d) mid b' x (reset_call_keeps_image refines c past mid b' x.device more
      a out x.idle x.profile_is serves) in
      host_action_keeps_facts c first past last l d y.device b' (notify_restart l.session) s y.idle y.profile_is
      (told_host_keeps_facts simulation only c sized past (situation d) (situation y.device) l.session s.offered s.fact y.well)
  event_keeps_facts first last l _ d steps _ s (restarts {call = call} {b' = b'} way stops) =
      let cause = call_under_way_has_cause l.session call way in
      let x = cut_off_call_keeps_or_offers refines past c l.board b' d call cause.0 steps s.idle s.profile_is s.sound cause.1
      (λ mid more says reaches. ended_call_keeps_or_offers l.session call l.board mid d more says s.idle s.profile_is s.sound s.offered
      s.fact way reaches)
      stops in
      host_action_keeps_facts c first past last l d x.device b' (notify_restart l.session) s x.idle x.profile_is
      (told_host_keeps_facts simulation only c sized past (situation d) (situation x.device) l.session s.offered s.fact x.well)
  event_keeps_facts first last l _ d _ _ s (leaves {h = h} {power = power} {begins = begins} {b' = b'} live enters run event) =
      let f = subst (λ (x : Session). SessionFact c (situation d) x) live s.fact in
      let x = restart_keeps_or_offers l b' d power begins s.idle s.profile_is s.sound s.offered s.fact run event in
      let entered = enter_fact_of_any_device c past (situation d) (situation x.device) h f enters in
      record {
        device = x.device;
        stands = record {
          idle = x.idle;
          profile_is = x.profile_is;
          fact = subst (λ (y : Session). SessionFact c (situation x.device) y) (sym live) entered;
          live = s.live;
          offered = s.offered;
          sound = x.well.sound;
          known = known_image_stays_known first past (situation d) (situation x.device) s.known x.well;
        };
        done = λ e. elim e [ ];
        gives = λ bytes e. absurd (cc);
      }
  event_keeps_facts first last l _ d _ _ s (restarts_at_reset {h = h} {power = power} {b' = b'} live is (inl back) run event) =
      let f = subst (λ (x : Session). SessionFact c (situation d) x) live s.fact in
      let o = subst (λ (x : Session). IsLiveOffer past (live_session_of x)) live s.offered in
      let x = idle_board_restarts_in_app_idle refines l.board b' d power s.idle run (event ∙ ap Restart back) in
      let w = own_reset_keeps_facts c past (situation d) (situation x.device) h o f is x.same in
      host_action_keeps_facts c first past last l d x.device b' (host_outcome h WasReset) s x.idle (x.fixed ∙ s.profile_is)
      (subst (λ (y : Session). FactsAfterAction c past y (situation d) (situation x.device) (host_outcome h WasReset)) (sym live) w)
  event_keeps_facts first last l _ d _ _ s (restarts_at_reset {h = h} {power = power} {begins = begins} {b' = b'} live is (inr enters) run
      event) =
      let f = subst (λ (x : Session). SessionFact c (situation d) x) live s.fact in
      let o = subst (λ (x : Session). IsLiveOffer past (live_session_of x)) live s.offered in
      let x = restart_keeps_or_offers l b' d power begins s.idle s.profile_is s.sound s.offered s.fact run event in
      let w = enter_reset_keeps_facts c past (situation d) (situation x.device) h o f enters x.well in
      host_action_keeps_facts c first past last l d x.device b' (host_outcome h WasReset) s x.idle x.profile_is
      (subst (λ (y : Session). FactsAfterAction c past y (situation d) (situation x.device) (host_outcome h WasReset)) (sym live) w)
  event_keeps_facts first last l _ d _ _ s (marks {b' = b'} mark) =
      let x = mark_keeps_device l.board b' d s.idle mark in
      record {
        device = x.device;
        stands = record {
          idle = x.idle;
          profile_is = x.fixed ∙ s.profile_is;
          fact = subst (λ (z : Situation). SessionFact c z l.session) (sym x.same) s.fact;
          live = s.live;
          offered = s.offered;
          sound = subst (λ (z : Situation). ClosedWasOffered past z.stage) (sym x.same) s.sound;
          known = subst (λ (z : Situation). first z.image ⊎ IsOneOf z.image past) (sym x.same) s.known;
        };
        done = λ e. elim e [ ];
        gives = λ bytes e. absurd (cc);
      }
