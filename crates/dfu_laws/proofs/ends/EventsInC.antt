-- Each event of a board and a session in C is an event of the board and the session's host.
use Rattle.std.specs.Prelude.{◌≡◌, ℕ, List, [], ◌∷◌, ◌++◌, IsTrue}
use Rattle.std.proofs.Common.{inl, inr, refl, subst, ⊎_elim}
use Rattle.dfu_wire.specs.declared.requests.Request.{Request}
use Rattle.dfu_host.specs.Phases.{Send, Heard, NoRoom, Waited, WasReset, Restarted}
use Rattle.dfu_host.specs.Table.{deed}
use Rattle.dfu_host.specs.Host.{HostState, after, wants_memory}
use Rattle.dfu_host.specs.Wire.{IsSetupOf}
use Rattle.dfu_host.specs.Counting.{KeptBytesAreCounted}
use Rattle.dfu_sim.specs.LinkView.{Session, NoLiveSession, HostSession}
use Rattle.dfu_sim.specs.Play.{Answered, HostOutcome, host_outcome, notify_restart}
use Rattle.dfu_sim.specs.LinkInvariant.{SessionIsCounted}
use Rattle.dfu_host_core.specs.declared.action.DfuAction.{DfuAction}
use Rattle.dfu_host_core.specs.Runs.{CoreHost, CoreHostMatches, CoreSessionsRefineHosts, NextIsHostAction}
use Rattle.dfu_laws.specs.board.Board.{Board, BoardReply, BoardStep}
use Rattle.dfu_laws.specs.link.LinkSteps.{HeardOfReply, link_after_outcome, BoardLinkStep, passes, sends, refuses, waits, resets, is_reset_by_other_cause, restarts, leaves, restarts_at_reset, marks}
use Rattle.dfu_laws.specs.ends.Sessions.{CoreSession, InSession, IsSessionOf, WantsAction, sent_body, HostTakeOk, SeenOfReply, SessionSettles, RestartReported, no_session_hears_restart, session_hears_restart}
use Rattle.dfu_laws.specs.ends.EndsSteps.{EndsStep, time_passes, sends_request, close_is_refused, refuses_image, wait_is_over, resets_bus, bus_is_reset, board_restarts, leaves_app, board_makes_way, mark_is_set}
use Rattle.dfu_laws.proofs.ends.Actions.{core_session_has_live_host, wanted_action_0_sends, wanted_action_1_waits, wanted_action_2_resets, call_is_under_way_with_host}
use Rattle.dfu_laws.proofs.ends.ResultNumbers.{taken_is_heard, number_4_is_heard_as_wait, number_5_is_heard_as_reset, number_6_is_heard_as_restart, reply_sent_back_is_heard}
use Rattle.dfu_laws.proofs.ends.ReportsInC.{SettlesAsCoreSession, sized, host_outcome_is_core_session}

-- These steps are an event of the board and the host's session. Afterwards the session in C is still the session of the host.
pub record EventOfHostSession (session : Session) (b : Board) (steps : List BoardStep) (answer : Answered) (s' : CoreSession) (b' : Board)
    : Type 0 where
  pub later : Session
  -- After the event, the session in C is this session of the host.
  pub is : IsSessionOf s' later
  -- While the host's session fetches part k of an upload, it holds k full parts.
  pub counted : SessionIsCounted later
  -- The steps are an event of the board and the host's session.
  pub comes : BoardLinkStep (record { board = b; session = session }) steps answer (record { board = b'; session = later })

outcome_is_event_of_host : (session : Session) (b : Board) (steps : List BoardStep) (answer : Answered) (s' : CoreSession) (b' : Board) (t
    : HostOutcome)
    → SettlesAsCoreSession t answer s' → BoardLinkStep (record { board = b; session = session }) steps t.answer (link_after_outcome b' t)
    → EventOfHostSession session b steps answer s' b'
outcome_is_event_of_host session b steps answer s' b' t so comes = record {
  later = t.session;
  is = so.is;
  counted = so.counted;
  comes = subst (λ (a : Answered). BoardLinkStep (record { board = b; session = session }) steps a (link_after_outcome b' t)) so.answer_is
      comes;
}

module _ (refine : CoreSessionsRefineHosts) (tells : NextIsHostAction) where
  -- If the program reports a restart to the session in C, the session of the host receives the restart too.
  restart_settles_core_session : (s : CoreSession) (session : Session) (answer : Answered) (s' : CoreSession) → IsSessionOf s session
      → SessionIsCounted session → RestartReported s answer s' → SettlesAsCoreSession (notify_restart session) answer s'
  restart_settles_core_session _ NoLiveSession _ _ is c no_session_hears_restart = record { answer_is = refl; is = tt; counted = tt }
  restart_settles_core_session _ (HostSession h) _ _ is c no_session_hears_restart = absurd is
  restart_settles_core_session _ NoLiveSession _ _ is c (session_hears_restart given settles) = absurd is
  restart_settles_core_session _ (HostSession h) answer s' is c (session_hears_restart {payload = payload} {bytes = bytes} {x = x} {x' =
      x'} given settles) =
      let t = taken_is_heard refine payload x x' h is 6 bytes given in
      let now = subst (λ (y : Heard). CoreHostMatches payload x' (after h y)) (number_6_is_heard_as_restart payload h bytes x' t) t.now in
      host_outcome_is_core_session tells payload x' h Restarted answer s' (sized tells payload x h is) c now settles

  module _ (b : Board) (s : CoreSession) (session : Session) (is : IsSessionOf s session) (c : SessionIsCounted session) where
    live_host_is_counted : (h : HostState) → session ≡ HostSession h → KeptBytesAreCounted h.task h.phase
    live_host_is_counted h live = subst SessionIsCounted live c

    -- The host sends the request of the session in C, and receives the result that the program passes to dfu_host_take.
    requests : (payload bytes : List ℕ) (x x' : CoreHost) (a : DfuAction) (steps : List BoardStep) (says : BoardReply) (b' : Board) (seen : ℕ)
        (answer : Answered) (s' : CoreSession) → s ≡ InSession payload x → WantsAction payload x a → a.what ≡ 0
        → SeenOfReply says seen bytes
        → HostTakeOk payload x seen bytes x' → SessionSettles payload x' answer s'
        → ((h : HostState) (q : Request) (heard : Heard) → session ≡ HostSession h → deed h.task h.phase ≡ Send q (sent_body payload a)
        → IsSetupOf q a.setup → HeardOfReply (Send q (sent_body payload a)) says heard
        → (heard ≡ NoRoom → IsTrue (wants_memory h.phase))
        → BoardLinkStep (record { board = b; session = session }) steps (host_outcome h heard).answer (link_after_outcome b' (host_outcome
        h heard)))
        → EventOfHostSession session b steps answer s' b'
    requests payload bytes x x' a steps says b' seen answer s' live wants what tell given settles comes =
        let o = core_session_has_live_host payload x s session live is in
        let h = o.host in
        let q = wanted_action_0_sends tells payload x h o.is a wants what in
        let t = taken_is_heard refine payload x x' h o.is seen bytes given in
        outcome_is_event_of_host session b steps answer s' b' (host_outcome h t.heard)
        (host_outcome_is_core_session tells payload x' h t.heard answer s' (sized tells payload x h o.is) (live_host_is_counted h o.live)
        t.now settles)
        (comes h q.request t.heard o.live q.deed_is q.asked
        (reply_sent_back_is_heard payload h bytes x' says seen q.request (sent_body payload a) q.deed_is t tell) t.room)

    -- Each event of a session in C is an event of its host.
    pub came : (steps : List BoardStep) (answer : Answered) (s' : CoreSession) (b' : Board) → EndsStep s b steps answer s' b'
        → EventOfHostSession session b steps answer s' b'
    came _ _ _ _ (time_passes serves) = record { later = session; is = is; counted = c; comes = passes serves }
    came _ _ _ _ (refuses_image serves) = record { later = session; is = is; counted = c; comes = refuses serves }
    came steps answer s' b' (sends_request {payload = payload} {bytes = bytes} {x = x} {x' = x'} {a = a} {says = says} {seen = seen} live
        wants
        what reaches tell given settles) =
        requests payload bytes x x' a steps says b' seen answer s' live wants what tell given settles
        (λ h q heard hosted is_sent asked hears room. sends hosted is_sent asked (inl reaches) hears room)
    came steps answer s' b' (close_is_refused {payload = payload} {bytes = bytes} {x = x} {x' = x'} {a = a} {why = why} {says = says}
        {seen = seen} live wants what objected tell given settles) =
        requests payload bytes x x' a steps says b' seen answer s' live wants what tell given settles
        (λ h q heard hosted is_sent asked hears room. sends hosted is_sent asked (inr (why, objected)) hears room)
    came _ answer s' _ (wait_is_over {payload = payload} {bytes = bytes} {x = x} {x' = x'} {a = a} live wants what given settles) =
        let o = core_session_has_live_host payload x s session live is in
        let w = wanted_action_1_waits tells payload x o.host o.is a wants what in
        let t = taken_is_heard refine payload x x' o.host o.is 4 bytes given in
        let now = subst (λ (y : Heard). CoreHostMatches payload x' (after o.host y)) (number_4_is_heard_as_wait payload o.host bytes x' t)
        t.now in
        outcome_is_event_of_host session b [] answer s' b (host_outcome o.host Waited)
        (host_outcome_is_core_session tells payload x' o.host Waited answer s' (sized tells payload x o.host o.is) (live_host_is_counted
        o.host o.live) now settles)
        (waits o.live w.1)
    came steps answer s' b' (resets_bus {payload = payload} {bytes = bytes} {x = x} {x' = x'} {a = a} live wants what serves given
        settles) =
        let o = core_session_has_live_host payload x s session live is in
        let t = taken_is_heard refine payload x x' o.host o.is 5 bytes given in
        let now = subst (λ (y : Heard). CoreHostMatches payload x' (after o.host y)) (number_5_is_heard_as_reset payload o.host bytes x' t)
        t.now in
        outcome_is_event_of_host session b steps answer s' b' (host_outcome o.host WasReset)
        (host_outcome_is_core_session tells payload x' o.host WasReset answer s' (sized tells payload x o.host o.is) (live_host_is_counted
        o.host o.live) now settles)
        (resets o.live (wanted_action_2_resets tells payload x o.host o.is a wants what) serves)
    came _ answer s' b' (bus_is_reset {call = call} {steps = steps} {more = more} way reaches serves hears) =
        outcome_is_event_of_host session b (steps ++ more) answer s' b' (notify_restart session) (restart_settles_core_session s session
        answer s' is c hears)
        (is_reset_by_other_cause (call_is_under_way_with_host tells s session call is way) reaches serves)
    came steps answer s' b' (board_restarts {call = call} way stops hears) =
        outcome_is_event_of_host session b steps answer s' b' (notify_restart session) (restart_settles_core_session s session answer s' is
        c hears)
        (restarts (call_is_under_way_with_host tells s session call is way) stops)
    came _ _ _ _ (leaves_app {payload = payload} {x = x} live enters run event) =
        let o = core_session_has_live_host payload x s session live is in
        record { later = session; is = is; counted = c; comes = leaves o.live (enters o.host o.is) run event }
    came _ answer s' b' (board_makes_way {payload = payload} {bytes = bytes} {x = x} {x' = x'} {a = a} {power = power} {begins = begins} live
        wants what way run event given settles) =
        let o = core_session_has_live_host payload x s session live is in
        let t = taken_is_heard refine payload x x' o.host o.is 5 bytes given in
        let now = subst (λ (y : Heard). CoreHostMatches payload x' (after o.host y)) (number_5_is_heard_as_reset payload o.host bytes x' t)
        t.now in
        outcome_is_event_of_host session b (power ∷ []) answer s' b' (host_outcome o.host WasReset)
        (host_outcome_is_core_session tells payload x' o.host WasReset answer s' (sized tells payload x o.host o.is) (live_host_is_counted
        o.host o.live) now settles)
        (restarts_at_reset o.live (wanted_action_2_resets tells payload x o.host o.is a wants what)
        (⊎_elim (λ back. inl back) (λ enters. inr (enters o.host o.is)) way) run event)
    came _ _ _ _ (mark_is_set mark) = record { later = session; is = is; counted = c; comes = marks mark }
