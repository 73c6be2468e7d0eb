-- Each action of a session in C is the action of its host.
use Rattle.std.specs.Prelude.{◌≡◌, ◌≢◌, ℕ, pos, Bool, List, take, drop}
use Rattle.std.proofs.Common.{inl, refl, sym, ap, ◌∙◌, subst, arith}
use Rattle.dfu_wire.specs.declared.states.State.{State}
use Rattle.dfu_wire.specs.declared.requests.Request.{Request}
use Rattle.dfu_host.specs.declared.report.Report.{Report}
use Rattle.dfu_host.specs.Phases.{Deed, Send, Wait, Reset, Done}
use Rattle.dfu_host.specs.Table.{deed}
use Rattle.dfu_host.specs.Host.{HostState}
use Rattle.dfu_host.specs.Wire.{IsSetupOf}
use Rattle.dfu_sim.specs.LinkView.{Session, NoLiveSession, HostSession}
use Rattle.dfu_host_core.specs.declared.action.DfuAction.{DfuAction}
use Rattle.dfu_host_core.specs.Actions.{ActionRecord}
use Rattle.dfu_host_core.specs.Runs.{CoreHost, CoreHostMatches, NextIsHostAction, IsNextActionOfHost}
use Rattle.dfu_laws.specs.board.Board.{Event, Elapse, Handle}
use Rattle.dfu_laws.specs.link.Trials.{TrialMayEnd}
use Rattle.dfu_laws.specs.link.LinkSteps.{CallMayBeUnderWay}
use Rattle.dfu_laws.specs.ends.Sessions.{CoreSession, NoSession, InSession, IsSessionOf, WantsAction, sent_body, CoreCallMayBeUnderWay, CoreTrialMayEnd}

-- The live session in C is the session of a host.
pub record LiveHostOf (payload : List ℕ) (x : CoreHost) (session : Session) : Type 0 where
  pub host : HostState
  pub live : session ≡ HostSession host
  pub is : CoreHostMatches payload x host

pub core_session_has_live_host : (payload : List ℕ) (x : CoreHost) (s : CoreSession) (session : Session) → s ≡ InSession payload x
    → IsSessionOf s session → LiveHostOf payload x session
core_session_has_live_host payload x s session e is = held session (subst (λ (y : CoreSession). IsSessionOf y session) e is)
  where
    held : (y : Session) → IsSessionOf (InSession payload x) y → LiveHostOf payload x y
    held (HostSession h) is = record { host = h; live = refl; is = is }
    held NoLiveSession is = absurd is

-- If a trial may end with the session in C, the trial may end with the session of its host.
pub trial_may_end_with_host : (s : CoreSession) (session : Session) (state : State) (begins : Bool) → IsSessionOf s session
    → CoreTrialMayEnd s state begins
    → TrialMayEnd session state begins
trial_may_end_with_host NoSession NoLiveSession state begins is may = tt
trial_may_end_with_host (InSession payload x) (HostSession h) state begins is may = may h is
trial_may_end_with_host NoSession (HostSession h) state begins is may = absurd is
trial_may_end_with_host (InSession payload x) NoLiveSession state begins is may = absurd is

-- The action sends the request of its host.
pub record SendsRequestOf (payload : List ℕ) (d : Deed) (a : DfuAction) : Type 0 where
  pub request : Request
  -- The host sends this request, with the bytes of the action.
  pub deed_is : d ≡ Send request (sent_body payload a)
  -- The setup of the action is that of the request.
  pub asked : IsSetupOf request a.setup

action_0_sends_request : (payload : List ℕ) (from : ℕ) (d : Deed) (a : DfuAction) → ActionRecord payload from d a → a.what ≡ 0 →
    SendsRequestOf payload d a
action_0_sends_request payload from (Send q body) a t e = record {
  request = q;
  deed_is = ap (λ (l : List ℕ). Send q l) (t.cut ∙ λ i. take (sym t.size i) (drop (sym t.place i) payload));
  asked = t.asked;
}
action_0_sends_request payload from (Wait ms) a t e = absurd (omega (arith, t.action_number_matches, e))
action_0_sends_request payload from Reset a t e = absurd (omega (arith, t.action_number_matches, e))
action_0_sends_request payload from (Done report) a t e = absurd (omega (arith, t.other.action_number_matches, e))

action_1_waits : (payload : List ℕ) (from : ℕ) (d : Deed) (a : DfuAction) → ActionRecord payload from d a → a.what ≡ 1 → (ms : ℕ) × (d
    ≡ Wait ms)
action_1_waits payload from (Send q body) a t e = absurd (omega (arith, t.what, e))
action_1_waits payload from (Wait ms) a t e = (ms, refl)
action_1_waits payload from Reset a t e = absurd (omega (arith, t.action_number_matches, e))
action_1_waits payload from (Done report) a t e = absurd (omega (arith, t.other.action_number_matches, e))

action_2_resets : (payload : List ℕ) (from : ℕ) (d : Deed) (a : DfuAction) → ActionRecord payload from d a → a.what ≡ 2 → d ≡ Reset
action_2_resets payload from (Send q body) a t e = absurd (omega (arith, t.what, e))
action_2_resets payload from (Wait ms) a t e = absurd (omega (arith, t.action_number_matches, e))
action_2_resets payload from Reset a t e = refl
action_2_resets payload from (Done report) a t e = absurd (omega (arith, t.other.action_number_matches, e))

done_deed_is_action_3 : (payload : List ℕ) (from : ℕ) (d : Deed) (a : DfuAction) (report : Report) → ActionRecord payload from d a → d
    ≡ Done report
    → a.what ≡ 3
done_deed_is_action_3 payload from (Done other) a report t e = t.other.action_number_matches
done_deed_is_action_3 payload from (Send q body) a report t e = absurd cc
done_deed_is_action_3 payload from (Wait ms) a report t e = absurd cc
done_deed_is_action_3 payload from Reset a report t e = absurd cc

module _ (tells : NextIsHostAction) (payload : List ℕ) (x : CoreHost) (h : HostState) (here : CoreHostMatches payload x h) where
  -- dfu_host_next returns the next action of the host.
  pub told : (a : DfuAction) → WantsAction payload x a → IsNextActionOfHost payload h (pos 0) a
  told a wants = tells payload x h wants.0 (pos 0) a a here wants.1 (inl (refl, wants.2))

  pub wanted_action_0_sends : (a : DfuAction) → WantsAction payload x a → a.what ≡ 0 → SendsRequestOf payload (deed h.task h.phase) a
  wanted_action_0_sends a wants e = let t = told a wants in action_0_sends_request payload t.from (deed h.task h.phase) a t.tells e

  pub wanted_action_1_waits : (a : DfuAction) → WantsAction payload x a → a.what ≡ 1 → (ms : ℕ) × (deed h.task h.phase ≡ Wait ms)
  wanted_action_1_waits a wants e = let t = told a wants in action_1_waits payload t.from (deed h.task h.phase) a t.tells e

  pub wanted_action_2_resets : (a : DfuAction) → WantsAction payload x a → a.what ≡ 2 → deed h.task h.phase ≡ Reset
  wanted_action_2_resets a wants e = let t = told a wants in action_2_resets payload t.from (deed h.task h.phase) a t.tells e

  pub host_is_done_only_by_action_3 : (a : DfuAction) → WantsAction payload x a → a.what ≢ 3 → (report : Report) → deed h.task h.phase
      ≡ Done report → ⊥
  host_is_done_only_by_action_3 a wants on report e = let t = told a wants in on (done_deed_is_action_3 payload t.from (deed h.task
      h.phase) a report t.tells e)

-- A call that may be under way with the session in C may be under way with the session of its host.
pub call_is_under_way_with_host : (tells : NextIsHostAction) (s : CoreSession) (session : Session) (call : Event) →
    IsSessionOf s session → CoreCallMayBeUnderWay s call
    → CallMayBeUnderWay session call
call_is_under_way_with_host tells s session (Elapse ms) is way = tt
call_is_under_way_with_host tells (InSession payload x) (HostSession h) (Handle setup body) is (a, wants, what, same, cut) =
    let q = wanted_action_0_sends tells payload x h is a wants what in (
      q.request,
      q.deed_is ∙ ap (λ (l : List ℕ). Send q.request l) (sym cut),
      subst (λ (l : List ℕ). IsSetupOf q.request l) (sym same) q.asked,
    )
call_is_under_way_with_host tells (InSession payload x) NoLiveSession (Handle setup body) is way = absurd is
call_is_under_way_with_host tells NoSession session (Handle setup body) is way = absurd way
call_is_under_way_with_host tells s session call is way = absurd way
