-- If an action of a session reports nothing, fewer actions are left.
use Rattle.std.proofs.Common.{◌≡◌, ℕ, zero, suc, pred, ◌<◌, Bool, true, false, Option, None, Result, Ok, refl, sym, ap, ◌∙◌, subst, arith}
use Rattle.dfu_host.specs.declared.report.Report.{Report}
use Rattle.dfu_host.specs.declared.report.Report.TheVariants.{Unconfirmed, Aborted, RestartsSpent}
use Rattle.dfu_host.specs.Phases.{Phase, Find, Last, GiveUp, Over, OverUploaded, Heard, WasReset, Restarted, Left}
use Rattle.dfu_host.specs.BehindClose.{is_behind_close}
use Rattle.dfu_host.specs.Table.{host_row}
use Rattle.dfu_host.specs.Host.{HostState, IsOverPhase, phase_in_budget, host_after_restart, host_after_leaving, host_after_result, host_after_phase, after}
use Rattle.dfu_sim.specs.declared.fault.LinkFault.{LinkFault}
use Rattle.dfu_sim.specs.LinkView.{Session, NoLiveSession, HostSession, LinkView, WorldView}
use Rattle.dfu_sim.specs.Bytes.{BytePlay}
use Rattle.dfu_sim.specs.Play.{Answered, settled_session, host_outcome}
use Rattle.dfu_sim.specs.Happening.{Happening, Fate, WriteHarm, Goes}
use Rattle.dfu_sim.specs.EventResults.{EventResult, refuses, happens, report_of_result, WorldEventResult}

-- Number of actions that a live session has left; 0 without a session.
abbrev pub actions_left_of_session : Session → ℕ
actions_left_of_session NoLiveSession = 0
actions_left_of_session (HostSession h) = h.actions

-- If a host reports nothing, its session is still live.
silent_host_stays_live : (h : HostState) (phase : Phase) → (settled_session h phase).answer.report ≡ None
    → ((settled_session h phase).session ≡ HostSession h) × (IsOverPhase phase → ⊥)
silent_host_stays_live h (Over r) e = absurd cc
silent_host_stays_live h (OverUploaded kept) e = absurd cc
silent_host_stays_live h phase e = (refl, λ over. over)

-- A host that is live after an action has fewer actions left.
spent_action_leaves_fewer : (n : ℕ) (phase : Phase) → (IsOverPhase (phase_in_budget (pred n) phase) → ⊥) → pred n < n
spent_action_leaves_fewer zero (Over r) on = absurd (on tt)
spent_action_leaves_fewer zero (OverUploaded kept) on = absurd (on tt)
spent_action_leaves_fewer zero phase on = absurd (on tt)
spent_action_leaves_fewer (suc n) phase on = omega arith

-- A host that is live after a restart has fewer actions left.
restart_leaves_fewer_actions : (h : HostState) (phase : Phase) (restarts : ℕ) →
    (IsOverPhase (host_after_restart h phase restarts).phase → ⊥)
    → (host_after_restart h phase restarts).actions < h.actions
restart_leaves_fewer_actions h GiveUp restarts on = spent_action_leaves_fewer h.actions (Over Aborted) on
restart_leaves_fewer_actions h phase zero on = spent_action_leaves_fewer h.actions (Over RestartsSpent) on
restart_leaves_fewer_actions h phase (suc restarts) on = spent_action_leaves_fewer h.actions Find on

-- If the device left the bus by itself, and its host is still live, the host has fewer actions left.
leaving_leaves_fewer_actions : (h : HostState) (phase : Phase) (behind : Bool) → (IsOverPhase (host_after_leaving h phase behind).phase → ⊥)
    → (host_after_leaving h phase behind).actions < h.actions
leaving_leaves_fewer_actions h phase true on = spent_action_leaves_fewer h.actions (host_row h.task (Last Unconfirmed) WasReset) on
leaving_leaves_fewer_actions h phase false on = restart_leaves_fewer_actions h phase h.restarts on

-- A live host that is still live after it receives a result has fewer actions left.
heard_host_has_fewer_actions : (h : HostState) (phase : Phase) (heard : Heard) → (IsOverPhase (host_after_result h phase heard).phase → ⊥)
    → (host_after_result h phase heard).actions < h.actions
heard_host_has_fewer_actions h phase Restarted on = restart_leaves_fewer_actions h phase h.restarts on
heard_host_has_fewer_actions h phase Left on = leaving_leaves_fewer_actions h phase (is_behind_close h.task.goal phase) on
heard_host_has_fewer_actions h phase heard on = spent_action_leaves_fewer h.actions (host_row h.task phase heard) on

-- If a host is still live after it receives a result in its phase, it has fewer actions left.
phase_leaves_fewer_actions : (h : HostState) (phase : Phase) (heard : Heard) → h.phase ≡ phase →
    (IsOverPhase (host_after_phase h phase heard).phase → ⊥)
    → (host_after_phase h phase heard).actions < h.actions
phase_leaves_fewer_actions h (Over r) heard e on = absurd (on (subst IsOverPhase (sym e) tt))
phase_leaves_fewer_actions h (OverUploaded kept) heard e on = absurd (on (subst IsOverPhase (sym e) tt))
phase_leaves_fewer_actions h phase heard e on = heard_host_has_fewer_actions h phase heard on

-- If a host reports nothing after it receives a result, its session has fewer actions left than the host had.
silent_outcome_has_fewer_actions : (h : HostState) (heard : Heard) → (host_outcome h heard).answer.report ≡ None
    → actions_left_of_session (host_outcome h heard).session < h.actions
silent_outcome_has_fewer_actions h heard e =
    let live = silent_host_stays_live (after h heard) (after h heard).phase e in
    subst (λ (s : Session). actions_left_of_session s < h.actions) (sym live.0) (phase_leaves_fewer_actions h h.phase heard refl live.1)

-- Equal Ok results have equal values.
ok_values_are_equal : {A E : Type 0} {x y : A} → ◌≡◌ {A = Result A E} (Ok x) (Ok y) → x ≡ y
ok_values_are_equal e = cc

-- If the event of an action is not refused and reports nothing, fewer actions are left.
silent_event_leaves_fewer : {b b' : LinkView} {fate : Fate} {harm : WriteHarm} {answer : Result Answered LinkFault} →
    EventResult b (Goes fate harm) b' answer
    → report_of_result answer ≡ Ok None → actions_left_of_session b'.session < actions_left_of_session b.session
silent_event_leaves_fewer (refuses why) e = absurd cc
silent_event_leaves_fewer {b = b} {b' = b'} (happens {answer = answer} means play) e =
    let next = (subst (λ (event : Happening). BytePlay b event b' answer) means play).happens in
    let heard = next.gone.acted.heard in
    let none : (host_outcome next.host heard).answer.report ≡ None = ap (λ (a : Answered). a.report) (sym next.answered)
    ∙ ok_values_are_equal e in
    subst (λ (s : Session). actions_left_of_session b'.session < actions_left_of_session s) (sym next.live)
    (subst (λ (s : Session). actions_left_of_session s < next.host.actions) (sym next.session) (silent_outcome_has_fewer_actions next.host
    heard none))

-- If an action is not refused and reports nothing, the session has fewer actions left.
pub silent_action_leaves_fewer : {w w' : WorldView} {fate : Fate} {harm : WriteHarm} (result : Result (Option Report) LinkFault)
    → WorldEventResult w (Goes fate harm) w' result → result ≡ Ok None →
    actions_left_of_session w'.bench.session < actions_left_of_session w.bench.session
silent_action_leaves_fewer result come e = silent_event_leaves_fewer come.comes (sym come.told ∙ e)
