-- Each call of `take` uses an action, so a session ends in time. A session that is over doesn't change.
use Rattle.std.proofs.Common.{◌≡◌, ℕ, zero, suc, pred, ◌-◌, ◌≤◌, max, List, [], ◌∷◌, length, refl, sym, ap, ◌∙◌, subst, arith}
use Rattle.dfuse_host.specs.declared.phase.Phase.{Phase}
use Rattle.dfuse_host.specs.declared.phase.Phase.TheVariants.{On, Over}
use Rattle.dfuse_host.specs.declared.phase.Standing.{Standing}
use Rattle.dfuse_host.specs.declared.work.Work.{Work}
use Rattle.dfuse_host.specs.declared.work.Work.TheVariants as work
use Rattle.dfuse_host.specs.declared.place.Place.{Place}
use Rattle.dfuse_host.specs.declared.step.Step.{Step}
use Rattle.dfuse_host.specs.declared.step.Step.TheVariants as step
use Rattle.dfuse_host.specs.declared.heard.Heard.{Heard}
use Rattle.dfuse_host.specs.declared.heard.Heard.TheVariants as heard
use Rattle.dfuse_host.specs.declared.seen.Seen.{Seen}
use Rattle.dfuse_host.specs.declared.report.Report.TheVariants as report
use Rattle.dfuse_host.specs.declared.report.Leaving.TheVariants as leaving
use Rattle.dfuse_host.specs.declared.session.Session.{Session}
use Rattle.dfuse_host.specs.Table.{row}
use Rattle.dfuse_host.specs.Sessions.{phase_within_budget, session_after_action, phase_without_actions, phase_resumed, session_with_restart_taken, restarted_leaving, session_after_restart, session_after_step_heard, session_after_phase_heard, DfuseSeenMeaningIn, SessionRow, SessionRows, seen_all, sees, DfuseIsOver, most_dfuse_inputs_in, remaining_dfuse_inputs}
use Rattle.dfuse_host.specs.Budget.{OverInTime, OverSessionIsStable}

spent_phase_takes_nothing : (w : Work) (s : Step) (n : ℕ) → most_dfuse_inputs_in (phase_without_actions w s) n ≡ 0
spent_phase_takes_nothing work.Leave s n = refl
spent_phase_takes_nothing w s n = refl

budgeted_inputs_at_most_left : (left : ℕ) (phase : Phase) → most_dfuse_inputs_in (phase_within_budget left phase) left ≤ left
budgeted_inputs_at_most_left left (Over r) = omega arith
budgeted_inputs_at_most_left zero (On s) = omega (arith, spent_phase_takes_nothing s.work s.step 0)
budgeted_inputs_at_most_left (suc left) (On s) = omega arith

action_uses_up_one_input : (s : Session) (phase : Phase) (restarts : ℕ) →
    remaining_dfuse_inputs (session_after_action s phase restarts) ≤ pred s.actions
action_uses_up_one_input s phase restarts = budgeted_inputs_at_most_left (pred s.actions) phase

taken_restart_uses_up_one_input : (s : Session) (phase : Phase) (restarts : ℕ) →
    remaining_dfuse_inputs (session_with_restart_taken s phase restarts) ≤ pred s.actions
taken_restart_uses_up_one_input s phase zero = action_uses_up_one_input s (Over report.RestartsSpent) zero
taken_restart_uses_up_one_input s phase (suc restarts) = action_uses_up_one_input s phase restarts

leaving_restart_uses_one_input : (s : Session) (p : Place) (at : Step) → remaining_dfuse_inputs (restarted_leaving s p at) ≤ pred s.actions
leaving_restart_uses_one_input s p step.Close = action_uses_up_one_input s (Over (report.Verified leaving.Unknown)) s.restarts
leaving_restart_uses_one_input s p step.CloseProbe = action_uses_up_one_input s (Over (report.Verified leaving.Unknown)) s.restarts
leaving_restart_uses_one_input s p step.ClosePoll = action_uses_up_one_input s (Over (report.Verified leaving.Unknown)) s.restarts
leaving_restart_uses_one_input s p at = taken_restart_uses_up_one_input s (phase_resumed s.plan work.Leave p at) s.restarts

restart_uses_up_one_input : (s : Session) (w : Work) (p : Place) (at : Step) → remaining_dfuse_inputs (session_after_restart s w p at)
    ≤ pred s.actions
restart_uses_up_one_input s work.Leave p at = leaving_restart_uses_one_input s p at
restart_uses_up_one_input s w p at = taken_restart_uses_up_one_input s (phase_resumed s.plan w p at) s.restarts

heard_step_uses_up_one_input : (s : Session) (w : Work) (p : Place) (at : Step) (h : Heard)
    → remaining_dfuse_inputs (session_after_step_heard s w p at h) ≤ pred s.actions
heard_step_uses_up_one_input s w p at heard.Restarted = restart_uses_up_one_input s w p at
heard_step_uses_up_one_input s w p at h = action_uses_up_one_input s (row s.plan w p at h) s.restarts

-- A call of `take` reduces the number of results that a session may still take, unless the session is over.
pub live_session_uses_up_one_input : (s : Session) (at : Standing) (h : Heard) → s.phase ≡ On at →
    remaining_dfuse_inputs (session_after_step_heard s at.work at.place at.step h) ≤ remaining_dfuse_inputs s - 1
live_session_uses_up_one_input s at h e =
    let now : remaining_dfuse_inputs s ≡ max 1 s.actions = ap (λ (p : Phase). most_dfuse_inputs_in p s.actions) e in
    omega (arith, now, heard_step_uses_up_one_input s at.work at.place at.step h)

over_phase_takes_any_result : (s : Session) (seen : Seen) (p : Phase) → s.phase ≡ p → ((at : Standing) → p ≡ On at → ⊥)
    → SessionRow s seen s
over_phase_takes_any_result s seen (On at) e h = absurd (h at refl)
over_phase_takes_any_result s seen (Over r) e h = record {
  heard = heard.Nothing;
  hears = subst (λ (p : Phase). DfuseSeenMeaningIn s.plan p seen heard.Nothing) (sym e) tt;
  same = sym (ap (λ (p : Phase). session_after_phase_heard s p heard.Nothing) e);
}

-- A session that is over takes any result and stays unchanged.
pub over_session_takes_any_result : (s : Session) (seen : Seen) → ((at : Standing) → s.phase ≡ On at → ⊥) → SessionRow s seen s
over_session_takes_any_result s seen h = over_phase_takes_any_result s seen s.phase refl h

over_phase_stays : (s : Session) (phase : Phase) (h : Heard) → DfuseIsOver phase → session_after_phase_heard s phase h ≡ s
over_phase_stays s (Over r) h over = refl
over_phase_stays s (On at) h over = absurd over

row_keeps_over_session : (s s' : Session) (seen : Seen) → SessionRow s seen s' → DfuseIsOver s.phase → s' ≡ s
row_keeps_over_session s s' seen step over = step.same ∙ over_phase_stays s s.phase step.heard over

-- A session that is over never changes.
pub over_session_never_changes : OverSessionIsStable
over_session_never_changes s s' [] seen_all over = refl
over_session_never_changes s s' (seen ∷ more) (sees {mid = mid} step rows) over =
    let e : mid ≡ s = row_keeps_over_session s mid seen step over in
    over_session_never_changes mid s' more rows (subst (λ (z : Session). DfuseIsOver z.phase) (sym e) over) ∙ e

heard_phase_uses_up_one_input : (s : Session) (p : Phase) (h : Heard) → s.phase ≡ p
    → remaining_dfuse_inputs (session_after_phase_heard s p h) ≤ remaining_dfuse_inputs s - 1
heard_phase_uses_up_one_input s (Over r) h e = omega (arith, ap (λ (p : Phase). most_dfuse_inputs_in p s.actions) e)
heard_phase_uses_up_one_input s (On at) h e = live_session_uses_up_one_input s at h e

row_uses_up_one_dfuse_input : (s s' : Session) (seen : Seen) → SessionRow s seen s'
    → remaining_dfuse_inputs s' ≤ remaining_dfuse_inputs s - 1
row_uses_up_one_dfuse_input s s' seen step =
    subst (λ (z : Session). remaining_dfuse_inputs z ≤ remaining_dfuse_inputs s - 1) (sym step.same)
    (heard_phase_uses_up_one_input s s.phase
    step.heard refl)

rows_use_up_dfuse_inputs : (s s' : Session) (seens : List Seen) → SessionRows s seens s' → remaining_dfuse_inputs s ≤ length seens
    → remaining_dfuse_inputs s' ≡ 0
rows_use_up_dfuse_inputs s s' [] seen_all l = omega (arith, l)
rows_use_up_dfuse_inputs s s' (seen ∷ more) (sees {mid = mid} step rows) l = rows_use_up_dfuse_inputs mid s' more rows (omega (
  arith,
  l,
  row_uses_up_one_dfuse_input s mid seen step,
))

no_inputs_left_means_over : (p : Phase) (n : ℕ) → most_dfuse_inputs_in p n ≡ 0 → DfuseIsOver p
no_inputs_left_means_over (Over r) n h = tt
no_inputs_left_means_over (On at) n h = absurd (omega (arith, h))

most_inputs_at_most_actions : (p : Phase) (n : ℕ) → most_dfuse_inputs_in p n ≤ max 1 n
most_inputs_at_most_actions (Over r) n = omega arith
most_inputs_at_most_actions (On at) n = omega arith

-- A session is over after as many calls of `take` as it has actions, or after one if it has none.
pub session_over_within_actions : OverInTime
session_over_within_actions s s' seens rows l =
    no_inputs_left_means_over s'.phase s'.actions (rows_use_up_dfuse_inputs s s' seens rows (omega (
      arith,
      l,
      most_inputs_at_most_actions
          s.phase s.actions,
    )))
