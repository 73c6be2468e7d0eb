-- Each `take` spends one action of a host's budget, so the host is done in time, and stays done.
use Rattle.std.proofs.Common.{◌≡◌, ◌↔◌, ℕ, zero, suc, pred, ◌≤◌, max, Bool, true, false, if◌then◌else◌, IsTrue, List, [], ◌∷◌, length, refl, sym, ◌∙◌, subst, arith}
use Rattle.dfu_host.specs.declared.action.Action.{Action}
use Rattle.dfu_host.specs.declared.action.Action.TheVariants as action
use Rattle.dfu_host.specs.declared.report.Report.TheVariants.{Unconfirmed}
use Rattle.dfu_host.specs.declared.seen.Seen.{Seen}
use Rattle.dfu_host.specs.Phases.{Task, Phase, Enter, Last, Over, OverUploaded, GiveUp, Find, Deed, Send, Wait, Reset, Done, Heard, WasReset, Restarted, Left}
use Rattle.dfu_host.specs.BehindClose.{is_behind_close}
use Rattle.dfu_host.specs.Table.{deed, host_row}
use Rattle.dfu_host.specs.Wire.{SpellsDeed}
use Rattle.dfu_host.specs.Host.{HostState, IsOverPhase, phase_in_budget, host_after_restart, host_after_leaving, host_after_result, host_after_phase, Act, HostRow, HostRows, seen_all, sees}
use Rattle.dfu_host.specs.Budget.{most_results_in, remaining_results, is_done, FinishesInTime, FinishedHostIsStable}

-- A result doesn't change a host that is done.
finished_host_stays : (h : HostState) (phase : Phase) (heard : Heard) → IsOverPhase phase → host_after_phase h phase heard ≡ h
finished_host_stays h (Over r) heard over = refl
finished_host_stays h (OverUploaded kept) heard over = refl
finished_host_stays h phase heard over = elim over [ ]

-- A `take` doesn't change a host that is done.
pub row_keeps_finished_host : (h h' : HostState) (seen : Seen) → HostRow h seen h' → IsOverPhase h.phase → h' ≡ h
row_keeps_finished_host h h' seen step over = step.same ∙ finished_host_stays h h.phase step.heard over

pub finished_host_is_stable : FinishedHostIsStable
finished_host_is_stable h h' [] seen_all over = refl
finished_host_is_stable h h' (seen ∷ more) (sees {mid = mid} step rows) over =
    let e : mid ≡ h = row_keeps_finished_host h mid seen step over in
    finished_host_is_stable mid h' more rows (subst (λ (z : HostState). IsOverPhase z.phase) (sym e) over) ∙ e

-- After the budget check, a host with `left` actions may take at most `left` more results.
spent_action_bounds_inputs : (left : ℕ) (phase : Phase) → most_results_in (phase_in_budget left phase) left ≤ left
spent_action_bounds_inputs left (Over r) = omega arith
spent_action_bounds_inputs left (OverUploaded kept) = omega arith
spent_action_bounds_inputs zero phase = omega arith
spent_action_bounds_inputs (suc left) Find = omega arith
spent_action_bounds_inputs (suc left) phase = omega arith

-- After a restart, a host may take at most as many results as it has actions left.
restart_lowers_inputs : (h : HostState) (phase : Phase) (restarts : ℕ) → remaining_results (host_after_restart h phase restarts)
    ≤ pred h.actions
restart_lowers_inputs h GiveUp restarts = omega arith
restart_lowers_inputs h phase zero = omega arith
restart_lowers_inputs h phase (suc restarts) = spent_action_bounds_inputs (pred h.actions) Find

-- After its device left, a host may take at most as many results as it has actions left.
leaving_lowers_remaining_inputs : (h : HostState) (phase : Phase) (behind : Bool) →
    remaining_results (host_after_leaving h phase behind) ≤ pred h.actions
leaving_lowers_remaining_inputs h phase true = spent_action_bounds_inputs (pred h.actions) (host_row h.task (Last Unconfirmed) WasReset)
leaving_lowers_remaining_inputs h phase false = restart_lowers_inputs h phase h.restarts

-- After any result, a live host may take at most as many results as it has actions left.
heard_result_lowers_inputs : (h : HostState) (phase : Phase) (heard : Heard) → remaining_results (host_after_result h phase heard)
    ≤ pred h.actions
heard_result_lowers_inputs h phase Restarted = restart_lowers_inputs h phase h.restarts
heard_result_lowers_inputs h phase Left = leaving_lowers_remaining_inputs h phase (is_behind_close h.task.goal phase)
heard_result_lowers_inputs h phase heard = spent_action_bounds_inputs (pred h.actions) (host_row h.task phase heard)

-- Each result in a phase lowers the number of results that a host may still take by at least one, unless it is 0.
phase_lowers_inputs : (h : HostState) (phase : Phase) (heard : Heard) → most_results_in phase h.actions ≡ remaining_results h
    → remaining_results (host_after_phase h phase heard) ≤ pred (most_results_in phase h.actions)
phase_lowers_inputs h (Over r) heard e = omega (arith, e)
phase_lowers_inputs h (OverUploaded kept) heard e = omega (arith, e)
phase_lowers_inputs h Find heard e = omega (arith, heard_result_lowers_inputs h Find heard)
phase_lowers_inputs h phase heard e = omega (arith, heard_result_lowers_inputs h phase heard)

-- Each `take` lowers the number of results that a host may still take by at least one, unless it is 0.
pub row_uses_up_one_input : (h h' : HostState) (seen : Seen) → HostRow h seen h' → remaining_results h' ≤ pred (remaining_results h)
row_uses_up_one_input h h' seen step = rw step.same (phase_lowers_inputs h h.phase step.heard refl)

-- A host that may take no more results is done.
no_inputs_left_is_over : (phase : Phase) (actions : ℕ) → most_results_in phase actions ≡ 0 → IsOverPhase phase
no_inputs_left_is_over (Over r) actions e = tt
no_inputs_left_is_over (OverUploaded kept) actions e = tt
no_inputs_left_is_over Find actions e = absurd (omega (arith, e))
no_inputs_left_is_over phase actions e = absurd (omega (arith, e))

-- A host may take at most max(1, actions) more results.
most_inputs_are_bounded : (phase : Phase) (actions : ℕ) → most_results_in phase actions ≤ max 1 actions
most_inputs_are_bounded (Over r) actions = omega arith
most_inputs_are_bounded (OverUploaded kept) actions = omega arith
most_inputs_are_bounded Find actions = omega arith
most_inputs_are_bounded phase actions = omega arith

-- After at least as many results as a host may still take, it may take no more.
rows_use_up_inputs : (h h' : HostState) (seens : List Seen) → HostRows h seens h' → remaining_results h ≤ length seens →
    remaining_results h' ≡ 0
rows_use_up_inputs h h' [] seen_all l = omega (arith, l)
rows_use_up_inputs h h' (seen ∷ more) (sees {mid = mid} step rows) l = rows_use_up_inputs mid h' more rows (omega (
  arith,
  l,
  row_uses_up_one_input h
      mid seen step,
))

-- A host is done after as many results as it has actions left, or after one if it has none left.
pub done_in_time : FinishesInTime
done_in_time h h' seens rows l =
    no_inputs_left_is_over h'.phase h'.actions (rows_use_up_inputs h h' seens rows (omega (
      arith,
      l,
      most_inputs_are_bounded h.phase
          h.actions,
    )))

-- True if the deed is Done, which contains the report.
abbrev pub tells : Deed → Bool
tells (Done r) = true
tells d = false

-- An action is Done exactly if its deed is Done.
spelled_deed_is_done : (d : Deed) (a : Action) → SpellsDeed d a → is_done a ≡ tells d
spelled_deed_is_done (Done r) (action.Done given) h = refl
spelled_deed_is_done (Wait ms) (action.Wait given) h = refl
spelled_deed_is_done Reset action.Reset h = refl
spelled_deed_is_done (Send q body) (action.Send setup given) h = refl
spelled_deed_is_done d a h = elim h [ ]

-- The deed of phase Enter is a wait or a reset, so it is not Done.
enter_deed_is_never_done : (b : Bool) (ms : ℕ) → tells (if b then Wait ms else Reset) ≡ false
enter_deed_is_never_done true ms = refl
enter_deed_is_never_done false ms = refl

-- The deed of a phase is Done exactly if the host may take no more results.
final_deed_has_no_inputs_left : (task : Task) (phase : Phase) (actions : ℕ) →
    IsTrue (tells (deed task phase)) ↔ (most_results_in phase actions ≡ 0)
final_deed_has_no_inputs_left task (Over r) actions = (λ h. refl, λ e. refl)
final_deed_has_no_inputs_left task (OverUploaded kept) actions = (λ h. refl, λ e. refl)
final_deed_has_no_inputs_left task Enter actions = rw (enter_deed_is_never_done task.will_detach (max 1 task.detach_ms)) (
  λ h. absurd
      cc,
  λ e. absurd (omega (arith, e)),
)
final_deed_has_no_inputs_left task phase actions = (λ h. absurd cc, λ e. absurd (omega (arith, e)))

-- The action of a host is Done exactly if the host may take no more results.
pub final_action_has_no_inputs_left : (h : HostState) (a : Action) → Act h a → IsTrue (is_done a) ↔ (remaining_results h ≡ 0)
final_action_has_no_inputs_left h a spells = rw (spelled_deed_is_done (deed h.task h.phase) a spells) (final_deed_has_no_inputs_left h.task
    h.phase h.actions)
