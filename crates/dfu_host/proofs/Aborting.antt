-- A session that its caller aborts ends as Aborted, and the abort spends no action.
use Rattle.std.proofs.Common.{◌≡◌, refl, sym, ap, ◌∙◌, subst}
use Rattle.dfu_host.specs.declared.report.Report.TheVariants as report
use Rattle.dfu_host.specs.Phases.{Phase, Over, OverUploaded, GiveUp, Heard, Restarted, Left}
use Rattle.dfu_host.specs.Host.{HostState, IsLivePhase, host_after_phase, host_given_up_in_phase, aborted_host}
use Rattle.dfu_host.specs.Budget.{most_results_in, remaining_results}
use Rattle.dfu_host.specs.Aborting.{AbortIsFinal, AbortSpendsNoAction}

-- Aborting a live host puts it in phase GiveUp.
live_host_comes_to_give_up : (h : HostState) (phase : Phase) → IsLivePhase phase → (host_given_up_in_phase h phase).phase ≡ GiveUp
live_host_comes_to_give_up h (Over r) on = elim on [ ]
live_host_comes_to_give_up h (OverUploaded kept) on = elim on [ ]
live_host_comes_to_give_up h phase on = refl

-- In phase GiveUp, every result ends the host as Aborted.
given_up_host_ends_aborted : (h : HostState) (heard : Heard) → (host_after_phase h GiveUp heard).phase ≡ Over report.Aborted
given_up_host_ends_aborted h Restarted = refl
given_up_host_ends_aborted h Left = refl
given_up_host_ends_aborted h heard = refl

-- An aborted live host ends as Aborted with the next result.
pub abort_is_final : AbortIsFinal
abort_is_final h h' seen on step =
    ap (λ (z : HostState). z.phase) step.same
    ∙ subst (λ (p : Phase). (host_after_phase (aborted_host h) p step.heard).phase
    ≡ Over report.Aborted) (sym (live_host_comes_to_give_up h h.phase on))
    (given_up_host_ends_aborted (aborted_host h) step.heard)

-- Aborting a host doesn't change the number of results that it may still take.
abort_keeps_most_inputs : (h : HostState) (phase : Phase) → most_results_in phase h.actions ≡ remaining_results h
    → remaining_results (host_given_up_in_phase h phase) ≡ most_results_in phase h.actions
abort_keeps_most_inputs h (Over r) e = sym e
abort_keeps_most_inputs h (OverUploaded kept) e = sym e
abort_keeps_most_inputs h phase e = refl

pub abort_spends_no_action : AbortSpendsNoAction
abort_spends_no_action h = abort_keeps_most_inputs h h.phase refl
