-- The budget of actions: a host is done in time, and stays done.
use Rattle.std.specs.Prelude.{◌≡◌, ℕ, ◌≤◌, max, Bool, true, false, List, length}
use Rattle.dfu_host.specs.declared.action.Action.{Action}
use Rattle.dfu_host.specs.declared.action.Action.TheVariants as action
use Rattle.dfu_host.specs.declared.seen.Seen.{Seen}
use Rattle.dfu_host.specs.Phases.{Phase, Over, OverUploaded}
use Rattle.dfu_host.specs.Host.{HostState, IsOverPhase, HostRows}

-- Number of results that a host in a phase may still take: as many as it has actions left, but at least one, and none once the session is
-- over.
abbrev pub most_results_in : Phase → (actions : ℕ) → ℕ
most_results_in (Over r) actions = 0
most_results_in (OverUploaded kept) actions = 0
most_results_in phase actions = max 1 actions

-- Number of results that a host may still take.
abbrev pub remaining_results : HostState → ℕ
remaining_results h = most_results_in h.phase h.actions

-- True if the action is Done.
abbrev pub is_done : Action → Bool
is_done (action.Done report) = true
is_done (action.Send setup body) = false
is_done (action.Wait ms) = false
is_done action.Reset = false

-- For any results, a host is done after as many results as it has actions left, or after one if it has no actions left.
abbrev pub FinishesInTime : Type 0
FinishesInTime =
    (h h' : HostState) (seens : List Seen) → HostRows h seens h' → max 1 h.actions ≤ length seens → IsOverPhase h'.phase

-- No list of results changes a host that is done.
abbrev pub FinishedHostIsStable : Type 0
FinishedHostIsStable = (h h' : HostState) (seens : List Seen) → HostRows h seens h' → IsOverPhase h.phase → h' ≡ h
