-- Each step of a host in the code leads to the phase that the table gives.
use Rattle.std.proofs.Common.{◌≡◌, ℕ, zero, suc, ◌-◌, List, true, refl, arith}
use Rattle.dfu_wire.specs.declared.codes.Code.{Code}
use Rattle.dfu_wire.specs.declared.codes.Code.TheVariants as code
use Rattle.dfu_wire.specs.declared.states.State.{State}
use Rattle.dfu_wire.specs.declared.states.State.TheVariants as state
use Rattle.dfu_host.specs.declared.report.Report.{Report}
use Rattle.dfu_host.specs.declared.report.Report.TheVariants as report
use Rattle.dfu_host.specs.declared.phase.Phase.{Phase}
use Rattle.dfu_host.specs.declared.phase.Phase.TheVariants as phase
use Rattle.dfu_host.specs.Table as table
use Rattle.dfu_host.specs.Host.{HostState, phase_in_budget, host_after_action, host_after_restart, host_after_result, host_after_phase}
use Rattle.dfu_host.specs.InParts.{phase_of}

-- After the close, a tolerant device's status is handled as in Trouble, unless it is dfuIDLE with OK, dfuMANIFEST-SYNC or dfuMANIFEST.
pub unconfirmed_status_is_trouble : (start : table.Phase) (c : Code) (poll : ℕ) (s : State) → (s ≡ state.DfuIdle → c ≡ code.Ok → ⊥)
    → (s ≡ state.ManifestSync → ⊥) → (s ≡ state.Manifest → ⊥)
    → table.phase_in_trouble start c poll s ≡ table.manifest_phase start true c poll s
unconfirmed_status_is_trouble start code.Ok poll state.DfuIdle a b d = absurd (a refl refl)
unconfirmed_status_is_trouble start c poll state.ManifestSync a b d = absurd (b refl)
unconfirmed_status_is_trouble start c poll state.Manifest a b d = absurd (d refl)
unconfirmed_status_is_trouble start c poll s a b d = refl

-- In Trouble, a status with a state other than dfuERROR leads to the phase that `phase_after_status` gives for its state.
pub trouble_follows_device_state : (start : table.Phase) (c : Code) (poll : ℕ) (s : State) → (s ≡ state.Error → ⊥)
    → table.phase_after_status start s poll ≡ table.phase_in_trouble start c poll s
trouble_follows_device_state start code.Ok poll s a = refl
trouble_follows_device_state start code.StalledPkt poll s a = refl
trouble_follows_device_state start c poll state.Error a = absurd (a refl)
trouble_follows_device_state start c poll s a = refl

-- A host without actions left gives up, unless its phase in the code is over.
pub spent_budget_gives_up : (memory : List ℕ) (p : Phase) (left : ℕ) → ((r : Report) → p ≡ phase.Over r → ⊥) → (p ≡ phase.OverUploaded →
    ⊥) → left ≡ 0
    → table.Over report.GaveUp ≡ phase_in_budget left (phase_of memory p)
spent_budget_gives_up memory p (suc left) never on e = absurd (omega (arith, e))
spent_budget_gives_up memory (phase.Over r) zero never on e = absurd (never r refl)
spent_budget_gives_up memory phase.OverUploaded zero never on e = absurd (on refl)
spent_budget_gives_up memory p zero never on e = refl

-- A host with an action left enters the phase to which its row leads.
pub unspent_budget_keeps_phase : (memory : List ℕ) (p : Phase) (left : ℕ) → (left ≡ 0 → ⊥) → phase_of memory p
    ≡ phase_in_budget left (phase_of memory p)
unspent_budget_keeps_phase memory p zero some = absurd (some refl)
unspent_budget_keeps_phase memory (phase.Over r) (suc left) some = refl
unspent_budget_keeps_phase memory phase.OverUploaded (suc left) some = refl
unspent_budget_keeps_phase memory p (suc left) some = refl

-- If no restarts are left, a restart of the device ends the session with RestartsSpent, unless the session is being aborted.
pub spent_restarts_end_session : (h : HostState) (memory : List ℕ) (p : Phase) (restarts : ℕ) → (p ≡ phase.GiveUp → ⊥) → restarts ≡ 0
    → host_after_action h (table.Over report.RestartsSpent) 0 ≡ host_after_restart h (phase_of memory p) restarts
spent_restarts_end_session h memory p (suc restarts) on e = absurd (omega (arith, e))
spent_restarts_end_session h memory phase.GiveUp zero on e = absurd (on refl)
spent_restarts_end_session h memory phase.Find zero on e = refl
spent_restarts_end_session h memory p zero on e = refl

-- If a restart is left, a restart of the device returns the session to Find, unless the session is being aborted.
pub restart_leads_to_find : (h : HostState) (memory : List ℕ) (p : Phase) (restarts : ℕ) → (p ≡ phase.GiveUp → ⊥) → (restarts ≡ 0 → ⊥)
    → host_after_action h table.Find (restarts - 1) ≡ host_after_restart h (phase_of memory p) restarts
restart_leads_to_find h memory p zero on never = absurd (never refl)
restart_leads_to_find h memory phase.GiveUp (suc restarts) on never = absurd (on refl)
restart_leads_to_find h memory phase.Find (suc restarts) on never = let e : suc restarts - 1 ≡ restarts = omega arith in rw e refl
restart_leads_to_find h memory p (suc restarts) on never = let e : suc restarts - 1 ≡ restarts = omega arith in rw e refl

-- A host whose phase in the code is not over takes a result as a live host.
pub live_host_takes_result_by_row : (h : HostState) (memory : List ℕ) (p : Phase) (heard : table.Heard) → ((r : Report) → p
    ≡ phase.Over r → ⊥)
    → (p ≡ phase.OverUploaded → ⊥) → host_after_result h (phase_of memory p) heard ≡ host_after_phase h (phase_of memory p) heard
live_host_takes_result_by_row h memory (phase.Over r) heard never on = absurd (never r refl)
live_host_takes_result_by_row h memory phase.OverUploaded heard never on = absurd (on refl)
live_host_takes_result_by_row h memory p heard never on = refl
