-- A clean run stops only if there is no memory for a report.
use Rattle.std.proofs.Common.{◌≡◌, ℕ, zero, suc, ◌-◌, ◌<◌, ◌≤◌, true, List, [], ◌∷◌, ◌++◌, take, drop, replicate, Option, Some, None, refl, sym, ap, ◌∙◌, subst, arith}
use Rattle.std.proofs.lemmas.List.{take-replicate}
use Rattle.dfu_device.specs.Stage.{Profile}
use Rattle.dfu_device.specs.Outcome.{Works}
use Rattle.dfu_device.specs.DeviceView.{profile}
use Rattle.dfu_host.specs.declared.limits.Limits.{Limits}
use Rattle.dfu_host.specs.declared.report.Report.{Report}
use Rattle.dfu_sim.specs.Session.{report_list}
use Rattle.dfu_sim.specs.declared.offering.Purpose.{Purpose}
use Rattle.dfu_sim.specs.Happening.{Pass, Happening, Offers, Aborts}
use Rattle.dfu_sim.specs.Play.{Link, PlayResult, next_action_result}
use Rattle.dfu_sim.specs.LinkView.{Session, NoLiveSession, IsLive, LinkView, WorldView}
use Rattle.dfu_sim.specs.CleanRun.{report_of_purpose, PassesTo, QuietPasses, here, there, resting_link}
use Rattle.dfu_sim.specs.Refusing.{IsRefused}
use Rattle.dfu_sim.specs.CleanInstall.{clean_passes, CanInstall, offer_and_passes}
use Rattle.dfu_sim.specs.declared.fault.LinkFault.{LinkFault}
use Rattle.dfu_sim.specs.declared.fault.LinkFault.TheVariants as fault
use Rattle.dfu_sim.specs.Running.{StopsWithFault}
use Rattle.dfu_sim.proofs.Refusals.{taken_offer_is_not_bad}
use Rattle.dfu_sim.proofs.Chains.{Stopped, refusal_stops_run}
use Rattle.dfu_sim.specs.CleanSteps.{StepsFollowTable, no_sure_step, one_step, CleanStepsSucceed}
use Rattle.dfu_sim.proofs.CleanRuns.{chain_steps_are_sure, pass, quiet_passes_report_nothing, offer_opens_session}

-- If a link has no session, passes do not begin one.
no_session_stays : {c : Profile} {w end : Link} {n : ℕ} → QuietPasses c w n end → w.session ≡ NoLiveSession → end.session ≡ NoLiveSession
no_session_stays here e = e
no_session_stays {c = c} {w = w} (there {mid = mid} p q) e =
    let none : (next_action_result c w w.session Pass Works Works true).link.session
    ≡ NoLiveSession = subst (λ (s : Session). (next_action_result c w s Pass Works Works true).link.session ≡ NoLiveSession) (sym e) e in
    no_session_stays q (sym (ap (λ (x : PlayResult). x.link.session) (p Works true)) ∙ none)

-- A pass without a session reports nothing.
no_session_reports_nothing : (c : Profile) (w end : Link) (r : Report) → PassesTo c w end (record { report = Some r; gave = None })
    → w.session ≡ NoLiveSession → ⊥
no_session_reports_nothing c w end r p e =
    let none : (next_action_result c w w.session Pass Works Works true).answer.report
    ≡ None = subst (λ (s : Session). (next_action_result c w s Pass Works Works true).answer.report ≡ None) (sym e) refl in
    let some : (next_action_result c w w.session Pass Works Works true).answer.report
    ≡ Some r = ap (λ (x : PlayResult). x.answer.report) (p Works true) in
    absurd cc

-- If a run stops before the offer of a file that can be installed, its fault is NoMemory.
offer_fails_only_for_memory : (b : LinkView) (purpose : Purpose) (file : List ℕ) (limits : Limits) (payload : List ℕ)
    → CanInstall b purpose file limits payload
    → (why : LinkFault)
    → StopsWithFault b (Offers purpose file limits) why → why ≡ fault.NoMemory
offer_fails_only_for_memory b purpose file limits payload can fault.NoMemory h = refl
offer_fails_only_for_memory b purpose file limits payload can fault.HostBusy h = absurd (subst IsLive can.free h)
offer_fails_only_for_memory b purpose file limits payload can fault.NoHost h = elim h [ ]
offer_fails_only_for_memory b purpose file limits payload can (fault.BadOffer f) h =
    absurd (taken_offer_is_not_bad b.device.config purpose file payload f can.offered h.1)

-- If a run stops before a pass while a session is live, its fault is NoMemory.
pass_fails_only_for_memory : (b : LinkView) → (b.session ≡ NoLiveSession → ⊥) → (why : LinkFault) → StopsWithFault b pass why → why
    ≡ fault.NoMemory
pass_fails_only_for_memory b live fault.NoMemory h = refl
pass_fails_only_for_memory b live fault.NoHost h = absurd (live h)
pass_fails_only_for_memory b live why h = elim h [ ]

-- In a list of `count` passes, the event after the first k is a pass too, and k is less than `count`.
next_of_passes_is_pass : (count k : ℕ) {next : Happening} {more : List Happening} → drop k (replicate count pass) ≡ next ∷ more
    → (k < count) × (next ≡ pass)
next_of_passes_is_pass zero zero e = absurd cc
next_of_passes_is_pass zero (suc k) e = absurd cc
next_of_passes_is_pass (suc count) zero e = (omega arith, cc)
next_of_passes_is_pass (suc count) (suc k) e = let x = next_of_passes_is_pass count k e in (omega (arith, x.0), x.1)

-- No event is refused with NoMemory, because only a run has that fault.
no_event_is_refused_for_memory : (b : LinkView) (h : Happening) → ¬ IsRefused b h fault.NoMemory
no_event_is_refused_for_memory b Aborts refused = refused
no_event_is_refused_for_memory b h refused = refused

-- If a clean run stops before an event, its fault is NoMemory.
clean_run_stops_for_memory : {b b' : LinkView} {next : Happening} {more : List Happening} {why : LinkFault} {reports : List Report}
    (purpose : Purpose)
    (file : List ℕ)
    (limits : Limits) (payload : List ℕ) (count at : ℕ) → CanInstall b purpose file limits payload
    → count ≤ clean_passes purpose b.device.config payload → drop at (offer_and_passes purpose file limits count) ≡ next ∷ more
    → StepsFollowTable b (take at (offer_and_passes purpose file limits count)) reports b' → StopsWithFault b' next why
    → (why ≡ fault.NoMemory) × (reports ≡ [])
clean_run_stops_for_memory {b = b} {next = next} {why = why} purpose file limits payload count zero can most next_is no_sure_step stop =
    let same : next ≡ Offers purpose file limits = cc in
    (offer_fails_only_for_memory b purpose file limits payload can why (subst (λ (h : Happening). StopsWithFault b h why) same stop), refl)
clean_run_stops_for_memory {b = b} {b' = b'} {why = why} purpose file limits payload count (suc k) can most next_is
    (one_step {mid = mid} {report = report} {reports = later} s more) stop =
    let n : ℕ = clean_passes purpose b.device.config payload in
    let y = next_of_passes_is_pass count k next_is in
    let x = offer_opens_session b mid report purpose file limits payload can s in
    let cut : take k (replicate count pass) ≡ replicate k pass = take-replicate k count pass (omega (arith, y.0)) in
    let q = quiet_passes_report_nothing k (n - 1) (omega (arith, y.0, most))
    (subst (λ (hs : List Happening). StepsFollowTable mid hs later b')
    cut more) x.fixed
    x.quiet in (
      pass_fails_only_for_memory b' (λ e. no_session_reports_nothing (profile b.device) x.before (resting_link payload) (report_of_purpose
          purpose) x.last
          (no_session_stays q.rest e)) why (subst (λ (h : Happening). StopsWithFault b' h why) y.1 stop),
      ap (λ (r : Option Report). report_list r ++ later) x.told ∙ q.none,
    )

-- If a run of an offer and at most the passes of a clean run stops early, there was no memory for a report, and nothing was reported.
pub stopped_clean_run_lacked_memory : {w w' : WorldView} {hs : List Happening} {why : LinkFault} {at : ℕ} {reports : List Report}
    → Stopped w hs why at reports w' → (purpose : Purpose) (file : List ℕ) (limits : Limits) (payload : List ℕ) (count : ℕ)
    → CanInstall w.bench purpose file limits payload → hs ≡ offer_and_passes purpose file limits count
    → count ≤ clean_passes purpose w.bench.device.config payload → (why ≡ fault.NoMemory) × (reports ≡ [])
stopped_clean_run_lacked_memory {w = w} {w' = w'} {at = at} {reports = reports} s purpose file limits payload count can is most =
    clean_run_stops_for_memory purpose file limits payload count at can most
    (subst (λ (hs : List Happening). drop at hs ≡ s.runs.next ∷ s.runs.more) is s.runs.here)
    (subst (λ (hs : List Happening). StepsFollowTable w.bench (take at hs) reports w'.bench) is (chain_steps_are_sure s.chain)) s.runs.why

-- If the first steps of a clean run follow the table, its next step is not refused.
pub clean_steps_succeed : CleanStepsSucceed
clean_steps_succeed b b' purpose file limits payload count at reports next more why can most steps next_is refused =
    let x = clean_run_stops_for_memory purpose file limits payload count at can most next_is steps (refusal_stops_run b' next why refused)
    in
    no_event_is_refused_for_memory b' next (subst (λ (f : LinkFault). IsRefused b' next f) x.0 refused)
