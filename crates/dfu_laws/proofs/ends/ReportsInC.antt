-- A session in C ends with the same report as the session of its host.
use Rattle.std.specs.Prelude.{◌≡◌, ◌<◌, ℕ, Bool, true, false, if◌then◌else◌, max, List, take, Option, Some, None}
use Rattle.std.proofs.Common.{refl, sym, ap, ◌∙◌, subst}
use Rattle.dfu_host.specs.declared.report.Report.{Report}
use Rattle.dfu_host.specs.declared.report.Report.TheVariants.{Uploaded}
use Rattle.dfu_host.specs.declared.phase.Phase.{Phase as CodePhase}
use Rattle.dfu_host.specs.declared.phase.Phase.TheVariants as phase
use Rattle.dfu_host.specs.Phases.{Wait, Reset, Done, Phase, Enter, Over, OverUploaded, Heard}
use Rattle.dfu_host.specs.Table.{deed}
use Rattle.dfu_host.specs.Host.{HostState, after, host_given_up_in_phase}
use Rattle.dfu_host.specs.InParts.{phase_of}
use Rattle.dfu_host.specs.Counting.{ReportsNoBytes, KeptBytesAreCounted}
use Rattle.dfu_host.specs.CountingLaws.{heard_host_stays_counted}
use Rattle.dfu_sim.specs.LinkView.{NoLiveSession, HostSession}
use Rattle.dfu_sim.specs.Play.{Answered, silent, HostOutcome, settled_session, host_outcome}
use Rattle.dfu_sim.specs.LinkInvariant.{SessionIsCounted}
use Rattle.dfu_host_core.specs.Runs.{CoreHost, CoreHostMatches, NextIsHostAction}
use Rattle.dfu_laws.specs.ends.Sessions.{CoreSession, NoSession, InSession, IsSessionOf, bytes_of_report, SessionSettles, stays_live, is_over}
use Rattle.dfu_laws.proofs.ends.Actions.{told, host_is_done_only_by_action_3}

-- If a session ended with an upload, the bytes that the session kept are the bytes in its memory.
over_phase_keeps_memory : (memory kept : List ℕ) (p : CodePhase) → phase_of memory p ≡ OverUploaded kept → kept ≡ memory
over_phase_keeps_memory memory kept phase.OverUploaded e = sym (same_phase_keeps_same_bytes _ _ e)
  where
    bytes_kept_in_phase : Phase → List ℕ
    bytes_kept_in_phase (OverUploaded l) = l
    bytes_kept_in_phase other = memory

    same_phase_keeps_same_bytes : (a b : List ℕ) → OverUploaded a ≡ OverUploaded b → a ≡ b
    same_phase_keeps_same_bytes a b e = ap bytes_kept_in_phase e
over_phase_keeps_memory memory kept p e = absurd cc

report_gives_no_bytes : (report : Report) (bytes : List ℕ) → ReportsNoBytes report →
    ◌≡◌ {A = Option (List ℕ)} None (bytes_of_report report bytes)
report_gives_no_bytes Uploaded bytes c = absurd c
report_gives_no_bytes report bytes c = refl

enter_deed_is_not_done : (will_detach : Bool) (ms : ℕ) (report : Report) → (if will_detach then Wait ms else Reset) ≡ Done report → ⊥
enter_deed_is_not_done true ms report e = absurd cc
enter_deed_is_not_done false ms report e = absurd cc

-- If the next action of a host is to report, its session ends with that report.
done_host_ends_its_session : (h : HostState) (p : Phase) (bytes : List ℕ) (report : Report) → deed h.task p ≡ Done report
    → ((kept : List ℕ) → p ≡ OverUploaded kept → kept ≡ bytes) → KeptBytesAreCounted h.task p
    → settled_session h p ≡ record {
      session = NoLiveSession;
      answer = record { report = Some report; gave = bytes_of_report report bytes };
    }
done_host_ends_its_session h (Over r) bytes report e keeps c =
    let same : r ≡ report = cc in
    let none = report_gives_no_bytes report bytes (subst ReportsNoBytes same c) in
    λ i. record { session = NoLiveSession; answer = record { report = Some (same i); gave = none i } }
done_host_ends_its_session h (OverUploaded kept) bytes report e keeps c =
    let same : Uploaded ≡ report = cc in
    let it = keeps kept refl in
    λ i. record { session = NoLiveSession; answer = record { report = Some (same i); gave = bytes_of_report (same i) (it i) } }
done_host_ends_its_session h Enter bytes report e keeps c = absurd (enter_deed_is_not_done h.task.will_detach (max 1 h.task.detach_ms)
    report e)
done_host_ends_its_session h p bytes report e keeps c = absurd cc

-- If the next action of a host is not to report, its session stays live.
host_not_done_stays_live : (h : HostState) (p : Phase) → ((report : Report) → deed h.task p ≡ Done report → ⊥)
    → settled_session h p ≡ record { session = HostSession h; answer = silent }
host_not_done_stays_live h (Over r) never = absurd (never r refl)
host_not_done_stays_live h (OverUploaded kept) never = absurd (never Uploaded refl)
host_not_done_stays_live h p never = refl

-- After this outcome, the host's session is the session in C, and both have the same report.
pub record SettlesAsCoreSession (t : HostOutcome) (answer : Answered) (s' : CoreSession) : Type 0 where
  pub answer_is : t.answer ≡ answer
  -- The session in C is that of the host.
  pub is : IsSessionOf s' t.session
  -- While the host's session fetches part k of an upload, it holds k full parts.
  pub counted : SessionIsCounted t.session

module _ (tells : NextIsHostAction) (payload : List ℕ) (x : CoreHost) (h : HostState) (here : CoreHostMatches payload x h) where
  over_host_keeps_its_buffer : (kept : List ℕ) → h.phase ≡ OverUploaded kept → kept ≡ take x.kept.kept x.buffer
  over_host_keeps_its_buffer kept e = over_phase_keeps_memory (take x.kept.kept x.buffer) kept here.parts.phase (ap (λ (s : HostState).
      s.phase) here.is ∙ e)

  pub settled_session_is_core_session : (answer : Answered) (s' : CoreSession) → KeptBytesAreCounted h.task h.phase →
      SessionSettles payload x answer s'
      → SettlesAsCoreSession (settled_session h h.phase) answer s'
  settled_session_is_core_session _ _ c (stays_live a wants on) =
      let e = host_not_done_stays_live h h.phase (host_is_done_only_by_action_3 tells payload x h here a wants on) in
      record {
        answer_is = ap (λ (t : HostOutcome). t.answer) e;
        is = subst (λ (t : HostOutcome). IsSessionOf (InSession payload x) t.session) (sym e) here;
        counted = subst (λ (t : HostOutcome). SessionIsCounted t.session) (sym e) c;
      }
  settled_session_is_core_session _ _ c (is_over a report wants what says) =
      let done = (told tells payload x h here a wants).report report what says in
      let e = done_host_ends_its_session h h.phase (take x.kept.kept x.buffer) report done over_host_keeps_its_buffer c in
      record {
        answer_is = ap (λ (t : HostOutcome). t.answer) e;
        is = subst (λ (t : HostOutcome). IsSessionOf NoSession t.session) (sym e) tt;
        counted = subst (λ (t : HostOutcome). SessionIsCounted t.session) (sym e) tt;
      }

  -- The transfer size of the session is at least one byte.
  pub sized : 0 < h.task.transfer
  sized = subst (λ (s : HostState). 0 < s.task.transfer) here.is here.held.stands.sound.transfers

-- After any result that a host receives, the host's session is the session in C, and both sessions have the same report.
pub host_outcome_is_core_session : (tells : NextIsHostAction) (payload : List ℕ) (x' : CoreHost) (h : HostState) (heard : Heard) (answer
    : Answered) (s' : CoreSession)
    → 0 < h.task.transfer → KeptBytesAreCounted h.task h.phase → CoreHostMatches payload x' (after h heard) →
    SessionSettles payload x' answer s'
    → SettlesAsCoreSession (host_outcome h heard) answer s'
host_outcome_is_core_session tells payload x' h heard answer s' some c now settles =
    settled_session_is_core_session tells payload x' (after h heard) now answer s' (heard_host_stays_counted h heard some c) settles

-- If the program aborts a host, `KeptBytesAreCounted` still holds.
pub aborted_host_is_counted : (h : HostState) (p : Phase) → h.phase ≡ p → KeptBytesAreCounted h.task p
    → KeptBytesAreCounted (host_given_up_in_phase h p).task (host_given_up_in_phase h p).phase
aborted_host_is_counted h (Over r) e c = subst (λ (q : Phase). KeptBytesAreCounted h.task q) (sym e) c
aborted_host_is_counted h (OverUploaded kept) e c = subst (λ (q : Phase). KeptBytesAreCounted h.task q) (sym e) c
aborted_host_is_counted h p e c = tt
