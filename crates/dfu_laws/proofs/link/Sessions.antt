-- Session facts after a session begins, and after the host's program aborts a live session.
use Rattle.std.specs.Prelude.{◌≡◌, ℕ, ◌<◌, Bool, true, List, [], ◌∷◌, length, Option, Some}
use Rattle.std.proofs.Common.{inr, refl, sym, ◌∙◌, subst}
use Rattle.dfu_device.specs.Stage.{Profile, Stage, InManifestSync, InManifest}
use Rattle.dfu_device.specs.Outcome.{Situation, Works}
use Rattle.dfu_host.specs.declared.limits.Limits.{Limits}
use Rattle.dfu_host.specs.declared.report.Report.{Report}
use Rattle.dfu_host.specs.Phases.{Goal, FetchGoal}
use Rattle.dfu_host.specs.Host.{HostState, aborted_host}
use Rattle.dfu_sim.specs.declared.offering.Purpose.{Purpose}
use Rattle.dfu_sim.specs.declared.offering.Purpose.TheVariants.{Install, Verify}
use Rattle.dfu_sim.specs.Session.{Machine, LoadingPayload, AbortKind, MachineStep, aborts}
use Rattle.dfu_sim.specs.Happening.{Offers, Uploads, Aborts}
use Rattle.dfu_sim.specs.Opening.{goal_of_purpose, opened}
use Rattle.dfu_sim.specs.Play.{silent}
use Rattle.dfu_sim.specs.LinkView.{NoLiveSession, HostSession}
use Rattle.dfu_sim.specs.Agreement.{live_session_of_goal, live_session_of, IsLiveOffer}
use Rattle.dfu_sim.specs.LinkAgreement.{ClosedWasOffered}
use Rattle.dfu_sim.specs.Fact.{SessionFact}
use Rattle.dfu_sim.specs.Simulation.{Simulation, ActiveImageWasOffered}
use Rattle.dfu_laws.proofs.link.ActionFacts.{machine_of_link, agrees}

pub purpose_goal_is_loading : (purpose : Purpose) (payload : List ℕ) → live_session_of_goal (goal_of_purpose purpose payload)
    ≡ LoadingPayload payload
purpose_goal_is_loading Install payload = refl
purpose_goal_is_loading Verify payload = refl

pub same_loading_same_payload : (x y : List ℕ) → LoadingPayload x ≡ LoadingPayload y → ◌≡◌ {A = Option (List ℕ)} (Some x) (Some y)
same_loading_same_payload x y e = cc

pub closed_bytes_offered_with_more : (payload : List ℕ) (past : List (List ℕ)) (stage : Stage) → ClosedWasOffered past stage
    → ClosedWasOffered (payload ∷ past) stage
closed_bytes_offered_with_more payload past (InManifestSync taken) h = inr h
closed_bytes_offered_with_more payload past (InManifest taken passed) h = inr h
closed_bytes_offered_with_more payload past stage h = tt

abort_keeps_live_session : {tolerant : Bool} {t : ℕ} {m m' : Machine} {report : Option Report} →
    MachineStep tolerant t AbortKind m report m' →
    m'.live ≡ m.live
abort_keeps_live_session aborts = refl

module _ (simulation : Simulation) (only : ActiveImageWasOffered) (c : Profile) (sized : 0 < c.transfer) where
  pub same_profile_keeps_opened_fact : (s : Situation) (p : Profile) → p ≡ c → (goal : Goal) (limits : Limits)
      → SessionFact c s (opened c goal limits.actions limits.restarts)
      → SessionFact c s (opened p goal limits.actions limits.restarts)
  same_profile_keeps_opened_fact s p e goal limits f =
      subst (λ (x : Profile). SessionFact c s (opened x goal limits.actions limits.restarts)) (sym e) f

  -- Once a payload is offered, the session facts hold.
  pub offered_session_has_fact : (past : List (List ℕ)) (s : Situation) (purpose : Purpose) (payload : List ℕ) (limits : Limits)
      → ClosedWasOffered past s.stage
      → 0 < length payload → SessionFact c s (opened c (goal_of_purpose purpose payload) limits.actions limits.restarts)
  offered_session_has_fact past s purpose payload limits sound some =
      (simulation c (record { device = s; session = NoLiveSession })
      (record { device = s; session = opened c (goal_of_purpose purpose payload) limits.actions limits.restarts }) []
      (machine_of_link simulation only c sized past s NoLiveSession) (Offers purpose payload limits) silent sized tt
      (agrees simulation only c sized past s NoLiveSession sound tt)
      (record { allowed = some; first = Works; second = Works; room = true; same = refl })).fact

  pub upload_session_has_fact : (past : List (List ℕ)) (s : Situation) (limits : Limits) → ClosedWasOffered past s.stage
      → SessionFact c s (opened c FetchGoal limits.actions limits.restarts)
  upload_session_has_fact past s limits sound =
      (simulation c (record { device = s; session = NoLiveSession })
      (record { device = s; session = opened c FetchGoal limits.actions limits.restarts }) []
      (machine_of_link simulation only c sized past s NoLiveSession) (Uploads limits) silent sized tt
      (agrees simulation only c sized past s NoLiveSession sound tt)
      (record { allowed = tt; first = Works; second = Works; room = true; same = refl })).fact

  -- If the program aborts a live host, the session facts hold, and the live session is the same.
  pub record GivenUpKeepsFact (s : Situation) (h : HostState) : Type 0 where
    pub fact : SessionFact c s (HostSession (aborted_host h))
    pub live : live_session_of (HostSession (aborted_host h)) ≡ live_session_of (HostSession h)

  pub given_up_session_keeps_fact : (past : List (List ℕ)) (s : Situation) (h : HostState) → ClosedWasOffered past s.stage
      → IsLiveOffer past (live_session_of (HostSession h))
      → SessionFact c s (HostSession h) → GivenUpKeepsFact s h
  given_up_session_keeps_fact past s h sound offered f =
      let x = simulation c (record { device = s; session = HostSession h }) (record { device = s; session = HostSession (aborted_host h) })
      []
      (machine_of_link simulation only c sized past s (HostSession h)) Aborts silent sized f
      (agrees simulation only c sized past s (HostSession h) sound offered)
      (record { allowed = tt; first = Works; second = Works; room = true; same = refl }) in
      record { fact = x.fact; live = sym x.agrees.live ∙ abort_keeps_live_session x.step }
