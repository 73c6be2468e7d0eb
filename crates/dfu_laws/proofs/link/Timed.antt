-- After the passing of time, in which writes may fail, the image is unchanged or one that was offered, and the session facts still hold.
use Rattle.std.specs.Prelude.{◌≡◌, ◌⊎◌, ℕ, ◌+◌, ◌==◌, nat_le, max, List, length}
use Rattle.std.proofs.Common.{inl, inr, refl, sym, ◌∙◌, subst}
use Rattle.dfu_device.specs.Pace.{block_ms, image_ms}
use Rattle.dfu_device.specs.Stage.{Ack, Profile, Stage, InAppDetach, InDfuIdle, InDownloadBusy, InManifestSyncComplete, InManifest, InManifestWaitReset, InUploadIdle}
use Rattle.dfu_device.specs.Table.{Plan, Commits, time_plan}
use Rattle.dfu_device.specs.Outcome.{Situation, Luck, Works, FailsOld, FailsNew, plan_outcome, situation_after_ms}
use Rattle.dfu_device.specs.Cases.{holds_in_both_branches}
use Rattle.dfu_host.specs.Blocks.{first_blocks}
use Rattle.dfu_host.specs.Phases.{Goal, LoadGoal, FetchGoal, VerifyGoal, CompareGoal, Phase, Fetch, LastUploaded, Compare, Last, Over, OverUploaded}
use Rattle.dfu_host.specs.Host.{IsLivePhase}
use Rattle.dfu_sim.specs.LinkView.{Session, NoLiveSession, HostSession}
use Rattle.dfu_sim.specs.Session.{IsOneOf}
use Rattle.dfu_sim.specs.LinkAgreement.{ClosedWasOffered}
use Rattle.dfu_sim.specs.Fact.{IsDfuIdle, FetchedSoFar, FetchFact, CompareFact, GoalFact, SessionFact}
use Rattle.dfu_sim.proofs.Kept.{time_keeps_phase_fact}

-- The image of a device is unchanged, or was offered. If an image is pending, it was offered.
pub record ImageKeptOrOffered (past : List (List ℕ)) (s s' : Situation) : Type 0 where
  pub image : (s'.image ≡ s.image) ⊎ IsOneOf s'.image past
  pub sound : ClosedWasOffered past s'.stage

-- If the image is unchanged or becomes an offered one from situation a to b, and from b to c, it is also unchanged or an offered one from a
-- to c.
pub image_kept_or_offered_then : (past : List (List ℕ)) (a b c : Situation) → ImageKeptOrOffered past a b → ImageKeptOrOffered past b c →
    ImageKeptOrOffered past a c
image_kept_or_offered_then past a b c x y = record {
  image = elim (y.image) [
    | inl same ↦ elim (x.image) [
      | inl before ↦ inl (same ∙ before)
      | inr one ↦ inr (subst (λ (i : List ℕ). IsOneOf i past) (sym same) one)
    ]
    | inr one ↦ inr one
  ];
  sound = y.sound;
}

module _ (c : Profile) (past : List (List ℕ)) (i : List ℕ) (ms : ℕ) where
  -- After the plan is carried out, the image is unchanged or one that was offered, even if a write fails. If an image is pending, it was
  -- offered.
  abbrev PlanKeepsOrOffers : Stage → Plan → Type 0
  PlanKeepsOrOffers stage p = (luck : Luck) → ImageKeptOrOffered past (record { image = i; stage = stage }) (plan_outcome i p luck).after

  stage_change_keeps_image : (stage next : Stage) → ClosedWasOffered past next
      → ImageKeptOrOffered past (record { image = i; stage = stage }) (record { image = i; stage = next })
  stage_change_keeps_image stage next h = record { image = inl refl; sound = h }

  offered_bytes_put_in_place : (stage next : Stage) (taken : List ℕ) → IsOneOf taken past → ClosedWasOffered past next
      → ImageKeptOrOffered past (record { image = i; stage = stage }) (record { image = taken; stage = next })
  offered_bytes_put_in_place stage next taken one h = record { image = inr one; sound = h }

  -- If time passes, the image is unchanged or one that was offered, even if a write fails.
  pub passed_time_keeps_or_offers : (stage : Stage) → ClosedWasOffered past stage → PlanKeepsOrOffers stage (time_plan c stage ms)
  passed_time_keeps_or_offers (InAppDetach timer passed) h =
      let P : Plan → Type 0 = PlanKeepsOrOffers (InAppDetach timer passed) in
      holds_in_both_branches P (ms == 0) _ _ (λ luck. stage_change_keeps_image _ _ tt)
      (holds_in_both_branches P c.will_detach _ _ (λ luck. stage_change_keeps_image _ _ tt)
      (holds_in_both_branches P (nat_le (max 1 timer) (passed + ms)) _ _ (λ luck. stage_change_keeps_image _ _ tt)
      (λ luck. stage_change_keeps_image _
      _ tt)))
  passed_time_keeps_or_offers (InDownloadBusy before block number passed) h =
      let P : Plan → Type 0 = PlanKeepsOrOffers (InDownloadBusy before block number passed) in
      holds_in_both_branches P (ms == 0) _ _ (λ luck. stage_change_keeps_image _ _ tt)
      (holds_in_both_branches P (nat_le (block_ms c.pace c.busy (length before) (length block)) (passed + ms)) _ _
      (elim [
        | Works ↦ stage_change_keeps_image _ _ tt
        | FailsOld fault ↦ stage_change_keeps_image _ _ tt
        | FailsNew fault ↦
            stage_change_keeps_image _ _ tt
      ])
      (λ luck. stage_change_keeps_image _ _ tt))
  passed_time_keeps_or_offers (InManifest taken passed) h =
      let P : Plan → Type 0 = PlanKeepsOrOffers (InManifest taken passed) in
      holds_in_both_branches P (ms == 0) _ _ (λ luck. stage_change_keeps_image _ _ h)
      (holds_in_both_branches P (nat_le (image_ms c.pace c.manifest (length taken)) (passed + ms)) _ _
      (holds_in_both_branches (λ st. P (Commits taken Ack st (λ fault. Ack))) c.tolerant InManifestSyncComplete InManifestWaitReset
      (elim [
        | Works ↦ offered_bytes_put_in_place _ _ taken h tt
        | FailsOld fault ↦ stage_change_keeps_image _ _ tt
        | FailsNew fault ↦
            offered_bytes_put_in_place _ _ taken h tt
      ])
      (elim [
        | Works ↦ offered_bytes_put_in_place _ _ taken h tt
        | FailsOld fault ↦ stage_change_keeps_image _ _ tt
        | FailsNew fault ↦
            offered_bytes_put_in_place _ _ taken h tt
      ]))
      (λ luck. stage_change_keeps_image _ _ h))
  passed_time_keeps_or_offers stage h = λ luck. stage_change_keeps_image _ _ h

module _ (c : Profile) (s : Situation) (ms : ℕ) (luck : Luck) where
  fetches : (n : ℕ) (kept image : List ℕ) (stage : Stage) → FetchedSoFar n kept image stage
      → let d = (plan_outcome image (time_plan c stage ms) luck).after in FetchedSoFar n kept d.image d.stage
  fetches n kept image InDfuIdle f = f
  fetches n kept image (InUploadIdle place number) f = f
  fetches n kept image stage f = elim f [ ]

  any_time_keeps_idle_image : (kept image : List ℕ) (stage : Stage) → (kept ≡ image) × IsDfuIdle stage
      → let d = (plan_outcome image (time_plan c stage ms) luck).after in (kept ≡ d.image) × IsDfuIdle d.stage
  any_time_keeps_idle_image kept image InDfuIdle f = f
  any_time_keeps_idle_image kept image stage f = elim f.1 [ ]

  any_time_keeps_fetch_fact : (phase : Phase) → IsLivePhase phase → FetchFact phase s → FetchFact phase (situation_after_ms c s ms luck)
  any_time_keeps_fetch_fact (Fetch n kept) on f = (f.0, fetches n kept s.image s.stage f.1)
  any_time_keeps_fetch_fact (LastUploaded kept) on f = any_time_keeps_idle_image kept s.image s.stage f
  any_time_keeps_fetch_fact (OverUploaded kept) on f = elim on [ ]
  any_time_keeps_fetch_fact (Over report) on f = elim on [ ]
  any_time_keeps_fetch_fact phase on f = f

  any_time_keeps_compare_fact : (p : List ℕ) (phase : Phase) → IsLivePhase phase → CompareFact c p phase s →
      CompareFact c p phase (situation_after_ms c s ms luck)
  any_time_keeps_compare_fact p (Compare n) on f = (f.0, fetches n (first_blocks p c.transfer n) s.image s.stage f.1)
  any_time_keeps_compare_fact p (Last report) on f = time_keeps_phase_fact c s.image p (Last report) ms s.stage f luck
  any_time_keeps_compare_fact p (Over report) on f = elim on [ ]
  any_time_keeps_compare_fact p phase on f = f

  any_time_keeps_goal_fact : (g : Goal) (phase : Phase) → IsLivePhase phase → GoalFact c g phase s →
      GoalFact c g phase (situation_after_ms c s ms luck)
  any_time_keeps_goal_fact (LoadGoal p) phase on f = time_keeps_phase_fact c s.image p phase ms s.stage f luck
  any_time_keeps_goal_fact FetchGoal phase on f = any_time_keeps_fetch_fact phase on f
  any_time_keeps_goal_fact (VerifyGoal p) phase on f = time_keeps_phase_fact c s.image p phase ms s.stage f luck
  any_time_keeps_goal_fact (CompareGoal p) phase on f = any_time_keeps_compare_fact p phase on f

  -- The session facts still hold after a time in which a write may fail.
  pub any_time_keeps_session_fact : (session : Session) → SessionFact c s session → SessionFact c (situation_after_ms c s ms luck) session
  any_time_keeps_session_fact NoLiveSession f = tt
  any_time_keeps_session_fact (HostSession h) f = record {
    task_is = f.task_is;
    on = f.on;
    some = f.some;
    fact = any_time_keeps_goal_fact
        h.task.goal h.phase f.on f.fact;
  }
