-- Facts that hold while the host polls and while time passes.
use Rattle.std.proofs.Common.{◌≡◌, ℕ, suc, ◌+◌, ◌==◌, nat_le, List, length}
use Rattle.dfu_device.specs.Pace.{block_ms, image_ms}
use Rattle.dfu_device.specs.Stage.{Request, GetStatus, GetState, Ack, Profile, Stage, InAppIdle, InDfuIdle, InDownloadSync, InDownloadBusy, InDownloadIdle, InManifestSync, InManifestSyncComplete, InManifest, InManifestWaitReset}
use Rattle.dfu_device.specs.Table.{Plan, Commits, plan, time_plan}
use Rattle.dfu_device.specs.Outcome.{Situation, Luck, Works, FailsOld, FailsNew, plan_outcome}
use Rattle.dfu_device.specs.Cases.{holds_in_both_branches}
use Rattle.dfu_host.specs.declared.report.Report.{Report}
use Rattle.dfu_host.specs.declared.report.Report.TheVariants.{Installed, Verified}
use Rattle.dfu_host.specs.Blocks.{first_blocks}
use Rattle.dfu_host.specs.Phases.{Phase, Block, Ask, Poll, WaitPoll, Close, AskLast, Manifest, WaitManifest, Last, Over}
use Rattle.dfu_sim.specs.Fact.{IsDfuIdle, IsAppIdle, IsAtBlock, MayBeAtBlock, BlockAccepted, WholePayloadAccepted, MayBeAtLastBlock, IsManifesting, ReportMeaning, PhaseFact}
use Rattle.dfu_sim.proofs.AnswerFacts.{Asks}

module _ (c : Profile) (i : List ℕ) where
  -- The property holds after a plan, for each luck of the medium.
  abbrev pub HoldsAfterPlan : (Situation → Type 0) → Plan → Type 0
  HoldsAfterPlan F p = (luck : Luck) → F (plan_outcome i p luck).after

  -- After GETSTATUS the device still has the bytes up to the polled block, or it is in dfuERROR.
  status_keeps_accepted_block : (x : List ℕ) (stage : Stage) → BlockAccepted x stage →
      HoldsAfterPlan (λ s. BlockAccepted x s.stage) (plan c i stage GetStatus)
  status_keeps_accepted_block x (InDownloadSync before block number) h =
      holds_in_both_branches (HoldsAfterPlan (λ s. BlockAccepted x s.stage)) (c.busy == 0) _ _
      (elim [ Works ↦ h | FailsOld fault ↦ tt | FailsNew fault ↦ tt ])
      (λ luck. h)
  status_keeps_accepted_block x stage h = λ luck. search

  -- As time passes the device keeps the bytes up to the polled block, or it enters dfuERROR.
  time_keeps_accepted_block : (x : List ℕ) (ms : ℕ) (stage : Stage) → BlockAccepted x stage →
      HoldsAfterPlan (λ s. BlockAccepted x s.stage) (time_plan c stage ms)
  time_keeps_accepted_block x ms (InDownloadBusy before block number passed) h =
      let F : Plan → Type 0 = HoldsAfterPlan (λ s. BlockAccepted x s.stage) in
      holds_in_both_branches F (ms == 0) _ _ (λ luck. h)
      (holds_in_both_branches F (nat_le (block_ms c.pace c.busy (length before) (length block)) (passed + ms)) _ _
      (elim [ Works ↦ h | FailsOld fault ↦ tt | FailsNew fault ↦ tt ]) (λ luck. h))
  time_keeps_accepted_block x ms stage h = λ luck. search

  -- After GETSTATUS the fact of manifestation still holds.
  status_keeps_manifesting : (p : List ℕ) (stage : Stage) → IsManifesting p i stage
      → HoldsAfterPlan (λ s. IsManifesting p s.image s.stage) (plan c i stage GetStatus)
  status_keeps_manifesting p (InManifestSync taken) h =
      holds_in_both_branches (HoldsAfterPlan (λ s. IsManifesting p s.image s.stage)) (c.manifest == 0) _ _
      (elim [ Works ↦ h | FailsOld fault ↦ tt | FailsNew fault ↦ tt ])
      (λ luck. h)
  status_keeps_manifesting p stage h = λ luck. search

  -- As time passes, the fact of manifestation still holds.
  time_keeps_manifesting : (p : List ℕ) (ms : ℕ) (stage : Stage) → IsManifesting p i stage
      → HoldsAfterPlan (λ s. IsManifesting p s.image s.stage) (time_plan c stage ms)
  time_keeps_manifesting p ms (InManifest taken passed) h =
      let F : Plan → Type 0 = HoldsAfterPlan (λ s. IsManifesting p s.image s.stage) in
      holds_in_both_branches F (ms == 0) _ _ (λ luck. h)
      (holds_in_both_branches F (nat_le (image_ms c.pace c.manifest (length taken)) (passed + ms)) _ _
      (holds_in_both_branches (λ st. F (Commits taken Ack st (λ fault. Ack))) c.tolerant InManifestSyncComplete InManifestWaitReset
      (elim [ Works ↦ h | FailsOld fault ↦ tt | FailsNew fault ↦ tt ])
      (elim [ Works ↦ h | FailsOld fault ↦ tt | FailsNew fault ↦ tt ]))
      (λ luck. h))
  time_keeps_manifesting p ms stage h = λ luck. search

  -- After GETSTATE in the phase Ask n, the fact of that phase still holds.
  getstate_keeps_block_question : (p : List ℕ) (t n : ℕ) (stage : Stage) → MayBeAtBlock p t n stage
      → HoldsAfterPlan (λ s. MayBeAtBlock p t n s.stage) (plan c i stage GetState)
  getstate_keeps_block_question p t n InDfuIdle h luck = h
  getstate_keeps_block_question p t n stage h luck = search

  -- As time passes, the fact of the phase Ask n still holds.
  time_keeps_block_question : (p : List ℕ) (t n ms : ℕ) (stage : Stage) → MayBeAtBlock p t n stage
      → HoldsAfterPlan (λ s. MayBeAtBlock p t n s.stage) (time_plan c stage ms)
  time_keeps_block_question p t n ms InDfuIdle h luck = h
  time_keeps_block_question p t n ms stage h luck = search

  -- A device that expects block n still expects it after some time.
  time_keeps_block_place : (p : List ℕ) (t n ms : ℕ) (stage : Stage) → IsAtBlock p t n stage →
      HoldsAfterPlan (λ s. IsAtBlock p t n s.stage) (time_plan c stage ms)
  time_keeps_block_place p t n ms InDfuIdle h luck = h
  time_keeps_block_place p t n ms stage h luck = search

  -- After GETSTATE in the phase AskLast, the fact of that phase still holds.
  getstate_keeps_last_question : (p : List ℕ) (stage : Stage) → MayBeAtLastBlock p stage →
      HoldsAfterPlan (λ s. MayBeAtLastBlock p s.stage) (plan c i stage GetState)
  getstate_keeps_last_question p (InDownloadIdle taken number) h luck = h
  getstate_keeps_last_question p stage h luck = search

  -- As time passes, the fact of the phase AskLast still holds.
  time_keeps_last_question : (p : List ℕ) (ms : ℕ) (stage : Stage) → MayBeAtLastBlock p stage →
      HoldsAfterPlan (λ s. MayBeAtLastBlock p s.stage) (time_plan c stage ms)
  time_keeps_last_question p ms (InDownloadIdle taken number) h luck = h
  time_keeps_last_question p ms stage h luck = search

  -- A device that has taken the whole payload keeps it as time passes.
  time_keeps_whole_payload : (p : List ℕ) (ms : ℕ) (stage : Stage) → WholePayloadAccepted p stage
      → HoldsAfterPlan (λ s. WholePayloadAccepted p s.stage) (time_plan c stage ms)
  time_keeps_whole_payload p ms (InDownloadIdle taken number) h luck = h
  time_keeps_whole_payload p ms stage h luck = elim h [ ]

  -- A device in dfuIDLE keeps its state and image as time passes.
  time_keeps_image_in_idle : (p : List ℕ) (ms : ℕ) (stage : Stage) → (i ≡ p) × IsDfuIdle stage
      → HoldsAfterPlan (λ s. (s.image ≡ p) × IsDfuIdle s.stage) (time_plan c stage ms)
  time_keeps_image_in_idle p ms InDfuIdle h luck = h
  time_keeps_image_in_idle p ms stage h luck = elim h.1 [ ]

  -- The meaning of a report before the last reset holds as time passes.
  time_keeps_last_report : (p : List ℕ) (ms : ℕ) (report : Report) (stage : Stage)
      → ReportMeaning c p (record { image = i; stage = stage }) IsDfuIdle report
      → HoldsAfterPlan (λ s. ReportMeaning c p s IsDfuIdle report) (time_plan c stage ms)
  time_keeps_last_report p ms Installed stage h luck = let x = time_keeps_image_in_idle p ms stage (h.1, h.2) luck in (h.0, x.0, x.1)
  time_keeps_last_report p ms Verified stage h luck = time_keeps_image_in_idle p ms stage h luck
  time_keeps_last_report p ms report stage h luck = h

  -- A device in appIDLE keeps its state and image as time passes.
  time_keeps_image_in_app : (p : List ℕ) (ms : ℕ) (stage : Stage) → (i ≡ p) × IsAppIdle stage
      → HoldsAfterPlan (λ s. (s.image ≡ p) × IsAppIdle s.stage) (time_plan c stage ms)
  time_keeps_image_in_app p ms InAppIdle h luck = h
  time_keeps_image_in_app p ms stage h luck = elim h.1 [ ]

  -- The meaning of a report after the last reset holds as time passes.
  time_keeps_final_report : (p : List ℕ) (ms : ℕ) (report : Report) (stage : Stage)
      → ReportMeaning c p (record { image = i; stage = stage }) IsAppIdle report
      → HoldsAfterPlan (λ s. ReportMeaning c p s IsAppIdle report) (time_plan c stage ms)
  time_keeps_final_report p ms Installed stage h luck = let x = time_keeps_image_in_app p ms stage (h.1, h.2) luck in (h.0, x.0, x.1)
  time_keeps_final_report p ms Verified stage h luck = time_keeps_image_in_app p ms stage h luck
  time_keeps_final_report p ms report stage h luck = h

  -- The fact of each phase holds as time passes.
  pub time_keeps_phase_fact : (p : List ℕ) (phase : Phase) (ms : ℕ) (stage : Stage) →
      PhaseFact c p phase (record { image = i; stage = stage })
      → HoldsAfterPlan (PhaseFact c p phase) (time_plan c stage ms)
  time_keeps_phase_fact p (Block n) ms stage h luck = (h.0, time_keeps_block_place p c.transfer n ms stage h.1 luck)
  time_keeps_phase_fact p (Ask n) ms stage h luck = (h.0, time_keeps_block_question p c.transfer n ms stage h.1 luck)
  time_keeps_phase_fact p (Poll n) ms stage h luck = (
    h.0,
    time_keeps_accepted_block (first_blocks p c.transfer (suc n)) ms stage h.1
        luck,
  )
  time_keeps_phase_fact p (WaitPoll n poll) ms stage h luck = (
    h.0,
    time_keeps_accepted_block (first_blocks p c.transfer (suc n)) ms
        stage h.1 luck,
  )
  time_keeps_phase_fact p Close ms stage h luck = time_keeps_whole_payload p ms stage h luck
  time_keeps_phase_fact p AskLast ms stage h luck = time_keeps_last_question p ms stage h luck
  time_keeps_phase_fact p Manifest ms stage h luck = time_keeps_manifesting p ms stage h luck
  time_keeps_phase_fact p (WaitManifest poll) ms stage h luck = time_keeps_manifesting p ms stage h luck
  time_keeps_phase_fact p (Last report) ms stage h luck = time_keeps_last_report p ms report stage h luck
  time_keeps_phase_fact p (Over report) ms stage h luck = time_keeps_final_report p ms report stage h luck
  time_keeps_phase_fact p phase ms stage h luck = h

  -- The request of a phase preserves the fact of the phase, for each luck of the medium.
  pub request_keeps_phase_fact : (r : Request) (p : List ℕ) (phase : Phase) (stage : Stage) → Asks r phase
      → PhaseFact c p phase (record { image = i; stage = stage }) → HoldsAfterPlan (PhaseFact c p phase) (plan c i stage r)
  request_keeps_phase_fact GetStatus p (Poll n) stage a h luck = (
    h.0,
    status_keeps_accepted_block (first_blocks p c.transfer (suc n))
        stage h.1 luck,
  )
  request_keeps_phase_fact GetStatus p Manifest stage a h luck = status_keeps_manifesting p stage h luck
  request_keeps_phase_fact GetState p (Ask n) stage a h luck = (h.0, getstate_keeps_block_question p c.transfer n stage h.1 luck)
  request_keeps_phase_fact GetState p AskLast stage a h luck = getstate_keeps_last_question p stage h luck
  request_keeps_phase_fact r p phase stage a h luck = search
