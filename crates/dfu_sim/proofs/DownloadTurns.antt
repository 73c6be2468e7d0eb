-- The phases of a clean download: each block is taken and written, the download is closed, and the image is put in place.
use Rattle.std.proofs.Common.{◌≡◌, ℕ, zero, suc, ◌+◌, ◌*◌, ◌%◌, ◌<◌, ◌≤◌, ◌-◌, ◌^◌, ◌==◌, min, nat_lt, nat_le, Bool, true, false, cond, List, [], ◌++◌, length, slice_index_or, refl, sym, ap, ◌∙◌, subst, arith}
use Rattle.std.proofs.lemmas.Bool.Decides.{nat_tests}
use Rattle.dfu_wire.specs.declared.codes.Code.TheVariants.{Ok as NoFault}
use Rattle.dfu_wire.specs.declared.states.State.TheVariants.{DfuIdle, DownloadBusy, DownloadIdle, Manifest as Manifesting}
use Rattle.dfu_device.specs.Pace.{block_ms, image_ms}
use Rattle.dfu_device.specs.Stage.{Ack, Profile, Stage, InAppIdle, InDfuIdle, InDownloadSync, InDownloadSyncWritten, InDownloadBusy, InDownloadIdle, InManifestSync, InManifestSyncComplete, InManifest}
use Rattle.dfu_device.specs.Table.{Plan, Sure, Writes, Commits, time_plan, block_plan, first_plan, next_dnload_plan, has_no_bytes, number_after}
use Rattle.dfu_device.specs.Outcome.{Works, plan_outcome}
use Rattle.dfu_host.specs.declared.report.Report.TheVariants.{Installed}
use Rattle.dfu_host.specs.Blocks.{blocks, first_blocks}
use Rattle.dfu_host.specs.BlockLaws.{next_block_extends_first}
use Rattle.dfu_host.specs.Phases.{LoadGoal, Phase, Find, Block, Poll, WaitPoll, Close, Manifest, WaitManifest, Last, Acked, Status, Waited}
use Rattle.dfu_host.specs.Host.{IsLivePhase}
use Rattle.dfu_sim.specs.Play.{heard_of_reply, ActionResult}
use Rattle.dfu_sim.proofs.Choices.{fact_by_both_outcomes}
use Rattle.dfu_sim.proofs.Passes.{Leads, leading_passes_compose, none, one, action_leads_to_phase}
use Rattle.dfu_sim.proofs.Finding.{host_finds_app_idle, detach, host_enters_dfu_idle}

module _ (c : Profile) (p : List ℕ) (again : ℕ) where
  -- Number of blocks of the payload.
  abbrev b : ℕ
  b = length (blocks p c.transfer)

  -- In k passes a download goes from one image, stage and phase to another, with any budget that suffices.
  abbrev GoesWell : List ℕ → Stage → Phase → ℕ → List ℕ → Stage → Phase → Type 0
  GoesWell i s phase k j t next = Leads c (LoadGoal p) again i s phase k j t next

  -- In one pass the host of a download finds the device in dfuIDLE, and its next phase is Block 0.
  pub host_finds_dfu_idle : (i : List ℕ) → GoesWell i InDfuIdle Find 1 i InDfuIdle (Block 0)
  host_finds_dfu_idle i = one c (LoadGoal p) again (λ l k room. refl)

  -- Milliseconds that a host waits while the device writes the block `body` after the bytes `before`.
  abbrev wait : (before body : List ℕ) → ℕ
  wait before body = block_ms c.pace c.busy (length before) (length body)

  -- Milliseconds that a host waits while the device puts an image in place.
  abbrev manifest_wait_of_image : List ℕ → ℕ
  manifest_wait_of_image taken = image_ms c.pace c.manifest (length taken)

  -- If the base time is not 0, the time with erases and programs, limited to 2^24 - 1, is not 0.
  time_stays_nonzero : (base erases programs : ℕ) → (base == 0) ≡ false → (min (base + erases + programs) (2 ^ 24 - 1) == 0) ≡ false
  time_stays_nonzero base erases programs f = grind (arith, nat_tests)

  -- If two plans are equal, their waits have equal results.
  waits : (i : List ℕ) {p q : Plan} → p ≡ q → ◌≡◌ {A = ActionResult} (record { device = (plan_outcome i p Works).after; heard = Waited })
      (record { device = (plan_outcome i q Works).after; heard = Waited })
  waits i e = ap (λ (q : Plan). record { device = (plan_outcome i q Works).after; heard = Waited }) e

  -- The device writes a block that it has taken, and the host enters the next phase, in one pass, or in three if the device has a busy
  -- time.
  sync : (i before body : List ℕ) (number n : ℕ) (next : Phase) → cond (suc n == b) Close (Block (suc n)) ≡ next → IsLivePhase next
      → GoesWell i (InDownloadSync before body number) (Poll n) (cond (c.busy == 0) 1 3) i (InDownloadIdle (before ++ body) number) next
  sync i before body number n next e on = fact_by_both_outcomes (c.busy == 0)
      (λ f. rw f (action_leads_to_phase c (LoadGoal p) again (Status NoFault 0 DownloadIdle) _ (λ k. rw f) (λ l room. refl) e on))
      (λ f. rw f (leading_passes_compose {j = i} {t = InDownloadBusy before body number 0} {b = WaitPoll n (wait before body)} {k = 1}
      {n = 2}
      (action_leads_to_phase c (LoadGoal p) again (Status NoFault (wait before body) DownloadBusy) (WaitPoll n (wait before body))
      (λ k. rw f) (λ l room. refl) refl tt)
      (leading_passes_compose {j = i} {t = InDownloadSyncWritten (before ++ body) number} {b = Poll n} {k = 1} {n = 1}
      (action_leads_to_phase c (LoadGoal p) again Waited (Poll n) (λ k. waits i (busy_time_writes_block f)) (λ l room. refl) refl tt)
      (action_leads_to_phase c (LoadGoal p) again (Status NoFault 0 DownloadIdle) _ (λ k. refl) (λ l room. refl) e on))))
    where
      busy_time_writes_block : (c.busy == 0) ≡ false → time_plan c (InDownloadBusy before body number 0) (wait before body)
          ≡ Writes before body Ack (InDownloadSyncWritten (before ++ body) number) (λ fault. Ack)
      busy_time_writes_block f =
          let limit : ℕ = wait before body in
          let g : nat_le limit (0 + limit) ≡ true = grind (arith, nat_tests) in rw (time_stays_nonzero c.busy _ _ f, g)

  -- A tolerant device puts the closed image in place, and the host enters the phase of its last reset, in one pass, or in three if the
  -- device has a manifestation time.
  pub manifest : (i taken : List ℕ) → c.tolerant ≡ true
      → GoesWell i (InManifestSync taken) Manifest (cond (c.manifest == 0) 1 3) taken InDfuIdle
      (Last Installed)
  manifest i taken tol = fact_by_both_outcomes (c.manifest == 0)
      (λ f. rw f (action_leads_to_phase c (LoadGoal p) again (Status NoFault 0 DfuIdle) _ (λ k. rw f) (λ l room. refl) (rw tol) tt))
      (λ f. rw f (leading_passes_compose {j = i} {t = InManifest taken 0} {b = WaitManifest (manifest_wait_of_image taken)} {k = 1} {n = 2}
      (action_leads_to_phase c (LoadGoal p) again (Status NoFault (manifest_wait_of_image taken) Manifesting) _ (λ k. rw f) (λ l room.
      refl) (rw tol) tt)
      (leading_passes_compose {j = taken} {t = InManifestSyncComplete} {b = Manifest} {k = 1} {n = 1}
      (action_leads_to_phase c (LoadGoal p) again Waited Manifest (λ k. waits i (manifest_time_commits f)) (λ l room. refl) refl tt)
      (action_leads_to_phase c (LoadGoal p) again (Status NoFault 0 DfuIdle) _ (λ k. refl) (λ l room. refl) (rw tol) tt))))
    where
      manifest_time_commits : (c.manifest == 0) ≡ false
          → time_plan c (InManifest taken 0) (manifest_wait_of_image taken) ≡ Commits taken Ack InManifestSyncComplete (λ fault. Ack)
      manifest_time_commits f =
          let limit : ℕ = manifest_wait_of_image taken in
          let g : nat_le limit (0 + limit) ≡ true = grind (arith, nat_tests) in rw (time_stays_nonzero c.manifest _ _ f, g, tol)

  -- The device takes a block that fits the transfer size and the room.
  fitting_block_is_taken : (before : List ℕ) (expected : ℕ) (body : List ℕ) → length body ≤ c.transfer → length before + length body
      ≤ c.capacity
      → block_plan c before expected expected body ≡ Sure Ack (InDownloadSync before body (number_after expected))
  fitting_block_is_taken before expected body h k =
      let e : nat_lt c.transfer (length body) ≡ false = grind (arith, nat_tests) in
      let f : (expected == expected) ≡ true = grind (arith, nat_tests) in
      let g : nat_lt c.capacity (length before + length body) ≡ false = grind (arith, nat_tests) in
      rw (e, f, g)

  -- Stage of the device after n blocks.
  abbrev pub AfterBlocks : ℕ → Stage
  AfterBlocks zero = InDfuIdle
  AfterBlocks (suc n) = InDownloadIdle (first_blocks p c.transfer (suc n)) (suc n % 65536)

  -- Block number n modulo 65,536 is followed by number n + 1 modulo 65,536.
  next_number_wraps : (n : ℕ) → number_after (n % 65536) ≡ suc n % 65536
  next_number_wraps n = omega arith

  -- If a plan acknowledges a request and enters a stage, the host receives the acknowledgement.
  acked : (i : List ℕ) (stage : Stage) (q : Plan) → q ≡ Sure Ack stage
      → ◌≡◌ {A = ActionResult} (let o = plan_outcome i q Works in record { device = o.after; heard = heard_of_reply o.reply })
      (record { device = record { image = i; stage = stage }; heard = Acked })
  acked i stage q e = ap (λ (x : Plan). let o = plan_outcome i x Works in record { device = o.after; heard = heard_of_reply o.reply }) e

  -- The device closes a download that has at least the least length, and the host polls the manifestation.
  pub close : (i taken : List ℕ) (number : ℕ) → c.least ≤ length taken
      → GoesWell i (InDownloadIdle taken number) Close 1 i (InManifestSync taken) Manifest
  close i taken number h = action_leads_to_phase c (LoadGoal p) again Acked Manifest (λ k. acked i (InManifestSync taken) _
      (let e : nat_le c.least (length taken) ≡ true = grind (arith, nat_tests) in closing_dnload_plan e)) (λ l room. refl) refl tt
    where
      closing_dnload_plan : nat_le c.least (length taken) ≡ true → next_dnload_plan c taken number (b % 65536) []
          ≡ Sure Ack (InManifestSync taken)
      closing_dnload_plan e = rw e

  -- Block n of the payload.
  abbrev body_of : ℕ → List ℕ
  body_of n = slice_index_or (blocks p c.transfer) n []

  -- Block n has at least one byte, at most the transfer size, and fits the room.
  pub record BlockFits (n : ℕ) : Type 0 where
    pub full : has_no_bytes (body_of n) ≡ false
    pub small : length (body_of n) ≤ c.transfer
    pub room : length (first_blocks p c.transfer n) + length (body_of n) ≤ c.capacity

  -- In one pass the device takes a block that fits, and the host's next phase polls it.
  block : (i : List ℕ) (n : ℕ) → c.can_download ≡ true → BlockFits n
      → GoesWell i (AfterBlocks n) (Block n) 1 i (InDownloadSync (first_blocks p c.transfer n) (body_of n) (suc n % 65536)) (Poll n)
  block i zero can f = action_leads_to_phase c (LoadGoal p) again Acked (Poll zero) (λ k. acked i _ _ first_fits) (λ l room. refl) refl tt
    where
      first_fits : first_plan c 0 (body_of 0) ≡ Sure Ack (InDownloadSync [] (body_of 0) 1)
      first_fits = let e = f.full in rw (can, e) (fitting_block_is_taken [] 0 (body_of 0) f.small f.room)
  block i (suc n) can f = action_leads_to_phase c (LoadGoal p) again Acked (Poll (suc n)) (λ k. acked i _ _ next_block_plan) (λ l room.
      refl) refl tt
    where
      next_block_plan : next_dnload_plan c (first_blocks p c.transfer (suc n)) (suc n % 65536) (suc n % 65536) (body_of (suc n))
          ≡ Sure Ack (InDownloadSync (first_blocks p c.transfer (suc n)) (body_of (suc n)) (suc (suc n) % 65536))
      next_block_plan =
          let e = f.full in
          rw e (fitting_block_is_taken (first_blocks p c.transfer (suc n)) (suc n % 65536) (body_of (suc n)) f.small f.room
          ∙ ap (λ z. Sure Ack (InDownloadSync (first_blocks p c.transfer (suc n)) (body_of (suc n)) z)) (next_number_wraps (suc n)))

  -- The host is still live in the phase after a block, which is Close or the phase of the next block.
  next_phase_is_on : (n : ℕ) (test : Bool) → IsLivePhase (cond test Close (Block (suc n)))
  next_phase_is_on n true = tt
  next_phase_is_on n false = tt

  -- In the passes that `each` counts, a block that fits is taken, written and confirmed.
  turn : (i : List ℕ) (n : ℕ) → c.can_download ≡ true → n < b → BlockFits n
      → GoesWell i (AfterBlocks n) (Block n) (1 + cond (c.busy == 0) 1 3) i (AfterBlocks (suc n)) (cond (suc n == b) Close (Block (suc n)))
  turn i n can l f =
      let body = body_of n in
      let next = cond (suc n == b) Close (Block (suc n)) in
      let q : GoesWell i (InDownloadSync (first_blocks p c.transfer n) body (suc n % 65536)) (Poll n) (cond (c.busy == 0) 1 3) i
      (InDownloadIdle (first_blocks p c.transfer n ++ body) (suc n % 65536)) next =
      sync i (first_blocks p c.transfer n) body (suc n % 65536) n next refl (next_phase_is_on n (suc n == b)) in
      leading_passes_compose (block i n can f)
      (subst (λ z. GoesWell i (InDownloadSync (first_blocks p c.transfer n) body (suc n % 65536)) (Poll n) (cond (c.busy == 0) 1 3) i
      (InDownloadIdle z (suc n % 65536)) next) (sym (next_block_extends_first p c.transfer n l)) q)

  module _ (can : c.can_download ≡ true) (fits : (n : ℕ) → n < b → BlockFits n) where
    -- Number of passes for each block.
    abbrev each : ℕ
    each = 1 + cond (c.busy == 0) 1 3

    -- If the first n blocks take n times `each` passes, and there is a block n, the first n + 1 blocks take n + 1 times `each` passes.
    turns_extend_by_one : (i : List ℕ) (n : ℕ) → n < b → GoesWell i InDfuIdle (Block 0) (n * each) i (AfterBlocks n) (Block n)
        → GoesWell i InDfuIdle (Block 0) (suc n * each) i (AfterBlocks (suc n)) (cond (suc n == b) Close (Block (suc n)))
    turns_extend_by_one i n l q = let f : n * each + each ≡ suc n * each = omega arith in
        subst (λ z. GoesWell i InDfuIdle (Block 0) z i (AfterBlocks (suc n)) (cond (suc n == b) Close (Block (suc n)))) f
        (leading_passes_compose q (turn i n can l (fits n l)))

    -- If there is a block n, the first n blocks take n times `each` passes.
    turns : (i : List ℕ) (n : ℕ) → n < b → GoesWell i InDfuIdle (Block 0) (n * each) i (AfterBlocks n) (Block n)
    turns i zero l = let f : 0 ≡ 0 * each = omega arith in
        subst (λ z. GoesWell i InDfuIdle (Block 0) z i InDfuIdle (Block 0)) f (none c (LoadGoal p) again)
    turns i (suc n) l =
        let e : (suc n == b) ≡ false = grind (arith, nat_tests) in
        let m : n < b = omega arith in
        rw e at (turns_extend_by_one i n m (turns i n m))

    -- If block n is the last one, n + 1 times `each` passes transfer all blocks, and the host's next phase is Close.
    pub all_blocks_go_well : (i : List ℕ) (n : ℕ) → suc n ≡ b → GoesWell i InDfuIdle (Block 0) (suc n * each) i (AfterBlocks (suc n)) Close
    all_blocks_go_well i n e =
        let t : (suc n == b) ≡ true = grind (arith, nat_tests) in
        let m : n < b = omega arith in
        rw t at (turns_extend_by_one i n m (turns i n m))

    -- A whole download to a tolerant device goes from the phase Find in appIDLE to its last reset in dfuIDLE, with the payload active.
    pub whole_download_goes_well : (i : List ℕ) (n : ℕ) → suc n ≡ b → c.tolerant ≡ true → c.least
        ≤ length (first_blocks p c.transfer (suc n))
        → GoesWell i InAppIdle Find (1 + (1 + (1 + (1 + (suc n * each + (1 + cond (c.manifest == 0) 1 3))))))
        (first_blocks p c.transfer (suc n)) InDfuIdle
        (Last Installed)
    whole_download_goes_well i n e tol least =
        leading_passes_compose (host_finds_app_idle c (LoadGoal p) again i) (leading_passes_compose (detach c (LoadGoal p) again i)
        (leading_passes_compose (host_enters_dfu_idle c (LoadGoal p) again i _)
        (leading_passes_compose (host_finds_dfu_idle i) (leading_passes_compose (all_blocks_go_well i
        n e)
        (leading_passes_compose (close i (first_blocks p c.transfer (suc n)) (suc n % 65536) least)
        (manifest i (first_blocks p c.transfer (suc n)) tol))))))
