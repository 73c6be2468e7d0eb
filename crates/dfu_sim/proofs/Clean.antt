-- The clean run, with its number of passes.
use Rattle.std.proofs.Common.{◌≡◌, ℕ, suc, ◌+◌, ◌*◌, ◌-◌, ◌/◌, ◌<◌, ◌≤◌, ◌==◌, nat_lt, max, Bool, true, false, cond, List, [], length, slice_index_or, Some, None, refl, sym, ap, ◌∙◌, subst, arith, length-append}
use Rattle.std.proofs.lemmas.Bool.Decides.{nat_tests}
use Rattle.dfu_device.specs.Stage.{Profile, InAppIdle, InDfuIdle}
use Rattle.dfu_host.specs.declared.report.Report.TheVariants.{Installed, Verified}
use Rattle.dfu_host.specs.Blocks.{blocks, first_blocks}
use Rattle.dfu_host.specs.BlockLaws.{next_block_extends_first, all_first_blocks_are_payload, first_blocks_are_not_longer, started_block_is_counted, nth_block_is_bounded, nth_block_has_byte}
use Rattle.dfu_host.specs.Phases.{LoadGoal, VerifyGoal, CompareGoal, Find, Last}
use Rattle.dfu_host.specs.Clean.{clean}
use Rattle.dfu_sim.specs.declared.offering.Purpose.{Purpose}
use Rattle.dfu_sim.specs.declared.offering.Purpose.TheVariants.{Install, Verify}
use Rattle.dfu_sim.specs.Play.{Link, silent}
use Rattle.dfu_sim.specs.CleanRun.{clean_actions_of_purpose, PassesTo, QuietPasses, there, resting_link, InstalledAfter, CleanRun}
use Rattle.dfu_sim.proofs.Blocks.{bytes_are_not_empty}
use Rattle.dfu_sim.proofs.Choices.{fact_by_both_outcomes}
use Rattle.dfu_sim.proofs.Passes.{quiet_passes_compose, at, Leads}
use Rattle.dfu_sim.proofs.DownloadTurns.{BlockFits, whole_download_goes_well}
use Rattle.dfu_sim.proofs.Verified.{verify_passes_quietly}
use Rattle.dfu_sim.proofs.CleanCompare.{whole_comparison_goes_well}

-- A choice that tests if a number is over 0 equals the choice that tests if it is 0, with its two values exchanged.
choice_by_zero_test : (n x y : ℕ) → cond (nat_lt 0 n) y x ≡ cond (n == 0) x y
choice_by_zero_test n x y = fact_by_both_outcomes (n == 0)
    (λ e. let f : nat_lt 0 n ≡ false = grind (arith, nat_tests) in rw (e, f))
    (λ e. let f : nat_lt 0 n ≡ true = grind (arith, nat_tests) in rw (e, f))

-- Clean count of a download: each block takes 2 passes, or 4 with a busy time; manifestation takes 2, or 4 with a manifestation time; and 5
-- more are needed.
clean_count_is_sum : (b busy manifest : ℕ) → clean b busy manifest ≡ cond (busy == 0) 2 4 * b + cond (manifest == 0) 2 4 + 5
clean_count_is_sum b busy manifest = λ i. choice_by_zero_test busy 2 4 i * b + choice_by_zero_test manifest 2 4 i + 5

-- The passes of the phases of a clean download add up to one less than the clean count, because the last pass is not among them.
clean_count_adds_up : (b : ℕ) (x y : Bool) → 0 < b → 1 + (1 + (1 + (1 + (suc (b - 1) * (1 + cond x 1 3) + (1 + cond y 1 3)))))
    ≡ cond x 2 4 * b + cond y 2 4 + 5 - 1
clean_count_adds_up b true true h = omega arith
clean_count_adds_up b true false h = omega arith
clean_count_adds_up b false true h = omega arith
clean_count_adds_up b false false h = omega arith

-- The last pass of a download reports Installed, with the payload active.
last_pass_installs : (c : Profile) (p : List ℕ) (again left : ℕ)
    → PassesTo c (at c (LoadGoal p) again p InDfuIdle (Last Installed) left) (resting_link p)
    (record { report = Some Installed; gave = None })
last_pass_installs c p again left other room = refl

-- If a payload fits the room, each of its blocks has a byte, and fits the transfer size and the room.
every_block_fits : (c : Profile) (p : List ℕ) (again n : ℕ) → 0 < c.transfer → length p ≤ c.capacity → n < length (blocks p c.transfer)
    → BlockFits c p again n
every_block_fits c p again n sized room h = record {
  full = bytes_are_not_empty _ (nth_block_has_byte p c.transfer n sized h);
  small = nth_block_is_bounded p c.transfer n h;
  room =
      let f : length (first_blocks p c.transfer (suc n)) ≡ length (first_blocks p c.transfer n) + length
      (slice_index_or (blocks p c.transfer) n []) = ap
      length (next_block_extends_first p c.transfer n h) ∙ length-append (first_blocks p c.transfer n) (slice_index_or (blocks p c.transfer)
      n []) in
      omega (arith, f, first_blocks_are_not_longer p c.transfer (suc n) sized);
}

module _ (c : Profile) (p : List ℕ) (again : ℕ) where
  -- Number of blocks of the payload.
  abbrev b : ℕ
  b = length (blocks p c.transfer)

  -- Number of passes of a clean download before the last one, which reports.
  abbrev most : ℕ
  most = clean b c.busy c.manifest - 1

  -- In `most` passes a clean download goes from the phase Find in appIDLE to its last reset in dfuIDLE, with the payload active.
  clean_download_takes_passes : (i : List ℕ) → c.tolerant ≡ true → c.can_download ≡ true → 0 < c.transfer → 0 < b → c.least ≤ length p
      → length p ≤ c.capacity → Leads c (LoadGoal p) again i InAppIdle Find most p InDfuIdle (Last Installed)
  clean_download_takes_passes i tol can sized some least room =
      let e : suc (b - 1) ≡ b = omega (arith, some) in
      let whole : first_blocks p c.transfer (suc (b - 1)) ≡ p = ap (first_blocks p c.transfer) e
      ∙ all_first_blocks_are_payload p c.transfer sized in
      let long : length p ≡ length (first_blocks p c.transfer (suc (b - 1))) = ap length (sym whole) in
      let run = whole_download_goes_well c p again can (λ n h. every_block_fits c p again n sized room h) i (b - 1) e tol (omega (
        arith,
        long,
        least,
      )) in
      let count : 1 + (1 + (1 + (1 + (suc (b - 1) * (1 + cond (c.busy == 0) 1 3) + (1 + cond (c.manifest == 0) 1 3)))))
      ≡ most = clean_count_adds_up b (c.busy == 0) (c.manifest == 0) some
      ∙ ap (λ z. z - 1) (sym (clean_count_is_sum b c.busy c.manifest)) in
      let r : Leads c (LoadGoal p) again i InAppIdle Find most (first_blocks p c.transfer (suc (b - 1))) InDfuIdle (Last Installed) = subst
      (λ z. Leads c (LoadGoal p) again i InAppIdle Find z (first_blocks p c.transfer (suc (b - 1))) InDfuIdle (Last Installed)) count run in
      subst (λ z. Leads c (LoadGoal p) again i InAppIdle Find most z InDfuIdle (Last Installed)) whole r

  -- If a download reaches its last reset in `most` passes, and enough actions are left, it installs the payload in its clean count of
  -- passes.
  clean_download_installs : (i : List ℕ) (left : ℕ) → Leads c (LoadGoal p) again i InAppIdle Find most p InDfuIdle (Last Installed)
      → clean b c.busy c.manifest ≤ left
      → InstalledAfter c (at c (LoadGoal p) again i InAppIdle Find left) (clean b c.busy c.manifest) p Installed
  clean_download_installs i left leads budget =
      let l : ℕ = left - clean b c.busy c.manifest in
      let total : most + suc l ≡ left = omega (arith, budget, clean_count_is_sum b c.busy c.manifest) in
      let before : Link = at c (LoadGoal p) again p InDfuIdle (Last Installed) (suc l) in
      record {
        before = before;
        quiet = subst (λ z. QuietPasses c (at c (LoadGoal p) again i InAppIdle Find z) most before) total (leads.by l);
        last = last_pass_installs c p again (suc l);
      }

  -- After the last reset of the download, a session that verifies begins its comparison in the phase Find, and has reported nothing.
  reset_begins_comparison : (left : ℕ) → PassesTo c (at c (VerifyGoal p) again p InDfuIdle (Last Installed) (suc (suc left)))
      (at c (CompareGoal p) again p InAppIdle Find (suc left)) silent
  reset_begins_comparison left other room = refl

  -- The last pass of a comparison reports Verified, with the payload active.
  last_pass_verifies : (left : ℕ) → PassesTo c (at c (CompareGoal p) again p InDfuIdle (Last Verified) left) (resting_link p)
      (record { report = Some Verified; gave = None })
  last_pass_verifies left other room = refl

  -- Number of passes of a clean comparison before the last one, which reports.
  abbrev compare_passes : ℕ
  compare_passes = 1 + (1 + (1 + (1 + (length p / c.transfer + 1))))

  -- If a download reaches its last reset in `most` passes, a comparison reaches its last reset in `compare_passes` passes, and enough
  -- actions are left, a verified download installs and verifies the payload in its clean count of passes.
  verified_download_installs : (i : List ℕ) (left : ℕ) → Leads c (LoadGoal p) again i InAppIdle Find most p InDfuIdle (Last Installed)
      → Leads c (CompareGoal p) again p InAppIdle Find compare_passes p InDfuIdle (Last Verified)
      → clean b c.busy c.manifest + 6 + length p / c.transfer ≤ left
      → InstalledAfter c (at c (VerifyGoal p) again i InAppIdle Find left) (clean b c.busy c.manifest + 6 + length p / c.transfer) p
      Verified
  verified_download_installs i left downloaded compared budget =
      let l : ℕ = left - (clean b c.busy c.manifest + 6 + length p / c.transfer) in
      let rest : ℕ = compare_passes + l in
      let total : most + suc (suc rest) ≡ left = omega (arith, budget, clean_count_is_sum b c.busy c.manifest) in
      let less : most + suc compare_passes ≡ clean b c.busy c.manifest + 6 + length p / c.transfer - 1 =
      omega (arith, clean_count_is_sum b c.busy c.manifest) in
      let same : compare_passes + suc l ≡ suc rest = omega arith in
      let before : Link = at c (CompareGoal p) again p InDfuIdle (Last Verified) (suc l) in
      let download : QuietPasses c (at c (VerifyGoal p) again i InAppIdle Find (most + suc (suc rest))) most
      (at c (VerifyGoal p) again p InDfuIdle (Last Installed) (suc (suc rest))) = verify_passes_quietly c p refl (downloaded.by (suc rest))
      in
      let comparison : QuietPasses c (at c (VerifyGoal p) again p InDfuIdle (Last Installed) (suc (suc rest))) (suc compare_passes) before =
      there (reset_begins_comparison rest)
      (subst (λ z. QuietPasses c (at c (CompareGoal p) again p InAppIdle Find z) compare_passes before) same (compared.by l)) in
      record {
        before = before;
        quiet = subst (λ z. QuietPasses c (at c (VerifyGoal p) again i InAppIdle Find left) z before) less
            (subst (λ z. QuietPasses c (at c (VerifyGoal p) again i InAppIdle Find z) (most + suc compare_passes) before) total
            (quiet_passes_compose download comparison));
        last = last_pass_verifies (suc l);
      }

-- A clean run takes at least one action.
pub clean_run_takes_actions : (purpose : Purpose) (t busy manifest : ℕ) (payload : List ℕ) →
    0 < clean_actions_of_purpose purpose t busy manifest payload
clean_run_takes_actions Install t busy manifest payload = omega (arith, clean_count_is_sum (length (blocks payload t)) busy manifest)
clean_run_takes_actions Verify t busy manifest payload = omega (arith, clean_count_is_sum (length (blocks payload t)) busy manifest)

-- A clean run, verified or not, ends in its report with the payload active, in its exact count of passes.
pub clean_run : CleanRun
clean_run c Install image payload limits tol can sized long least room parts budget other memory =
    let some : 0 < length (blocks payload c.transfer) = started_block_is_counted payload c.transfer 0 sized (omega (arith, long)) in
    clean_download_installs c payload limits.restarts image (max 1 limits.actions)
    (clean_download_takes_passes c payload limits.restarts image tol can sized some least room) (omega (arith, budget))
clean_run c Verify image payload limits tol can sized long least room parts budget other memory =
    let some : 0 < length (blocks payload c.transfer) = started_block_is_counted payload c.transfer 0 sized (omega (arith, long)) in
    verified_download_installs c payload limits.restarts image (max 1 limits.actions)
    (clean_download_takes_passes c payload limits.restarts image tol can.0 sized some least room)
    (whole_comparison_goes_well c payload limits.restarts can.1 sized parts) (omega (arith, budget))
