-- One action of a host that compares the active image with a payload, in each phase and with each fate.
use Rattle.std.proofs.Common.{◌≡◌, ℕ, suc, ◌<◌, ◌==◌, nat_lt, true, false, List, [], ◌++◌, length, slice_index_or, sym, ap, ◌∙◌, subst, arith}
use Rattle.std.specs.Str.{bytes_eq}
use Rattle.std.proofs.lemmas.Bool.Decides.{nat_tests}
use Rattle.std.proofs.lemmas.Slice.Eq.{bytes_eq-Decides}
use Rattle.dfu_device.specs.Stage.{Profile}
use Rattle.dfu_device.specs.Outcome.{Situation, Luck}
use Rattle.dfu_host.specs.declared.report.Report.TheVariants.{Verified}
use Rattle.dfu_host.specs.Blocks.{blocks, first_blocks}
use Rattle.dfu_host.specs.BlockLaws.{full_block_extends_first, short_block_ends_payload}
use Rattle.dfu_host.specs.Phases.{CompareGoal, Phase, Fetch, LastUploaded, Compare, Last, Over, Heard, Part}
use Rattle.dfu_host.specs.Table.{deed, fetched_phase, on_part, on_compared, host_row}
use Rattle.dfu_host.specs.Host.{IsLivePhase}
use Rattle.dfu_sim.specs.Delivery.{Delivery}
use Rattle.dfu_sim.specs.Opening.{task_for}
use Rattle.dfu_sim.specs.Play.{action_result}
use Rattle.dfu_sim.specs.LinkAgreement.{ClosedWasOffered}
use Rattle.dfu_sim.specs.Fact.{FetchedSoFar, FetchFact, CompareFact}
use Rattle.dfu_sim.proofs.Choices.{choice_has_fact}
use Rattle.dfu_sim.proofs.FateEffects.{heard_fact_weakens}
use Rattle.dfu_sim.proofs.Fetch.{fetch_phase_goes_quietly}
use Rattle.dfu_sim.proofs.GoCommon.{GoesQuietly, reset_goes_quietly, common_phase_goes_quietly}
use Rattle.dfu_sim.proofs.GoDownload.{last_reset_keeps_report_meaning}

module _ (c : Profile) (offers : List (List ℕ)) (p : List ℕ) (some : 0 < length (blocks p c.transfer)) (sized : 0 < c.transfer) where
  -- The first k blocks of the payload, joined.
  abbrev front : ℕ → List ℕ
  front k = first_blocks p c.transfer k

  -- Block k of the payload; empty after the last block.
  abbrev block : ℕ → List ℕ
  block k = slice_index_or (blocks p c.transfer) k []

  -- Fact of an upload's phase after part k, if the upload keeps the first k blocks of the payload.
  abbrev FactAfterPart : ℕ → List ℕ → Situation → Type 0
  FactAfterPart k part d = FetchFact (fetched_phase c.transfer k (front k) part) d

  -- If a short part equals block k, and `FactAfterPart` holds for that part, the image is the payload, and the device is in dfuIDLE.
  short_part_ends_comparison : (k : ℕ) (part : List ℕ) (d : Situation) → nat_lt (length part) c.transfer ≡ true → part ≡ block k →
      FactAfterPart k part d
      → CompareFact c p (Last Verified) d
  short_part_ends_comparison k part d short same h =
      let full : (length part == c.transfer) ≡ false = grind (arith, nat_tests) in
      let less : length part < c.transfer = grind (arith, nat_tests) in
      let f : FetchFact (LastUploaded (front k ++ part)) d = rw (full, short) at h in
      let whole : front k ++ part ≡ p = ap (λ x. front k ++ x) same
      ∙ short_block_ends_payload p c.transfer k sized (subst (λ (x : List ℕ). length x < c.transfer) same less) in
      (sym f.0 ∙ whole, f.1)

  -- If a full part equals block k, `FactAfterPart` holds for that part, and the block limit is not reached, the fact of the next part
  -- holds.
  full_part_continues_comparison : (k : ℕ) (part : List ℕ) (d : Situation) → (suc k == 65535) ≡ false → length part ≡ c.transfer → part
      ≡ block k
      → FactAfterPart k part d → CompareFact c p (Compare (suc k)) d
  full_part_continues_comparison k part d fewer size same h =
      let full : (length part == c.transfer) ≡ true = grind (arith, nat_tests) in
      let f : FetchFact (Fetch (suc k) (front k ++ part)) d = rw (full, fewer) at h in
      let long : 0 < length (block k) = subst (λ (x : List ℕ). 0 < length x) same (omega (arith, size, sized)) in
      let more : front k ++ part ≡ front (suc k) = ap (λ x. front k ++ x) same ∙ sym (full_block_extends_first p c.transfer k long) in
      (f.0, subst (λ (x : List ℕ). FetchedSoFar (suc k) x d.image d.stage) more f.1)

  -- If the fact of an upload holds after part k was fetched, the fact of the comparison holds after the part was compared with block k.
  comparison_fact_after_part : (k : ℕ) (heard : Heard) (d : Situation) → FetchFact (on_part c.transfer k (front k) heard) d
      → CompareFact c p (on_compared c.transfer k (block k) heard) d
  comparison_fact_after_part k (Part part) d h =
      let P : Phase → Type 0 = λ x. CompareFact c p x d in
      choice_has_fact P (nat_lt c.transfer (length part)) _ _ (λ long. tt)
      (λ fits. choice_has_fact P (bytes_eq part (block k)) _ _
      (λ e. let same = (bytes_eq-Decides part (block k)).0 e in
      choice_has_fact P (nat_lt (length part) c.transfer) _ _ (λ short. short_part_ends_comparison k part d short same h)
      (λ full. choice_has_fact P (suc k == 65535) _ _ (λ many. tt) (λ fewer. full_part_continues_comparison k part d fewer (grind (
        arith,
        nat_tests,
      )) same h)))
      (λ other. tt))
  comparison_fact_after_part k heard d h = tt

  -- If the fact of a live phase of a comparison holds, the result of the phase's action is quiet, with any delivery.
  pub compare_phase_goes_quietly : (phase : Phase) (s : Situation) → IsLivePhase phase → CompareFact c p phase s →
      ClosedWasOffered offers s.stage
      → (delivery : Delivery)
      (l r : Luck)
      → GoesQuietly c offers (CompareGoal p) (host_row (task_for c (CompareGoal p)) phase) s
      (action_result c s (deed (task_for c (CompareGoal p)) phase) delivery l r)
  compare_phase_goes_quietly (Compare k) s on h q delivery l r =
      let d = action_result c s (deed (task_for c (CompareGoal p)) (Compare k)) delivery l r in
      let x = fetch_phase_goes_quietly c offers k (front k) s.image s.stage h.0 h.1 q delivery l r in
      record { quiet = x.quiet; next = heard_fact_weakens d.heard (λ heard. comparison_fact_after_part k heard d.device) x.next }
  compare_phase_goes_quietly (Last report) s on h q delivery l r =
      reset_goes_quietly c offers (CompareGoal p) (Over report) (Last report) s delivery l
      (last_reset_keeps_report_meaning c offers p some sized s report delivery.handling l h)
  compare_phase_goes_quietly (Over report) s on h q delivery l r = elim on [ ]
  compare_phase_goes_quietly phase s on h q delivery l r = common_phase_goes_quietly c offers (CompareGoal p) some phase s h q delivery l r
