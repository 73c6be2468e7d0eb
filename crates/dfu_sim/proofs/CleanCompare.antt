-- Phases of a clean comparison: the device answers with each full block of the image, and then with the shorter rest.
use Rattle.std.proofs.Common.{◌≡◌, ℕ, zero, suc, ◌+◌, ◌-◌, ◌*◌, ◌%◌, ◌/◌, ◌<◌, ◌≤◌, ◌==◌, nat_lt, min, Bool, true, false, if◌then◌else◌, List, [], length, slice_index_or, take, drop, refl, sym, ap, ◌∙◌, subst, arith, length-take, length-drop}
use Rattle.std.proofs.Math.Nat.{suc-mul, div-mul-le_self, lt-div-mul-add}
use Rattle.std.proofs.lemmas.Bool.Decides.{nat_tests}
use Rattle.std.proofs.lemmas.Slice.Eq.{bytes_eq-Decides}
use Rattle.std.specs.Str.{bytes_eq}
use Rattle.dfu_device.specs.Stage.{Data, Upload, Profile, Stage, InAppIdle, InDfuIdle, InUploadIdle}
use Rattle.dfu_device.specs.Table.{Plan, Sure, plan, number_after}
use Rattle.dfu_device.specs.Outcome.{Works, plan_outcome}
use Rattle.dfu_host.specs.declared.report.Report.TheVariants.{TooManyBlocks, Verified}
use Rattle.dfu_host.specs.Blocks.{blocks}
use Rattle.dfu_host.specs.BlockLaws.{nth_block_is_slice}
use Rattle.dfu_host.specs.Phases.{CompareGoal, Phase, Find, Compare, Last, Over, Part}
use Rattle.dfu_host.specs.Table.{compared_phase}
use Rattle.dfu_host.specs.Host.{IsLivePhase}
use Rattle.dfu_sim.specs.Play.{heard_of_reply, ActionResult}
use Rattle.dfu_sim.proofs.Passes.{Leads, leading_passes_compose, none, one, action_leads_to_phase}
use Rattle.dfu_sim.proofs.Finding.{host_finds_app_idle, detach, host_enters_dfu_idle}

module _ (c : Profile) (p : List ℕ) (again : ℕ) where
  -- In k passes a comparison goes from one stage and phase to another, with any budget that suffices, and the image is unchanged.
  abbrev GoesWell : Stage → Phase → ℕ → Stage → Phase → Type 0
  GoesWell s phase k t next = Leads c (CompareGoal p) again p s phase k p t next

  -- In one pass a host that compares finds the device in dfuIDLE, and then compares part 0.
  compare_finds_dfu_idle : GoesWell InDfuIdle Find 1 InDfuIdle (Compare 0)
  compare_finds_dfu_idle = one c (CompareGoal p) again (λ l k room. refl)

  -- Stage of the device after it uploaded k full parts.
  abbrev Given : ℕ → Stage
  Given zero = InDfuIdle
  Given (suc k) = InUploadIdle (suc k * c.transfer) (suc k % 65536)

  -- Part k of the payload: the bytes after k full parts, at most as many as the transfer size.
  abbrev part : ℕ → List ℕ
  part k = take c.transfer (drop (k * c.transfer) p)

  -- Block k of the payload; empty after the last block.
  abbrev block : ℕ → List ℕ
  block k = slice_index_or (blocks p c.transfer) k []

  -- After k full parts, the device answers the UPLOAD of part k with the part's bytes, and expects the next UPLOAD if the part is full.
  gives : (k : ℕ) → c.can_upload ≡ true → 0 < c.transfer → plan c p (Given k) (Upload (k % 65536) c.transfer)
      ≡ (if nat_lt (length (part k)) c.transfer then Sure (Data (part k)) InDfuIdle else Sure (Data (part k)) (Given (suc k)))
  gives zero can sized =
      let e : (c.transfer == 0) ≡ false = grind (arith, nat_tests) in
      let f : nat_lt c.transfer c.transfer ≡ false = grind (arith, nat_tests) in
      let z : 0 * c.transfer ≡ 0 = omega arith in
      let o : 1 * c.transfer ≡ 0 + c.transfer = omega arith in
      rw (can, e, f, z, o) refl
  gives (suc k) can sized =
      let e : (c.transfer == 0) ≡ false = grind (arith, nat_tests) in
      let f : nat_lt c.transfer c.transfer ≡ false = grind (arith, nat_tests) in
      let g : (suc k % 65536 == suc k % 65536) ≡ true = grind (arith, nat_tests) in
      let z : suc (suc k) * c.transfer ≡ suc k * c.transfer + c.transfer = omega (arith, suc-mul (suc k) c.transfer) in
      let n : number_after (suc k % 65536) ≡ suc (suc k) % 65536 = omega arith in
      rw (e, f, g, z, n) refl

  -- If the device replies with bytes, the host receives them as a part of the image.
  part_answer_is_heard : (q : Plan) (stage : Stage) (bytes : List ℕ) → q ≡ Sure (Data bytes) stage
      → ◌≡◌ {A = ActionResult} (let o = plan_outcome p q Works in record { device = o.after; heard = heard_of_reply o.reply })
      (record { device = record { image = p; stage = stage }; heard = Part bytes })
  part_answer_is_heard q stage bytes e = ap (λ (x : Plan). let o = plan_outcome p x Works in record {
    device = o.after;
    heard =
        heard_of_reply o.reply;
  }) e

  module _ (can : c.can_upload ≡ true) (sized : 0 < c.transfer) where
    -- Part k equals block k of the payload.
    same : (k : ℕ) → bytes_eq (part k) (block k) ≡ true
    same k = (bytes_eq-Decides (part k) (block k)).1 (sym (nth_block_is_slice p c.transfer k sized))

    -- Part k is no longer than the transfer size.
    fits : (k : ℕ) → nat_lt c.transfer (length (part k)) ≡ false
    fits k = let e : length (part k) ≤ c.transfer = omega (arith, length-take c.transfer (drop (k * c.transfer) p)) in
        grind (arith, nat_tests)

    -- Part k has the transfer size, or the rest of the payload if that is less.
    size : (k : ℕ) → length (part k) ≡ min c.transfer (length p - k * c.transfer)
    size k = omega (arith, length-take c.transfer (drop (k * c.transfer) p), length-drop (k * c.transfer) p)

    -- The pass for part k leads to the phase that follows a full part or a short one.
    compared_part_goes_well : (k : ℕ) (short : Bool) (stage : Stage) (next : Phase) → nat_lt (length (part k)) c.transfer ≡ short
        → (if short then Sure (Data (part k)) InDfuIdle else Sure (Data (part k)) (Given (suc k))) ≡ Sure (Data (part k)) stage
        → (if short then Last Verified else if suc k == 65535 then Over TooManyBlocks else Compare (suc k)) ≡ next → IsLivePhase next
        → GoesWell (Given k) (Compare k) 1 stage next
    compared_part_goes_well k short stage next e gave row on =
        action_leads_to_phase c (CompareGoal p) again (Part (part k)) (compared_phase c.transfer k (block k) (part k))
        (λ l. part_answer_is_heard _ stage (part k) (gives k can sized ∙ rw e gave)) (λ l room. refl) (rw (fits k, same k, e) row) on

    -- If the payload has a full part k, and the block limit is not reached, the request for part k leads to the next part.
    full : (k : ℕ) → suc k < 65535 → suc k * c.transfer ≤ length p → GoesWell (Given k) (Compare k) 1 (Given (suc k)) (Compare (suc k))
    full k less inside =
        let long : nat_lt (length (part k)) c.transfer ≡ false = grind (arith, nat_tests, size k, suc-mul k c.transfer) in
        let more : (suc k == 65535) ≡ false = grind (arith, nat_tests) in
        compared_part_goes_well k false (Given (suc k)) (Compare (suc k)) long refl (rw more refl) tt

    -- If the payload ends before a full part k, the request for part k leads to the last reset.
    last : (k : ℕ) → length p < suc k * c.transfer → GoesWell (Given k) (Compare k) 1 InDfuIdle (Last Verified)
    last k past =
        let short : nat_lt (length (part k)) c.transfer ≡ true = grind (arith, nat_tests, size k, suc-mul k c.transfer) in
        compared_part_goes_well k true InDfuIdle (Last Verified) short refl refl tt

    -- If the payload has at least k full parts, and k is below the block limit, the first k passes of a comparison compare these parts.
    parts : (k : ℕ) → k < 65535 → k * c.transfer ≤ length p → GoesWell InDfuIdle (Compare 0) k (Given k) (Compare k)
    parts zero less inside = none c (CompareGoal p) again
    parts (suc k) less inside =
        let n : k + 1 ≡ suc k = omega arith in
        subst (λ z. GoesWell InDfuIdle (Compare 0) z (Given (suc k)) (Compare (suc k))) n
        (leading_passes_compose (parts k (omega (arith, less)) (omega (arith, inside, suc-mul k c.transfer))) (full k less inside))

    -- A whole comparison leads from appIDLE to the last phase, in one pass for each full block and five more.
    pub whole_comparison_goes_well : length p / c.transfer < 65535 →
        GoesWell InAppIdle Find (1 + (1 + (1 + (1 + (length p / c.transfer + 1)))))
        InDfuIdle (Last Verified)
    whole_comparison_goes_well less =
        let q = length p / c.transfer in
        let low : q * c.transfer ≤ length p = div-mul-le_self (length p) c.transfer in
        let high : length p < q * c.transfer + c.transfer = lt-div-mul-add {a = length p} sized in
        let past : length p < suc q * c.transfer = omega (arith, high, suc-mul q c.transfer) in
        leading_passes_compose (host_finds_app_idle c (CompareGoal p) again p) (leading_passes_compose (detach c (CompareGoal p) again p)
        (leading_passes_compose (host_enters_dfu_idle c (CompareGoal p) again p _)
        (leading_passes_compose compare_finds_dfu_idle (leading_passes_compose (parts q
        less low) (last q past)))))
