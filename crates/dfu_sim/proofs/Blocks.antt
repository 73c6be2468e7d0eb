-- Phases that send a block, or the empty block that closes the download.
use Rattle.std.proofs.Common.{◌≡◌, ℕ, suc, ◌+◌, ◌%◌, ◌<◌, ◌==◌, nat_lt, nat_le, not, Bool, true, false, cond, List, [], ◌∷◌, ◌++◌, length, slice_index_or, Option, Some, None, refl, sym, ap, ◌∙◌, subst, arith}
use Rattle.dfu_wire.specs.declared.codes.Code.{Code}
use Rattle.dfu_wire.specs.declared.codes.Code.TheVariants.{StalledPkt as ErrStalledPkt, Address as ErrAddress, NotDone as ErrNotDone}
use Rattle.dfu_device.specs.Stage.{Dnload, Ack, Profile, Stage, InDfuIdle, InDownloadSync, InDownloadIdle, InManifestSync}
use Rattle.dfu_device.specs.Table.{Plan, Sure, error_plan, plan, block_plan, first_plan, next_dnload_plan, has_no_bytes, number_after}
use Rattle.dfu_device.specs.Outcome.{Situation, Luck}
use Rattle.dfu_device.specs.Cases.{holds_in_both_branches}
use Rattle.dfu_host.specs.Blocks.{blocks, first_blocks}
use Rattle.dfu_host.specs.BlockLaws.{next_block_extends_first, nth_block_has_byte}
use Rattle.dfu_host.specs.Phases.{LoadGoal, Phase, Block, Ask, Close, AskLast, Nothing}
use Rattle.dfu_host.specs.Table.{host_row}
use Rattle.dfu_sim.specs.Session.{IsOneOf, AreFirstBlocks}
use Rattle.dfu_sim.specs.declared.delivery.Handled.{Handled}
use Rattle.dfu_sim.specs.declared.delivery.Handled.TheVariants.{Unseen, Again}
use Rattle.dfu_sim.specs.declared.delivery.MediumFault.{MediumFault}
use Rattle.dfu_sim.specs.declared.delivery.MediumFault.TheVariants.{CutsPower}
use Rattle.dfu_sim.specs.Delivery.{Delivery}
use Rattle.dfu_sim.specs.Opening.{task_for}
use Rattle.dfu_sim.specs.Play.{ActionResult, reached, heard_back, action_end_by_harm, request_result_of_plan, send_result}
use Rattle.dfu_sim.specs.LinkAgreement.{pending_of, ClosedWasOffered}
use Rattle.dfu_sim.specs.Fact.{IsAtBlock, WholePayloadAccepted, PhaseFact}
use Rattle.dfu_sim.proofs.MovesWithoutBlocks.{Quiet, stays, pending_forgotten, quiet_moves_compose}
use Rattle.dfu_sim.proofs.Closing.{closeless_request_goes_by_table, block_closes_nothing, close_errs_or_works}
use Rattle.dfu_sim.proofs.FateEffects.{UnlessRestarted, heard_fact_holds_unless_restart}

-- Change of the image and the pending bytes in a download: a quiet move, or the device takes the next block, and then all blocks so far are
-- pending, or all are lost.
pub data ImageMoves (offers : List (List ℕ)) (p : List ℕ) (t : ℕ) : List ℕ → Option (List ℕ) → List ℕ → Option (List ℕ) → Type 0 where
  moves_quietly : {i j : List ℕ} {q r : Option (List ℕ)} → Quiet offers i q j r → ImageMoves offers p t i q j r
  moves_by_block : {i : List ℕ} {q : Option (List ℕ)} (n : ℕ) (more : List ℕ) → n < length (blocks p t) → AreFirstBlocks p t n q
      → more ≡ first_blocks p t (suc n) → ImageMoves offers p t i q i (Some more)
  moves_by_lost_block : {i : List ℕ} {q : Option (List ℕ)} (n : ℕ) (more : List ℕ) → n < length (blocks p t) → AreFirstBlocks p t n q
      → more ≡ first_blocks p t (suc n) → ImageMoves offers p t i q i None

-- Bytes that equal an offer are an offer.
pub equal_bytes_are_offer : (offers : List (List ℕ)) {x y : List ℕ} → x ≡ y → IsOneOf y offers → IsOneOf x offers
equal_bytes_are_offer offers e h = subst (λ z. IsOneOf z offers) (sym e) h

module _ (c : Profile) (offers : List (List ℕ)) (p : List ℕ) where
  -- The result of a phase's request is correct: the image and the pending bytes change as in a download, closed bytes are an offer, and the
  -- fact of the next phase holds unless the host learns of a restart.
  pub record GoesWell (phase : Phase) (s : Situation) (d : ActionResult) : Type 0 where
    pub moves : ImageMoves offers p c.transfer s.image (pending_of s.stage) d.device.image (pending_of d.device.stage)
    pub sound : ClosedWasOffered offers d.device.stage
    pub next : UnlessRestarted d.heard (λ heard. PhaseFact c p (host_row (task_for c (LoadGoal p)) phase heard) d.device)

  -- The result of a handled request is allowed: the image and the pending bytes changed as in a download, closed bytes are an offer, and
  -- the fact of the next phase holds both with the answer and without it.
  record Reached (phase : Phase) (s : Situation) (d : ActionResult) : Type 0 where
    moves : ImageMoves offers p c.transfer s.image (pending_of s.stage) d.device.image (pending_of d.device.stage)
    sound : ClosedWasOffered offers d.device.stage
    next : PhaseFact c p (host_row (task_for c (LoadGoal p)) phase d.heard) d.device
    lost : PhaseFact c p (host_row (task_for c (LoadGoal p)) phase Nothing) d.device

  -- If the power is cut after a change in a download, and the pending bytes are lost, the change and the cut together are one change in a
  -- download.
  move_may_end_in_cut : {i j : List ℕ} {q r : Option (List ℕ)} → ImageMoves offers p c.transfer i q j r →
      ImageMoves offers p c.transfer i q j None
  move_may_end_in_cut (moves_quietly m) = moves_quietly (quiet_moves_compose m pending_forgotten)
  move_may_end_in_cut (moves_by_block n more b f e) = moves_by_lost_block n more b f e
  move_may_end_in_cut (moves_by_lost_block n more b f e) = moves_by_lost_block n more b f e

  -- If the result of an action is allowed, it is correct, even if the power is cut at the end of the action.
  action_end_goes_well : (phase : Phase) (s : Situation) (harming : MediumFault) (d : ActionResult)
      → ImageMoves offers p c.transfer s.image (pending_of s.stage) d.device.image (pending_of d.device.stage)
      → ClosedWasOffered offers d.device.stage
      → PhaseFact c p (host_row (task_for c (LoadGoal p)) phase d.heard) d.device → GoesWell phase s (action_end_by_harm harming d)
  action_end_goes_well phase s CutsPower d m h n = record { moves = move_may_end_in_cut m; sound = tt; next = tt }
  action_end_goes_well phase s harming d m h n = record { moves = m; sound = h; next = heard_fact_holds_unless_restart d.heard _ n }

  -- If the results of a phase's request are allowed with the answer and without it, the result of its delivery is correct.
  reached_result_goes_well : (phase : Phase) (s : Situation) (harming : MediumFault) (back : Bool) (d : ActionResult) → Reached phase s d
      → GoesWell phase s (action_end_by_harm harming (record { device = d.device; heard = heard_back back d.heard }))
  reached_result_goes_well phase s harming true d r = action_end_goes_well phase s harming d r.moves r.sound r.next
  reached_result_goes_well phase s harming false d r =
      action_end_goes_well phase s harming (record { device = d.device; heard = Nothing }) r.moves r.sound r.lost

  -- If the device may expect block n and answers it with an error, the result is allowed.
  faulty_block_is_reached : (n num : ℕ) (body : List ℕ) (s : Situation) (code : Code) → n < length (blocks p c.transfer) →
      PhaseFact c p (Ask n) s
      → ClosedWasOffered offers s.stage → (how : Handled) (l k : Luck)
      → Reached (Block n) s (reached c s (Dnload num body) (error_plan code) how l k)
  faulty_block_is_reached n num body s code b a h Unseen l k = record { moves = moves_quietly stays; sound = h; next = a; lost = a }
  faulty_block_is_reached n num body s code b a h how l k = record {
    moves = moves_quietly pending_forgotten;
    sound = tt;
    next = tt;
    lost =
        (b, tt);
  }

  -- If the device takes block n after the first n blocks, the result is allowed.
  taken_block_is_reached : (n num : ℕ) (before body : List ℕ) (number : ℕ) (s : Situation) → n < length (blocks p c.transfer) →
      PhaseFact c p (Ask n) s
      → ClosedWasOffered offers s.stage → AreFirstBlocks p c.transfer n (pending_of s.stage)
      → before ++ body ≡ first_blocks p c.transfer (suc n)
      → (how : Handled) (l k : Luck) → Reached (Block n) s
      (reached c s (Dnload num body) (Sure Ack (InDownloadSync before body number)) how l k)
  taken_block_is_reached n num before body number s b a h f e Unseen l k = record {
    moves = moves_quietly stays;
    sound = h;
    next = a;
    lost
        = a;
  }
  taken_block_is_reached n num before body number s b a h f e Again l k =
      record { moves = moves_by_lost_block n _ b f e; sound = tt; next = tt; lost = (b, tt) }
  taken_block_is_reached n num before body number s b a h f e how l k =
      record { moves = moves_by_block n _ b f e; sound = tt; next = (b, e); lost = (b, e) }

  -- If the device answers the request that closes the download with an error, the result is allowed.
  faulty_close_is_reached : (num : ℕ) (s : Situation) (code : Code) → PhaseFact c p AskLast s → ClosedWasOffered offers s.stage
      → (how : Handled) (l k : Luck)
      → Reached Close s (reached c s (Dnload num []) (error_plan code) how l k)
  faulty_close_is_reached num s code a h Unseen l k = record { moves = moves_quietly stays; sound = h; next = a; lost = a }
  faulty_close_is_reached num s code a h how l k = record { moves = moves_quietly pending_forgotten; sound = tt; next = tt; lost = tt }

  -- If the device closes the download after the whole payload, which is an offer, the result is allowed.
  taken_close_is_reached : (num : ℕ) (image taken : List ℕ) (number : ℕ) → taken ≡ p → IsOneOf taken offers → (how : Handled) (l k : Luck)
      → let s : Situation = record { image = image; stage = InDownloadIdle taken number } in
      Reached Close s (reached c s (Dnload num []) (Sure Ack (InManifestSync taken)) how l k)
  taken_close_is_reached num image taken number e o Unseen l k = record { moves = moves_quietly stays; sound = tt; next = e; lost = e }
  taken_close_is_reached num image taken number e o Again l k = record {
    moves = moves_quietly pending_forgotten;
    sound = tt;
    next = tt;
    lost = tt;
  }
  taken_close_is_reached num image taken number e o how l k = record { moves = moves_quietly stays; sound = o; next = e; lost = e }

-- A property of a block's plan holds if it holds for each error, and for the plan that takes the block.
block_errs_or_takes : (P : Plan → Type 0) (c : Profile) (before : List ℕ) (expected number : ℕ) (body : List ℕ)
    → ((code : Code) → P (error_plan code))
    → P (Sure Ack (InDownloadSync before body (number_after expected))) → P (block_plan c before expected number body)
block_errs_or_takes P c before expected number body pf pt =
    holds_in_both_branches P (nat_lt c.transfer (length body)) _ _ (pf ErrStalledPkt)
    (holds_in_both_branches P (not (number == expected)) _ _ (pf ErrAddress)
    (holds_in_both_branches P (nat_lt c.capacity (length before + length body)) _ _ (pf ErrAddress) pt))

-- A property of the first block's plan holds if it holds for each error, and for the plan that takes the block.
first_errs_or_takes : (P : Plan → Type 0) (c : Profile) (number : ℕ) (body : List ℕ) → ((code : Code) → P (error_plan code))
    → P (Sure Ack (InDownloadSync [] body (number_after 0))) → P (first_plan c number body)
first_errs_or_takes P c number body pf pt =
    holds_in_both_branches P (not c.can_download) _ _ (pf ErrStalledPkt)
    (holds_in_both_branches P (has_no_bytes body) _ _ (pf ErrStalledPkt) (block_errs_or_takes P c [] 0 number body pf pt))

-- A property of a later block's plan holds if it holds for each error, and for the plan that takes the block.
further_errs_or_takes : (P : Plan → Type 0) (c : Profile) (taken : List ℕ) (expected number : ℕ) (body : List ℕ) → has_no_bytes body ≡ false
    → ((code : Code) → P (error_plan code)) → P (Sure Ack (InDownloadSync taken body (number_after expected)))
    → P (next_dnload_plan c taken expected number body)
further_errs_or_takes P c taken expected number body e pf pt =
    subst (λ t. P (cond t (cond (nat_le c.least (length taken)) (Sure Ack (InManifestSync taken)) (error_plan ErrNotDone))
    (block_plan c taken expected number body))) (sym e) (block_errs_or_takes P c taken expected number body pf pt)

-- A body of at least one byte is not empty.
pub bytes_are_not_empty : (body : List ℕ) → 0 < length body → has_no_bytes body ≡ false
bytes_are_not_empty [] h = absurd (omega arith)
bytes_are_not_empty (x ∷ xs) h = refl

module _ (c : Profile) (sized : 0 < c.transfer) (offers : List (List ℕ)) (p : List ℕ) where
  -- If n is 0, block n of the payload is the first n + 1 blocks joined.
  first_block_is_prefix : (n : ℕ) → n < length (blocks p c.transfer) → n ≡ 0
      → [] ++ slice_index_or (blocks p c.transfer) n [] ≡ first_blocks p c.transfer (suc n)
  first_block_is_prefix n b e = sym (next_block_extends_first p c.transfer n b ∙ ap (λ m. first_blocks p c.transfer m
      ++ slice_index_or (blocks p c.transfer) n []) e)

  -- If the device expects block n, the result of the block's DNLOAD by the table's plan is correct, with any delivery.
  block_request_goes_well : (n : ℕ) (i : List ℕ) (stage : Stage) → n < length (blocks p c.transfer) → IsAtBlock p c.transfer n stage
      → ClosedWasOffered offers stage
      → (delivery : Delivery) (l k : Luck) → let s : Situation = record { image = i; stage = stage } in
      let r = Dnload (n % 65536) (slice_index_or (blocks p c.transfer) n []) in
      GoesWell c offers p (Block n) s (request_result_of_plan c s r (plan c i stage r) delivery l k)
  block_request_goes_well n i InDfuIdle b g h delivery l k =
      let body = slice_index_or (blocks p c.transfer) n [] in
      let s : Situation = record { image = i; stage = InDfuIdle } in
      let P : Plan → Type 0 = λ q. Reached c offers p (Block n) s (reached c s (Dnload (n % 65536) body) q delivery.handling l k) in
      reached_result_goes_well c offers p (Block n) s delivery.harming delivery.back _ (first_errs_or_takes P c (n % 65536) body
      (λ code. faulty_block_is_reached c offers p n (n % 65536) body s code b (b, g) h delivery.handling l k)
      (taken_block_is_reached c offers p n (n % 65536) [] body _ s b (b, g) h g (first_block_is_prefix n b g) delivery.handling l k))
  block_request_goes_well n i (InDownloadIdle taken number) b g h delivery l k =
      let body = slice_index_or (blocks p c.transfer) n [] in
      let s : Situation = record { image = i; stage = InDownloadIdle taken number } in
      let P : Plan → Type 0 = λ q. Reached c offers p (Block n) s (reached c s (Dnload (n % 65536) body) q delivery.handling l k) in
      reached_result_goes_well c offers p (Block n) s delivery.harming delivery.back _
      (further_errs_or_takes P c taken number (n % 65536) body (bytes_are_not_empty _ (nth_block_has_byte p c.transfer n sized b))
      (λ code. faulty_block_is_reached c offers p n (n % 65536) body s code b (b, g) h delivery.handling l k)
      (taken_block_is_reached c offers p n (n % 65536) taken body _ s b (b, g) h g (ap (λ x. x ++ body) g.1
      ∙ sym (next_block_extends_first p c.transfer n b))
      delivery.handling l k))
  block_request_goes_well n i stage b g h delivery l k = elim g [ ]

  -- If the device expects block n, the result of the request that sends the block is correct, with any delivery.
  pub block_phase_goes_well : (n : ℕ) (i : List ℕ) (stage : Stage) → n < length (blocks p c.transfer) → IsAtBlock p c.transfer n stage →
      ClosedWasOffered offers stage
      → (delivery : Delivery) (l k : Luck) → let s : Situation = record { image = i; stage = stage } in
      GoesWell c offers p (Block n) s (send_result c s (Dnload (n % 65536) (slice_index_or (blocks p c.transfer) n [])) delivery l k)
  block_phase_goes_well n i stage b g h delivery l k =
      let s : Situation = record { image = i; stage = stage } in
      let body = slice_index_or (blocks p c.transfer) n [] in
      subst (λ (x : Plan). GoesWell c offers p (Block n) s (request_result_of_plan c s (Dnload (n % 65536) body) x delivery l k))
      (sym (closeless_request_goes_by_table delivery.refusing c i stage (Dnload (n % 65536) body)
      (block_closes_nothing c.least stage (n % 65536) body (bytes_are_not_empty body (nth_block_has_byte p c.transfer n sized b)))))
      (block_request_goes_well n i stage b g h delivery l k)

  -- If the device has taken the whole payload, which is an offer, the result of the request that closes the download is correct, with any
  -- delivery.
  pub close_phase_goes_well : (num : ℕ) (i : List ℕ) (stage : Stage) → WholePayloadAccepted p stage → ClosedWasOffered offers stage →
      IsOneOf p offers
      → (delivery : Delivery) (l k : Luck) → let s : Situation = record { image = i; stage = stage } in
      GoesWell c offers p Close s (send_result c s (Dnload num []) delivery l k)
  close_phase_goes_well num i (InDownloadIdle taken number) w h o delivery l k =
      let s : Situation = record { image = i; stage = InDownloadIdle taken number } in
      let P : Plan → Type 0 = λ q. Reached c offers p Close s (reached c s (Dnload num []) q delivery.handling l k) in
      reached_result_goes_well c offers p Close s delivery.harming delivery.back _ (close_errs_or_works P delivery.refusing c i taken
      number num
      (λ code. faulty_close_is_reached c offers p num s code w h delivery.handling l k)
      (taken_close_is_reached c offers p num i taken number w (equal_bytes_are_offer offers w o) delivery.handling l k))
  close_phase_goes_well num i stage w h o delivery l k = elim w [ ]
