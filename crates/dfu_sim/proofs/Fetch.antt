-- The phase that fetches a part of the active image.
use Rattle.std.proofs.Common.{◌≡◌, ℕ, suc, ◌+◌, ◌%◌, ◌<◌, ◌≤◌, ◌==◌, nat_lt, not, Bool, true, false, List, [], ◌++◌, length, take, drop, None, refl, sym, ap, ◌∙◌, subst, arith, take-append-drop, length-take, take_all, take-add}
use Rattle.std.proofs.lemmas.Bool.Decides.{nat_tests}
use Rattle.dfu_wire.specs.declared.codes.Code.{Code}
use Rattle.dfu_wire.specs.declared.codes.Code.TheVariants.{StalledPkt as ErrStalledPkt, Address as ErrAddress}
use Rattle.dfu_device.specs.Stage.{Upload, Data, Profile, Stage, InDfuIdle, InUploadIdle}
use Rattle.dfu_device.specs.Table.{Plan, Sure, error_plan, plan, upload_plan, number_after}
use Rattle.dfu_device.specs.Outcome.{Situation, Luck, plan_outcome}
use Rattle.dfu_device.specs.Cases.{holds_in_both_branches}
use Rattle.dfu_host.specs.Phases.{FetchGoal, Phase, Nothing}
use Rattle.dfu_host.specs.Table.{fetched_phase, on_part}
use Rattle.dfu_sim.specs.declared.delivery.Handled.{Handled}
use Rattle.dfu_sim.specs.declared.delivery.Handled.TheVariants.{Unseen, Again}
use Rattle.dfu_sim.specs.declared.delivery.MediumFault.{MediumFault}
use Rattle.dfu_sim.specs.declared.delivery.MediumFault.TheVariants.{CutsPower}
use Rattle.dfu_sim.specs.Delivery.{Delivery}
use Rattle.dfu_sim.specs.Play.{heard_of_reply, ActionResult, reached, heard_back, action_end_by_harm, request_result_of_plan, send_result}
use Rattle.dfu_sim.specs.LinkAgreement.{pending_of, ClosedWasOffered}
use Rattle.dfu_sim.specs.Fact.{FetchedSoFar, FetchFact}
use Rattle.dfu_sim.proofs.MovesWithoutBlocks.{Quiet, stays, pending_forgotten, quiet_moves_compose}
use Rattle.dfu_sim.proofs.Choices.{choice_has_fact}
use Rattle.dfu_sim.proofs.Closing.{closeless_request_goes_by_table}
use Rattle.dfu_sim.proofs.FateEffects.{heard_fact_holds_unless_restart}
use Rattle.dfu_sim.proofs.GoCommon.{GoesQuietly}

module _ (c : Profile) (offers : List (List ℕ)) (k : ℕ) (kept : List ℕ) where
  -- The request for part k has a quiet result: the change of the image and the pending bytes is quiet, and the fact of the next phase holds
  -- unless the host learns of a restart.
  abbrev pub FetchedQuietly : Situation → ActionResult → Type 0
  FetchedQuietly s d = GoesQuietly c offers FetchGoal (on_part c.transfer k kept) s d

  -- An UPLOAD of part k was handled with an allowed result: the change is quiet, closed bytes are an offer, and the fact of the phase after
  -- the answer holds.
  record Reached (s : Situation) (d : ActionResult) : Type 0 where
    moves : Quiet offers s.image (pending_of s.stage) d.device.image (pending_of d.device.stage)
    sound : ClosedWasOffered offers d.device.stage
    next : FetchFact (on_part c.transfer k kept d.heard) d.device

  -- If an UPLOAD has an allowed result, that result is quiet, even if the power is cut at the end of the action.
  action_end_keeps_fetch : (s : Situation) (harming : MediumFault) (d : ActionResult) → Reached s d →
      FetchedQuietly s (action_end_by_harm harming d)
  action_end_keeps_fetch s CutsPower d r = record {
    quiet = record { moves = quiet_moves_compose r.moves pending_forgotten; sound = tt };
    next = tt;
  }
  action_end_keeps_fetch s harming d r =
      record { quiet = record { moves = r.moves; sound = r.sound }; next = heard_fact_holds_unless_restart d.heard _ r.next }

  -- If an UPLOAD has an allowed result, that result is quiet, both if the host gets the answer and if the answer is lost.
  delivery_keeps_fetch : (s : Situation) (harming : MediumFault) (back : Bool) (d : ActionResult) → Reached s d
      → FetchedQuietly s (action_end_by_harm harming (record { device = d.device; heard = heard_back back d.heard }))
  delivery_keeps_fetch s harming true d r = action_end_keeps_fetch s harming d r
  delivery_keeps_fetch s harming false d r = action_end_keeps_fetch s harming (record { device = d.device; heard = Nothing })
      (record { moves = r.moves; sound = r.sound; next = tt })

  -- An UPLOAD that the device answers with an error has an allowed result.
  faulty_upload_is_reached : (number size : ℕ) (s : Situation) (code : Code) → ClosedWasOffered offers s.stage →
      (how : Handled) (l r : Luck)
      → Reached s (reached c s (Upload number size) (error_plan code) how l r)
  faulty_upload_is_reached number size s code h Unseen l r = record { moves = stays; sound = h; next = tt }
  faulty_upload_is_reached number size s code h how l r = record { moves = pending_forgotten; sound = tt; next = tt }

  -- If the kept bytes are the image up to an offset, and a short part follows there, the kept bytes and the part are the complete image.
  short_part_ends_image : (image : List ℕ) (place t : ℕ) → length (take t (drop place image)) < t → kept ≡ take place image
      → kept ++ take t (drop place image) ≡ image
  short_part_ends_image image place t h e =
      let f : length (drop place image) ≤ t = omega (arith, length-take t (drop place image)) in
      ap (λ x. x ++ take t (drop place image)) e ∙ ap (λ x. take place image ++ x) (take_all t (drop place image) f)
      ∙ take-append-drop place image

  -- The fact of an upload holds after a short part that completes the image.
  short_part_gives_fetch_fact : (image part : List ℕ) → length part < c.transfer → kept ++ part ≡ image
      → FetchFact (fetched_phase c.transfer k kept part) (record { image = image; stage = InDfuIdle })
  short_part_gives_fetch_fact image part h e =
      let f : (length part == c.transfer) ≡ false = grind (arith, nat_tests) in
      let g : nat_lt (length part) c.transfer ≡ true = grind (arith, nat_tests) in
      rw (f, g) (e, tt)

  -- The fact of an upload holds after a full part that continues the image.
  full_part_gives_fetch_fact : (image part : List ℕ) (place number : ℕ) → k < 65535 → length part ≡ c.transfer → number ≡ suc k % 65536
      → kept ++ part ≡ take place image → FetchFact (fetched_phase c.transfer k kept part)
      (record { image = image; stage = InUploadIdle place number })
  full_part_gives_fetch_fact image part place number b h n e =
      let f : (length part == c.transfer) ≡ true = grind (arith, nat_tests) in
      rw f (choice_has_fact (λ (x : Phase). FetchFact x (record { image = image; stage = InUploadIdle place number })) (suc k == 65535) _ _
      (λ many. tt) (λ fewer. (grind (arith, nat_tests), (omega arith, n, e))))

  -- A property of an UPLOAD's plan holds if it holds for each error, for a short part, and for a full one.
  upload_errs_or_gives : (P : Plan → Type 0) (image : List ℕ) (place expected number : ℕ) → let part = take c.transfer (drop place image) in
      ((code : Code) → P (error_plan code)) →
      (number ≡ expected → length part < c.transfer → P (Sure (Data part) InDfuIdle))
      → (number ≡ expected → length part ≡ c.transfer → P (Sure (Data part) (InUploadIdle (place + c.transfer) (number_after expected))))
      → P (upload_plan c image place expected number c.transfer)
  upload_errs_or_gives P image place expected number pf ps pl =
      let part = take c.transfer (drop place image) in
      holds_in_both_branches P (c.transfer == 0) _ _ (pf ErrStalledPkt)
      (holds_in_both_branches P (nat_lt c.transfer c.transfer) _ _ (pf ErrStalledPkt)
      (choice_has_fact P (not (number == expected)) _ _ (λ e. pf ErrAddress)
      (λ e. let n : number ≡ expected = grind (arith, nat_tests) in
      choice_has_fact P (nat_lt (length part) c.transfer) _ _ (λ f. ps n (grind (arith, nat_tests))) (λ f. pl n
      (let h : c.transfer ≤ length part = grind (arith, nat_tests) in omega (arith, length-take c.transfer (drop place image)))))))

  -- The device may handle an UPLOAD of part k a second time: for each luck of the medium the plan of the second handling is quiet, and the
  -- host may take the answer as part k.
  record PartMayComeTwice (image : List ℕ) (p : Plan) : Type 0 where
    moves : (luck : Luck) → Quiet offers image None (plan_outcome image p luck).after.image
        (pending_of (plan_outcome image p luck).after.stage)
    sound : (luck : Luck) → ClosedWasOffered offers (plan_outcome image p luck).after.stage
    next : (luck : Luck) → FetchFact (on_part c.transfer k kept (heard_of_reply (plan_outcome image p luck).reply))
        (plan_outcome image p luck).after

  -- The device may answer the second handling of an UPLOAD with an error.
  second_upload_may_fail : (image : List ℕ) (code : Code) → PartMayComeTwice image (error_plan code)
  second_upload_may_fail image code = record { moves = λ luck. pending_forgotten; sound = λ luck. tt; next = λ luck. tt }

  -- In dfuIDLE the device may handle an UPLOAD of part k a second time.
  idle_allows_second_upload : (image : List ℕ) → k < 65535 → (k ≡ 0 → kept ≡ []) →
      PartMayComeTwice image (plan c image InDfuIdle (Upload (k % 65536) c.transfer))
  idle_allows_second_upload image b e =
      holds_in_both_branches (PartMayComeTwice image) c.can_upload _ _
      (upload_errs_or_gives (PartMayComeTwice image) image 0 0 (k % 65536) (second_upload_may_fail image)
      (λ n h. record {
        moves = λ luck. stays;
        sound = λ luck. tt;
        next = λ luck. short_part_gives_fetch_fact image _ h (short_part_ends_image image 0 c.transfer h (e (omega arith)));
      })
      (λ n h. record {
        moves = λ luck. stays;
        sound = λ luck. tt;
        next = λ luck. full_part_gives_fetch_fact image _ _ _ b h (omega arith)
            (ap (λ x. x ++ take c.transfer image) (e (omega arith)) ∙ sym (ap (λ z. take z image) (zero_plus_number c.transfer)));
      }))
      (second_upload_may_fail image ErrStalledPkt)
    where
      zero_plus_number : (n : ℕ) → 0 + n ≡ n
      zero_plus_number n = omega arith

  -- An UPLOAD that is answered with the last part has an allowed result.
  short_part_is_fetched : (part : List ℕ) (s : Situation) → ClosedWasOffered offers s.stage
      → FetchFact (fetched_phase c.transfer k kept part) (record { image = s.image; stage = InDfuIdle })
      → PartMayComeTwice s.image (plan c s.image InDfuIdle (Upload (k % 65536) c.transfer)) → (how : Handled) (l r : Luck)
      → Reached s (reached c s (Upload (k % 65536) c.transfer) (Sure (Data part) InDfuIdle) how l r)
  short_part_is_fetched part s h n q Unseen l r = record { moves = stays; sound = h; next = tt }
  short_part_is_fetched part s h n q Again l r = record {
    moves = quiet_moves_compose pending_forgotten (q.moves r);
    sound = q.sound r;
    next = q.next r;
  }
  short_part_is_fetched part s h n q how l r = record { moves = pending_forgotten; sound = tt; next = n }

  -- An UPLOAD that is answered with a full part has an allowed result.
  full_part_is_fetched : (part : List ℕ) (place number : ℕ) (s : Situation) → ClosedWasOffered offers s.stage
      → FetchFact (fetched_phase c.transfer k kept part) (record { image = s.image; stage = InUploadIdle place number })
      → PartMayComeTwice s.image (plan c s.image (InUploadIdle place number) (Upload (k % 65536) c.transfer)) → (how : Handled) (l r : Luck)
      → Reached s (reached c s (Upload (k % 65536) c.transfer) (Sure (Data part) (InUploadIdle place number)) how l r)
  full_part_is_fetched part place number s h n q Unseen l r = record { moves = stays; sound = h; next = tt }
  full_part_is_fetched part place number s h n q Again l r = record {
    moves = quiet_moves_compose pending_forgotten (q.moves r);
    sound =
        q.sound r;
    next = q.next r;
  }
  full_part_is_fetched part place number s h n q how l r = record { moves = pending_forgotten; sound = tt; next = n }

  -- In dfuUPLOAD-IDLE the device may handle an UPLOAD of part k a second time after the device's block number has advanced, because the
  -- repeated number is an error.
  passed_number_is_allowed_again : (image : List ℕ) (place number : ℕ) → number ≡ k % 65536
      → PartMayComeTwice image (plan c image (InUploadIdle place (number_after number)) (Upload (k % 65536) c.transfer))
  passed_number_is_allowed_again image place number e =
      upload_errs_or_gives (PartMayComeTwice image) image place (number_after number) (k % 65536) (second_upload_may_fail image)
      (λ n h. absurd (omega arith)) (λ n h. absurd (omega arith))

  -- If the kept bytes are the image up to the device's offset, an UPLOAD of part k has an allowed result.
  next_part_is_reached : (s : Situation) (place expected : ℕ) → k < 65535 → expected ≡ k % 65536 → kept ≡ take place s.image → (k ≡ 0 →
      kept ≡ [])
      → ClosedWasOffered offers s.stage → (how : Handled) (l r : Luck)
      → Reached s (reached c s (Upload (k % 65536) c.transfer) (upload_plan c s.image place expected (k % 65536) c.transfer) how l r)
  next_part_is_reached s place expected b f e z h how l r =
      upload_errs_or_gives (λ p. Reached s (reached c s (Upload (k % 65536) c.transfer) p how l r)) s.image place expected (k % 65536)
      (λ code. faulty_upload_is_reached (k % 65536) c.transfer s code h how l r)
      (λ n g. short_part_is_fetched _ s h (short_part_gives_fetch_fact s.image _ g (short_part_ends_image s.image place c.transfer g e))
      (idle_allows_second_upload s.image b z) how l r)
      (λ n g. full_part_is_fetched _ _ _ s h (full_part_gives_fetch_fact s.image _ _ _ b g (omega (arith, f))
      (ap (λ x. x ++ take c.transfer (drop place s.image)) e ∙ sym (take-add place c.transfer s.image)))
      (passed_number_is_allowed_again s.image _ expected (sym n)) how l r)

  -- If the kept bytes are the image up to the device's offset, and the device handles the UPLOAD of part k by the table's plan, the result
  -- is quiet.
  fetch_by_plan_goes_quietly : (image : List ℕ) (stage : Stage) → k < 65535 → FetchedSoFar k kept image stage →
      ClosedWasOffered offers stage
      → (delivery : Delivery) (l r : Luck) → let s : Situation = record { image = image; stage = stage } in
      FetchedQuietly s (request_result_of_plan c s (Upload (k % 65536) c.transfer)
      (plan c image stage (Upload (k % 65536) c.transfer)) delivery l
      r)
  fetch_by_plan_goes_quietly image InDfuIdle b f h delivery l r =
      let s : Situation = record { image = image; stage = InDfuIdle } in
      let how = delivery.handling in
      delivery_keeps_fetch s delivery.harming delivery.back _
      (holds_in_both_branches (λ p. Reached s (reached c s (Upload (k % 65536) c.transfer) p how l r)) c.can_upload _ _
      (next_part_is_reached s 0 0 b (omega (arith, f.0)) f.1 (λ e. f.1) h how l r)
      (faulty_upload_is_reached (k % 65536) c.transfer s ErrStalledPkt h how l r))
  fetch_by_plan_goes_quietly image (InUploadIdle place number) b f h delivery l r =
      delivery_keeps_fetch _ delivery.harming delivery.back _
      (next_part_is_reached (record { image = image; stage = InUploadIdle place number }) place number b f.1 f.2 (λ e. absurd (omega
      (arith, f.0))) h
      delivery.handling l r)
  fetch_by_plan_goes_quietly image stage b f h delivery l r = elim f [ ]

  -- If the kept bytes are the image up to the device's offset, the request for part k has a quiet result, with any delivery.
  pub fetch_phase_goes_quietly : (image : List ℕ) (stage : Stage) → k < 65535 → FetchedSoFar k kept image stage →
      ClosedWasOffered offers stage
      → (delivery : Delivery) (l r : Luck) → let s : Situation = record { image = image; stage = stage } in
      FetchedQuietly s (send_result c s (Upload (k % 65536) c.transfer) delivery l r)
  fetch_phase_goes_quietly image stage b f h delivery l r =
      let s : Situation = record { image = image; stage = stage } in
      subst (λ (x : Plan). FetchedQuietly s (request_result_of_plan c s (Upload (k % 65536) c.transfer) x delivery l r))
      (sym (closeless_request_goes_by_table delivery.refusing c image stage (Upload (k % 65536) c.transfer) refl))
      (fetch_by_plan_goes_quietly image stage b f h delivery l r)
