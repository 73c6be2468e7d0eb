-- Facts that hold during all sessions with a board, and the origin of the images in both slots of its flash.
use Rattle.std.specs.Prelude.{◌≡◌, ◌⊎◌, ℕ, ◌<◌, Bool, List, [], ◌∷◌, Option, Some, None}
use Rattle.std.proofs.Common.{inl, inr, refl, sym, ap, ◌∙◌, subst}
use Rattle.dfu_slots.specs.Medium.{MediumState}
use Rattle.dfu_slots.specs.Image.{Active}
use Rattle.dfu_slots.specs.StoreView.{image_of}
use Rattle.dfu_device.specs.Stage.{Profile}
use Rattle.dfu_device.specs.Outcome.{Situation}
use Rattle.dfu_device.specs.DeviceView.{DeviceView, profile, situation}
use Rattle.dfu_asks.specs.Mapped.{grain_of}
use Rattle.dfu_asks.specs.Asks.{flash_store}
use Rattle.dfu_host.specs.declared.limits.Limits.{Limits}
use Rattle.dfu_host.specs.Phases.{Goal, FetchGoal}
use Rattle.dfu_host.specs.Host.{host_for_goal}
use Rattle.dfu_sim.specs.Session.{LiveSession, LoadingPayload, IsOneOf}
use Rattle.dfu_sim.specs.Opening.{goal_of_purpose, opened}
use Rattle.dfu_sim.specs.Play.{Answered}
use Rattle.dfu_sim.specs.LinkView.{Session, HostSession}
use Rattle.dfu_sim.specs.Agreement.{live_session_of_goal, live_session_of, IsLiveOffer}
use Rattle.dfu_sim.specs.LinkAgreement.{ClosedWasOffered}
use Rattle.dfu_sim.specs.Fact.{SessionFact}
use Rattle.dfu_laws.specs.board.Board.{Board, lent_on, medium_on, device_on, state_on, BoardStep}
use Rattle.dfu_laws.specs.board.Happens.{IsPoweredOn}
use Rattle.dfu_laws.specs.board.Slots.{IsInSlot, WasActiveMeanwhile}
use Rattle.dfu_laws.specs.link.LinkSteps.{BoardLink, BoardLinkStep}
use Rattle.dfu_laws.specs.link.Marks.{TrialEnd}
use Rattle.dfu_laws.specs.link.Copies.{HomeCopy}
use Rattle.dfu_laws.specs.link.Trials.{TrialMayEnd}
use Rattle.dfu_laws.specs.link.Plays.{BoardPlays, starts, offers, uploads, aborts as abort_moves_host, goes_on, ends, copies}
use Rattle.dfu_laws.proofs.board.Slots.{active_image_is_in_slot}
use Rattle.dfu_laws.proofs.link.InSlots.{marks_add_no_slot_image, gate_close_adds_no_image}
use Rattle.dfu_laws.proofs.link.Premises.{LinkLaws}
use Rattle.dfu_laws.proofs.link.BoardsAfterCopies.{operations_keep_image, operations_add_no_image}
use Rattle.dfu_laws.proofs.link.Ended.{idle_board_has_device_state, trial_end_keeps_profile, trial_end_keeps_session_fact, home_copy_keeps_profile, home_copy_keeps_stage}
use Rattle.dfu_laws.proofs.link.Played.{BoardAndHostFacts, FactsAfterEvent, event_keeps_facts}
use Rattle.dfu_laws.proofs.link.TrialRuns.{link_step_is_run_or_mark}
use Rattle.dfu_laws.proofs.link.Sessions.{purpose_goal_is_loading, same_loading_same_payload, closed_bytes_offered_with_more, same_profile_keeps_opened_fact, offered_session_has_fact, upload_session_has_fact, given_up_session_keeps_fact}
use Rattle.dfu_laws.proofs.link.Stopped.{no_bytes_closed_at_start}
use Rattle.dfu_laws.proofs.link.CallImages.{idle_board_image_is_known}
use Rattle.dfu_laws.proofs.link.KnownImages.{known_through_event}

-- The image i was on the medium at first: it was the active image, or it was in a slot, and became active after the end of a trial.
abbrev pub WasThereAtFirst : MediumState → (image : List ℕ) (back : List (List ℕ)) → List ℕ → Type 0
WasThereAtFirst m image back i = (i ≡ image) ⊎ (IsInSlot m i × IsOneOf i back)

module _ (laws : LinkLaws) (c : Profile) (sized : 0 < c.transfer) (b : Board) (image : List ℕ) (active : Active (medium_on b) image) where
  -- The image i was on the first board: it was the active image, or it was in a slot, and became active after the end of a trial.
  abbrev WasOnBoardAtFirst : List (List ℕ) → List ℕ → Type 0
  WasOnBoardAtFirst back i = WasThereAtFirst (medium_on b) image back i

  -- The image i was in a slot at first, or was offered.
  abbrev SlotImageOrigin : List (List ℕ) → List ℕ → Type 0
  SlotImageOrigin past i = IsInSlot (medium_on b) i ⊎ IsOneOf i past

  origin_of_known_image : (past back : List (List ℕ)) (i : List ℕ) → WasOnBoardAtFirst back i ⊎ IsOneOf i past → SlotImageOrigin past i
  origin_of_known_image past back i (inl (inl same)) =
      inl (subst (λ (z : List ℕ). IsInSlot (medium_on b) z) (sym same) (active_image_is_in_slot (medium_on b) image active))
  origin_of_known_image past back i (inl (inr came)) = inl came.0
  origin_of_known_image past back i (inr one) = inr one

  -- The facts of a board and its host hold, and each image in a slot was in a slot at first, or was offered.
  pub record BoardAndSlotFacts (past back : List (List ℕ)) (last : Option (List ℕ)) (l : BoardLink) : Type 0 where
    pub device : DeviceView
    pub stands : BoardAndHostFacts c (WasOnBoardAtFirst back) past last l device
    pub slots : (i : List ℕ) → IsInSlot (medium_on l.board) i → SlotImageOrigin past i

  -- After a session begins, the facts of the board and its slots still hold.
  begins : (past now back : List (List ℕ)) (last next : Option (List ℕ)) (l : BoardLink) (goal : Goal) (limits : Limits)
      → (x : BoardAndSlotFacts past back last l) → SessionFact c (situation x.device) (opened c goal limits.actions limits.restarts)
      → ((payload : List ℕ) → live_session_of_goal goal ≡ LoadingPayload payload → next ≡ Some payload) →
      IsLiveOffer now (live_session_of_goal goal)
      → ClosedWasOffered now x.device.stage → WasOnBoardAtFirst back (image_of x.device.slots) ⊎ IsOneOf (image_of x.device.slots) now
      → ((i : List ℕ) → SlotImageOrigin past i → SlotImageOrigin now i)
      → BoardAndSlotFacts now back next (record l { session = HostSession (host_for_goal l.board.asking.config.functional goal limits) })
  begins past now back last next l goal limits x f live offered sound known more = record {
    device = x.device;
    stands = record {
      idle = x.stands.idle;
      profile_is = x.stands.profile_is;
      fact = same_profile_keeps_opened_fact laws.simulation laws.only c sized (situation x.device) (profile (device_on l.board))
          (ap profile x.stands.idle.device ∙ x.stands.profile_is) goal limits f;
      live = live;
      offered = offered;
      sound = sound;
      known = known;
    };
    slots = λ i there. more i (x.slots i there);
  }

  -- If an image was one of the offers, it still is after one more offer.
  offered_remains : {P : Type 0} (i payload : List ℕ) (offered : List (List ℕ)) → P ⊎ IsOneOf i offered → P ⊎ IsOneOf i (payload ∷ offered)
  offered_remains i payload offered (inl here) = inl here
  offered_remains i payload offered (inr one) = inr (inr one)

  -- After the end of a trial, the facts of the board and its slots still hold.
  trial_end_keeps_invariant : (past back : List (List ℕ)) (last : Option (List ℕ)) (l : BoardLink) (b' : Board) (came : List ℕ) (dfu : Bool)
      → BoardAndSlotFacts past back last l → TrialMayEnd l.session (state_on l.board) dfu → TrialEnd l.board dfu b' →
      Active (medium_on b') came
      → BoardAndSlotFacts past (came ∷ back) last (record { board = b'; session = l.session })
  trial_end_keeps_invariant past back last l b' came dfu x may end now =
      let on = end.starts.0 in
      let grain : (medium_on b').grain ≡ (medium_on l.board).grain = λ j. grain_of (end.same.unit j) (end.same.sector j) in
      let sized = x.stands.idle.is.store.has_image.active.sized in
      let there : (i : List ℕ) → IsInSlot (medium_on b') i → SlotImageOrigin past i =
      λ i in_slot. x.slots i (gate_close_adds_no_image (medium_on l.board) (medium_on b') sized end.closed grain i in_slot) in
      let whence : SlotImageOrigin past came = there came (active_image_is_in_slot (medium_on b') came now) in
      let known : WasOnBoardAtFirst (came ∷ back) came ⊎ IsOneOf came past = elim (whence) [
        | inl first ↦ inl (inr (first, inl refl))
        | inr one ↦ inr one
      ] in
      record {
        device = device_on b';
        stands = record {
          idle = record { work = on.work; is = on.is; device = refl };
          profile_is = trial_end_keeps_profile l.board b' dfu end ∙ ap profile x.stands.idle.device ∙ x.stands.profile_is;
          fact = trial_end_keeps_session_fact c l.session l.board b' dfu x.device (idle_board_has_device_state laws.refines l.board
              x.device x.stands.idle) may end.starts
              x.stands.fact;
          live = x.stands.live;
          offered = x.stands.offered;
          sound = subst (λ (d : DeviceView). ClosedWasOffered past d.stage) (sym on.device) (no_bytes_closed_at_start past on.begins);
          known = subst (λ (i : List ℕ). WasOnBoardAtFirst (came ∷ back) i ⊎ IsOneOf i past)
              (laws.one (flash_store (lent_on b') b'.flash) came now) known;
        };
        slots = there;
      }

  -- After the copy between two areas, the facts of the board and its slots still hold.
  home_copy_keeps_invariant : (past back : List (List ℕ)) (last : Option (List ℕ)) (l : BoardLink) (b' : Board)
      → BoardAndSlotFacts past back last l → HomeCopy l.board b'
      → BoardAndSlotFacts past back last (record { board = b'; session = l.session })
  home_copy_keeps_invariant past back last l b' x copy =
      let on = copy.starts.0 in
      let was : Active (medium_on l.board) (image_of (device_on l.board).slots) =
      laws.shown (flash_store (lent_on l.board) l.board.flash) copy.power.0.is.store.has_image in
      let now : Active (medium_on b') (image_of (device_on l.board).slots) =
      operations_keep_image laws.home.stays (medium_on l.board) (medium_on b') (image_of (device_on l.board).slots) was copy.operations in
      let image : image_of (device_on b').slots ≡ image_of x.device.slots =
      sym (laws.one (flash_store (lent_on b') b'.flash) (image_of (device_on l.board).slots) now)
      ∙ ap (λ (d : DeviceView). image_of d.slots) x.stands.idle.device in
      let stage : (device_on b').stage ≡ x.device.stage =
      home_copy_keeps_stage l.board b' copy ∙ ap (λ (d : DeviceView). d.stage) x.stands.idle.device in
      let same : situation (device_on b') ≡ situation x.device = λ i. record { image = image i; stage = stage i } in
      record {
        device = device_on b';
        stands = record {
          idle = record { work = on.work; is = on.is; device = refl };
          profile_is = home_copy_keeps_profile l.board b' copy ∙ ap profile x.stands.idle.device ∙ x.stands.profile_is;
          fact = subst (λ (z : Situation). SessionFact c z l.session) (sym same) x.stands.fact;
          live = x.stands.live;
          offered = x.stands.offered;
          sound = subst (λ (z : Situation). ClosedWasOffered past z.stage) (sym same) x.stands.sound;
          known = subst (λ (z : Situation). WasOnBoardAtFirst back z.image ⊎ IsOneOf z.image past) (sym same) x.stands.known;
        };
        slots = λ i there. x.slots i (operations_add_no_image laws.home (medium_on l.board) (medium_on b')
            (image_of (device_on l.board).slots) was copy.operations i there);
      }

  -- After the next event, each image in a slot was in a slot at first, or was offered.
  event_keeps_slot_origins : (past back : List (List ℕ)) (last : Option (List ℕ)) (l l' : BoardLink) (more : List BoardStep) (answer :
      Answered)
      → (x : BoardAndSlotFacts past back last l) → FactsAfterEvent c (WasOnBoardAtFirst back) past last answer l' →
      BoardLinkStep l more answer l' → (i : List ℕ)
      → IsInSlot (medium_on l'.board) i → SlotImageOrigin past i
  event_keeps_slot_origins past back last l l' more answer x y comes i there = elim (link_step_is_run_or_mark l l' more answer comes) [
    | inl run ↦ elim (laws.keeps l.board l'.board x.device more i x.stands.idle run y.stands.idle.work there) [
      | inl before ↦ x.slots i before
      | inr was ↦ active_meanwhile_has_origin was
    ]
    | inr mark ↦ x.slots i (marks_add_no_slot_image (medium_on l.board) (medium_on l'.board) mark.1.unread i there)
  ]
    where
      active_meanwhile_has_origin : WasActiveMeanwhile l.board more i → SlotImageOrigin past i
      active_meanwhile_has_origin was =
          let at = idle_board_image_is_known laws.refines c (WasOnBoardAtFirst back) past l'.board y.device y.stands.idle
          (record { sound = y.stands.sound; known = y.stands.known }) in
          let k = known_through_event laws.refines laws.simulation laws.only c sized (WasOnBoardAtFirst back) past last l l' x.device more
          answer x.stands
          at comes was.front was.rest was.mid was.steps_are was.run in
          let s = flash_store (lent_on was.mid) was.mid.flash in
          let same : k.now ≡ i = laws.one s k.now k.active ∙ sym (laws.one s i was.active) in
          origin_of_known_image past back i (subst (λ (z : List ℕ). WasOnBoardAtFirst back z ⊎ IsOneOf z past) same k.known)

  -- After any sessions with a board that was just powered on, the facts of the board and its slots hold.
  pub stands : (steps : List BoardStep) (past back : List (List ℕ)) (last : Option (List ℕ)) (l : BoardLink) → IsPoweredOn b
      → profile (device_on b) ≡ c
      → BoardPlays b steps past back last l → BoardAndSlotFacts past back last l
  stands _ _ _ _ _ on e starts = record {
    device = device_on b;
    stands = record {
      idle = record { work = on.work; is = on.is; device = refl };
      profile_is = e;
      fact = tt;
      live = λ payload x. absurd (cc);
      offered = tt;
      sound = subst (λ (x : DeviceView). ClosedWasOffered [] x.stage) (sym on.device) (no_bytes_closed_at_start [] on.begins);
      known = inl (inl (sym (laws.one (flash_store (lent_on b) b.flash) image active)));
    };
    slots = λ i there. inl there;
  }
  stands steps _ _ _ _ on e (offers {past = past} {back = back} {last = last} {l = l} purpose payload limits p none some) =
      let x = stands steps past back last l on e p in
      begins past (payload ∷ past) back last (Some payload) l (goal_of_purpose purpose payload) limits x
      (offered_session_has_fact laws.simulation laws.only c sized past (situation x.device) purpose payload limits x.stands.sound some)
      (λ y same. same_loading_same_payload payload y (sym (purpose_goal_is_loading purpose payload) ∙ same))
      (subst (λ (y : LiveSession). IsLiveOffer (payload ∷ past) y) (sym (purpose_goal_is_loading purpose payload)) (inl refl))
      (closed_bytes_offered_with_more payload past x.device.stage x.stands.sound)
      (offered_remains (image_of x.device.slots) payload past x.stands.known)
      (λ i whence. offered_remains i payload past whence)
  stands steps past back _ _ on e (uploads {last = last} {l = l} limits p none) =
      let x = stands steps past back last l on e p in
      begins past past back last None l FetchGoal limits x
      (upload_session_has_fact laws.simulation laws.only c sized past (situation x.device) limits x.stands.sound)
      (λ y same. absurd (cc)) tt x.stands.sound x.stands.known (λ i whence. whence)
  stands steps past back last _ on e (abort_moves_host {l = l} {h = h} p live) =
      let x = stands steps past back last l on e p in
      let f = subst (λ (y : Session). SessionFact c (situation x.device) y) live x.stands.fact in
      let o = subst (λ (y : Session). IsLiveOffer past (live_session_of y)) live x.stands.offered in
      let g = given_up_session_keeps_fact laws.simulation laws.only c sized past (situation x.device) h x.stands.sound o f in
      record {
        device = x.device;
        stands = record {
          idle = x.stands.idle;
          profile_is = x.stands.profile_is;
          fact = g.fact;
          live = λ y same. x.stands.live y (ap live_session_of live ∙ sym g.live ∙ same);
          offered = subst (λ (y : LiveSession). IsLiveOffer past y) (sym g.live) o;
          sound = x.stands.sound;
          known = x.stands.known;
        };
        slots = x.slots;
      }
  stands _ past back last _ on e (goes_on {steps = steps} {more = more} {l = l} {l' = l'} {answer = answer} p comes) =
      let x = stands steps past back last l on e p in
      let y = event_keeps_facts laws.refines laws.simulation laws.only c sized past (WasOnBoardAtFirst back) last l l' x.device more answer
      x.stands comes in
      record { device = y.device; stands = y.stands; slots = event_keeps_slot_origins past back last l l' more answer x y comes }
  stands steps _ _ last _ on e (ends {past = past} {back = back} {l = l} {b' = b'} {begins = dfu} came p may end now) =
      trial_end_keeps_invariant past back last l b' came dfu (stands steps past back last l on e p) may end now
  stands steps past back last _ on e (copies {l = l} {b' = b'} p copy) =
      home_copy_keeps_invariant past back last l b' (stands steps past back last l on e p) copy
