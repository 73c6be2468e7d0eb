-- After each step of a call over the link, the active image of the board was on the board at first, or was offered.
use Rattle.std.specs.Prelude.{◌≡◌, ◌⊎◌, ℕ, List, [], ◌∷◌, ◌++◌}
use Rattle.std.proofs.Common.{inl, inr, refl, sym, ap, ◌∙◌, subst}
use Rattle.std.proofs.lemmas.List.{append-nil}
use Rattle.dfu_slots.specs.Image.{Active}
use Rattle.dfu_slots.specs.StoreView.{image_of}
use Rattle.dfu_device.specs.declared.answer.Answer.{Answer}
use Rattle.dfu_device.specs.Stage.{Profile}
use Rattle.dfu_device.specs.DeviceView.{DeviceView, situation}
use Rattle.dfu_device.specs.Rows.{Cause, BusReset}
use Rattle.dfu_sim.specs.Session.{IsOneOf}
use Rattle.dfu_sim.specs.LinkAgreement.{ClosedWasOffered}
use Rattle.dfu_laws.specs.board.Board.{Board, medium_on, UsbReset, Event, BoardReply, Answers, BoardStep}
use Rattle.dfu_laws.specs.board.Happens.{IsRun}
use Rattle.dfu_laws.specs.board.Refines.{IsIdleBoard, IdleRunsRefineTable}
use Rattle.dfu_laws.specs.link.Calls.{CallServed, IsBrokenCall, CallReaches, lost, once, twice, CallCutOff, behind, within, power_lost_in_second_call}
use Rattle.dfu_laws.proofs.link.BoardCalls.{IsCallOfCause}
use Rattle.dfu_laws.proofs.link.Parts.{first_step_of, steps_behind_first, IsUnansweredPart, joined_parts_are_empty, call_part_is_unanswered, broken_part_unanswered}
use Rattle.dfu_laws.proofs.link.BoardsAfterWaits.{BoardImageKeptOrOffered}
use Rattle.dfu_laws.proofs.link.Stopped.{call_image_kept_or_offered}
use Rattle.dfu_laws.proofs.link.TrialRuns.{run_leads_to_one_board, reached_call_is_run}

-- The image of a device was on the board at first (`first`), or was offered. If an image is pending, it was offered.
pub record DeviceImageIsKnown (first : List ℕ → Type 0) (past : List (List ℕ)) (d : DeviceView) : Type 0 where
  pub sound : ClosedWasOffered past d.stage
  pub known : first (image_of d.slots) ⊎ IsOneOf (image_of d.slots) past

-- The active image of the board was on the board at first (`first`), or was offered.
pub record BoardImageIsKnown (first : List ℕ → Type 0) (past : List (List ℕ)) (b : Board) : Type 0 where
  pub now : List ℕ
  pub active : Active (medium_on b) now
  pub known : first now ⊎ IsOneOf now past

module _ (refines : IdleRunsRefineTable) (c : Profile) (first : List ℕ → Type 0) (past : List (List ℕ)) where
  -- After each prefix of the steps, the active image was on the board at first, or was offered.
  abbrev pub KnownAfterEachStep : Board → List BoardStep → Type 0
  KnownAfterEachStep b steps = (front rest : List BoardStep) (mid : Board) → front ++ rest ≡ steps → IsRun b front mid →
      BoardImageIsKnown first past mid

  origin_known_by_start : (image i : List ℕ) → first image ⊎ IsOneOf image past → (i ≡ image) ⊎ IsOneOf i past → first i ⊎ IsOneOf i past
  origin_known_by_start image i known (inl same) = elim known [
    | inl here ↦ inl (subst first (sym same) here)
    | inr one ↦ inr (subst (λ (x : List ℕ). IsOneOf x past) (sym same) one)
  ]
  origin_known_by_start image i known (inr one) = inr one

  -- If the image of a device is known before an event that leaves the image unchanged or makes an offered image active, it is known after
  -- the event.
  pub event_keeps_image_known : (d : DeviceView) (b' : Board) → DeviceImageIsKnown first past d →
      (x : BoardImageKeptOrOffered c past (situation d) b')
      → DeviceImageIsKnown first past x.device
  event_keeps_image_known d b' k x = record {
    sound = x.well.sound;
    known = origin_known_by_start (image_of d.slots) (image_of x.device.slots) k.known x.well.image;
  }

  image_known_within_call : (b mid : Board) (d : DeviceView) (call : Event) (cause : Cause) (front : List BoardStep) → IsIdleBoard b d
      → DeviceImageIsKnown first past d → IsCallOfCause call cause
      → IsUnansweredPart call front → IsRun b front mid → BoardImageIsKnown first past mid
  image_known_within_call b mid d call cause front k known is part run =
      let i = (refines b mid d front k run).has_image in
      record {
        now = i.image;
        active = i.active;
        known = origin_known_by_start (image_of d.slots) i.image known.known
            (call_image_kept_or_offered refines past b mid d call cause front i.image k known.sound is part run i.active);
      }

  -- If the image of a device is known, and no writes are pending, the active image of its board is known.
  pub idle_board_image_is_known : (b : Board) (d : DeviceView) → IsIdleBoard b d → DeviceImageIsKnown first past d →
      BoardImageIsKnown first past b
  idle_board_image_is_known b d k known = image_known_within_call b b d UsbReset BusReset [] k known refl tt refl

  -- If the image is known after each step of two joined runs, it is known after each step of the joined run.
  pub known_through_append : (b mid : Board) (xs ys : List BoardStep) → KnownAfterEachStep b xs → IsRun b xs mid →
      KnownAfterEachStep mid ys → KnownAfterEachStep b (xs ++ ys)
  known_through_append b mid [] ys h run more front rest x e r =
      more front rest x e (subst (λ (y : Board). IsRun y front x) (sym run) r)
  known_through_append b mid (s ∷ xs) ys h run more [] rest x e r = h [] (s ∷ xs) x refl r
  known_through_append b mid (s ∷ xs) ys h run more (t ∷ front) rest x e r =
      let same : t ≡ s = ap (first_step_of t) e in
      let after : IsRun s.after front x = subst (λ (y : BoardStep). IsRun y.after front x) same r.3 in
      known_through_append s.after mid xs ys (λ f g y is way. h (s ∷ f) g y (ap (λ (l : List BoardStep). s ∷ l) is) (
        run.0,
        run.1,
        run.2,
        way,
      ))
      run.3 more front rest x (ap steps_behind_first e) after

  -- If no steps remain, the board is the one at the end of the run, and the image of that board is known.
  image_known_at_run_end : (b b' mid : Board) (steps front rest : List BoardStep) → IsRun b steps b' → BoardImageIsKnown first past b'
      → front ++ rest ≡ steps
      → rest ≡ [] → IsRun b front mid → BoardImageIsKnown first past mid
  image_known_at_run_end b b' mid steps front rest run at e none way =
      let same : front ≡ steps = sym (append-nil front) ∙ ap (λ (l : List BoardStep). front ++ l) (sym none) ∙ e in
      subst (λ (x : Board). BoardImageIsKnown first past x)
      (run_leads_to_one_board b steps b' mid run (subst (λ (l : List BoardStep). IsRun b l mid) same way)) at

  -- During an answered call, the image is known after each step.
  pub known_through_answered_call : (b b' : Board) (d : DeviceView) (call : Event) (cause : Cause) (steps : List BoardStep) (a : Answer)
      (out : List ℕ)
      → IsIdleBoard b d → DeviceImageIsKnown first past d → IsCallOfCause call cause → CallServed b call steps a out b' →
      BoardImageIsKnown first past b'
      → KnownAfterEachStep b steps
  known_through_answered_call b b' d call cause steps a out k known is serves at front rest mid e run =
      elim (call_part_is_unanswered call a out front rest
      steps serves.is e) [
        | inl part ↦ image_known_within_call b mid d call cause front k known is part run
        | inr none ↦ image_known_at_run_end b b' mid steps front rest serves.run at e none run
      ]

  known_through_broken_call : (b b' : Board) (d : DeviceView) (call : Event) (cause : Cause) (steps : List BoardStep) → IsIdleBoard b d
      → DeviceImageIsKnown first past d
      → IsCallOfCause call cause → IsRun b steps b' → IsBrokenCall call steps → BoardImageIsKnown first past b' → KnownAfterEachStep b steps
  known_through_broken_call b b' d call cause steps k known is all br at front rest mid e run = elim (broken_part_unanswered call front rest
      steps br e) [
        | inl part ↦ image_known_within_call b mid d call cause front k known is part run
        | inr none ↦ image_known_at_run_end b b' mid steps front rest all at e none run
      ]

  pub known_through_no_step : (b : Board) → BoardImageIsKnown first past b → KnownAfterEachStep b []
  known_through_no_step b at front rest mid e run =
      subst (λ (x : Board). BoardImageIsKnown first past x)
      (sym (subst (λ (l : List BoardStep). IsRun b l mid) (joined_parts_are_empty front rest e).0 run)) at

  known_through_power : (b b' : Board) (s : BoardStep) → BoardImageIsKnown first past b → BoardImageIsKnown first past b' →
      IsRun b (s ∷ []) b'
      → KnownAfterEachStep b (s ∷ [])
  known_through_power b b' s at at' all [] rest mid e run = subst (λ (x : Board). BoardImageIsKnown first past x) (sym run) at
  known_through_power b b' s at at' all (x ∷ xs) rest mid e run =
      image_known_at_run_end b b' mid (s ∷ []) (x ∷ xs) rest all at' e (joined_parts_are_empty xs rest (ap steps_behind_first e)).1 run

  -- During a call that arrives over the link, the image is known after each step, if each complete call leaves the image unchanged or makes
  -- an offered one active.
  pub known_through_reached_call : (b b' : Board) (d : DeviceView) (call : Event) (cause : Cause) (steps : List BoardStep) (says :
      BoardReply)
      → IsIdleBoard b d
      → DeviceImageIsKnown first past d → IsCallOfCause call cause
      → ((mid : Board) (more : List BoardStep) (says : BoardReply) → CallReaches call b more says mid →
      BoardImageKeptOrOffered c past (situation d) mid)
      → CallReaches call b steps says b' → KnownAfterEachStep b steps
  known_through_reached_call b _ d call cause _ _ k known is leads lost = known_through_no_step b (idle_board_image_is_known b d k known)
  known_through_reached_call b b' d call cause steps _ k known is leads (once {a = a} {out = out} serves) =
      let x = leads b' steps (Answers a out) (once serves) in
      known_through_answered_call b b' d call cause steps a out k known is serves
      (idle_board_image_is_known b' x.device x.idle (event_keeps_image_known d
      b' known x))
  known_through_reached_call b b' d call cause _ _ k known is leads (twice {first = xs} {second = ys} {a = a} {x = a0} {out = out} {said =
      out0} {mid = mid}
      serves more) =
      let x = leads mid xs (Answers a0 out0) (once serves) in
      let y = leads b' (xs ++ ys) (Answers a out) (twice serves more) in
      let there = event_keeps_image_known d mid known x in
      known_through_append b mid xs ys
      (known_through_answered_call b mid d call cause xs a0 out0 k known is serves (idle_board_image_is_known mid x.device x.idle there))
      serves.run
      (known_through_answered_call mid b' x.device call cause ys a out x.idle there is more (idle_board_image_is_known b' y.device y.idle
      (event_keeps_image_known d b' known y)))

  -- During a call that a loss of power cuts off, the image is known after each step.
  pub known_through_cut_off_call : (b b' : Board) (d : DeviceView) (call : Event) (cause : Cause) (steps : List BoardStep) → IsIdleBoard b d
      → DeviceImageIsKnown first past d
      → IsCallOfCause call cause
      → ((mid : Board) (more : List BoardStep) (says : BoardReply) → CallReaches call b more says mid →
      BoardImageKeptOrOffered c past (situation d) mid)
      → CallCutOff call b steps b' → BoardImageIsKnown first past b' → KnownAfterEachStep b steps
  known_through_cut_off_call b b' d call cause _ k known is leads (behind {steps = steps} {says = says} {mid = mid} power begins reaches
      run event) at =
      let x = leads mid steps says reaches in
      known_through_append b mid steps (power ∷ []) (known_through_reached_call b mid d call cause steps says k known is leads reaches)
      (reached_call_is_run call b mid steps says reaches)
      (known_through_power mid b' power (idle_board_image_is_known mid x.device x.idle (event_keeps_image_known d mid known x)) at run)
  known_through_cut_off_call b b' d call cause steps k known is leads (within run br) at = known_through_broken_call b b' d call cause
      steps k known is run br at
  known_through_cut_off_call b b' d call cause _ k known is leads (power_lost_in_second_call {first = xs} {second = ys} {a = a} {out = out}
      {mid = mid} serves run br) at =
      let x = leads mid xs (Answers a out) (once serves) in
      let there = event_keeps_image_known d mid known x in
      known_through_append b mid xs ys
      (known_through_answered_call b mid d call cause xs a out k known is serves (idle_board_image_is_known mid x.device
      x.idle there)) serves.run
      (known_through_broken_call mid b' x.device call cause ys x.idle there is run br at)
