-- During each event over the link, the active image is known: it was on the board at first, or was offered.
use Rattle.std.specs.Prelude.{◌≡◌, ◌⊎◌, ℕ, ◌<◌, Bool, List, [], ◌∷◌, Option}
use Rattle.std.proofs.Common.{inl, inr, refl, sym, subst}
use Rattle.dfu_slots.specs.StoreView.{image_of}
use Rattle.dfu_device.specs.declared.objection.Objection.{Objection}
use Rattle.dfu_device.specs.Stage.{Profile}
use Rattle.dfu_device.specs.DeviceView.{DeviceView, situation}
use Rattle.dfu_device.specs.Rows.{Transfer, Passing, BusReset, RefusingClose, Refusing}
use Rattle.dfu_sim.specs.Session.{IsOneOf}
use Rattle.dfu_sim.specs.LinkAgreement.{ClosedWasOffered}
use Rattle.dfu_sim.specs.Play.{Answered}
use Rattle.dfu_sim.specs.LinkView.{Session}
use Rattle.dfu_sim.specs.Simulation.{Simulation, ActiveImageWasOffered}
use Rattle.dfu_laws.specs.board.Board.{Board, Handle, Elapse, UsbReset, RefuseClose, Refuse, Restart, Event, BoardReply, BoardStep}
use Rattle.dfu_laws.specs.board.Happens.{IsRun}
use Rattle.dfu_laws.specs.board.Refines.{IsIdleBoard, IdleRunsRefineTable}
use Rattle.dfu_laws.specs.link.Calls.{CallReaches, lost, ImageRefusedAtClose, close_refused_once, close_refused_then_repeated, behind}
use Rattle.dfu_laws.specs.link.LinkSteps.{BoardLink, CallMayBeUnderWay, BoardLinkStep, passes, sends, refuses, waits, resets, is_reset_by_other_cause, restarts, leaves, restarts_at_reset, marks}
use Rattle.dfu_laws.proofs.link.BoardCalls.{served}
use Rattle.dfu_laws.proofs.link.BoardsAfterWaits.{BoardImageKeptOrOffered}
use Rattle.dfu_laws.proofs.link.Played.{BoardAndHostFacts, call_under_way_has_cause, ended_call_keeps_or_offers}
use Rattle.dfu_laws.proofs.link.TrialRuns.{reached_call_is_run}
use Rattle.dfu_laws.proofs.link.CallImages.{DeviceImageIsKnown, BoardImageIsKnown, KnownAfterEachStep, event_keeps_image_known, idle_board_image_is_known, known_through_append, known_through_answered_call, known_through_no_step, known_through_reached_call, known_through_cut_off_call}

module _ (refines : IdleRunsRefineTable) (simulation : Simulation) (only : ActiveImageWasOffered) (c : Profile) (sized : 0 < c.transfer)
    (first : List ℕ → Type 0) (past : List (List ℕ)) (last : Option (List ℕ)) where
  -- After a call that may be under way, the image is unchanged, or one that was offered.
  under_way_call_keeps_or_offers : (l : BoardLink) (d : DeviceView) (call : Event) → BoardAndHostFacts c first past last l d →
      CallMayBeUnderWay l.session call
      → (mid : Board) (more : List BoardStep) (says : BoardReply) → CallReaches call l.board more says mid →
      BoardImageKeptOrOffered c past (situation d) mid
  under_way_call_keeps_or_offers l d call s way mid more says reaches =
      ended_call_keeps_or_offers refines simulation only c sized past l.session call l.board mid d more says s.idle s.profile_is s.sound
      s.offered s.fact way
      reaches

  -- If the program refuses the image of a close, the active image is known after each step of that request.
  known_through_refused_close : (b b' : Board) (d : DeviceView) (setup body : List ℕ) (why : Objection) (steps : List BoardStep) (says :
      BoardReply)
      → IsIdleBoard b d
      → DeviceImageIsKnown first past d → BoardImageIsKnown first past b' → ImageRefusedAtClose setup body why b steps says b' →
      KnownAfterEachStep refines c first past b steps
  known_through_refused_close b b' d setup body why steps _ k known at (close_refused_once {a = a} {out = out} serves) =
      known_through_answered_call refines c first past b b' d (RefuseClose setup why)
      (RefusingClose setup why) steps a out k known refl serves at
  known_through_refused_close b b' d setup body why _ _ k known at (close_refused_then_repeated {first = xs} {second = ys} {a = a} {x = a0}
      {out = out} {said = out0}
      {mid = mid} serves more) =
      let x = served refines b mid d (RefuseClose setup why) (RefusingClose setup why) xs a0 out0 refl k serves in
      let same = x.row.3 in
      let there : DeviceImageIsKnown first past x.device = record {
        sound = subst (λ (z : DeviceView). ClosedWasOffered past z.stage) (sym same) tt;
        known = subst (λ (z : DeviceView). first (image_of z.slots) ⊎ IsOneOf (image_of z.slots) past) (sym same) known.known;
      } in
      known_through_append refines c first past b mid xs ys
      (known_through_answered_call refines c first past b mid d (RefuseClose setup why)
      (RefusingClose setup why) xs a0 out0 k known refl serves
      (idle_board_image_is_known refines c first past mid x.device x.idle there))
      serves.run
      (known_through_answered_call refines c first past mid b' x.device (Handle setup body)
      (Transfer setup body) ys a out x.idle there refl more at)

  -- After each step of a restart with no call under way, the active image is known.
  known_through_restart : (l : BoardLink) (b' : Board) (d : DeviceView) (power : BoardStep) (begins : Bool) →
      BoardAndHostFacts c first past last l d
      → IsRun l.board (power ∷ []) b' → power.event ≡ Restart begins → BoardImageIsKnown first past b'
      → KnownAfterEachStep refines c first past l.board (power ∷ [])
  known_through_restart l b' d power begins s run event at =
      known_through_cut_off_call refines c first past l.board b' d (Elapse 0) (Passing 0) (power ∷ []) s.idle (record {
        sound = s.sound;
        known = s.known;
      })
      refl (under_way_call_keeps_or_offers l d (Elapse 0) s tt) (behind power begins lost run event) at

  -- If the active image is known at the end of an event, it is known after each step of the event.
  pub known_through_event : (l l' : BoardLink) (d : DeviceView) (steps : List BoardStep) (answer : Answered) →
      BoardAndHostFacts c first past last l d
      → BoardImageIsKnown first past l'.board → BoardLinkStep l steps answer l' → KnownAfterEachStep refines c first past l.board steps
  known_through_event l _ d steps _ s at (passes {ms = ms} {a = a} {out = out} {b' = b'} serves) =
      known_through_answered_call refines c first past l.board b' d (Elapse ms) (Passing ms) steps a out s.idle
      (record { sound = s.sound; known = s.known }) refl serves at
  known_through_event l _ d steps _ s at (sends {h = h} {q = q} {setup = setup} {body = body} {says = says} {b' = b'} live is asked (inl
      reaches)
      hears room) =
      let way = subst (λ (x : Session). CallMayBeUnderWay x (Handle setup body)) (sym live) (q, is, asked) in
      known_through_reached_call refines c first past l.board b' d (Handle setup body) (Transfer setup body) steps says s.idle
      (record { sound = s.sound; known = s.known }) refl (under_way_call_keeps_or_offers l d (Handle setup body) s way) reaches
  known_through_event l _ d steps _ s at (sends {setup = setup} {body = body} {says = says} {b' = b'} live is asked
      (inr (why, refused)) hears room) =
      known_through_refused_close l.board b' d setup body why steps says s.idle (record { sound = s.sound; known = s.known }) at refused
  known_through_event l _ d steps _ s at (refuses {why = why} {a = a} {out = out} {b' = b'} serves) =
      known_through_answered_call refines c first past l.board b' d (Refuse why) (Refusing why) steps a out s.idle
      (record { sound = s.sound; known = s.known }) refl serves at
  known_through_event l _ d _ _ s at (waits live is) = known_through_no_step refines c first past l.board at
  known_through_event l _ d steps _ s at (resets {a = a} {out = out} {b' = b'} live is serves) =
      known_through_answered_call refines c first past l.board b' d UsbReset BusReset steps a out s.idle
      (record { sound = s.sound; known = s.known }) refl serves at
  known_through_event l _ d _ _ s at (is_reset_by_other_cause {call = call} {steps = steps} {more = more} {says = says} {a = a} {out = out}
      {mid = mid} {b' = b'} way
      reaches serves) =
      let cause = call_under_way_has_cause l.session call way in
      let known : DeviceImageIsKnown first past d = record { sound = s.sound; known = s.known } in
      let x = under_way_call_keeps_or_offers l d call s way mid steps says reaches in
      known_through_append refines c first past l.board mid steps more
      (known_through_reached_call refines c first past l.board mid d call cause.0 steps says s.idle known cause.1
      (under_way_call_keeps_or_offers l d call s way) reaches)
      (reached_call_is_run call l.board mid steps says reaches)
      (known_through_answered_call refines c first past mid b' x.device UsbReset BusReset more a out x.idle
      (event_keeps_image_known refines c first past d
      mid known x) refl serves at)
  known_through_event l _ d steps _ s at (restarts {call = call} {b' = b'} way stops) =
      let cause = call_under_way_has_cause l.session call way in
      known_through_cut_off_call refines c first past l.board b' d call cause.0 steps s.idle (record { sound = s.sound; known = s.known })
      cause.1
      (under_way_call_keeps_or_offers l d call s way) stops at
  known_through_event l _ d _ _ s at (leaves {power = power} {begins = begins} {b' = b'} live enters run event) =
      known_through_restart l b' d power begins s run event at
  known_through_event l _ d _ _ s at (restarts_at_reset {power = power} {begins = begins} {b' = b'} live is way run event) =
      known_through_restart l b' d power begins s run event at
  known_through_event l _ d _ _ s at (marks mark) =
      known_through_no_step refines c first past l.board
      (idle_board_image_is_known refines c first past l.board d s.idle (record { sound = s.sound; known = s.known }))
