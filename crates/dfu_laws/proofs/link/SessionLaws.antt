-- Laws of sessions with a board.
use Rattle.std.specs.Prelude.{◌<◌, ℕ, List, ◌++◌, Option}
use Rattle.std.proofs.Common.{refl, sym, ap, ◌∙◌, subst}
use Rattle.dfu_slots.specs.Image.{Active}
use Rattle.dfu_slots.specs.StoreView.{image_of}
use Rattle.dfu_device.specs.Stage.{Profile, state_of}
use Rattle.dfu_device.specs.DeviceView.{DeviceView, profile}
use Rattle.dfu_asks.specs.Asks.{flash_store}
use Rattle.dfu_sim.specs.Play.{Answered}
use Rattle.dfu_laws.specs.board.Board.{Board, lent_on, medium_on, device_on, BoardStep}
use Rattle.dfu_laws.specs.board.Happens.{IsPoweredOn}
use Rattle.dfu_laws.specs.board.Refines.{IsIdleBoard}
use Rattle.dfu_laws.specs.link.LinkSteps.{BoardLink, BoardLinkStep}
use Rattle.dfu_laws.specs.link.Plays.{BoardPlays, ReportMeansPayloadInPlace, UploadIsActiveImage, ActiveImageIsKnown, ActiveImageIsKnownWithin}
use Rattle.dfu_laws.proofs.link.Ended.{idle_board_has_device_state}
use Rattle.dfu_laws.proofs.link.Played.{FactsAfterEvent, event_keeps_facts}
use Rattle.dfu_laws.proofs.link.CallImages.{idle_board_image_is_known}
use Rattle.dfu_laws.proofs.link.KnownImages.{known_through_event}
use Rattle.dfu_laws.proofs.link.Premises.{LinkLaws}
use Rattle.dfu_laws.proofs.link.LastingFacts.{WasThereAtFirst, BoardAndSlotFacts, stands}

module _ (laws : LinkLaws) where
  idle_board_image_is_active : (b : Board) (d : DeviceView) → IsIdleBoard b d → Active (medium_on b) (image_of d.slots)
  idle_board_image_is_active b d k = subst (λ (z : DeviceView). Active (medium_on b) (image_of z.slots)) k.device
      (laws.shown (flash_store (lent_on b) b.flash) k.is.store.has_image)

  -- A board that was just powered on has the image of its store as its active image.
  powered_board_image_is_active : (b : Board) → IsPoweredOn b → Active (medium_on b) (image_of (device_on b).slots)
  powered_board_image_is_active b on = laws.shown (flash_store (lent_on b) b.flash) on.is.store.has_image

  -- The facts of a board and its slots hold after the sessions so far, and the facts of the next event hold after that event.
  record FactsAroundNextEvent (b : Board) (image : List ℕ) (active : Active (medium_on b) image)
      (sized : 0 < (profile (device_on b)).transfer)
      (past back : List (List ℕ)) (last : Option (List ℕ)) (l l' : BoardLink) (answer : Answered) : Type 0 where
    before : BoardAndSlotFacts laws (profile (device_on b)) sized b image active past back last l
    went : FactsAfterEvent (profile (device_on b)) (λ i. WasThereAtFirst (medium_on b) image back i) past last answer l'

  event_keeps_all_facts : (b : Board) (image : List ℕ) (active : Active (medium_on b) image) (sized : 0 < (profile (device_on b)).transfer)
      (steps more : List BoardStep) (past back : List (List ℕ)) (last : Option (List ℕ)) (l l' : BoardLink) (answer : Answered)
      → IsPoweredOn b
      → BoardPlays b steps past back last l → BoardLinkStep l more answer l' →
      FactsAroundNextEvent b image active sized past back last l l' answer
  event_keeps_all_facts b image active sized steps more past back last l l' answer on plays comes =
      let c : Profile = profile (device_on b) in
      let x = stands laws c sized b image active steps past back last l on refl plays in
      record {
        before = x;
        went = event_keeps_facts laws.refines laws.simulation laws.only c sized past (λ i. WasThereAtFirst (medium_on b) image back i) last
            l l'
            x.device more answer x.stands comes;
      }

  -- If the host reports Installed or Verified, the payload of the last session is the active image, and the board is in appIDLE.
  pub report_means_payload_in_place : ReportMeansPayloadInPlace
  report_means_payload_in_place b steps more past back last l l' answer on sized plays comes e =
      let y = (event_keeps_all_facts b (image_of (device_on b).slots) (powered_board_image_is_active b on) sized steps more past back last l
      l' answer on plays
      comes).went in
      let done = y.done e in
      record {
        payload = image_of y.device.slots;
        offered = done.1;
        active = idle_board_image_is_active l'.board y.device y.stands.idle;
        state = idle_board_has_device_state laws.refines l'.board y.device y.stands.idle ∙ ap state_of done.0;
      }

  -- The bytes of the report Uploaded are the active image.
  pub upload_is_active_image : UploadIsActiveImage
  upload_is_active_image b steps more past back last l l' answer bytes on sized plays comes e =
      let y = (event_keeps_all_facts b (image_of (device_on b).slots) (powered_board_image_is_active b on) sized steps more past back last l
      l' answer on plays
      comes).went in
      subst (λ (i : List ℕ). Active (medium_on l'.board) i) (sym (y.gives bytes e)) (idle_board_image_is_active l'.board y.device
      y.stands.idle)

  -- The active image is the first one, was offered, or was in a slot at first and active after the end of a trial.
  pub active_image_is_known : ActiveImageIsKnown
  active_image_is_known b steps past back last l image on sized active plays =
      let x = stands laws (profile (device_on b)) sized b image active steps past back last l on refl plays in
      record { now = image_of x.device.slots; active = idle_board_image_is_active l.board x.device x.stands.idle; known = x.stands.known }

  -- After each step of the next event, the active image is one that `HasKnownActiveImage` allows.
  pub active_image_is_known_within : ActiveImageIsKnownWithin
  active_image_is_known_within b mid steps front rest past back last l l' answer image on sized active plays comes run =
      let c : Profile = profile (device_on b) in
      let g = event_keeps_all_facts b image active sized steps (front ++ rest) past back last l l' answer on plays comes in
      let x = g.before in
      let y = g.went in
      let was : List ℕ → Type 0 = λ i. WasThereAtFirst (medium_on b) image back i in
      let at = idle_board_image_is_known laws.refines c was past l'.board y.device y.stands.idle
      (record { sound = y.stands.sound; known = y.stands.known }) in
      let k = known_through_event laws.refines laws.simulation laws.only c sized was past last l l' x.device (front
      ++ rest) answer x.stands at
      comes front rest mid refl run in
      record { now = k.now; active = k.active; known = k.known }
