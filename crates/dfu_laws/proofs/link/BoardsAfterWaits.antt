-- Boards after the passing of time, and after a reset of the bus.
use Rattle.std.specs.Prelude.{◌≡◌, ℕ, List}
use Rattle.std.proofs.Common.{inl, refl, sym, ap, ◌∙◌, subst}
use Rattle.dfu_slots.specs.StoreView.{image_of}
use Rattle.dfu_device.specs.declared.answer.Answer.{Answer}
use Rattle.dfu_device.specs.Stage.{Profile, Stage, InAppDetach}
use Rattle.dfu_device.specs.Table.{reset_stage}
use Rattle.dfu_device.specs.Outcome.{Situation, Outcome, situation_after_ms}
use Rattle.dfu_device.specs.DeviceView.{DeviceView, profile, situation}
use Rattle.dfu_device.specs.Rows.{Passing, BusReset, Elapses}
use Rattle.dfu_device.specs.PlanOutcomes.{times_have_outcomes}
use Rattle.dfu_sim.specs.LinkAgreement.{ClosedWasOffered}
use Rattle.dfu_laws.specs.board.Board.{Board, Elapse, UsbReset, BoardReply, BoardStep}
use Rattle.dfu_laws.specs.board.Refines.{IsIdleBoard, IdleRunsRefineTable}
use Rattle.dfu_laws.specs.link.Calls.{CallServed, CallReaches, lost, once, twice}
use Rattle.dfu_laws.proofs.link.BoardCalls.{served}
use Rattle.dfu_laws.proofs.link.Fixed.{row_keeps_profile}
use Rattle.dfu_laws.proofs.link.Timed.{ImageKeptOrOffered, image_kept_or_offered_then, passed_time_keeps_or_offers}

-- The board has no pending writes, and its device has the profile c. The device's image is that of s, or was offered. If an image is
-- pending, it was offered.
pub record BoardImageKeptOrOffered (c : Profile) (past : List (List ℕ)) (s : Situation) (b' : Board) : Type 0 where
  pub device : DeviceView
  -- The board represents this device, without pending writes.
  pub idle : IsIdleBoard b' device
  pub profile_is : profile device ≡ c
  pub well : ImageKeptOrOffered past s (situation device)

-- After a reset of the bus no image is pending.
reset_leaves_no_closed_bytes : (past : List (List ℕ)) (stage : Stage) → ClosedWasOffered past (reset_stage stage)
reset_leaves_no_closed_bytes past (InAppDetach timer passed) = tt
reset_leaves_no_closed_bytes past stage = tt

-- A reset of the bus does not change the image.
pub reset_keeps_image : (past : List (List ℕ)) (d d' : DeviceView) → d' ≡ record d { stage = reset_stage d.stage }
    → ImageKeptOrOffered past (situation d) (situation d')
reset_keeps_image past d d' e = record {
  image = inl (ap (λ (x : DeviceView). image_of x.slots) e);
  sound = subst (λ (x : DeviceView). ClosedWasOffered past x.stage) (sym e) (reset_leaves_no_closed_bytes past d.stage);
}

module _ (refines : IdleRunsRefineTable) (c : Profile) (past : List (List ℕ)) where
  -- If each of two changes leaves the image unchanged or makes an offered one active, the two changes together do the same.
  pub board_kept_or_offered_then : (s : Situation) (b b' : Board) (x : BoardImageKeptOrOffered c past s b) →
      BoardImageKeptOrOffered c past (situation x.device) b' → BoardImageKeptOrOffered c past s b'
  board_kept_or_offered_then s b b' x y = record {
    device = y.device;
    idle = y.idle;
    profile_is = y.profile_is;
    well = image_kept_or_offered_then past s (situation x.device) (situation y.device) x.well y.well;
  }

  -- If time passes, the image stays the same, or becomes one that was offered.
  pub elapsed_time_keeps_or_offers : (ms : ℕ) (d d' : DeviceView) → profile d ≡ c → ClosedWasOffered past d.stage → Elapses ms d d'
      → ImageKeptOrOffered past (situation d) (situation d')
  elapsed_time_keeps_or_offers ms d d' e sound row =
      let y = times_have_outcomes ms d d' row in
      subst (λ (z : Situation). ImageKeptOrOffered past (situation d) z)
      (ap (λ (p : Profile). situation_after_ms p (situation d) ms y.luck) (sym e) ∙ ap (λ (o : Outcome). o.after) y.same)
      (passed_time_keeps_or_offers c past (image_of d.slots) ms d.stage sound y.luck)

  -- After a call of `elapse`, the image is unchanged, or one that was offered.
  elapse_call_keeps_or_offers : (ms : ℕ) (b b' : Board) (d : DeviceView) (steps : List BoardStep) (a : Answer) (out : List ℕ) →
      IsIdleBoard b d
      → profile d ≡ c
      → ClosedWasOffered past d.stage → CallServed b (Elapse ms) steps a out b' → BoardImageKeptOrOffered c past (situation d) b'
  elapse_call_keeps_or_offers ms b b' d steps a out k e sound serves =
      let x = served refines b b' d (Elapse ms) (Passing ms) steps a out refl k serves in
      record {
        device = x.device;
        idle = x.idle;
        profile_is = row_keeps_profile d x.device (Passing ms) a out x.row ∙ e;
        well = elapsed_time_keeps_or_offers ms d x.device e sound x.row.2;
      }

  -- If a call of `elapse` is lost, or is delivered once or twice, the image is unchanged afterwards, or one that was offered.
  pub reached_elapse_keeps_or_offers : (ms : ℕ) (b b' : Board) (d : DeviceView) (steps : List BoardStep) (says : BoardReply) →
      IsIdleBoard b d → profile d ≡ c
      → ClosedWasOffered past d.stage → CallReaches (Elapse ms) b steps says b' → BoardImageKeptOrOffered c past (situation d) b'
  reached_elapse_keeps_or_offers ms b _ d _ _ k e sound lost =
      record { device = d; idle = k; profile_is = e; well = record { image = inl refl; sound = sound } }
  reached_elapse_keeps_or_offers ms b b' d steps _ k e sound (once {a = a} {out = out} serves) = elapse_call_keeps_or_offers ms b b' d
      steps a out k e sound serves
  reached_elapse_keeps_or_offers ms b b' d _ _ k e sound (twice {first = first} {second = second} {a = a} {x = a0} {out = out} {said =
      out0} {mid = mid}
      serves more) =
      let x = elapse_call_keeps_or_offers ms b mid d first a0 out0 k e sound serves in
      board_kept_or_offered_then (situation d) mid b' x (elapse_call_keeps_or_offers ms mid b' x.device second a out x.idle x.profile_is
      x.well.sound more)

  -- A call of `usb_reset` does not change the image.
  pub reset_call_keeps_image : (b b' : Board) (d : DeviceView) (steps : List BoardStep) (a : Answer) (out : List ℕ) → IsIdleBoard b d →
      profile d ≡ c
      → CallServed b UsbReset steps a out b' → BoardImageKeptOrOffered c past (situation d) b'
  reset_call_keeps_image b b' d steps a out k e serves =
      let x = served refines b b' d UsbReset BusReset steps a out refl k serves in
      record {
        device = x.device;
        idle = x.idle;
        profile_is = row_keeps_profile d x.device BusReset a out x.row ∙ e;
        well = reset_keeps_image past d x.device x.row.2;
      }
