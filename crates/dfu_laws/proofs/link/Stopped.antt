-- Boards after a loss of power during any call.
use Rattle.std.specs.Prelude.{◌≡◌, ◌⊎◌, ℕ, Bool, true, false, List, [], ◌∷◌, ◌++◌, Option, Some, None}
use Rattle.std.proofs.Common.{inl, inr, refl, sym, ap, ◌∙◌, subst}
use Rattle.std.proofs.lemmas.Bool.{false≢true}
use Rattle.dfu_slots.specs.Image.{Active}
use Rattle.dfu_slots.specs.Medium.{MediumState}
use Rattle.dfu_slots.specs.StoreView.{image_of}
use Rattle.dfu_device.specs.Stage.{Profile, Stage, InManifestSync, InManifestSyncComplete, InManifest, state_of}
use Rattle.dfu_device.specs.DeviceView.{DeviceView, profile, situation}
use Rattle.dfu_device.specs.Rows.{Cause}
use Rattle.dfu_device.specs.History.{IsHistory, HistoryStep as TableRow}
use Rattle.dfu_device.specs.AcceptedBytes.{accepted_in, accepted_of}
use Rattle.dfu_asks.specs.Mapped.{grain_of, mapped_medium}
use Rattle.dfu_sim.specs.Session.{IsOneOf}
use Rattle.dfu_sim.specs.LinkAgreement.{ClosedWasOffered}
use Rattle.dfu_laws.specs.board.Board.{Board, medium_on, Event, Restart, BoardReply, Answers, BoardStep}
use Rattle.dfu_laws.specs.board.Happens.{start_stage, BoardStarts, EventOutcome, IsRun}
use Rattle.dfu_laws.specs.board.ImageSurvival.{is_manifesting}
use Rattle.dfu_laws.specs.board.Refines.{IsIdleBoard, RepresentsDevice, IdleRunsRefineTable}
use Rattle.dfu_laws.specs.link.Calls.{IsBrokenCall, CallReaches, once, CallCutOff, behind, within, power_lost_in_second_call}
use Rattle.dfu_laws.proofs.link.BoardCalls.{IsCallOfCause}
use Rattle.dfu_laws.proofs.link.Fixed.{history_keeps_profile}
use Rattle.dfu_laws.proofs.link.Parts.{IsUnansweredPart, unanswered_part_has_no_row, broken_call_is_cut_by_power}
use Rattle.dfu_laws.proofs.link.TrialRuns.{run_has_parts}
use Rattle.dfu_laws.proofs.link.BoardsAfterWaits.{BoardImageKeptOrOffered, board_kept_or_offered_then}

-- If each pending image was offered, the bytes of a download in manifestation are the given image, or were offered.
waiting_image_is_known : (past : List (List ℕ)) (image i : List ℕ) (st : Stage) → is_manifesting (state_of st) ≡ true →
    ClosedWasOffered past st
    → i ≡ accepted_in image st → (i ≡ image) ⊎ IsOneOf i past
waiting_image_is_known past image i (InManifestSync taken) on sound e = inr (subst (λ (l : List ℕ). IsOneOf l past) (sym e) sound)
waiting_image_is_known past image i InManifestSyncComplete on sound e = inl e
waiting_image_is_known past image i (InManifest taken passed) on sound e = inr (subst (λ (l : List ℕ). IsOneOf l past) (sym e) sound)
waiting_image_is_known past image i st on sound e = absurd (false≢true on)

-- If a board represents a device and has no pending writes, `IsIdleBoard` holds.
board_without_work_is_idle : (b : Board) (due : Option Cause) (d : DeviceView) → RepresentsDevice b due d → b.asking.work ≡ None →
    IsIdleBoard b d
board_without_work_is_idle b None d k none = k
board_without_work_is_idle b (Some cause) d k none = let some = k.asks.work_is in absurd (cc)

-- A board that was just powered on has no pending image.
pub no_bytes_closed_at_start : (past : List (List ℕ)) (begins : Bool) → ClosedWasOffered past (start_stage begins)
no_bytes_closed_at_start past true = tt
no_bytes_closed_at_start past false = tt

-- A restart does not change the flash, and starts the board.
restart_step_starts_board : (b b' : Board) (s : BoardStep) (begins : Bool) → IsRun b (s ∷ []) b' → s.event ≡ Restart begins
    → (b'.flash ≡ b.flash) × BoardStarts begins b'
restart_step_starts_board b b' s begins run event =
    let happens = subst (λ (e : Event). EventOutcome b e s.says s.after) event run.1 in
    subst (λ (x : Board). (x.flash ≡ b.flash) × BoardStarts begins x) (sym run.3) (happens.1, happens.2)

module _ (refines : IdleRunsRefineTable) (past : List (List ℕ)) where
  -- While a call is under way, the active image is that of the device, or was offered.
  pub call_image_kept_or_offered : (b mid : Board) (d : DeviceView) (call : Event) (cause : Cause) (front : List BoardStep) (image : List ℕ)
      → IsIdleBoard b d
      → ClosedWasOffered past d.stage → IsCallOfCause call cause → IsUnansweredPart call front → IsRun b front mid →
      Active (medium_on mid) image
      → (image ≡ image_of d.slots) ⊎ IsOneOf image past
  call_image_kept_or_offered b mid d call cause front image k sound is part run active =
      let r = refines b mid d front k run in
      let none = unanswered_part_has_no_row call cause front r.rows r.due is part r.tells in
      let same : r.device ≡ d = subst (λ (rows : List TableRow). IsHistory d rows r.device) none r.history in
      elim (r.image image active) [
        | inl old ↦ inl (old ∙ ap (λ (x : DeviceView). image_of x.slots) same)
        | inr waits ↦ waiting_image_is_known past (image_of d.slots) image d.stage
            (subst (λ (x : DeviceView). is_manifesting (state_of x.stage) ≡ true) same waits.1) sound
            (waits.2 ∙ ap (λ (x : DeviceView). accepted_of (situation x)) same)
      ]

  module _ (c : Profile) where
    -- If the power fails while a call is under way, the image afterwards is unchanged, or one that was offered.
    pub stop_keeps_or_offers : (b b' : Board) (d : DeviceView) (call : Event) (cause : Cause) (front : List BoardStep) (power : BoardStep)
        (begins : Bool)
        → IsIdleBoard b d → profile d ≡ c → ClosedWasOffered past d.stage → IsCallOfCause call cause → IsUnansweredPart call front
        → power.event ≡ Restart begins
        → IsRun b (front ++ power ∷ []) b' → BoardImageKeptOrOffered c past (situation d) b'
    stop_keeps_or_offers b b' d call cause front power begins k e sound is part event run =
        let parts = run_has_parts b front (power ∷ []) b' run in
        let happens = restart_step_starts_board parts.mid b' power begins parts.second event in
        let on = happens.1.0 in
        let r = refines b b' d (front ++ power ∷ []) k run in
        let idle = board_without_work_is_idle b' r.due r.device r.stands on.work in
        let there = refines b' b' r.device [] idle refl in
        let alike = parts.second.2 in
        let again : medium_on b' ≡ medium_on parts.mid =
        ap medium_on (parts.second.3) ∙ (λ i. mapped_medium (grain_of (alike.unit i) (alike.sector i))
        (flash_after_last_step parts.mid b' power parts.second happens.0 i)) in
        let now : there.has_image.image ≡ image_of r.device.slots = idle_board_has_device_image b' r.device there.has_image.image idle
        there.has_image.active in
        record {
          device = r.device;
          idle = idle;
          profile_is = history_keeps_profile d r.device r.rows r.history ∙ e;
          well = record {
            image = subst (λ (i : List ℕ). (i ≡ image_of d.slots) ⊎ IsOneOf i past) now
                (call_image_kept_or_offered b parts.mid d call cause front there.has_image.image k sound is part parts.first
                (subst (λ (m : MediumState). Active m there.has_image.image) again there.has_image.active));
            sound = subst (λ (x : DeviceView). ClosedWasOffered past x.stage) idle.device
                (subst (λ (x : DeviceView). ClosedWasOffered past x.stage) (sym on.device) (no_bytes_closed_at_start past on.begins));
          };
        }
      where
        flash_after_last_step : (mid b' : Board) (s : BoardStep) → IsRun mid (s ∷ []) b' → b'.flash ≡ mid.flash → s.after.flash ≡ mid.flash
        flash_after_last_step mid b' s run same = ap (λ (x : Board). x.flash) (sym run.3) ∙ same

        idle_board_has_device_image : (b : Board) (d : DeviceView) (i : List ℕ) → IsIdleBoard b d → Active (medium_on b) i → i
            ≡ image_of d.slots
        idle_board_has_device_image b d i k active =
            let r = refines b b d [] k refl in
            let same : r.device ≡ d = subst (λ (rows : List TableRow). IsHistory d rows r.device) r.tells.0 r.history in
            elim (r.image i active) [
              | inl old ↦ old ∙ ap (λ (x : DeviceView). image_of x.slots) same
              | inr waits ↦ absurd (waits.0 r.tells.1)
            ]

    power_in_call_keeps_or_offers : (b b' : Board) (d : DeviceView) (call : Event) (cause : Cause) (steps : List BoardStep) →
        IsIdleBoard b d → profile d ≡ c
        → ClosedWasOffered past d.stage → IsCallOfCause call cause → IsBrokenCall call steps → IsRun b steps b' →
        BoardImageKeptOrOffered c past (situation d) b'
    power_in_call_keeps_or_offers b b' d call cause steps k e sound is br run =
        let x = broken_call_is_cut_by_power call steps br in
        stop_keeps_or_offers b b' d call cause x.front x.power x.begins k e sound is x.part x.event
        (subst (λ (l : List BoardStep). IsRun b l b') x.steps_are run)

    -- If each complete call leaves the image unchanged or makes an offered one active, a call that a loss of power cuts off does too.
    pub cut_off_call_keeps_or_offers : (b b' : Board) (d : DeviceView) (call : Event) (cause : Cause) (steps : List BoardStep) →
        IsIdleBoard b d → profile d ≡ c
        → ClosedWasOffered past d.stage → IsCallOfCause call cause
        → ((mid : Board) (more : List BoardStep) (says : BoardReply) → CallReaches call b more says mid →
        BoardImageKeptOrOffered c past (situation d) mid)
        → CallCutOff call b steps b' → BoardImageKeptOrOffered c past (situation d) b'
    cut_off_call_keeps_or_offers b b' d call cause _ k e sound is leads (behind {steps = steps} {says = says} {mid = mid} power begins
        reaches run event) =
        let x = leads mid steps says reaches in
        board_kept_or_offered_then refines c past (situation d) mid b' x
        (stop_keeps_or_offers mid b' x.device call cause [] power begins x.idle x.profile_is x.well.sound is tt event run)
    cut_off_call_keeps_or_offers b b' d call cause steps k e sound is leads (within run br) = power_in_call_keeps_or_offers b b' d call
        cause steps k e sound is br run
    cut_off_call_keeps_or_offers b b' d call cause _ k e sound is leads (power_lost_in_second_call {first = first} {second = second} {a =
        a} {out = out} {mid = mid} serves
        run br) =
        let x = leads mid first (Answers a out) (once serves) in
        board_kept_or_offered_then refines c past (situation d) mid b' x
        (power_in_call_keeps_or_offers mid b' x.device call cause second x.idle x.profile_is x.well.sound is br run)
