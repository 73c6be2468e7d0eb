-- Laws of a board, proved from what each row of the device table preserves.
use Rattle.std.specs.Prelude.{◌≡◌, ◌⊎◌, ℕ, Bool, true, false, List, [], Option, Some, None}
use Rattle.std.proofs.Common.{inl, inr, refl, sym, ap, ◌∙◌, subst}
use Rattle.std.proofs.lemmas.List.{append-nil}
use Rattle.dfu_slots.specs.declared.fault.WriteFault.TheVariants.{Failed}
use Rattle.dfu_slots.specs.Image.{Active, HasImage}
use Rattle.dfu_slots.specs.StoreView.{SlotsState, store_on, image_of}
use Rattle.dfu_device.specs.Stage.{Stage, InManifestSync, InManifest, state_of}
use Rattle.dfu_device.specs.DeviceView.{DeviceView, situation}
use Rattle.dfu_device.specs.Rows.{Cause}
use Rattle.dfu_device.specs.AcceptedBytes.{accepted_of}
use Rattle.dfu_device.specs.AcceptedHistory.{RowAcceptsBody}
use Rattle.dfu_asks.specs.Asks.{flash_store}
use Rattle.dfu_laws.specs.board.Board.{Board, lent_on, medium_on, device_on, state_on, BoardStep}
use Rattle.dfu_laws.specs.board.Happens.{start_stage, IsPoweredOn, IsRun}
use Rattle.dfu_laws.specs.board.ImageSurvival.{accepted_bytes_of, DownloadOfImageClosed, ImageKeptOrClosed, RunsKeepImage, is_manifesting, ImageStaysInRun, has_manifested, ManifestationInstalls}
use Rattle.dfu_laws.specs.board.Refines.{RepresentsDevice, IdleRunsRefineTable, RunsRefineDeviceTable}
use Rattle.dfu_laws.proofs.board.Cut.{WriteLaws, torn_piece_cuts_row_off}
use Rattle.dfu_laws.specs.board.Accepts.{IsPending}
use Rattle.dfu_laws.proofs.board.Closing.{waiting_bytes_are_taken}
use Rattle.dfu_laws.proofs.board.Installs.{nothing_waits_when_over}
use Rattle.dfu_laws.proofs.board.DueRow.{failing_due_row_outcome}
use Rattle.dfu_laws.proofs.board.Powers.{powered_board_is_idle, nothing_taken_at_start, nothing_waits_at_power}
use Rattle.dfu_laws.proofs.board.EachStepRows.{board_step_makes_rows}
use Rattle.dfu_laws.proofs.board.Runs.{board_state_is_device_state, DeviceBytesFromSteps, step_keeps_device_bytes, RunOutcome, run_keeps_and_makes_rows}

-- Clause `only` of the law `active_image_is_one`: no image other than that of the store is active.
abbrev pub ActiveImageIsOneClause : Type 0
ActiveImageIsOneClause = (s : SlotsState) (image : List ℕ) → Active s.medium image → image ≡ image_of s

-- The flash of a board has an active image. It is the image of the board's device, or while writes are pending possibly the pending image.
record HasImageOfDevice (b : Board) (due : Option Cause) (d : DeviceView) : Type 0 where
  has : HasImage (medium_on b)
  -- An active image is the device's image, or while writes are pending possibly the pending image.
  is : (image : List ℕ) → Active (medium_on b) image → (image ≡ image_of d.slots) ⊎ ((due ≡ None → ⊥) × IsPending d.stage image)

some_due_is_not_none : (cause : Cause) → ◌≡◌ {A = Option Cause} (Some cause) None → ⊥
some_due_is_not_none cause e = absurd (cc)

module _ (laws : WriteLaws) (only : ActiveImageIsOneClause) where
  board_has_device_image : (b : Board) (due : Option Cause) (d : DeviceView) → RepresentsDevice b due d → HasImageOfDevice b due d
  board_has_device_image b None d k = record {
    has = k.is.store.has_image;
    is = λ image active. inl (only (flash_store (lent_on b) b.flash) image active ∙ ap (λ (x : DeviceView). image_of x.slots) k.device);
  }
  board_has_device_image b (Some cause) d k =
      let c = torn_piece_cuts_row_off laws b cause d k in
      let due = failing_due_row_outcome d c.after k.len c.answer c.out Failed c.row in
      record {
        has = c.store.has_image;
        is = λ image active.
            let e : image ≡ image_of c.after.slots = only (store_on (medium_on b)) image active
            ∙ sym (ap (λ (s : SlotsState). image_of s) c.slots) in
            elim (due.image) [
              | inl old ↦ inl (e ∙ old)
              | inr new ↦ inr (some_due_is_not_none cause, subst (λ (t : List ℕ). IsPending d.stage t) (sym e) new)
            ];
      }

-- A board that was just powered on has no pending image.
no_image_waits_at_start : (begins : Bool) → is_manifesting (state_of (start_stage begins)) ≡ false
no_image_waits_at_start true = refl
no_image_waits_at_start false = refl

-- An image is pending only in dfuMANIFEST-SYNC and dfuMANIFEST.
pending_image_means_manifesting : (st : Stage) (t : List ℕ) → IsPending st t → is_manifesting (state_of st) ≡ true
pending_image_means_manifesting (InManifestSync taken) t m = refl
pending_image_means_manifesting (InManifest taken passed) t m = refl
pending_image_means_manifesting st t m = absurd m

-- In any other state than dfuMANIFEST-SYNC and dfuMANIFEST no image is pending.
no_pending_unless_manifesting : (st : Stage) (t : List ℕ) → is_manifesting (state_of st) ≡ false → IsPending st t → ⊥
no_pending_unless_manifesting (InManifestSync taken) t off m = absurd (cc)
no_pending_unless_manifesting (InManifest taken passed) t off m = absurd (cc)
no_pending_unless_manifesting st t off m = m

module _ (laws : WriteLaws) (takes : RowAcceptsBody) (only : ActiveImageIsOneClause) where
  -- A board that was just powered on satisfies `DeviceBytesFromSteps` for the empty list of steps.
  begun : (b : Board) → IsPoweredOn b → DeviceBytesFromSteps (image_of (device_on b).slots) [] [] (device_on b)
  begun b on = record {
    taken = subst (λ (x : DeviceView). [] ≡ accepted_of (situation x)) (sym on.device)
        (sym (nothing_taken_at_start on.begins (image_of (store_on (medium_on b)))));
    waits = λ t m. absurd (nothing_waits_at_power b t on m);
    whence = inl refl;
  }

  -- A run from power on preserves `DeviceBytesFromSteps`.
  ran : (b b' : Board) (steps : List BoardStep) → IsPoweredOn b → IsRun b steps b'
      → RunOutcome (DeviceBytesFromSteps (image_of (device_on b).slots) []) [] steps b' None (device_on b)
  ran b b' steps on run =
      run_keeps_and_makes_rows laws takes (DeviceBytesFromSteps (image_of (device_on b).slots) []) (step_keeps_device_bytes (image_of
      (device_on b).slots) []) [] steps b b' None
      (device_on b) (powered_board_is_idle b on) (begun b on) run

  -- All steps of a run that begins without pending writes are rows of the device table.
  pub idle_runs_refine_table : IdleRunsRefineTable
  idle_runs_refine_table b b' d steps k run =
      let r = run_keeps_and_makes_rows laws takes (λ steps d. Unit {0}) (λ steps s due d kept x. tt) [] steps b b' None d k tt run in
      record {
        rows = r.rows;
        due = r.due';
        device = r.device;
        history = r.history;
        tells = r.tells;
        stands = r.stands;
        state = board_state_is_device_state b' r.due' r.device r.stands;
        has_image = (board_has_device_image laws only b' r.due' r.device r.stands).has;
        image = λ image active. elim ((board_has_device_image laws only b' r.due' r.device r.stands).is image active) [
          | inl same ↦ inl same
          | inr waited ↦ inr (
            waited.0,
            pending_image_means_manifesting r.device.stage image waited.1,
            sym (waiting_bytes_are_taken (image_of r.device.slots) r.device.stage image waited.1),
          )
        ];
      }

  -- All steps of a board from power on are rows of the device table.
  pub runs_refine_device_table : RunsRefineDeviceTable
  runs_refine_device_table b b' steps on run = idle_runs_refine_table b b' (device_on b) steps (powered_board_is_idle b on) run

  -- If a device satisfies `DeviceBytesFromSteps`, the active image of its board is the given image, or all bytes of a closed download.
  device_image_kept_on_board : (image : List ℕ) (old steps : List BoardStep) (b : Board) (due : Option Cause) (d : DeviceView)
      → RepresentsDevice b due d
      → DeviceBytesFromSteps image old steps d → ImageKeptOrClosed image old steps b
  device_image_kept_on_board image old steps b due d k kept =
      let i = board_has_device_image laws only b due d k in
      record {
        now = i.has.image;
        active = i.has.active;
        whence = elim (i.is i.has.image i.has.active) [
          | inl same ↦ elim (kept.whence) [
            | inl here ↦ inl (same ∙ here)
            | inr closed ↦ inr (subst (λ (t : List ℕ). DownloadOfImageClosed old steps t) (sym same) closed)
          ]
          | inr waited ↦ inr (kept.waits i.has.image waited.1)
        ];
      }

  -- From a time at which no image is pending, the active image stays the same until another download is closed.
  pub image_stays_in_run : ImageStaysInRun
  image_stays_in_run b mid b' old steps image on before off active run =
      let r = ran b mid old on before in
      let still : is_manifesting (state_of r.device.stage) ≡ false =
      sym (ap is_manifesting (board_state_is_device_state mid r.due' r.device r.stands)) ∙ off in
      let here : image_of r.device.slots ≡ image =
      elim ((board_has_device_image laws only mid r.due' r.device r.stands).is image active) [
        | inl same ↦ sym same
        | inr waited ↦ absurd (no_pending_unless_manifesting r.device.stage image still waited.1)
      ] in
      let r' = run_keeps_and_makes_rows laws takes (DeviceBytesFromSteps image old) (step_keeps_device_bytes image old) [] steps mid b'
      r.due' r.device r.stands
      (record {
        taken = ap (λ (l : List BoardStep). accepted_bytes_of [] l) (append-nil old) ∙ r.kept.taken;
        waits = λ t m. absurd (no_pending_unless_manifesting r.device.stage t still m);
        whence = inl here;
      }) run in
      device_image_kept_on_board image old steps b' r'.due' r'.device r'.stands r'.kept

  -- From power on, the active image stays the same until a download is closed.
  pub runs_keep_image : RunsKeepImage
  runs_keep_image b b' steps image on active run =
      image_stays_in_run b b b' [] steps image on refl (ap is_manifesting (state b on) ∙ no_image_waits_at_start on.begins) active run
    where
      state : (b : Board) → (on : IsPoweredOn b) → state_on b ≡ state_of (start_stage on.begins)
      state b on = board_state_is_device_state b None (device_on b) (powered_board_is_idle b on)
          ∙ ap (λ (x : DeviceView). state_of x.stage) on.device

  -- If a step leads out of manifestation without a fault, and is not a restart into dfuIDLE, all bytes of the download are the active image
  -- after the step.
  pub manifestation_installs : ManifestationInstalls
  manifestation_installs b mid b' steps last on before manifests run other over =
      let r = ran b mid steps on before in
      let x = board_step_makes_rows laws takes mid last.after r.due' r.device last.event last.says r.stands run.1 run.2 in
      let same : b' ≡ last.after = run.3 in
      let was : is_manifesting (state_of r.device.stage) ≡ true =
      sym (ap is_manifesting (board_state_is_device_state mid r.due' r.device r.stands)) ∙ manifests in
      let ended : has_manifested (state_of x.device.stage) ≡ true =
      sym (ap has_manifested (board_state_is_device_state last.after x.due' x.device x.stands))
      ∙ subst (λ (y : Board). has_manifested (state_on y) ≡ true) same over in
      let put : image_of x.device.slots ≡ accepted_bytes_of [] steps = x.puts other was ended ∙ sym r.kept.taken in
      let i = board_has_device_image laws only last.after x.due' x.device x.stands in
      let now : i.has.image ≡ accepted_bytes_of [] steps = elim (i.is i.has.image i.has.active) [
        | inl here ↦ here ∙ put
        | inr waited ↦ absurd (nothing_waits_when_over x.device.stage i.has.image ended waited.1)
      ] in
      subst (λ (y : Board). Active (medium_on y) (accepted_bytes_of [] steps)) (sym same)
      (subst (λ (l : List ℕ). Active (medium_on last.after) l) now i.has.active)
