-- Steps of a board that loses power and restarts.
use Rattle.std.specs.Prelude.{◌≡◌, ◌≢◌, ℕ, Bool, true, false, min, List, [], ◌∷◌, ◌++◌, Some, None}
use Rattle.std.proofs.Common.{inl, inr, refl, sym, ap, ◌∙◌, subst}
use Rattle.std.proofs.lemmas.Bool.{false≢true}
use Rattle.dfu_wire.specs.declared.setups.Setup.{Setup}
use Rattle.dfu_wire.specs.declared.requests.Request.TheVariants as request
use Rattle.dfu_wire.specs.Setup.{IsSetup}
use Rattle.dfu_wire.specs.Request.{SetupAsksFor as AsksFor}
use Rattle.dfu_slots.specs.declared.fault.WriteFault.TheVariants.{Failed}
use Rattle.dfu_slots.specs.Medium.{MediumState}
use Rattle.dfu_slots.specs.Image.{HasImage}
use Rattle.dfu_slots.specs.StoreView.{SlotsState, store_on, image_of}
use Rattle.dfu_device.specs.declared.answer.Answer.TheVariants as answer
use Rattle.dfu_device.specs.Stage.{InAppIdle, InAppDetach, state_of}
use Rattle.dfu_device.specs.DeviceView.{DeviceView, profile, situation}
use Rattle.dfu_device.specs.Rows.{Cause, Transfer, BusReset, PowerOn, handled_by_reading}
use Rattle.dfu_device.specs.History.{IsHistory, HistoryStep as TableRow}
use Rattle.dfu_device.specs.AcceptedBytes.{accepted_in, accepted_of, accepted_in_state}
use Rattle.dfu_asks.specs.Lent.{SameConfig}
use Rattle.dfu_asks.specs.Due.{DueRowFails}
use Rattle.dfu_asks.specs.Mapped.{grain_of, mapped_medium}
use Rattle.dfu_laws.specs.board.Board.{Board, lent_on, medium_on, device_on, Restart, BoardReply}
use Rattle.dfu_laws.specs.board.Happens.{start_stage, IsPoweredOn, BoardStarts}
use Rattle.dfu_laws.specs.board.Refines.{AreStartRows, IsBoardAtWork, IsIdleBoard}
use Rattle.dfu_laws.proofs.board.Cut.{WriteLaws, torn_piece_cuts_row_off}
use Rattle.dfu_laws.specs.board.Accepts.{IsPending}
use Rattle.dfu_laws.proofs.board.Closing.{reopened_store_keeps_image}
use Rattle.dfu_laws.proofs.board.Installs.{IsManifestationOver}
use Rattle.dfu_laws.proofs.board.DueRow.{failing_due_row_outcome}
use Rattle.dfu_laws.proofs.board.SlotCalls.{SlotImagesKeptOrActive, failing_row_keeps_slot_images}
use Rattle.dfu_laws.proofs.board.StepRows.{StepMakesRows, row_of_answer}

-- Device after a loss of power, in appIDLE on the same medium.
abbrev device_after_power_loss : DeviceView → DeviceView
device_after_power_loss w = record { config = w.config; slots = store_on w.slots.medium; stage = InAppIdle }

-- Device after a loss of power, in the stage in which it starts.
abbrev device_after_start : DeviceView → Bool → DeviceView
device_after_start w begins = record (device_after_power_loss w) { stage = start_stage begins }

started_board_has_start_device : (b b' : Board) (w : DeviceView) → w.config ≡ b.asking.config → w.slots.medium ≡ medium_on b →
    SameConfig b.asking b'.asking
    → b'.flash ≡ b.flash → (begins : Bool) → BoardStarts begins b' → device_on b' ≡ device_after_start w begins
started_board_has_start_device b b' w config medium same flash begins (on, is) =
    let again : medium_on b' ≡ w.slots.medium = (λ i. mapped_medium (grain_of (same.unit i) (same.sector i)) (flash i)) ∙ sym medium in
    let set : b'.asking.config ≡ w.config = same.config ∙ sym config in
    on.device ∙ (λ i. record { config = set i; slots = store_on (again i); stage = start_stage (is i) })

-- Eight bytes of the setup packet of a DETACH.
abbrev detach_bytes : List ℕ
detach_bytes = 0x21 ∷ 0 ∷ 0 ∷ 0 ∷ 0 ∷ 0 ∷ 0 ∷ 0 ∷ []

-- Setup packet of a DETACH, with the timeout 0.
abbrev detach_setup : Setup
detach_setup = record { kind = 0x21; request = 0; value = 0; index = 0; length = 0 }

detach_setup_has_its_bytes : IsSetup detach_setup detach_bytes
detach_setup_has_its_bytes = record { length = refl; kind = refl; request = refl; value = refl; index = refl; size = refl }

detach_setup_asks_detach : AsksFor detach_setup (request.Detach 0)
detach_setup_asks_detach = (record { kind = refl; request = refl; index = refl }, refl, refl)

-- The start of a device corresponds to these rows of the device table.
record MakesStartRows (w : DeviceView) (begins : Bool) (w' : DeviceView) : Type 0 where
  rows : List TableRow
  -- The rows lead from the device before the start to the one after it.
  history : IsHistory w rows w'
  start : AreStartRows begins rows

power_makes_rows : (w w' : DeviceView) (begins : Bool) → w' ≡ device_after_start w begins → MakesStartRows w begins w'
power_makes_rows w w' false e = record {
  rows = row_of_answer w PowerOn answer.Ack [] w';
  history = (refl, (refl, refl, e), refl);
  start = record {
    row = record { before = w; cause = PowerOn; answer = answer.Ack; out = []; after = w' };
    rows_are = refl;
    cause_is = refl;
    answer_is = refl;
    out_is = refl;
  };
}
power_makes_rows w w' true e =
    let up : DeviceView = device_after_power_loss w in
    let left : DeviceView = record up { stage = InAppDetach (min (profile up).detach_ms 0) 0 } in
    let first : TableRow = record { before = w; cause = PowerOn; answer = answer.Ack; out = []; after = up } in
    let second : TableRow = record { before = up; cause = Transfer detach_bytes []; answer = answer.Ack; out = []; after = left } in
    let third : TableRow = record { before = left; cause = BusReset; answer = answer.Ack; out = []; after = w' } in
    record {
      rows = first ∷ second ∷ third ∷ [];
      history = (
        refl,
        (refl, refl, refl),
        (
          refl,
          handled_by_reading detach_setup (request.Detach 0) detach_setup_has_its_bytes detach_setup_asks_detach ((refl, refl), refl),
          (refl, (refl, refl, e), refl),
        ),
      );
      start = record {
        power = first;
        detach = second;
        reset = third;
        rows_are = refl;
        power_is = refl;
        detach_is = record {
          setup = detach_bytes;
          cause_is = refl;
          read = detach_setup;
          fields = detach_setup_has_its_bytes;
          timeout = 0;
          asks = detach_setup_asks_detach;
        };
        reset_is = refl;
      };
    }

-- A board that was just powered on has no pending writes, and represents a device.
pub powered_board_is_idle : (b : Board) → IsPoweredOn b → IsIdleBoard b (device_on b)
powered_board_is_idle b on = record { work = on.work; is = on.is; device = refl }

-- A device that starts holds no bytes of a download.
pub nothing_taken_at_start : (begins : Bool) (image : List ℕ) → accepted_in image (start_stage begins) ≡ []
nothing_taken_at_start true image = refl
nothing_taken_at_start false image = refl

start_drops_taken_bytes : (begins : Bool) (image t : List ℕ) → accepted_in image (start_stage begins) ≡ accepted_in_state
    (state_of (start_stage begins)) t
start_drops_taken_bytes true image t = refl
start_drops_taken_bytes false image t = refl

nothing_pending_at_start : (begins : Bool) (t : List ℕ) → IsPending (start_stage begins) t → ⊥
nothing_pending_at_start true t m = m
nothing_pending_at_start false t m = m

start_ends_nothing : (begins : Bool) → Restart begins ≢ Restart true → IsManifestationOver (start_stage begins) → ⊥
start_ends_nothing true other over = other refl
start_ends_nothing false other over = false≢true over

-- A board that was just powered on has no pending image.
pub nothing_waits_at_power : (b : Board) (t : List ℕ) → IsPoweredOn b → IsPending (device_on b).stage t → ⊥
nothing_waits_at_power b t on m = nothing_pending_at_start on.begins t (subst (λ (x : DeviceView). IsPending x.stage t) on.device m)

-- A loss of power does not change the active image.
power_loss_keeps_image : (w w' : DeviceView) (begins : Bool) → w' ≡ device_after_start w begins → image_of w'.slots ≡ image_of w.slots
power_loss_keeps_image w w' begins e = ap (λ (x : DeviceView). image_of x.slots) e ∙ reopened_store_keeps_image w.slots

-- A restart of a board without pending writes corresponds to the rows of a start.
pub idle_restart_makes_rows : (b b' : Board) (d : DeviceView) (begins : Bool) (says : BoardReply) → IsIdleBoard b d →
    SameConfig b.asking b'.asking
    → b'.flash ≡ b.flash → BoardStarts begins b' → StepMakesRows b' None d (Restart begins) says
idle_restart_makes_rows b b' d begins says k same flash on =
    let there = started_board_has_start_device b b' d (ap (λ (x : DeviceView). x.config) (sym k.device))
    (ap (λ (x : DeviceView). x.slots.medium) (sym k.device))
    same flash begins on in
    let r = power_makes_rows d (device_on b') begins there in
    record {
      rows = r.rows;
      due' = None;
      device = device_on b';
      history = r.history;
      tells = (r.start, refl);
      stands = powered_board_is_idle b' on.0;
      taken =
          subst (λ (x : DeviceView). accepted_of (situation x) ≡ accepted_in_state (state_of x.stage) (accepted_of (situation d) ++ []))
          (sym there)
          (start_drops_taken_bytes begins (image_of (device_after_power_loss d).slots) (accepted_of (situation d) ++ []));
      waits = λ t m. absurd (nothing_waits_at_power b' t on.0 m);
      image = inl (power_loss_keeps_image d (device_on b') begins there);
      puts = λ other manifests over. absurd (start_ends_nothing begins other (subst (λ (x : DeviceView). IsManifestationOver x.stage) there
          over));
      slots = inl (ap (λ (x : DeviceView). x.slots.medium) there);
    }

-- A restart of a board with pending writes corresponds to the row of these writes, which failed, and then the rows of a start.
pub restart_cuts_due_row : (laws : WriteLaws) (b b' : Board) (cause : Cause) (d : DeviceView) (begins : Bool) (says : BoardReply) →
    IsBoardAtWork b cause d
    → SameConfig b.asking b'.asking → b'.flash ≡ b.flash → BoardStarts begins b' → StepMakesRows b' (Some cause) d (Restart begins) says
restart_cuts_due_row laws b b' cause d begins says k same flash on =
    let c = torn_piece_cuts_row_off laws b cause d k in
    let there = started_board_has_start_device b b' c.after c.config (ap (λ (s : SlotsState). s.medium) c.slots) same flash begins on in
    let r = power_makes_rows c.after (device_on b') begins there in
    let first : TableRow = record { before = d; cause = cause; answer = c.answer; out = c.out; after = c.after } in
    let due = failing_due_row_outcome d c.after k.len c.answer c.out Failed c.row in
    record {
      rows = first ∷ r.rows;
      due' = None;
      device = device_on b';
      history = (refl, k.row.fails Failed c.answer c.out c.after c.row, r.history);
      tells = (record { row = first; rest = r.rows; rows_are = refl; cause_is = refl; start = r.start }, refl);
      stands = powered_board_is_idle b' on.0;
      taken =
          subst (λ (x : DeviceView). accepted_of (situation x) ≡ accepted_in_state (state_of x.stage) (accepted_of (situation d) ++ []))
          (sym there)
          (start_drops_taken_bytes begins (image_of (device_after_power_loss c.after).slots) (accepted_of (situation d) ++ []));
      waits = λ t m. absurd (nothing_waits_at_power b' t on.0 m);
      image =
          let left = power_loss_keeps_image c.after (device_on b') begins there in
          elim (due.image) [
            | inl old ↦ inl (left ∙ old)
            | inr new ↦ inr (subst (λ (t : List ℕ). IsPending d.stage t) (sym left) new)
          ];
      puts = λ other manifests over. absurd (start_ends_nothing begins other (subst (λ (x : DeviceView). IsManifestationOver x.stage) there
          over));
      slots = inr (
        refl,
        subst (λ (x : MediumState). SlotImagesKeptOrActive d.slots.medium x) (sym (ap (λ (x : DeviceView). x.slots.medium) there))
            (subst (λ (z : DeviceView). SlotImagesKeptOrActive z.slots.medium c.after.slots.medium) k.device
            (failing_row_keeps_slot_images (lent_on b) k.asks.work k.len k.s k.was k.asks.working c.answer c.out c.after
            (subst (λ (x : SlotsState). HasImage x.medium) (sym c.slots) c.store.has_image) Failed
            (subst (λ (z : DeviceView). DueRowFails Failed k.len z c.answer c.out c.after) (sym k.device) c.row))),
      );
    }
