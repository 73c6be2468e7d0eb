-- Calls of `handle`, `elapse`, `usb_reset`, `refuse_close` and `refuse` on a board without pending writes.
use Rattle.std.specs.Prelude.{◌≡◌, ℕ, ◌+◌, true, List, [], ◌++◌, length, Option, Some, None}
use Rattle.std.proofs.Common.{inl, inr, refl, sym, ap, ◌∙◌, subst}
use Rattle.std.proofs.lemmas.List.{append-nil}
use Rattle.dfu_slots.specs.StoreView.{image_of}
use Rattle.dfu_slots.proofs.BytesOutsideWrite.{no_change_keeps_all}
use Rattle.dfu_device.specs.declared.answer.Answer.{Answer}
use Rattle.dfu_device.specs.declared.objection.Objection.{Objection}
use Rattle.dfu_device.specs.declared.answer.Answer.TheVariants as answer
use Rattle.dfu_device.specs.Stage.{state_of}
use Rattle.dfu_device.specs.DeviceView.{DeviceView, situation}
use Rattle.dfu_device.specs.Rows.{Cause, Transfer, Passing, BusReset, RefusingClose, Refusing, Row}
use Rattle.dfu_device.specs.History.{HistoryStep as TableRow}
use Rattle.dfu_device.specs.AcceptedBytes.{accepted_of, accepted_in_state, acknowledged_bytes, is_dnload}
use Rattle.dfu_device.specs.AcceptedHistory.{RowAcceptsBody}
use Rattle.dfu_asks.specs.declared.reply.Reply.{Reply}
use Rattle.dfu_asks.specs.Due.{HoldsOfDueRow}
use Rattle.dfu_asks.specs.Lent.{SameConfig}
use Rattle.dfu_asks.specs.Mapped.{grain_of, mapped_medium}
use Rattle.dfu_asks.specs.Asks.{flash_store, device_in}
use Rattle.dfu_asks.specs.Calls.{IsRowOnEveryMedium, DeviceCalled, call_answered, call_asks}
use Rattle.dfu_asks.proofs.UnseenState.{unseen_of_mapped}
use Rattle.dfu_laws.specs.board.Board.{Board, lent_on, medium_on, device_on, Event, Handle, Elapse, UsbReset, RefuseClose, Refuse, BoardReply, Answers}
use Rattle.dfu_laws.specs.board.Happens.{reply_of_call, IsServedBy, ResetServed, ObjectionServed}
use Rattle.dfu_laws.specs.board.ImageSurvival.{acknowledged_body}
use Rattle.dfu_laws.specs.board.Refines.{CallRows, EventRows, IsIdleBoard}
use Rattle.dfu_laws.proofs.board.Closing.{row_has_image_outcome}
use Rattle.dfu_laws.proofs.board.Installs.{manifesting_stage_is_not_over, row_out_of_manifest_installs}
use Rattle.dfu_laws.proofs.board.StepRows.{accepted_bytes_stay_in_stage, MakesRowsOfDevice, StepMakesRows, board_is_idle_after_row, answered_bytes_of_row, row_of_answer, answer_tells_one_row}

-- Bytes that a call adds to a download: the block if the call is acknowledged, else none.
abbrev pub acknowledged_block_of : Cause → BoardReply → List ℕ
acknowledged_block_of cause (Answers a out) = acknowledged_bytes cause a
acknowledged_block_of cause says = []

-- The cause is a DNLOAD of no bytes that was acknowledged.
abbrev pub IsClosingCause : Cause → BoardReply → Type 0
IsClosingCause cause says =
    (setup : List ℕ) × (cause ≡ Transfer setup []) × (is_dnload setup ≡ true) × (says ≡ Answers answer.Ack [])

-- A call corresponds to the rows of its cause (`MakesRowsOfDevice`).
abbrev pub CallMakesRowsOfDevice : Board → Option Cause → DeviceView → Cause → BoardReply → Type 0
CallMakesRowsOfDevice b' due d cause says =
    MakesRowsOfDevice b' d (λ rows due'. CallRows cause due says rows due') (acknowledged_block_of cause says) (IsClosingCause cause says)
    (Unit {0})

module _ (takes : RowAcceptsBody) where
  -- An answered call corresponds to the row of its cause.
  answered_call_makes_row : (b' : Board) (d : DeviceView) (cause : Cause) (says : BoardReply) (x : Answer) (sent : List ℕ) →
      Row d cause x sent (device_on b')
      → IsIdleBoard b' (device_on b') → says ≡ Answers x sent → medium_on b' ≡ d.slots.medium → CallMakesRowsOfDevice b' None d cause says
  answered_call_makes_row b' d cause says x sent row idle is same =
      let leads = row_has_image_outcome d cause x sent (device_on b') row in
      record {
        rows = row_of_answer d cause x sent (device_on b');
        due' = None;
        device = device_on b';
        history = (refl, row, refl);
        tells = answer_tells_one_row None d cause x sent (device_on b') says is;
        stands = idle;
        taken = takes d cause x sent (device_on b') row
            ∙ ap (λ (y : BoardReply). accepted_in_state (state_of (device_on b').stage) (accepted_of (situation d)
            ++ acknowledged_block_of cause y))
            (sym is);
        waits = λ t m. elim (leads.waits t m) [
          | inl before ↦ inl before
          | inr closed ↦
              let c = closed.0 in
              inr ((c.0, c.1, c.2, is ∙ (λ i. Answers (c.3 i) (c.4 i))), closed.1)
        ];
        image = leads.image;
        puts = λ _ on over. row_out_of_manifest_installs d cause x sent (device_on b') row on over;
        slots = inl same;
      }

  -- If the flash and the configuration do not change, the medium stays that of the device.
  idle_board_keeps_medium : (b b' : Board) (d : DeviceView) → IsIdleBoard b d → SameConfig b.asking b'.asking → b'.flash ≡ b.flash
      → medium_on b' ≡ d.slots.medium
  idle_board_keeps_medium b b' d k alike flash = (λ i. mapped_medium (grain_of (alike.unit i) (alike.sector i)) (flash i))
      ∙ ap (λ (x : DeviceView). x.slots.medium) k.device

  -- A call of `handle` or `elapse` corresponds to the rows of its cause.
  pub served : (b b' : Board) (d : DeviceView) (cause : Cause) (says : BoardReply) → IsIdleBoard b d → SameConfig b.asking b'.asking
      → IsServedBy b cause says b' → CallMakesRowsOfDevice b' None d cause says
  served b b' d cause says k alike h =
      let o = h.outcome (record { fits = h.fits; is = k.is }) in
      from o.0 o.1 h.reply o.2 o.3
    where
      rows : DeviceView → Answer → List ℕ → DeviceView → Type 0
      rows z x sent d' = Row z cause x sent d'

      from : (out out' : List ℕ) (r : Reply) → DeviceCalled (lent_on b) b.flash out rows
          (lent_on b') out' r
          → says ≡ reply_of_call r out' → CallMakesRowsOfDevice b' None d cause says
      from out out' _ (call_answered x count e) is = answered_call_makes_row b' d cause says x e.gave.sent
          (subst (λ (z : DeviceView). Row z cause x e.gave.sent (device_on b')) k.device
          (subst (λ (f : List ℕ). Row (device_on b) cause x e.gave.sent (device_in (lent_on b') f)) (sym h.flash) (e.gave.row
          unseen_of_mapped)))
          (board_is_idle_after_row b' b.flash x count out out' (IsRowOnEveryMedium (lent_on b) b.flash rows (lent_on b')) h.flash e)
          (answered_bytes_of_row says b.flash x count out out' (lent_on b') (IsRowOnEveryMedium (lent_on b) b.flash rows (lent_on b')) e is)
          (idle_board_keeps_medium b b' d k alike h.flash)
      from out out' _ (call_asks len asks same due out_is) is = record {
        rows = [];
        due' = Some cause;
        device = d;
        history = refl;
        tells = subst (λ (y : BoardReply). CallRows cause None y [] (Some cause)) (sym is) (refl, refl);
        stands = record {
          len = len;
          s = flash_store (lent_on b) b.flash;
          was = b.flash;
          stood = b.flash;
          asks = asks;
          device = same ∙ k.device;
          row = subst (λ (z : DeviceView). HoldsOfDueRow len z (λ x sent d'. Row z cause x sent d')) k.device (due unseen_of_mapped);
          torn = λ p piece. no_change_keeps_all p.write.at (p.write.at + length p.write.bytes) b.flash b'.flash h.flash;
        };
        taken = sym (ap (λ (y : BoardReply). accepted_in_state (state_of d.stage) (accepted_of (situation d)
            ++ acknowledged_block_of cause y)) is
            ∙ ap (λ (l : List ℕ). accepted_in_state (state_of d.stage) l) (append-nil (accepted_of (situation d)))
            ∙ accepted_bytes_stay_in_stage (image_of d.slots) d.stage);
        waits = λ t m. inl m;
        image = inl refl;
        puts = λ _ on over. absurd (manifesting_stage_is_not_over d.stage on over);
        slots = inl refl;
      }

  -- A call of `usb_reset` corresponds to the row of a reset.
  pub bus_reset_makes_row : (b b' : Board) (d : DeviceView) (says : BoardReply) → IsIdleBoard b d → SameConfig b.asking b'.asking
      → ResetServed b says b'
      → CallMakesRowsOfDevice b' None d BusReset says
  bus_reset_makes_row b b' d says k alike h = answered_call_makes_row b' d BusReset says answer.Ack []
      (subst (λ (z : DeviceView). Row z BusReset answer.Ack [] (device_on b')) k.device (refl, refl, h.row))
      (record { work = h.work; is = (h.is (record { fits = h.fits; is = k.is })).is; device = refl }) h.says_is
      (idle_board_keeps_medium b b' d k alike h.flash)

  -- A call of `refuse_close` or `refuse` corresponds to the row of its refusal.
  pub objected : (b b' : Board) (d : DeviceView) (cause : Cause) (a : Answer) (says : BoardReply) → IsIdleBoard b d
      → SameConfig b.asking b'.asking → ObjectionServed b cause a says b' → CallMakesRowsOfDevice b' None d cause says
  objected b b' d cause a says k alike h =
      let both = h.row k.is in
      answered_call_makes_row b' d cause says a [] (subst (λ (z : DeviceView). Row z cause a [] (device_on b')) k.device both.1)
      (record { work = h.work; is = both.0; device = refl }) h.says_is (idle_board_keeps_medium b b' d k alike h.flash)

-- If a call corresponds to the rows of its cause, its step corresponds to the rows of its event. The cause's rows must be rows of the
-- event, and cause and event must add the same block and close the same download.
pub call_rows_are_event_rows : (b' : Board) (due : Option Cause) (d : DeviceView) (e : Event) (cause : Cause) (says : BoardReply)
    → ((rows : List TableRow) (due' : Option Cause) → CallRows cause due says rows due' → EventRows due e says rows due')
    → acknowledged_block_of cause says ≡ acknowledged_body e says → ((setup : List ℕ) → cause ≡ Transfer setup [] → e ≡ Handle setup [])
    → CallMakesRowsOfDevice b' due d cause says → StepMakesRows b' due d e says
call_rows_are_event_rows b' due d e cause says tells block closes c = record {
  rows = c.rows;
  due' = c.due';
  device = c.device;
  history = c.history;
  tells = tells c.rows c.due' c.tells;
  stands = c.stands;
  taken = c.taken ∙ ap (λ (l : List ℕ). accepted_in_state (state_of c.device.stage) (accepted_of (situation d) ++ l)) block;
  waits = λ t m. elim (c.waits t m) [
    | inl before ↦ inl before
    | inr closed ↦
        let x = closed.0 in
        inr ((x.0, closes x.0 x.1, x.2, x.3), closed.1)
  ];
  image = c.image;
  puts = λ other on over. c.puts tt on over;
  slots = c.slots;
}

-- The rows of a call of `handle` are those of the event `Handle`.
pub handle_makes_event_rows : (b' : Board) (d : DeviceView) (setup body : List ℕ) (says : BoardReply) →
    CallMakesRowsOfDevice b' None d (Transfer setup body) says
    → StepMakesRows b' None d (Handle setup body) says
handle_makes_event_rows b' d setup body says c =
    call_rows_are_event_rows b' None d (Handle setup body) (Transfer setup body) says (λ rows due' t. t) (acknowledged_body_same says)
    same_cause_same_handle c
  where
    acknowledged_body_same : (says : BoardReply) → acknowledged_block_of (Transfer setup body) says
        ≡ acknowledged_body (Handle setup body) says
    acknowledged_body_same (Answers a out) = refl
    acknowledged_body_same says = refl

    same_cause_same_handle : (other : List ℕ) → Transfer setup body ≡ Transfer other [] → Handle setup body ≡ Handle other []
    same_cause_same_handle other e = cc

-- If no acknowledgement for a cause adds bytes to a download, no reply for this cause adds a block.
call_without_body_adds_none : (cause : Cause) → ((a : Answer) → acknowledged_bytes cause a ≡ []) → (says : BoardReply) →
    acknowledged_block_of cause says ≡ []
call_without_body_adds_none cause none (Answers a out) = none a
call_without_body_adds_none cause none says = refl

pub elapse_makes_event_rows : (b' : Board) (d : DeviceView) (ms : ℕ) (says : BoardReply) → CallMakesRowsOfDevice b' None d (Passing ms) says
    → StepMakesRows b' None d (Elapse ms) says
elapse_makes_event_rows b' d ms says c =
    call_rows_are_event_rows b' None d (Elapse ms) (Passing ms) says (λ rows due' t. t) (call_without_body_adds_none (Passing ms) (λ a.
    refl) says)
    (λ own e. absurd (cc)) c

pub usb_reset_makes_event_rows : (b' : Board) (d : DeviceView) (says : BoardReply) → CallMakesRowsOfDevice b' None d BusReset says →
    StepMakesRows b' None d UsbReset says
usb_reset_makes_event_rows b' d says c = call_rows_are_event_rows b' None d UsbReset BusReset says (λ rows due' t. t)
    (call_without_body_adds_none BusReset (λ a. refl) says)
    (λ own e. absurd (cc)) c

pub refuse_close_makes_event_rows : (b' : Board) (d : DeviceView) (setup : List ℕ) (why : Objection) (says : BoardReply)
    → CallMakesRowsOfDevice b' None d (RefusingClose setup why) says → StepMakesRows b' None d (RefuseClose setup why) says
refuse_close_makes_event_rows b' d setup why says c =
    call_rows_are_event_rows b' None d (RefuseClose setup why) (RefusingClose setup why) says (λ rows due' t. t)
    (call_without_body_adds_none (RefusingClose setup why) (λ a. refl) says) (λ own e. absurd (cc)) c

pub refuse_makes_event_rows : (b' : Board) (d : DeviceView) (why : Objection) (says : BoardReply) →
    CallMakesRowsOfDevice b' None d (Refusing why) says
    → StepMakesRows b' None d (Refuse why) says
refuse_makes_event_rows b' d why says c =
    call_rows_are_event_rows b' None d (Refuse why) (Refusing why) says (λ rows due' t. t) (call_without_body_adds_none (Refusing why) (λ
    a. refl) says)
    (λ own e. absurd (cc)) c
