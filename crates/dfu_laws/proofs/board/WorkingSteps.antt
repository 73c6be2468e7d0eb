-- Steps of a board with pending writes.
use Rattle.std.specs.Prelude.{◌≡◌, ℕ, ◌+◌, Bool, List, [], length, take, Some, None}
use Rattle.std.proofs.Common.{inr, refl, sym, ap, ◌∙◌, subst}
use Rattle.std.proofs.lemmas.List.{append-nil}
use Rattle.dfu_slots.specs.declared.fault.WriteFault.{WriteFault}
use Rattle.dfu_slots.specs.declared.fault.WriteFault.TheVariants.{Failed, NotVerified}
use Rattle.dfu_slots.specs.Medium.{Torn}
use Rattle.dfu_slots.specs.Image.{HasImage}
use Rattle.dfu_slots.proofs.BytesOutsideWrite.{no_change_keeps_all, two_changes_are_one_change}
use Rattle.dfu_device.specs.declared.answer.Answer.{Answer}
use Rattle.dfu_device.specs.Stage.{state_of}
use Rattle.dfu_device.specs.DeviceView.{DeviceView, situation}
use Rattle.dfu_device.specs.Rows.{Cause, Row}
use Rattle.dfu_device.specs.AcceptedBytes.{accepted_of, accepted_in_state}
use Rattle.dfu_asks.specs.declared.reply.Reply.{Reply}
use Rattle.dfu_asks.specs.declared.pending_writes.PendingWrites.{PendingWrites}
use Rattle.dfu_asks.specs.Steps.{Step}
use Rattle.dfu_asks.specs.Carried.{IsStepPiece}
use Rattle.dfu_asks.specs.Due.{DueRowWorks, DueRowFails}
use Rattle.dfu_asks.specs.Asks.{device_in, device_of, steps_in}
use Rattle.dfu_asks.specs.Calls.{CallCompleted, DueOutcome, outcome_asks, outcome_answered, piece_on_flash, piece_write_failed, piece_not_on_flash}
use Rattle.dfu_laws.specs.board.Board.{Board, lent_on, medium_on, device_on, Took, BoardReply, Answers}
use Rattle.dfu_laws.specs.board.Happens.{reply_of_call, FlashIsWritten, TookResult}
use Rattle.dfu_laws.specs.board.Refines.{CallRows, IsBoardAtWork}
use Rattle.dfu_asks.proofs.Pieces.{next_piece_is_unique}
use Rattle.dfu_laws.proofs.board.Cut.{WriteLaws, board_at_work_has_next_piece}
use Rattle.dfu_laws.proofs.board.DueRow.{DueRowOutcome, working_due_row_outcome, failing_due_row_outcome}
use Rattle.dfu_laws.proofs.board.SlotCalls.{SlotImagesKeptOrActive, working_row_keeps_slot_images, failing_row_keeps_slot_images}
use Rattle.dfu_laws.proofs.board.StepRows.{kept_work_is_one, StepMakesRows, rowless_event_makes_no_row, board_is_idle_after_row, answered_bytes_of_row, row_of_answer, answer_tells_one_row}

-- A write in the range of the next piece leaves the same row pending.
pub write_keeps_board_at_work : (b b' : Board) (cause : Cause) (d : DeviceView) → IsBoardAtWork b cause d → FlashIsWritten b b' →
    IsBoardAtWork b' cause d
write_keeps_board_at_work b b' cause d k h =
    let w = h.handed.0 in
    let same : w ≡ k.asks.work = kept_work_is_one w k.asks.work b.asking.work h.handed.1 k.asks.work_is in
    let piece : IsStepPiece (steps_in (lent_on b) k.asks.work) k.asks.work.done h.piece =
    subst (λ (x : PendingWrites). IsStepPiece (steps_in (lent_on b) x) x.done h.piece) same h.handed.2 in
    let mid : Board = record b { flash = b'.flash } in
    let on : IsBoardAtWork mid cause d = record {
      len = k.len;
      s = k.s;
      was = k.was;
      stood = k.stood;
      asks = k.asks;
      device = k.device;
      row = k.row;
      torn = λ p is. two_changes_are_one_change p.write.at (p.write.at + length p.write.bytes) k.stood b.flash b'.flash (k.torn p is)
          (subst (λ (q : Step). Torn b.flash q.write.at q.write.bytes b'.flash)
          (next_piece_is_unique (steps_in (lent_on b) k.asks.work) k.asks.work.done h.piece p piece is) h.torn);
    } in
    let path : mid ≡ b' = λ i. record {
      asking = sym h.asking i;
      block = sym h.block i;
      held = sym h.held i;
      flash = b'.flash;
    } in
    subst (λ (x : Board). IsBoardAtWork x cause d) path on

-- Outcomes of `took` on a board with pending writes.
module _ (laws : WriteLaws) (b b' : Board) (cause : Cause) (d : DeviceView) (failed : Bool) (says : BoardReply)
    (k : IsBoardAtWork b cause d)
    (h : TookResult b failed says b') where
  over : (x : Answer) (count : ℕ) (R : Answer → List ℕ → DeviceView → Type 0)
      → CallCompleted b.flash x count h.out h.out' (lent_on b') (λ y sent. R y sent (device_in (lent_on b') b.flash))
      → ((sent : List ℕ) (w' : DeviceView) → R x sent w' → Row d cause x sent w' × DueRowOutcome d w')
      → ((sent : List ℕ) (w' : DeviceView) → HasImage w'.slots.medium → R x sent w' → SlotImagesKeptOrActive k.s.medium w'.slots.medium)
      → says ≡ Answers x (take count h.out')
      → StepMakesRows b' (Some cause) d (Took failed) says
  over x count R e follows moves is =
      let sent = e.gave.sent in
      let Ended : Answer → List ℕ → Type 0 = λ y sent. R y sent (device_in (lent_on b') b.flash) in
      let row = subst (λ (f : List ℕ). R x sent (device_in (lent_on b') f)) (sym h.flash) e.gave.row in
      let got = follows sent (device_on b') row in
      let idle = board_is_idle_after_row b' b.flash x count h.out h.out' Ended h.flash e in
      record {
        rows = row_of_answer d cause x sent (device_on b');
        due' = None;
        device = device_on b';
        history = (refl, got.0, refl);
        tells = answer_tells_one_row (Some cause) d cause x sent (device_on b') says
            (answered_bytes_of_row says b.flash x count h.out h.out' (lent_on b') Ended e is);
        stands = idle;
        taken = got.1.taken
            ∙ sym (ap (λ (l : List ℕ). accepted_in_state (state_of (device_on b').stage) l) (append-nil (accepted_of (situation d))));
        waits = λ t m. absurd (got.1.waits t m);
        image = got.1.image;
        puts = λ other on over. got.1.puts over;
        slots = inr (
          refl,
          subst (λ (z : DeviceView). SlotImagesKeptOrActive z.slots.medium (medium_on b')) k.device
              (moves sent (device_on b') idle.is.store.has_image row),
        );
      }

  report_makes_rows : (r : Reply) → DueOutcome (device_of (lent_on b) k.s) k.len k.s k.was b.flash h.out (lent_on b') h.out' r →
      says ≡ reply_of_call r h.out'
      → StepMakesRows b' (Some cause) d (Took failed) says
  report_makes_rows _ (outcome_asks asks same out_is) is =
      rowless_event_makes_no_row b' (Some cause) (Some cause) d (Took failed) says
      (subst (λ (y : BoardReply). CallRows cause (Some cause) y [] (Some cause)) (sym is) (refl, refl))
      (record {
        len = k.len;
        s = k.s;
        was = k.was;
        stood = b.flash;
        asks = asks;
        device = same ∙ k.device;
        row = k.row;
        torn = λ p piece. no_change_keeps_all p.write.at (p.write.at + length p.write.bytes) b.flash b'.flash h.flash;
      })
      refl
  report_makes_rows _ (outcome_answered x count e) is =
      over x count (λ y sent w'. DueRowWorks k.len (device_of (lent_on b) k.s) y sent w') e
      (λ sent w' row.
      let works : DueRowWorks k.len d x sent w' = subst (λ (z : DeviceView). DueRowWorks k.len z x sent w') k.device row in
      (k.row.works x sent w' works, working_due_row_outcome d w' k.len x sent works))
      (λ sent w' after row. working_row_keeps_slot_images (lent_on b) k.asks.work k.len k.s k.was k.asks.working x sent w' after row) is

  failed_row_makes_rows : (fault : WriteFault) (x : Answer) (count : ℕ)
      → CallCompleted b.flash x count h.out h.out' (lent_on b')
      (λ y sent. DueRowFails fault k.len (device_of (lent_on b) k.s) y sent (device_in (lent_on b') b.flash))
      → says ≡ Answers x (take count h.out') → StepMakesRows b' (Some cause) d (Took failed) says
  failed_row_makes_rows fault x count e is =
      over x count (λ y sent w'. DueRowFails fault k.len (device_of (lent_on b) k.s) y sent w') e
      (λ sent w' row.
      let fails : DueRowFails fault k.len d x sent w' = subst (λ (z : DeviceView). DueRowFails fault k.len z x sent w') k.device row in
      (k.row.fails fault x sent w' fails, failing_due_row_outcome d w' k.len x sent fault fails))
      (λ sent w' after row. failing_row_keeps_slot_images (lent_on b) k.asks.work k.len k.s k.was k.asks.working x sent w' after fault row)
      is

  -- A call of `took` on a board with pending writes corresponds to the rows of its event.
  pub told : StepMakesRows b' (Some cause) d (Took failed) says
  told =
      let next = board_at_work_has_next_piece laws b cause d k in
      elim (h.outcome k.len k.s k.was k.stood k.asks next.piece next.is next.torn) [
        | piece_on_flash fine there comes ↦ report_makes_rows h.reply comes h.says_is
        | piece_write_failed x count fails reply_is e ↦ failed_row_makes_rows Failed x count e (h.says_is
            ∙ ap (λ (r : Reply). reply_of_call r h.out') reply_is)
        | piece_not_on_flash x count fine lies reply_is e ↦ failed_row_makes_rows NotVerified x count e (h.says_is
            ∙ ap (λ (r : Reply). reply_of_call r h.out') reply_is)
      ]
