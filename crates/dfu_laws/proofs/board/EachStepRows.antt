-- Each step of a board corresponds to rows of the device table, for the device that the board represents.
use Rattle.std.specs.Prelude.{◌≡◌, [], Option, Some, None}
use Rattle.std.proofs.Common.{refl, sym, subst}
use Rattle.dfu_device.specs.declared.answer.Answer.TheVariants as answer
use Rattle.dfu_device.specs.DeviceView.{DeviceView}
use Rattle.dfu_device.specs.Rows.{Cause, Transfer, Passing, RefusingClose, Refusing}
use Rattle.dfu_device.specs.AcceptedHistory.{RowAcceptsBody}
use Rattle.dfu_asks.specs.Lent.{SameConfig}
use Rattle.dfu_laws.specs.board.Board.{Board, Event, Handle, Elapse, UsbReset, RefuseClose, Refuse, Write, Took, Restart, BoardReply, Nothing}
use Rattle.dfu_laws.specs.board.Happens.{EventOutcome}
use Rattle.dfu_laws.specs.board.ImageSurvival.{acknowledged_body}
use Rattle.dfu_laws.specs.board.Refines.{EventRows, IsBoardAtWork, IsIdleBoard, RepresentsDevice}
use Rattle.dfu_laws.proofs.board.Cut.{WriteLaws}
use Rattle.dfu_laws.proofs.board.StepRows.{kept_work_is_not_none, StepMakesRows, rowless_event_makes_no_row}
use Rattle.dfu_laws.proofs.board.CallSteps.{served, bus_reset_makes_row, objected, handle_makes_event_rows, elapse_makes_event_rows, usb_reset_makes_event_rows, refuse_close_makes_event_rows, refuse_makes_event_rows}
use Rattle.dfu_laws.proofs.board.WorkingSteps.{write_keeps_board_at_work, told}
use Rattle.dfu_laws.proofs.board.Powers.{idle_restart_makes_rows, restart_cuts_due_row}

-- A step that does not change a board has no row.
unchanged_board_makes_no_row : (b b' : Board) (due : Option Cause) (d : DeviceView) (e : Event) → RepresentsDevice b due d → b' ≡ b
    → EventRows due e Nothing [] due
    → acknowledged_body e Nothing ≡ [] → StepMakesRows b' due d e Nothing
unchanged_board_makes_no_row b b' due d e k same tells none =
    rowless_event_makes_no_row b' due due d e Nothing tells (subst (λ (x : Board). RepresentsDevice x due d) (sym same) k) none

-- A board that carries out writes is not idle.
board_at_work_is_not_idle : (b : Board) (cause : Cause) (d : DeviceView) → IsBoardAtWork b cause d → b.asking.work ≡ None → ⊥
board_at_work_is_not_idle b cause d k idle = kept_work_is_not_none k.asks.work b.asking.work idle k.asks.work_is

module _ (laws : WriteLaws) (takes : RowAcceptsBody) where
  idle_board_step_makes_rows : (b b' : Board) (d : DeviceView) (e : Event) (says : BoardReply) → IsIdleBoard b d → EventOutcome b e says b'
      → SameConfig b.asking b'.asking
      → StepMakesRows b' None d e says
  idle_board_step_makes_rows b b' d (Handle setup body) Nothing k h same = unchanged_board_makes_no_row b b' None d (Handle setup body) k h
      (refl, refl) refl
  idle_board_step_makes_rows b b' d (Handle setup body) says k h same =
      handle_makes_event_rows b' d setup body says (served takes b b' d (Transfer setup body) says k same h)
  idle_board_step_makes_rows b b' d (Elapse ms) Nothing k h same = unchanged_board_makes_no_row b b' None d (Elapse ms) k h (refl, refl)
      refl
  idle_board_step_makes_rows b b' d (Elapse ms) says k h same = elapse_makes_event_rows b' d ms says (served takes b b' d (Passing ms) says
      k same h)
  idle_board_step_makes_rows b b' d UsbReset Nothing k h same = unchanged_board_makes_no_row b b' None d UsbReset k h (refl, refl) refl
  idle_board_step_makes_rows b b' d UsbReset says k h same = usb_reset_makes_event_rows b' d says (bus_reset_makes_row takes b b' d says k
      same h)
  idle_board_step_makes_rows b b' d (RefuseClose setup why) Nothing k h same = unchanged_board_makes_no_row b b' None d (RefuseClose setup
      why) k h (refl, refl) refl
  idle_board_step_makes_rows b b' d (RefuseClose setup why) says k h same =
      refuse_close_makes_event_rows b' d setup why says (objected takes b b' d (RefusingClose setup why) answer.Stall says k same h)
  idle_board_step_makes_rows b b' d (Refuse why) Nothing k h same = unchanged_board_makes_no_row b b' None d (Refuse why) k h (refl, refl)
      refl
  idle_board_step_makes_rows b b' d (Refuse why) says k h same = refuse_makes_event_rows b' d why says (objected takes b b' d (Refusing
      why) answer.Ack says k same h)
  idle_board_step_makes_rows b b' d Write says k h same = absurd (kept_work_is_not_none h.1.handed.0 b.asking.work k.work h.1.handed.1)
  idle_board_step_makes_rows b b' d (Took failed) Nothing k h same = unchanged_board_makes_no_row b b' None d (Took failed) k h (
    refl,
    refl,
  ) refl
  idle_board_step_makes_rows b b' d (Took failed) says k h same = absurd (kept_work_is_not_none h.work b.asking.work k.work h.left.work_is)
  idle_board_step_makes_rows b b' d (Restart begins) says k h same = idle_restart_makes_rows b b' d begins says k same h.1 h.2

  board_at_work_step_makes_rows : (b b' : Board) (cause : Cause) (d : DeviceView) (e : Event) (says : BoardReply) → IsBoardAtWork b cause d
      → EventOutcome b e says b'
      → SameConfig b.asking b'.asking → StepMakesRows b' (Some cause) d e says
  board_at_work_step_makes_rows b b' cause d (Handle setup body) Nothing k h same = unchanged_board_makes_no_row b b' (Some cause) d
      (Handle setup body) k h (refl, refl) refl
  board_at_work_step_makes_rows b b' cause d (Handle setup body) says k h same = absurd (board_at_work_is_not_idle b cause d k h.idle)
  board_at_work_step_makes_rows b b' cause d (Elapse ms) Nothing k h same = unchanged_board_makes_no_row b b' (Some cause) d (Elapse ms) k
      h (refl, refl) refl
  board_at_work_step_makes_rows b b' cause d (Elapse ms) says k h same = absurd (board_at_work_is_not_idle b cause d k h.idle)
  board_at_work_step_makes_rows b b' cause d UsbReset Nothing k h same = unchanged_board_makes_no_row b b' (Some cause) d UsbReset k h
      (refl, refl) refl
  board_at_work_step_makes_rows b b' cause d UsbReset says k h same = absurd (board_at_work_is_not_idle b cause d k h.idle)
  board_at_work_step_makes_rows b b' cause d (RefuseClose setup why) Nothing k h same =
      unchanged_board_makes_no_row b b' (Some cause) d (RefuseClose setup why) k h (refl, refl) refl
  board_at_work_step_makes_rows b b' cause d (RefuseClose setup why) says k h same = absurd (board_at_work_is_not_idle b cause d k h.idle)
  board_at_work_step_makes_rows b b' cause d (Refuse why) Nothing k h same = unchanged_board_makes_no_row b b' (Some cause) d (Refuse why)
      k h (refl, refl) refl
  board_at_work_step_makes_rows b b' cause d (Refuse why) says k h same = absurd (board_at_work_is_not_idle b cause d k h.idle)
  board_at_work_step_makes_rows b b' cause d Write says k h same =
      rowless_event_makes_no_row b' (Some cause) (Some cause) d Write says (refl, refl) (write_keeps_board_at_work b b' cause d k h.1) refl
  board_at_work_step_makes_rows b b' cause d (Took failed) Nothing k h same = unchanged_board_makes_no_row b b' (Some cause) d (Took
      failed) k h (refl, refl) refl
  board_at_work_step_makes_rows b b' cause d (Took failed) says k h same = told laws b b' cause d failed says k h
  board_at_work_step_makes_rows b b' cause d (Restart begins) says k h same = restart_cuts_due_row laws b b' cause d begins says k same h.1
      h.2

  -- Each step of a board corresponds to rows of the device table, for the device that the board represents.
  pub board_step_makes_rows : (b b' : Board) (due : Option Cause) (d : DeviceView) (e : Event) (says : BoardReply) →
      RepresentsDevice b due d
      → EventOutcome b e says b'
      → SameConfig b.asking b'.asking → StepMakesRows b' due d e says
  board_step_makes_rows b b' None d e says k h same = idle_board_step_makes_rows b b' d e says k h same
  board_step_makes_rows b b' (Some cause) d e says k h same = board_at_work_step_makes_rows b b' cause d e says k h same
