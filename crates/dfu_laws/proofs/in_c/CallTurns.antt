-- Calls of dfu_core_handle, dfu_core_elapse, dfu_core_usb_reset, dfu_core_took and dfu_core_too_long, as steps of a board.
use Rattle.std.specs.Prelude.{◌≡◌, ◌≤◌, ◌==◌, not, ℕ, ℤ, List, [], length, replicate, Some}
use Rattle.std.proofs.Common.{inl, inr, refl, sym, subst, arith}
use Rattle.dfu_device.specs.declared.answer.Answer.TheVariants as answer
use Rattle.dfu_device.specs.Table.{reset_stage}
use Rattle.dfu_device.specs.DeviceView.{DeviceView}
use Rattle.dfu_device.specs.Rows.{Transfer, Handles}
use Rattle.dfu_asks.specs.declared.asking.Asking.{Asking}
use Rattle.dfu_asks.specs.Carried.{IsStepPiece}
use Rattle.dfu_asks.specs.Asks.{device_in, steps_in}
use Rattle.dfu_laws.specs.board.Board.{Answers}
use Rattle.dfu_laws.specs.board.Happens.{reply_of_call}
use Rattle.dfu_core.specs.declared.records.DfuAsk.{DfuAsk}
use Rattle.dfu_core.specs.Config.{transfer_of}
use Rattle.dfu_asks.specs.Addressed.{addressed_setup}
use Rattle.dfu_core.specs.RecordMeaning.{with_memory}
use Rattle.dfu_core.specs.Calls.{IsIntactBlock}
use Rattle.dfu_core.specs.Writes.{ask_step, WriteHandedOut, RefusesPiece, device_is_not_found, piece_is_refused}
use Rattle.dfu_core.specs.declared.numbers.CoreRefusal.TheVariants as refusal
use Rattle.dfu_core.specs.Idle.{RefusesUnlessIdle}
use Rattle.dfu_asks.specs.Verdict.{IsBodyOf}
use Rattle.dfu_asks.specs.declared.reply.Reply.TheVariants as reply
use Rattle.dfu_asks.specs.Calls.{DeviceCalled, call_answered}
use Rattle.dfu_core.specs.Board.{CoreBoard, CoreHandle, CoreElapse, CoreReset, CoreTooLong, CoreTook}
use Rattle.dfu_core.specs.Happens.{KeepsConfigAndFlash, HandleOutcome, ElapseOutcome, ResetOutcome, TooLongOutcome, CoreTookOutcome}
use Rattle.dfu_laws.specs.in_c.Steps.{board_of_core, IsRefusalNumber}
use Rattle.dfu_laws.proofs.in_c.RecordDevices.{work_number_0_is_no_work, record_is_one_device}
use Rattle.dfu_laws.proofs.in_c.Parts.{reply_number_tells_reply, time_reply_number_tells_reply}
use Rattle.dfu_laws.proofs.board.DeviceCalls.{reply_to_setup_is_served, reply_to_time_is_served, reply_to_report_is_outcome}
use Rattle.dfu_laws.proofs.in_c.BoardStepsInC.{IsSoundCoreBoard, CoreStepIsBoardStep, block_memory_fits, refused_call_is_board_step, record_call_is_of_device, record_call_is_board_step, sound_with_same_config}

-- A call of dfu_core_handle is a step of a board, with each of its three results: the setup was handled, the call was refused, or the
-- buffer has no room for the answer.
pub core_handle_is_board_step : (b : CoreBoard) (a : Asking) (setup body out : List ℕ) (n : ℤ) (out' : List ℕ) (b' : CoreBoard) →
    IsSoundCoreBoard b a
    → KeepsConfigAndFlash b b' → HandleOutcome b setup body out n out' b' → CoreStepIsBoardStep b a (CoreHandle setup body out) n out' b'
core_handle_is_board_step b a setup body out n out' b' sound called (inl g) =
    let does = record_call_is_of_device b a b'.kept b'.block _ sound g in
    record_call_is_board_step b a _ n out' b' (reply_of_call does.reply out') sound called.config g
    (reply_to_setup_is_served (board_of_core b a) (board_of_core b' g.after)
    (Transfer (addressed_setup b.config.interface setup) body) out out' does.reply
    does.idle (block_memory_fits b a sound (omega (arith, g.room))) called.flash does.called)
    (reply_number_tells_reply n out' does.reply does.number_is)
core_handle_is_board_step b a setup body out n out' b' sound called (inr (inl (denied, out_is))) =
    refused_call_is_board_step b a _ n out' b' sound called.config called.flash denied.unchanged denied.block_is (λ same. same)
    (inr (inr (denied.why, denied.number_is)))
core_handle_is_board_step b a setup body out n out' b' sound called (inr (inr denied)) =
    refused_call_is_board_step b a _ n out' b' sound called.config called.flash denied.unchanged denied.block_is (λ same. same)
    (inl denied.number_is)

-- A call of dfu_core_elapse is a step of a board.
pub core_elapse_is_board_step : (b : CoreBoard) (a : Asking) (ms : ℕ) (n : ℤ) (out' : List ℕ) (b' : CoreBoard) → IsSoundCoreBoard b a
    → KeepsConfigAndFlash b b' → ElapseOutcome b ms n b' → CoreStepIsBoardStep b a (CoreElapse ms) n out' b'
core_elapse_is_board_step b a ms n out' b' sound called (inl g) =
    let does = record_call_is_of_device b a b'.kept b'.block _ sound g in
    record_call_is_board_step b a _ n out' b' (reply_of_call does.reply []) sound called.config g
    (reply_to_time_is_served (board_of_core b a) (board_of_core b' g.after) ms (replicate 6 0) does.reply
    does.idle (block_memory_fits b a sound (omega (arith, g.room))) called.flash does.called)
    (time_reply_number_tells_reply n does.reply does.number_is)
core_elapse_is_board_step b a ms n out' b' sound called (inr denied) =
    refused_call_is_board_step b a _ n out' b' sound called.config called.flash denied.unchanged denied.block_is (λ same. same)
    (inr (inr (denied.why, denied.number_is)))

-- A call of dfu_core_usb_reset is a step of a board.
pub core_reset_is_board_step : (b : CoreBoard) (a : Asking) (n : ℤ) (out' : List ℕ) (b' : CoreBoard) → IsSoundCoreBoard b a
    → KeepsConfigAndFlash b b' → ResetOutcome b n b' → CoreStepIsBoardStep b a CoreReset n out' b'
core_reset_is_board_step b a n out' b' sound called (inl g) =
    let does = record_call_is_of_device b a b'.kept b'.block _ sound g in
    let was : DeviceView = device_in (with_memory b.block a) b.flash in
    record_call_is_board_step b a _ n out' b' (Answers answer.Ack []) sound called.config g
    (record {
      idle = does.0;
      fits = block_memory_fits b a sound (omega (arith, g.room));
      flash = called.flash;
      row = subst (λ (f : List ℕ). device_in (with_memory b'.block g.after) f ≡ record was { stage = reset_stage was.stage })
          (sym called.flash) does.3;
      is = λ whole. subst (λ (f : List ℕ). IsIntactBlock b'.block f g.after) (sym called.flash) (does.4 whole);
      work = does.2;
      says_is = refl;
    })
    does.1
core_reset_is_board_step b a n out' b' sound called (inr denied) =
    refused_call_is_board_step b a _ n out' b' sound called.config called.flash denied.unchanged denied.block_is (λ same. same)
    (inr (inr (denied.why, denied.number_is)))

-- If dfu_core_next returns a write, this write is the next piece of the device's pending writes.
pub handed_out_work_is_due : (b : CoreBoard) (a : Asking) (flash : List ℕ) (n : ℤ) (ask : DfuAsk) → IsSoundCoreBoard b a
    → (h : WriteHandedOut b.config b.kept b.block flash n ask)
    → (a.work ≡ Some h.work) × IsStepPiece (steps_in (with_memory b.block a) h.work) h.work.done (ask_step ask)
handed_out_work_is_due b a flash n ask sound h =
    subst (λ (x : Asking). (x.work ≡ Some h.work) × IsStepPiece (steps_in (with_memory b.block x) h.work) h.work.done (ask_step ask))
    (record_is_one_device b.config b.kept h.asking a h.is sound.kept) (h.work_is, h.piece)

-- If dfu_core_took refuses a report, it returns a refusal number (`IsRefusalNumber`).
refused_piece_is_refusal : (b : CoreBoard) (Why : Asking → Type 0) (n : ℤ) → RefusesPiece b.config b.kept b.block Why n → IsRefusalNumber n
refused_piece_is_refusal b Why n (device_is_not_found e is cause) = inr (inr (e, is))
refused_piece_is_refusal b Why n (piece_is_refused x is config room kept why) = inr (inr (refusal.NoDevice, is))

-- A call of dfu_core_took is a step of a board.
pub core_took_is_board_step : (b : CoreBoard) (a : Asking) (failed : ℕ) (out : List ℕ) (n : ℤ) (out' : List ℕ) (b' : CoreBoard)
    → IsSoundCoreBoard b a → KeepsConfigAndFlash b b' → CoreTookOutcome b failed out n out' b'
    → CoreStepIsBoardStep b a (CoreTook failed out) n out' b'
core_took_is_board_step b a failed out n out' b' sound called (inl g) =
    let does = record_call_is_of_device b a b'.kept b'.block _ sound g in
    record_call_is_board_step b a _ n out' b' (reply_of_call does.reply out') sound called.config g
    (reply_to_report_is_outcome (board_of_core b a) (board_of_core b' g.after)
    (not (failed == 0)) out out' does.reply does.work does.left called.flash does.took)
    (reply_number_tells_reply n out' does.reply does.number_is)
core_took_is_board_step b a failed out n out' b' sound called (inr (inl (denied, kept, block, out_is))) =
    refused_call_is_board_step b a _ n out' b' sound called.config called.flash kept block (λ same. same)
    (refused_piece_is_refusal b _ n denied)
core_took_is_board_step b a failed out n out' b' sound called (inr (inr denied)) =
    refused_call_is_board_step b a _ n out' b' sound called.config called.flash denied.unchanged denied.block_is (λ same. same)
    (inl denied.number_is)

-- If a call refuses a setup, it returns a refusal number (`IsRefusalNumber`).
pub refused_setup_is_refusal : (b : CoreBoard) (n : ℤ) → RefusesUnlessIdle b.config b.kept n → IsRefusalNumber n
refused_setup_is_refusal b n (inl (inl cause)) = inr (inr (refusal.NoConfig, cause.0))
refused_setup_is_refusal b n (inl (inr cause)) = inr (inr (refusal.NoDevice, cause.0))
refused_setup_is_refusal b n (inr cause) = inr (inr (refusal.Asked, cause.0))

-- A call of dfu_core_too_long is a step of a board.
pub core_too_long_is_board_step : (b : CoreBoard) (a : Asking) (setup body : List ℕ) (n : ℤ) (out' : List ℕ) (b' : CoreBoard) →
    IsSoundCoreBoard b a → KeepsConfigAndFlash b b'
    → b'.block ≡ b.block → transfer_of b.config ≤ length b.block → IsBodyOf (addressed_setup b.config.interface setup) body
    → TooLongOutcome b setup n b' → CoreStepIsBoardStep b a (CoreTooLong setup body) n out' b'
core_too_long_is_board_step b a setup body n out' b' sound called block room is_body (inl (is, idle, long, takes)) =
    let t = takes a sound.kept in
    let own = addressed_setup b.config.interface setup in
    let before = with_memory b.block a in
    record {
      config = called.config;
      after = t.0;
      sound = sound_with_same_config b b' t.0 sound.config called.config t.1 (omega (arith, sound.short, t.3));
      says = Answers answer.Stall [];
      happens = record {
        idle = work_number_0_is_no_work b.kept a.work sound.kept.work idle.idle;
        fits = block_memory_fits b a sound room;
        flash = called.flash;
        reply = reply.Answered answer.Stall 0;
        outcome = λ whole.
            let row = t.4 b.block b.flash whole.is body is_body in (
              [],
              [],
              subst (λ (x : List ℕ). DeviceCalled before b.flash []
                  (λ d y sent d'. Handles own body d y sent d')
                  (with_memory x t.0) [] (reply.Answered answer.Stall 0)) (sym block)
                  (call_answered answer.Stall 0 (record {
                    gave = record { sent = []; count_is = refl; out_is = refl; row = row.1 };
                    work = t.2;
                    is = row.0;
                  })),
              refl,
            );
      };
      told = (0, is, refl);
    }
core_too_long_is_board_step b a setup body n out' b' sound called block room is_body (inr (kept, inl denied)) =
    refused_call_is_board_step b a _ n out' b' sound called.config called.flash kept block (λ same. same)
    (inr (inl denied.0))
core_too_long_is_board_step b a setup body n out' b' sound called block room is_body (inr (kept, inr denied)) =
    refused_call_is_board_step b a _ n out' b' sound called.config called.flash kept block (λ same. same)
    (refused_setup_is_refusal b n denied)
