-- The clauses of each device call imply the outcome of the board's step.
use Rattle.std.specs.Prelude.{◌≡◌, ℕ, Bool, false, List, [], length, take, Result, Ok, Err, Option, Some, None, IfOk, IfSome, IfNone, IsSome, OnOk, OnErr}
use Rattle.std.proofs.Common.{refl, sym, ap, ◌∙◌}
use Rattle.dfu_slots.specs.Medium.{Torn}
use Rattle.dfu_slots.specs.StoreView.{SlotsState}
use Rattle.dfu_device.specs.declared.answer.Answer.{Answer}
use Rattle.dfu_device.specs.Setting.{Setting}
use Rattle.dfu_device.specs.DeviceView.{powered_on_device}
use Rattle.dfu_device.specs.Rows.{Cause, Passing, Row}
use Rattle.dfu_slots.specs.declared.layout.Unit.{Unit as WriteUnit}
use Rattle.dfu_asks.specs.declared.asking.Asking.{Asking}
use Rattle.dfu_asks.specs.declared.pending_writes.PendingWrites.{PendingWrites}
use Rattle.dfu_asks.specs.declared.reply.Refusal.{Refusal}
use Rattle.dfu_asks.specs.declared.reply.Reply.{Reply}
use Rattle.dfu_asks.specs.declared.reply.Reply.TheVariants as reply
use Rattle.dfu_asks.specs.declared.sector.Sector.{Sector}
use Rattle.dfu_asks.specs.Mapped.{grain_of, mapped_medium}
use Rattle.dfu_asks.specs.Steps.{Step}
use Rattle.dfu_asks.specs.Carried.{IsStepPiece}
use Rattle.dfu_asks.specs.Asks.{device_in, device_of, IsDevice, steps_in}
use Rattle.dfu_asks.specs.Calls.{WritesPending, DeviceCalled, call_answered, call_asks, DevicePieceReported}
use Rattle.dfu_asks.specs.Refused.{IsDeviceOn, RoomForBlocks, HasRemainingWrites, ServedCallFacts, ReportAccepted}
use Rattle.dfu_asks.specs.Lent.{lent}
use Rattle.dfu_asks.proofs.UnseenState.{unseen_of_mapped}
use Rattle.dfu_laws.specs.board.Board.{Board, lent_on, BoardReply, Answers}
use Rattle.dfu_laws.specs.board.Happens.{IsServedBy, TookResult, BoardStarts, IsRefusedOr, reply_of_call}
use Rattle.dfu_laws.specs.board.Steps.{board_of_parts, reply_of_result}

-- If P implies Q, and P holds in case of an error, Q holds in case of an error.
pub weaken_on_error : {T E P Q : Type 0} (r : Result T E) → (P → Q) → OnErr r P → OnErr r Q
weaken_on_error (Ok x) follows p = tt
weaken_on_error (Err e) follows p = follows p

-- A fact that holds after each call that is not refused also holds after any reply, because a reply is not a refusal.
holds_after_any_reply : (b b' : Board) (out : List ℕ) (P : Type 0) (r : Reply) → P → IsRefusedOr (reply_of_call r out) b b' P
holds_after_any_reply b b' out P reply.Asks is = is
holds_after_any_reply b b' out P (reply.Answered x count) is = is

-- If a call returns its row's answer, or leaves the row's writes pending, `IsServedBy` holds for the call.
served_by_call_outcome : (b b' : Board) (cause : Cause) (said : BoardReply) (r : Reply) → b.asking.work ≡ None →
    RoomForBlocks b.asking (length b.block)
    → b'.flash ≡ b.flash
    → (IsDeviceOn b.asking b.block b.held b.flash → (out out' : List ℕ)
    × DeviceCalled (lent_on b) b.flash out (λ d x sent d'. Row d cause x sent d') (lent_on b') out' r
    × (said ≡ reply_of_call r out'))
    → IsServedBy b cause said b'
served_by_call_outcome b b' cause said r idle fits flash outcome =
    record { idle = idle; fits = fits; flash = flash; reply = r; outcome = outcome }

-- If a call returns a reply to a setup, `IsServedBy` holds for the cause of the call.
pub reply_to_setup_is_served : (b b' : Board) (cause : Cause) (out out' : List ℕ) (r : Reply) → b.asking.work ≡ None →
    RoomForBlocks b.asking (length b.block)
    → b'.flash ≡ b.flash
    → (IsDeviceOn b.asking b.block b.held b.flash
    → DeviceCalled (lent_on b) b.flash out (λ d x sent d'. Row d cause x sent d') (lent_on b') out' r)
    → IsRefusedOr (reply_of_call r out') b b' (IsServedBy b cause (reply_of_call r out') b')
reply_to_setup_is_served b b' cause out out' r idle fits flash outcome =
    holds_after_any_reply b b' out' (IsServedBy b cause (reply_of_call r out') b') r
    (served_by_call_outcome b b' cause (reply_of_call r out') r idle fits flash (λ kept. (out, out', outcome kept, refl)))

-- If `handle` refuses a call, the board is unchanged. If `handle` returns a reply, `IsServedBy` holds for the cause of the call.
pub handle_result_is_served : (b b' : Board) (cause : Cause) (need room : ℕ) (out out' : List ℕ) (r : Result Reply Refusal) → b'.flash
    ≡ b.flash
    → OnOk r (ServedCallFacts b.asking b.block b.flash need room)
    → IfOk r (λ y. IsDeviceOn b.asking b.block b.held b.flash
    → DeviceCalled (lent_on b) b.flash out (λ d x sent d'. Row d cause x sent d') (lent_on b') out' y)
    → OnErr r (b' ≡ b)
    → IsRefusedOr (reply_of_result r out') b b' (IsServedBy b cause (reply_of_result r out') b')
handle_result_is_served b b' cause need room out out' (Ok r) flash served outcome same =
    reply_to_setup_is_served b b' cause out out' r served.work served.fits flash outcome
handle_result_is_served b b' cause need room out out' (Err e) flash served outcome same = same

module _ (b b' : Board) (ms : ℕ) (zeros : List ℕ) where
  time_answer_has_no_bytes : (out : List ℕ) (x : Answer) (count : ℕ) (r : Reply) → r ≡ reply.Answered x count
      → DeviceCalled (lent_on b) b.flash zeros (λ d y sent d'. Row d (Passing ms) y sent d') (lent_on b') out r → count ≡ 0
  time_answer_has_no_bytes out x count _ is (call_answered y n e) =
      let one : n ≡ count = cc in
      sym one ∙ e.gave.count_is ∙ ap (λ (l : List ℕ). length l) (e.gave.row unseen_of_mapped).1
  time_answer_has_no_bytes out x count _ is (call_asks len asks device due out_is) = absurd (cc)

  -- If `elapse` returns a reply, the reply has no bytes, and `IsServedBy` holds for the passing of time.
  pub reply_to_time_is_served : (r : Reply) → b.asking.work ≡ None → RoomForBlocks b.asking (length b.block) → b'.flash ≡ b.flash
      → (IsDeviceOn b.asking b.block b.held b.flash → (out : List ℕ)
      × DeviceCalled (lent_on b) b.flash zeros (λ d x sent d'. Row d (Passing ms) x sent d') (lent_on b') out r)
      → IsRefusedOr (reply_of_call r []) b b' (IsServedBy b (Passing ms) (reply_of_call r []) b')
  reply_to_time_is_served r idle fits flash outcome =
      holds_after_any_reply b b' [] (IsServedBy b (Passing ms) (reply_of_call r []) b') r
      (served_by_call_outcome b b' (Passing ms) (reply_of_call r []) r idle fits flash
      (λ kept. let o = outcome kept in (zeros, o.0, o.1, empty_image_has_copied_bytes r o.0 o.1)))
    where
      empty_image_has_copied_bytes : (r : Reply) (out : List ℕ)
          → DeviceCalled (lent_on b) b.flash zeros (λ d y sent d'. Row d (Passing ms) y sent d') (lent_on b') out r
          → reply_of_call r [] ≡ reply_of_call r out
      empty_image_has_copied_bytes reply.Asks out called = refl
      empty_image_has_copied_bytes (reply.Answered x count) out called =
          let none : count ≡ 0 = time_answer_has_no_bytes out x count (reply.Answered x count) refl called in
          ap (λ (n : ℕ). Answers x (take n [])) none ∙ sym (ap (λ (n : ℕ). Answers x (take n out)) none)

  -- If `elapse` refuses a call, the board is unchanged. If `elapse` returns a reply, `IsServedBy` holds for the passing of time.
  pub elapse_result_is_served : (r : Result Reply Refusal) → b'.flash ≡ b.flash → OnOk r (ServedCallFacts b.asking b.block b.flash 0 0)
      → IfOk r (λ y. IsDeviceOn b.asking b.block b.held b.flash
      → (out : List ℕ) × DeviceCalled (lent_on b) b.flash zeros (λ d x sent d'. Row d (Passing ms) x sent d') (lent_on b') out y)
      → OnErr r (b' ≡ b)
      → IsRefusedOr (reply_of_result r []) b b' (IsServedBy b (Passing ms) (reply_of_result r []) b')
  elapse_result_is_served (Ok r) flash served outcome same = reply_to_time_is_served r served.work served.fits flash outcome
  elapse_result_is_served (Err e) flash served outcome same = same

-- If `took` returns a reply to the report of a piece, `TookResult` holds.
pub reply_to_report_is_outcome : (b b' : Board) (failed : Bool) (out out' : List ℕ) (r : Reply) (w : PendingWrites) →
    HasRemainingWrites (lent_on b) w
    → b'.flash ≡ b.flash
    → ((len : ℕ) (s : SlotsState) (was before : List ℕ) (asks : WritesPending (lent_on b) len s was before) (p : Step)
    → IsStepPiece (steps_in (lent_on b) asks.work) asks.work.done p → Torn before p.write.at p.write.bytes b.flash
    → DevicePieceReported (device_of (lent_on b) s) len s was p.write failed b.flash out (lent_on b') out' r)
    → IsRefusedOr (reply_of_call r out') b b' (TookResult b failed (reply_of_call r out') b')
reply_to_report_is_outcome b b' failed out out' r w left flash outcome = holds_after_any_reply b b' out' (TookResult b failed
    (reply_of_call r out') b') r (record {
      work = w;
      left = left;
      flash = flash;
      reply = r;
      out = out;
      out' = out';
      outcome = outcome;
      says_is = refl;
    })

-- If `took` refuses a report, the board is unchanged. If `took` returns a reply, `TookResult` holds.
pub took_result_is_outcome : (b b' : Board) (failed : Bool) (room : ℕ) (out out' : List ℕ) (r : Result Reply Refusal) → b'.flash ≡ b.flash
    → OnOk r (ReportAccepted (lent_on b) room)
    → IfOk r (λ y. (len : ℕ) (s : SlotsState) (was before : List ℕ) (asks : WritesPending (lent_on b) len s was before) (p : Step)
    → IsStepPiece (steps_in (lent_on b) asks.work) asks.work.done p → Torn before p.write.at p.write.bytes b.flash
    → DevicePieceReported (device_of (lent_on b) s) len s was p.write failed b.flash out (lent_on b') out' y)
    → OnErr r (b' ≡ b)
    → IsRefusedOr (reply_of_result r out') b b' (TookResult b failed (reply_of_result r out') b')
took_result_is_outcome b b' failed room out out' (Ok r) flash taken outcome same =
    reply_to_report_is_outcome b b' failed out out' r taken.work taken.is_left flash outcome
took_result_is_outcome b b' failed room out out' (Err e) flash taken outcome same = same

-- If a result is None only when P is false, and P is true, the result is Some.
pub result_is_some : {A P : Type 0} (r : Option A) → IfNone r (¬ P) → P → IsSome r
result_is_some (Some x) never p = refl
result_is_some None never p = absurd (never p)

-- If `power_on` returns a device, the board with this device was just powered on.
pub power_on_result_starts_board : (r : Option Asking) (block held flash : List ℕ) (config : Setting) (unit : WriteUnit) (sector : Sector)
    → IfSome r (λ a. device_in (lent a block held) flash ≡ powered_on_device config (mapped_medium (grain_of unit sector) flash))
    → IfSome r (λ a. IsDevice (lent a block held) flash)
    → IfSome r (λ a. (a.work ≡ None) × (a.block_len ≡ 0) × (a.config ≡ config) × (a.unit ≡ unit))
    → IfSome r (λ a. a.sector ≡ sector)
    → IfSome r (λ a. BoardStarts false (board_of_parts a block held flash))
power_on_result_starts_board (Some a) block held flash config unit sector device is kept sector_is = (
  record {
    begins = false;
    device = device ∙ (λ i. powered_on_device (sym kept.2 i) (mapped_medium (grain_of (sym kept.3 i) (sym sector_is i)) flash));
    is = is;
    work = kept.0;
  },
  refl,
)
power_on_result_starts_board None block held flash config unit sector device is kept sector_is = tt

-- If P implies Q for each value, and P holds for a result that is Some, Q holds for it.
pub weaken_on_some : {A : Type 0} (P Q : A → Type 0) (r : Option A) → ((x : A) → P x → Q x) → IfSome r P → IfSome r Q
weaken_on_some P Q (Some x) follows p = follows x p
weaken_on_some P Q None follows p = tt

-- If P and R together imply Q for each value, and both hold for a result that is Some, Q holds for it.
pub weaken_on_some_by_two : {A : Type 0} (P R Q : A → Type 0) (r : Option A) → ((x : A) → P x → R x → Q x) → IfSome r P → IfSome r R →
    IfSome r Q
weaken_on_some_by_two P R Q (Some x) follows p t = follows x p t
weaken_on_some_by_two P R Q None follows p t = tt
