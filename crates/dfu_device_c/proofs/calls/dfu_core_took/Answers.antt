use Rattle.std.proofs.Common.{◌≡◌, ◌==◌, ◌++◌, not, ℕ, ℤ, List, Ok, inl, inr, refl, sym, ◌∙◌, ap, subst, w32, arith}
use Rattle.std.proofs.lemmas.Int.{to_z-of_z}
use Rattle.std.proofs.lemmas.Result.{IfOk-at_ok, IfErr-at_err}
use Rattle.dfu_slots.specs.Medium.{Torn}
use Rattle.dfu_slots.specs.StoreView.{SlotsState}
use Rattle.dfu_device.specs.Setting.{Setting}
use Rattle.dfu_asks.specs.declared.reply.Reply.{Reply}
use Rattle.dfu_asks.specs.Steps.{Step}
use Rattle.dfu_asks.specs.Carried.{IsStepPiece}
use Rattle.dfu_asks.specs.Lent.{LentDevice}
use Rattle.dfu_asks.specs.Asks.{device_of, steps_in}
use Rattle.dfu_asks.specs.Calls.{WritesPending, DevicePieceReported}
use Rattle.dfu_asks.specs.Refused.{HasRemainingWrites}
use Rattle.dfu_core.specs.declared.record.DfuRecord.{DfuRecord}
use Rattle.dfu_core.specs.RecordMeaning.{AreConfigParts, IsRecordOf, with_memory}
use Rattle.dfu_core.specs.Numbers.{reply_number}
use Rattle.dfu_core.specs.Calls.{RecordAfterCall, ReportOutcome}
use Rattle.dfu_core.specs.Further.{PiecesAdvance}
use Rattle.dfu_core.specs.Writes.{IsPendingOnSomeFlash, device_is_not_found, piece_is_refused}
use Rattle.dfu_device_c.proofs.CallRefusals.{refused_report_has_no_write}
use Rattle.dfu_device_c.proofs.Split.{parts_make_same_device, call_same_on_parts, IsDeviceOfSplitMemory, found_device_has_split_memory, has_room, device_memory_is_split, memory_is_split_after_call, unchanged, front_is_same_with_other_tail, goes}
use Rattle.dfu_device_c.proofs.calls.dfu_core_took.Goals.{After-took}
use Rattle.dfu_device_c.proofs.calls.dfu_core_took.Goals as goal

pub split_at_mut-front-requires : goal.split_at_mut-front-requires
split_at_mut-front-requires c = omega (arith, IfOk-at_ok _ c.in-Ok.is c.found.ensures.room, c.from.ensures)

pub took-requires : goal.took-requires
took-requires c = has_room (found_device_has_split_memory _ _ _ _ c.split_at_mut-front.result.0.now _ _ c.in-Ok.is c.found.ensures.ok
    c.found.ensures.config
    c.found.ensures.room c.split_at_mut-front.ensures.value (omega (arith, c.split_at_mut-front.ensures.front_len, c.from.ensures)))

pub returns-in-Err : goal.returns-in-Err
returns-in-Err c = record {
  step = (
    record { config = refl; flash = refl },
    inr (inl (
      device_is_not_found c.in-Err.refusal (to_z-of_z w32 _ (omega (arith, c.number.type_inv)) ∙ c.number.ensures)
          (IfErr-at_err _ c.in-Err.is c.found.ensures.err),
      refl,
      refl,
      refl,
    )),
  );
  block = refl;
  no_room = λ less. absurd (omega (arith, less, c.if-out-lt6.false));
}

-- The record represents the device that was found, and the device's memory is split in two.
record_device_is_split : (c : After-took) → IsDeviceOfSplitMemory c.args.config.now c.args.device.now c.in-Ok.asking c.args.block.now
    c.split_at_mut-front.result.0.now c.split_at_mut-front.result.1.now
record_device_is_split c = found_device_has_split_memory _ _ _ _ _ _ _ c.in-Ok.is c.found.ensures.ok c.found.ensures.config
    c.found.ensures.room
    c.split_at_mut-front.ensures.value (omega (arith, c.split_at_mut-front.ensures.front_len, c.from.ensures))

-- The record that the call leaves represents the device after the call, for any reply to the report.
reported_device_is_kept : (c : After-took) (reply : Reply) (r' : DfuRecord) {n : ℤ} → c.took.result ≡ Ok reply → n ≡ reply_number reply →
    let k = c.args.config.now in
    let a' = c.took.new.self in
    let memory = c.split_at_mut-front.result.0.now ++ c.took.new.held in
    (AreConfigParts k a'.config a'.unit a'.sector → IsRecordOf k r' a') → RecordAfterCall k c.args.device.now c.args.block.now r' memory
    (λ x y. ReportOutcome (with_memory c.args.block.now x) c.args.flash.now (not (c.args.failed == 0)) c.args.out.now n
    (with_memory memory y) c.took.new.out)
reported_device_is_kept c reply r' is number_is kept =
    let p = record_device_is_split c in
    let done = c.took.ensures in
    let after = memory_is_split_after_call p _ _ _ done.same_config refl refl in
    let taken = IfOk-at_ok _ is done.taken in
    goes p done.same_config kept
    (λ fits. record {
      block = omega (arith, fits.block, done.block);
      transfer = omega (arith, fits.transfer, ap (λ (s : Setting). s.functional.transfer) done.same_config.config);
    })
    (record {
      work = taken.work;
      left = subst (λ (l : LentDevice). HasRemainingWrites l taken.work) (sym (parts_make_same_device (device_memory_is_split p)))
          taken.is_left;
      reply = reply;
      number_is = number_is;
      took = call_same_on_parts (λ l l'. (len : ℕ) (s : SlotsState) (was mid : List ℕ) (asks : WritesPending l len s was mid) (piece :
          Step)
          → IsStepPiece (steps_in l asks.work) asks.work.done piece → Torn mid piece.write.at piece.write.bytes c.args.flash.now
          → DevicePieceReported (device_of l s) len s was piece.write
          (not (c.args.failed == 0)) c.args.flash.now c.args.out.now l' c.took.new.out reply)
          (device_memory_is_split p) after (IfOk-at_ok _ is done.outcome);
      further = call_same_on_parts (λ l l'. PiecesAdvance l reply l') (device_memory_is_split p) after (IfOk-at_ok _ is done.piece_advances);
    })

pub returns-in-Ok-Asks : goal.returns-in-Ok-Asks
returns-in-Ok-Asks c =
    let at = (goal.at.returns-in-Ok-Asks c).After-took in
    record {
      step = (
        record { config = refl; flash = refl },
        inl (reported_device_is_kept at _ _ c.in-Ok-Asks.is (sym (ap reply_number c.in-Ok-Asks.field-0-is)) (c.keep.ensures
            c.args.config.now)),
      );
      block = front_is_same_with_other_tail (record_device_is_split at) c.took.new.held;
      no_room = λ less. absurd (omega (arith, less, c.if-out-lt6.false));
    }

pub returns-in-Ok-Answered : goal.returns-in-Ok-Answered
returns-in-Ok-Answered c =
    let at = (goal.at.returns-in-Ok-Answered c).After-took in
    record {
      step = (
        record { config = refl; flash = refl },
        inl (reported_device_is_kept at _ _ c.in-Ok-Answered.is
            (to_z-of_z w32 _ (omega (arith, c.number_of.type_inv)) ∙ c.number_of.ensures ∙ sym (ap reply_number c.in-Ok-Answered.field-0-is))
            (c.keep-in-Ok-Answered.ensures c.args.config.now)),
      );
      block = front_is_same_with_other_tail (record_device_is_split at) c.took.new.held;
      no_room = λ less. absurd (omega (arith, less, c.if-out-lt6.false));
    }

pub returns-in-Err-took : goal.returns-in-Err-took
returns-in-Err-took c =
    let p = record_device_is_split (goal.at.returns-in-Err-took c).After-took in
    let done = c.in-Err-took.ensures in
    record {
      step = (
        record { config = refl; flash = refl },
        inr (inl (
          piece_is_refused c.in-Ok.asking (to_z-of_z w32 _ (omega (arith, c.number-in-Err-took.type_inv)) ∙ c.number-in-Err-took.ensures)
              p.config p.room p.kept
              (subst (λ (l : LentDevice). ¬ IsPendingOnSomeFlash l) (sym (parts_make_same_device (device_memory_is_split p)))
              (refused_report_has_no_write c.in-Err-took.field-0 _ _ (omega (arith, c.if-out-lt6.false)) done.refused)),
          refl,
          unchanged p _ _ refl done.unchanged.1,
          done.unchanged.2,
        )),
      );
      block = front_is_same_with_other_tail p c.took.new.held;
      no_room = λ less. absurd (omega (arith, less, c.if-out-lt6.false));
    }
