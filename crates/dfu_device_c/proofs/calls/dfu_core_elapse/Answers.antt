use Rattle.std.proofs.Common.{◌≡◌, ℤ, [], ◌++◌, Ok, replicate, inl, inr, refl, sym, ◌∙◌, ap, w32, arith}
use Rattle.std.proofs.lemmas.Int.{to_z-of_z}
use Rattle.std.proofs.lemmas.Result.{IfOk-at_ok}
use Rattle.dfu_device.specs.declared.answer.Answer.TheVariants as answer
use Rattle.dfu_device.specs.Rows.{Elapses}
use Rattle.dfu_asks.specs.declared.reply.Reply.{Reply}
use Rattle.dfu_asks.specs.Calls.{DeviceCalled}
use Rattle.dfu_core.specs.declared.record.DfuRecord.{DfuRecord}
use Rattle.dfu_core.specs.RecordMeaning.{AreConfigParts, IsRecordOf, with_memory}
use Rattle.dfu_core.specs.Numbers.{time_reply_number}
use Rattle.dfu_core.specs.Calls.{RecordAfterCall, TimeOutcome, IsIntactBlock}
use Rattle.dfu_device_c.proofs.Split.{whole, call_same_on_parts, IsDeviceOfSplitMemory, found_device_has_split_memory, has_room, device_memory_is_split, memory_is_split_after_call, front_fits_transfer_size, unchanged, goes, refuses}
use Rattle.dfu_device_c.proofs.calls.dfu_core_elapse.Goals.{After-elapse}
use Rattle.dfu_device_c.proofs.calls.dfu_core_elapse.Goals as goal

pub split_at_mut-front-requires : goal.split_at_mut-front-requires
split_at_mut-front-requires c = omega (arith, IfOk-at_ok _ c.in-Ok.is c.found.ensures.room, c.from.ensures)

pub elapse-requires : goal.elapse-requires
elapse-requires c = has_room (found_device_has_split_memory _ _ _ _ c.split_at_mut-front.result.0.now _ _ c.in-Ok.is c.found.ensures.ok
    c.found.ensures.config
    c.found.ensures.room c.split_at_mut-front.ensures.value (omega (arith, c.split_at_mut-front.ensures.front_len, c.from.ensures)))

-- The record represents the device that was found, and the device's memory is split in two.
record_device_is_split : (c : After-elapse) → IsDeviceOfSplitMemory c.args.config.now c.args.device.now c.in-Ok.asking c.args.block.now
    c.split_at_mut-front.result.0.now c.split_at_mut-front.result.1.now
record_device_is_split c = found_device_has_split_memory _ _ _ _ _ _ _ c.in-Ok.is c.found.ensures.ok c.found.ensures.config
    c.found.ensures.room
    c.split_at_mut-front.ensures.value (omega (arith, c.split_at_mut-front.ensures.front_len, c.from.ensures))

-- The record that the call leaves represents the device after the call, both if time passed and if writes are pending.
elapsed_device_is_kept : (c : After-elapse) (reply : Reply) (r' : DfuRecord) {n : ℤ} → c.elapse.result ≡ Ok reply → n
    ≡ time_reply_number reply →
    let k = c.args.config.now in
    let block = c.args.block.now in
    let flash = c.args.flash.now in
    let a' = c.elapse.new.self in
    let memory = c.elapse.new.block ++ c.elapse.new.held in
    (AreConfigParts k a'.config a'.unit a'.sector → IsRecordOf k r' a') → RecordAfterCall k c.args.device.now block r' memory
    (λ x y. TimeOutcome (IsIntactBlock block flash x) (with_memory block x) flash
    (λ d z sent d'. (z ≡ answer.Ack) × (sent ≡ []) × Elapses c.args.ms d d') n (with_memory memory y))
elapsed_device_is_kept c reply r' is number_is kept =
    let p = record_device_is_split c in
    let done = c.elapse.ensures in
    let flash = c.args.flash.now in
    let after = memory_is_split_after_call p _ _ _ done.same_config refl c.elapse.auto.block in
    goes p done.same_config kept (λ _. front_fits_transfer_size p _ c.elapse.auto.block (IfOk-at_ok _ is done.block_fits)) (record {
      idle = (IfOk-at_ok _ is done.served).work;
      reply = reply;
      number_is = number_is;
      called = λ intact.
          let came = IfOk-at_ok _ is done.outcome (whole (device_memory_is_split p) flash intact) in (
            came.0,
            call_same_on_parts (λ l l'. DeviceCalled l flash (replicate 6 0)
                (λ d z sent d'. (z ≡ answer.Ack) × (sent ≡ []) × Elapses c.args.ms d d') l' came.0 reply)
                (device_memory_is_split p) after came.1,
          );
    })

pub returns-in-Ok-Asks : goal.returns-in-Ok-Asks
returns-in-Ok-Asks c = record {
  step = (
    record { config = refl; flash = refl },
    inl (elapsed_device_is_kept (goal.at.returns-in-Ok-Asks c).After-elapse _ _ c.in-Ok-Asks.is (sym (ap time_reply_number
        c.in-Ok-Asks.field-0-is))
        (c.keep.ensures c.args.config.now)),
  );
}

pub returns-in-Ok-Answered : goal.returns-in-Ok-Answered
returns-in-Ok-Answered c = record {
  step = (
    record { config = refl; flash = refl },
    inl (elapsed_device_is_kept (goal.at.returns-in-Ok-Answered c).After-elapse _ _ c.in-Ok-Answered.is
        (sym (ap time_reply_number c.in-Ok-Answered.field-0-is)) (c.keep-in-Ok-Answered.ensures c.args.config.now)),
  );
}

pub returns-in-Err-elapse : goal.returns-in-Err-elapse
returns-in-Err-elapse c =
    let p = record_device_is_split (goal.at.returns-in-Err-elapse c).After-elapse in
    let done = c.in-Err-elapse.ensures in
    record {
      step = (
        record { config = refl; flash = refl },
        inr (refuses p c.in-Err-elapse.refusal c.args.flash.now 0 0 (omega arith) done.refused c.refused.ensures
            (to_z-of_z w32 _ (omega (arith, c.number-in-Err-elapse.type_inv)) ∙ c.number-in-Err-elapse.ensures)
            refl (unchanged p _ _ done.unchanged.1 done.unchanged.2)),
      );
    }
