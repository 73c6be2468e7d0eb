use Rattle.std.proofs.Common.{◌≡◌, ◌≤◌, ℕ, ℤ, List, ◌++◌, Ok, length, inl, inr, refl, sym, ◌∙◌, ap, subst, w32, arith}
use Rattle.std.proofs.lemmas.Int.{to_z-of_z}
use Rattle.std.proofs.lemmas.Result.{IfOk-at_ok}
use Rattle.dfu_device.specs.Borrowed.{answer_room}
use Rattle.dfu_device.specs.Rows.{Handles}
use Rattle.dfu_asks.specs.declared.reply.Reply.{Reply}
use Rattle.dfu_asks.specs.Calls.{DeviceCalled}
use Rattle.dfu_core.specs.declared.record.DfuRecord.{DfuRecord}
use Rattle.dfu_asks.specs.Addressed.{addressed_setup}
use Rattle.dfu_core.specs.RecordMeaning.{AreConfigParts, IsRecordOf, with_memory}
use Rattle.dfu_core.specs.Numbers.{reply_number}
use Rattle.dfu_core.specs.Calls.{RecordAfterCall, ReplyOutcome, IsIntactBlock}
use Rattle.dfu_device_c.proofs.Split.{whole, call_same_on_parts, IsDeviceOfSplitMemory, found_device_has_split_memory, has_room, device_memory_is_split, memory_is_split_after_call, front_fits_transfer_size, unchanged, goes, refuses}
use Rattle.dfu_device_c.proofs.calls.dfu_core_handle.Goals.{After-handle}
use Rattle.dfu_device_c.proofs.calls.dfu_core_handle.Goals as goal

pub split_at_mut-front-requires : goal.split_at_mut-front-requires
split_at_mut-front-requires c = omega (arith, IfOk-at_ok _ c.in-Ok.is c.found.ensures.room, c.from.ensures)

pub handle-requires : goal.handle-requires
handle-requires c = has_room (found_device_has_split_memory _ _ _ _ c.split_at_mut-front.result.0.now _ _ c.in-Ok.is c.found.ensures.ok
    c.found.ensures.config
    c.found.ensures.room c.split_at_mut-front.ensures.value (omega (arith, c.split_at_mut-front.ensures.front_len, c.from.ensures)))

-- The record represents the device that was found, and the device's memory is split in two.
record_device_is_split : (c : After-handle) → IsDeviceOfSplitMemory c.args.config.now c.args.device.now c.in-Ok.asking c.args.block.now
    c.split_at_mut-front.result.0.now c.split_at_mut-front.result.1.now
record_device_is_split c = found_device_has_split_memory _ _ _ _ _ _ _ c.in-Ok.is c.found.ensures.ok c.found.ensures.config
    c.found.ensures.room
    c.split_at_mut-front.ensures.value (omega (arith, c.split_at_mut-front.ensures.front_len, c.from.ensures))

-- The record that the call leaves represents the device after the call, both if the request was answered and if writes are pending.
replied_handle_keeps_device : (c : After-handle) (reply : Reply) (r' : DfuRecord) {n : ℤ} → c.handle.result ≡ Ok reply → n
    ≡ reply_number reply →
    let k = c.args.config.now in
    let block = c.args.block.now in
    let flash = c.args.flash.now in
    let a' = c.handle.new.self in
    let memory = c.handle.new.block ++ c.handle.new.held in
    (AreConfigParts k a'.config a'.unit a'.sector → IsRecordOf k r' a') → RecordAfterCall k c.args.device.now block r' memory
    (λ x y. ReplyOutcome (IsIntactBlock block flash x) (with_memory block x) flash c.args.out.now
    (λ d z sent d'. Handles (addressed_setup k.interface c.args.setup.now) c.args.body.now d z sent d')
    reply_number n (with_memory memory y) c.handle.new.out)
replied_handle_keeps_device c reply r' is number_is kept =
    let p = record_device_is_split c in
    let done = c.handle.ensures in
    let flash = c.args.flash.now in
    let after = memory_is_split_after_call p _ _ _ done.same_config refl c.handle.auto.block in
    goes p done.same_config kept (λ _. front_fits_transfer_size p _ c.handle.auto.block (IfOk-at_ok _ is done.block_fits)) (record {
      idle = (IfOk-at_ok _ is done.served).work;
      reply = reply;
      number_is = number_is;
      called = λ intact. subst (λ (own : List ℕ). DeviceCalled (with_memory c.args.block.now c.in-Ok.asking) flash c.args.out.now
          (λ d z sent d'. Handles own c.args.body.now d z sent d')
          (with_memory (c.handle.new.block ++ c.handle.new.held) c.handle.new.self) c.handle.new.out reply) c.addressed-setup.ensures
          (call_same_on_parts (λ l l'. DeviceCalled l flash c.args.out.now
          (λ d z sent d'. Handles c.addressed-setup.result c.args.body.now d z sent d') l' c.handle.new.out reply)
          (device_memory_is_split p) after (IfOk-at_ok _ is done.outcome (whole (device_memory_is_split p) flash intact)));
    })

pub returns-in-Ok-Asks-clause-step : goal.returns-in-Ok-Asks-clause-step
returns-in-Ok-Asks-clause-step c = (
  record { config = refl; flash = refl },
  inl (replied_handle_keeps_device (goal.at.returns-in-Ok-Asks-clause-step c).After-handle _ _ c.in-Ok-Asks.is
      (sym (ap reply_number c.in-Ok-Asks.field-0-is)) (c.keep.ensures c.args.config.now)),
)

pub returns-in-Ok-Answered-clause-step : goal.returns-in-Ok-Answered-clause-step
returns-in-Ok-Answered-clause-step c = (
  record { config = refl; flash = refl },
  inl (replied_handle_keeps_device (goal.at.returns-in-Ok-Answered-clause-step c).After-handle _ _ c.in-Ok-Answered.is
      (to_z-of_z w32 _ (omega (arith, c.number_of.type_inv)) ∙ c.number_of.ensures ∙ sym (ap reply_number c.in-Ok-Answered.field-0-is))
      (c.keep-in-Ok-Answered.ensures c.args.config.now)),
)

pub returns-in-Err-handle-clause-step : goal.returns-in-Err-handle-clause-step
returns-in-Err-handle-clause-step c =
    let p = record_device_is_split (goal.at.returns-in-Err-handle-clause-step c).After-handle in
    let a = c.in-Ok.asking in
    let done = c.in-Err-handle.ensures in
    let need : answer_room a.config ≤ length c.args.out.now =
    omega (arith, c.if-out-room_for.false, c.room_for.ensures, ap answer_room p.kept.set_up.config_is) in (
      record { config = refl; flash = refl },
      inr (inl (
        refuses p c.in-Err-handle.refusal c.args.flash.now (answer_room a.config) (length c.args.out.now) need done.refused c.refused.ensures
            (to_z-of_z w32 _ (omega (arith, c.number-in-Err-handle.type_inv)) ∙ c.number-in-Err-handle.ensures)
            refl (unchanged p _ _ done.unchanged.1 done.unchanged.2),
        done.unchanged.3,
      )),
    )
